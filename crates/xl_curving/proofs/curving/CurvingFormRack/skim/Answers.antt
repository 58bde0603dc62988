use Rattle.xl_curving.proofs.Common.{◌++◌, ◌∙◌, ◌∷◌, ◌≡◌, [], Access, Accesses, accesses_items, ap, curve_scene_after, curved, curves_drained, CurveScene, Item, item_of, items_of_all, Kind, List, map, map-append, Referenced, refl, Skimmed, states-append, states_after, sym, Trail, ℕ}
use Rattle.xl_course.specs.Sources.{accesses_of_all, Skims}
use Rattle.xl_lackey.specs.Skims.{pair}
use Rattle.xl_curving.proofs.SceneLemmas.{any-record}
use Rattle.xl_curving.proofs.curving.CurvingFormRack.skim.Goals as goal

-- accesses as items, with this number
abbrev items-with : ℕ → List (ℕ × Kind) → List Item
items-with n xs = accesses_items Referenced n xs

any-numbers : (n m : ℕ) (xs : List (ℕ × Kind)) (s : CurveScene) → states_after curved (items-with n xs) s ≡ states_after curved (items-with m xs) s
any-numbers n m [] s = refl
any-numbers n m (x ∷ xs) s =
    ap (λ (t : CurveScene). states_after curved (items-with n xs) t) (any-record n m x.0 x.1 s) ∙ any-numbers n m xs (curve_scene_after (Referenced m x.0 x.1) s)

items-append : (n : ℕ) (xs ys : List (ℕ × Kind)) → items-with n (xs ++ ys) ≡ items-with n xs ++ items-with n ys
items-append n [] ys = refl
items-append n (x ∷ xs) ys = ap (λ (zs : List Item). Referenced n x.0 x.1 ∷ zs) (items-append n xs ys)

all-records : (rs : List Accesses) (s : CurveScene) → states_after curved (items_of_all curved rs) s ≡ states_after curved (items-with 0 (accesses_of_all rs)) s
all-records [] s = refl
all-records (r ∷ rs) s =
    let xs = items-with 0 r.accesses in
    states-append curved (items-with r.number r.accesses) (items_of_all curved rs) s
    ∙ ap (λ (t : CurveScene). states_after curved (items_of_all curved rs) t) (any-numbers r.number 0 r.accesses s)
    ∙ all-records rs (states_after curved xs s)
    ∙ sym (states-append curved xs (items-with 0 (accesses_of_all rs)) s)
    ∙ sym (ap (λ (items : List Item). states_after curved items s) (items-append 0 r.accesses (accesses_of_all rs)))

items-batch : (got : List Access) → items-with 0 (map pair got) ≡ map item_of got
items-batch [] = refl
items-batch (a ∷ got) = ap (λ (zs : List Item). item_of a ∷ zs) (items-batch got)

-- what a trace skims into the queue
skimmed : (reads_from : Type 0) (t u : Trail) (before after : List Access) (count : ℕ) (s : CurveScene) → Skims reads_from t u before after count
    → Skimmed curved reads_from t u (curves_drained before s) (curves_drained after s) count
skimmed reads_from t u before after count s k =
    let p = curves_drained before s in
    record {
      still_reads = k.still_reads;
      taken = k.taken;
      split = k.split;
      follow =
          ap (λ (xs : List Access). curves_drained xs s) k.follow
          ∙ ap (λ (items : List Item). states_after curved items s) (map-append item_of before k.got)
          ∙ states-append curved (map item_of before) (map item_of k.got) s
          ∙ sym (all-records k.taken p ∙ ap (λ (xs : List (ℕ × Kind)). states_after curved (items-with 0 xs) p) k.each ∙ ap (λ (items : List Item). states_after curved items p) (items-batch k.got));
      many = k.many;
    }

pub returns-clause-skims : goal.returns-clause-skims
returns-clause-skims g c fs h = skimmed _ _ _ _ _ _ _ (c.skim.ensures.skims fs h)
