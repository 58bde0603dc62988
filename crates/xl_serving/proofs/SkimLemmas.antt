-- Records of one access alone that a trace gives together: what is left of the trace, and what the rows are served.
use Rattle.xl_serving.proofs.Common.{◌%◌, ◌++◌, ◌+◌, ◌<◌, ◌^◌, ◌∙◌, ◌∷◌, ◌≡◌, ◌≤◌, [], Access, Accesses, accesses_in, accesses_items, accesses_of_all, all_accesses, ap, append-nil, arith, BatchedEvent, BatchesMore, gaps, IsFedFrom, IsUnfed, IsWithin, Item, item_of, items_batched, scene_items as items_of_all, Kind, Left, left, left_of, length, length-append, lines_of, List, made_left, MadeProgress, map, next_number, None, numbered, Option, pair, Progress, Record, records, Referenced, refl, Scene, scene-append, scene_after, scenes_after, Skims, Some, suc, sym, TakesLines, Trail, trail, true, with_records, ℕ}
use Rattle.xl_lackey.specs.Skims.{Skimmed}
use Rattle.xl_serving.proofs.BatchLemmas.{any-number, items-more}
use Rattle.xl_serving.proofs.RecordLemmas.{gives_all, same_within, trail_on, with_numbered}

-- accesses after others are no fewer
pub no-fewer : (before after got : List Access) → after ≡ before ++ got → length before ≤ length after
no-fewer before after got e = omega (arith, ap (λ (xs : List Access). length xs) e, length-append before got)

-- numbers change no access
each-numbered : (n : ℕ) (rs : List Record) → accesses_of_all (numbered n rs) ≡ all_accesses rs
each-numbered n [] = refl
each-numbered n (r ∷ rs) = ap (λ (xs : List (ℕ × Kind)). accesses_in r ++ xs) (each-numbered (next_number n) rs)

many-numbered : (n : ℕ) (rs : List Record) → length (numbered n rs) ≡ length rs
many-numbered n [] = refl
many-numbered n (r ∷ rs) = ap suc (many-numbered (next_number n) rs)

-- of a file that isn't there no record was read
none_taken : (rs : List Record) (l later : Left) → l ≡ with_records rs later → l ≡ ([], None) → rs ≡ []
none_taken [] l later e h = refl
none_taken (r ∷ rs) l later e h = let f : r ∷ (rs ++ later.0) ≡ [] = ap (λ (x : Left). x.0) (sym e ∙ h) in cc

later_none : (rs : List Record) (l later : Left) → l ≡ with_records rs later → l ≡ ([], None) → rs ≡ [] → later ≡ ([], None)
later_none rs l later e h none = ap (λ (xs : List Record). with_records xs later) (sym none) ∙ sym e ∙ h

skims-unfed : (old new : Progress) (before after : List Access) (count : ℕ) → Skimmed old.reader new.reader before after count → new.at ≡ old.at → IsUnfed old
    → Skims (IsUnfed new) (left_of None old) (left_of None new) before after count
skims-unfed old new before after count k a u =
    let e = k.reads true [] (λ _. refl) in
    let none = none_taken k.of.taken (left old.reader []) (left new.reader []) e u.none in record {
      still_reads = record {
        none = later_none k.of.taken (left old.reader []) (left new.reader []) e u.none none;
        unfinished = k.finished ∙ u.unfinished;
        first = a ∙ u.first;
      };
      taken = [];
      got = k.of.got;
      split = refl;
      follow = k.of.follow;
      each = ap all_accesses (sym none) ∙ k.of.each;
      many = ap (λ (rs : List Record). length rs) (sym none) ∙ k.of.many;
    }

-- the number of the next record
number-on : (n m count : ℕ) (rs : List Record) → m ≡ (n + count) % 2 ^ 64 → length rs ≡ count → m ≡ (n + length rs) % 2 ^ 64
number-on n m count rs e many = e ∙ ap (λ (k : ℕ). (n + k) % 2 ^ 64) (sym many)

skims-fed : (file : List ℕ) (old new : Progress) (before after : List Access) (count : ℕ) → old.number < 2 ^ 64 → Skimmed old.reader new.reader before after count → new.at ≡ old.at
    → new.number ≡ (old.number + count) % 2 ^ 64 → IsWithin file old → Skims (IsWithin file new) (left_of (Some file) old) (left_of (Some file) new) before after count
skims-fed file old new before after count below k a m w = record {
  still_reads = same_within file old new w a k.finished;
  taken = numbered old.number k.of.taken;
  got = k.of.got;
  split = gives_all file k.of.taken old new w below k.reads a (number-on old.number new.number count k.of.taken m k.of.many);
  follow = k.of.follow;
  each = each-numbered old.number k.of.taken ∙ k.of.each;
  many = many-numbered old.number k.of.taken ∙ k.of.many;
}

-- what a reader skims, the trace skims
pub skims-file : (file : Option (List ℕ)) (old new : Progress) (before after : List Access) (count : ℕ) → old.number < 2 ^ 64 → Skimmed old.reader new.reader before after count → new.at ≡ old.at
    → new.number ≡ (old.number + count) % 2 ^ 64 → IsFedFrom file old → Skims (IsFedFrom file new) (left_of file old) (left_of file new) before after count
skims-file None old new before after count below k a m h = skims-unfed old new before after count k a h
skims-file (Some file) old new before after count below k a m h = skims-fed file old new before after count below k a m h

-- the records that were taken of a made trace
pub skims-made : (old new : MadeProgress) (before after : List Access) (count : ℕ) → TakesLines old.given old.rest new.rest before after count
    → new.given ≡ (old.given + count) % 2 ^ 64 → Skims (Unit {0}) (made_left old) (made_left new) before after count
skims-made old new before after count k m =
    let rs : List Record = k.of.taken in
    let number = next_number old.given in
    let later : Left = records ((old.given + count) % 2 ^ 64) (lines_of new.rest) in
    let next : (number + length rs) % 2 ^ 64 ≡ next_number new.given = omega (arith, m, k.of.many) in
    record {
      still_reads = tt;
      taken = numbered number rs;
      got = k.of.got;
      split =
          ap (λ (l : Left). trail number l None) k.reads
          ∙ trail_on number rs later None (omega arith)
          ∙ ap (λ (n : ℕ). with_numbered number rs (trail n later None)) next
          ∙ ap (λ (n : ℕ). with_numbered number rs (trail (next_number new.given) (records n (lines_of new.rest)) None)) (sym m);
      follow = k.of.follow;
      each = each-numbered number rs ∙ k.of.each;
      many = many-numbered number rs ∙ k.of.many;
    }

pub skims-none : (reads_from : Type 0) (t : Trail) (xs : List Access) → reads_from → Skims reads_from t t xs xs 0
skims-none reads_from t xs h = record { still_reads = h; taken = []; got = []; split = refl; follow = sym (append-nil xs); each = refl; many = refl }

-- the scene after some accesses, as items of any numbers
abbrev item_with : ℕ → ℕ × Kind → Item
item_with n a = Referenced n a.0 a.1

scene-numbers : (n m : ℕ) (xs : List (ℕ × Kind)) (s : Scene) → scenes_after (accesses_items n xs) s ≡ scenes_after (accesses_items m xs) s
scene-numbers n m [] s = refl
scene-numbers n m (x ∷ xs) s =
    ap (λ (t : Scene). scenes_after (accesses_items n xs) t) (any-number n m x.0 x.1 s) ∙ scene-numbers n m xs (scene_after (item_with m x) s)

items-append : (n : ℕ) (xs ys : List (ℕ × Kind)) → accesses_items n (xs ++ ys) ≡ accesses_items n xs ++ accesses_items n ys
items-append n [] ys = refl
items-append n (x ∷ xs) ys = ap (λ (zs : List Item). item_with n x ∷ zs) (items-append n xs ys)

scene-all : (rs : List Accesses) (s : Scene) → scenes_after (items_of_all rs) s ≡ scenes_after (accesses_items 0 (accesses_of_all rs)) s
scene-all [] s = refl
scene-all (r ∷ rs) s =
    let xs = accesses_items 0 r.accesses in
    scene-append (accesses_items r.number r.accesses) (items_of_all rs) s
    ∙ ap (λ (t : Scene). scenes_after (items_of_all rs) t) (scene-numbers r.number 0 r.accesses s)
    ∙ scene-all rs (scenes_after xs s)
    ∙ sym (scene-append xs (accesses_items 0 (accesses_of_all rs)) s)
    ∙ sym (ap (λ (items : List Item). scenes_after items s) (items-append 0 r.accesses (accesses_of_all rs)))

items-drained : (got : List Access) → accesses_items 0 (map pair got) ≡ map item_of got
items-drained [] = refl
items-drained (a ∷ got) = ap (λ (zs : List Item). item_of a ∷ zs) (items-drained got)

-- the scene after the accesses of some records
scene-each : (rs : List Accesses) (got : List Access) (s : Scene) → accesses_of_all rs ≡ map pair got → scenes_after (map item_of got) s ≡ scenes_after (items_of_all rs) s
scene-each rs got s e =
    sym (scene-all rs s ∙ ap (λ (xs : List (ℕ × Kind)). scenes_after (accesses_items 0 xs) s) e ∙ ap (λ (items : List Item). scenes_after items s) (items-drained got))

-- what a trace skims into the queue
pub deferred-skimmed : (reads_from : Type 0) (t u : Trail) (before after : List Access) (events : List BatchedEvent) (count : ℕ) → gaps events ≤ length before → Skims reads_from t u before after count
    → BatchesMore reads_from t u (record { accesses = before; events = events }) (record { accesses = after; events = events }) count
deferred-skimmed reads_from t u before after events count h k = record {
  still_reads = k.still_reads;
  taken = k.taken;
  split = k.split;
  follow = λ s.
      ap (λ (xs : List Access). scenes_after (items_batched xs events) s) k.follow
      ∙ ap (λ (items : List Item). scenes_after items s) (items-more before k.got events h)
      ∙ scene-append (items_batched before events) (map item_of k.got) s
      ∙ scene-each k.taken k.got (scenes_after (items_batched before events) s) k.each;
  many = k.many;
}
