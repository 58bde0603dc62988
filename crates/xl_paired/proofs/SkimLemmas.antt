-- Accesses that a source gives together.
use Rattle.std.proofs.Common.{◌++◌, ◌∙◌, ◌∷◌, ◌≡◌, [], ap, List, map, refl, sym, ℕ}
use Rattle.xl_course.proofs.MeaningLemmas.{states-append}
use Rattle.xl_course.specs.Courses.{accesses_items, items_of, items_of_all}
use Rattle.xl_course.specs.Meanings.{states_after}
use Rattle.xl_course.specs.Serving.{Skimmed}
use Rattle.xl_course.specs.Sources.{accesses_of_all, Skims}
use Rattle.xl_lackey.specs.Skims.{pair}
use Rattle.xl_lackey.specs.declared.skim.Access.{Access}
use Rattle.xl_model.specs.Courses.{Accesses, Trail}
use Rattle.xl_model.specs.declared.address.Kind.{Kind}
use Rattle.xl_paired.specs.Pairs.{accesses_after, meaning_of, Pairing, Referenced}

module _ {A C E S : Type 0} (p : Pairing A C E S) where
  -- the state after accesses by address and kind
  abbrev pairs_after : List (ℕ × Kind) → S → S
  pairs_after [] s = s
  pairs_after (a ∷ accesses) s = pairs_after accesses (p.after (p.access a.0 a.1) s)

  pairs-append : (xs ys : List (ℕ × Kind)) (s : S) → pairs_after (xs ++ ys) s ≡ pairs_after ys (pairs_after xs s)
  pairs-append [] ys s = refl
  pairs-append (x ∷ xs) ys s = pairs-append xs ys (p.after (p.access x.0 x.1) s)

  same-pairs : (got : List Access) (s : S) → accesses_after p got s ≡ pairs_after (map pair got) s
  same-pairs [] s = refl
  same-pairs (a ∷ got) s = same-pairs got (p.after (p.access a.va a.kind) s)

  -- the number of a record changes no state
  record-after : (n : ℕ) (xs : List (ℕ × Kind)) (s : S) → states_after (meaning_of p) (accesses_items Referenced n xs) s ≡ pairs_after xs s
  record-after n [] s = refl
  record-after n (x ∷ xs) s = record-after n xs (p.after (p.access x.0 x.1) s)

  records-after : (rs : List Accesses) (s : S) → states_after (meaning_of p) (items_of_all (meaning_of p) rs) s ≡ pairs_after (accesses_of_all rs) s
  records-after [] s = refl
  records-after (r ∷ rs) s =
      states-append (meaning_of p) (items_of (meaning_of p) r) (items_of_all (meaning_of p) rs) s
      ∙ ap (states_after (meaning_of p) (items_of_all (meaning_of p) rs)) (record-after r.number r.accesses s)
      ∙ records-after rs (pairs_after r.accesses s)
      ∙ sym (pairs-append r.accesses (accesses_of_all rs) s)

  -- the state after the accesses that were skimmed is that after their records' items
  pub skimmed : (reads_from : Type 0) (t u : Trail) (before after : List Access) (count : ℕ) (s : S) → before ≡ [] → Skims reads_from t u before after count
      → Skimmed (meaning_of p) reads_from t u s (accesses_after p after s) count
  skimmed reads_from t u before after count s none k = record {
    still_reads = k.still_reads;
    taken = k.taken;
    split = k.split;
    follow =
        ap (λ (xs : List Access). accesses_after p xs s) (k.follow ∙ ap (λ (xs : List Access). xs ++ k.got) none)
        ∙ same-pairs k.got s
        ∙ ap (λ (xs : List (ℕ × Kind)). pairs_after xs s) (sym k.each)
        ∙ sym (records-after k.taken s);
    many = k.many;
  }
