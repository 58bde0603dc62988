-- The items of all sets, when one set changes.
use Rattle.xl_recency.proofs.Common.{◌+◌, ◌<◌, ◌∙◌, ◌∷◌, ◌≡◌, ◌≤◌, [], ap, arith, Bool, false, get_or, get_or_default, items_in, length, List, nat_lt, nat_tests, of_width, purged, Purges, PurgesIn, set, suc, sym, true, zero, ℕ}

pub items_in-set : {A : Type 0} (sets : List (List A)) (i n : ℕ) (d new : List A) → i < length sets
    → n + length new ≡ length (get_or sets i d) → n + items_in (set sets i new) ≡ items_in sets
items_in-set [] i n d new l e = absurd (omega arith)
items_in-set (s ∷ sets) zero n d new l e = let f : n + length new ≡ length s = e in omega arith
items_in-set (s ∷ sets) (suc i) n d new l e = omega (arith, items_in-set sets i n d new (omega arith) e)

-- the purge of one list is that of its set
pub purged_in : {A : Type 0} (q : A → Bool) (sets : List (List A)) (i n : ℕ) (d new : List A) → i < length sets
    → d ≡ get_or sets i d → Purges q d new n → PurgesIn q i sets (set sets i new) n
purged_in q sets i n d new l is p =
    let at : get_or sets i [] ≡ get_or sets i d = get_or_default sets i [] d l in
    let same : purged q d ≡ purged q (get_or sets i []) = ap (purged q) (is ∙ sym at) in
    record {
      kept = ap (set sets i) (p.kept ∙ same);
      count = items_in-set sets i n d new l (p.count ∙ ap length is);
    }

-- the same of sets in the form of their width
module _ {A : Type 0} (width i n : ℕ) (few many : List (List A)) (d new : List A) (l : i < length (of_width width few many)) where
  pub few_counted : width ≤ 32 → d ≡ get_or few i d → n + length new ≡ length d → n + items_in (of_width width (set few i new) many) ≡ items_in (of_width width few many)
  few_counted w is count = let t : nat_lt 32 width ≡ false = grind (arith, nat_tests) in rw t (items_in-set few i n d new (rw t at l) (count ∙ ap length is))

  pub many_counted : 32 < width → d ≡ get_or many i d → n + length new ≡ length d → n + items_in (of_width width few (set many i new)) ≡ items_in (of_width width few many)
  many_counted w is count = let t : nat_lt 32 width ≡ true = grind (arith, nat_tests) in rw t (items_in-set many i n d new (rw t at l) (count ∙ ap length is))

  pub few_purged : (q : A → Bool) → width ≤ 32 → d ≡ get_or few i d → Purges q d new n → PurgesIn q i (of_width width few many) (of_width width (set few i new) many) n
  few_purged q w is p = let t : nat_lt 32 width ≡ false = grind (arith, nat_tests) in rw t (purged_in q few i n d new (rw t at l) is p)

  pub many_purged : (q : A → Bool) → 32 < width → d ≡ get_or many i d → Purges q d new n → PurgesIn q i (of_width width few many) (of_width width few (set many i new)) n
  many_purged q w is p = let t : nat_lt 32 width ≡ true = grind (arith, nat_tests) in rw t (purged_in q many i n d new (rw t at l) is p)
