-- A stage by its table.
use Rattle.xl_nested.proofs.Common.{◌∙◌, ◌≡◌, ap, AreApart, arith, changed, Err, false, Insert, is_ok, IsAsAdded, IsPage, IsServed, Leaf, List, meets_any, NestRefusal, number_of, Ok, OnErr, OnOk, refl, Result, room_rule, Shape, shape_after, Some, Stage, stage_after, stage_of, subst, sym, Table, up, with_leaf, WordsReadBack, ℕ}
use Rattle.xl_model.specs.Room.{has_room}
use Rattle.xl_radix.specs.Steps.{shape_of}
use Rattle.xl_nested.proofs.ApartLemmas.{apart-added}

abbrev made : List Leaf → Shape → ℕ → Stage
made leaves shape loads = record { leaves = leaves; shape = shape; loads = loads }

added : (x : Leaf) (t new : Table) → new.leaves ≡ with_leaf x t.leaves → shape_of 3 new ≡ shape_after (Insert x) t.leaves (shape_of 3 t) → new.loads ≡ t.loads
    → stage_of new ≡ stage_after (Some (Insert x)) (stage_of t)
unfolding changed
added x t new a b d =
    ap (λ (xs : List Leaf). made xs (shape_of 3 new) new.loads) a
    ∙ ap (λ (s : Shape). made (with_leaf x t.leaves) s new.loads) b
    ∙ ap (λ (n : ℕ). made (with_leaf x t.leaves) (shape_after (Insert x) t.leaves (shape_of 3 t)) n) d

module _ {U E : Type 0} where
  pub apart-by : (r : Result U E) (x : Leaf) (t new : Table) → AreApart t.leaves → meets_any x.space x.first x.order t.leaves ≡ false → OnErr r (new ≡ t) → OnOk r (new.leaves ≡ with_leaf x t.leaves)
      → AreApart new.leaves
  apart-by (Ok u) x t new apart free same is = subst (λ (xs : List Leaf). AreApart xs) (sym is) (apart-added x t.leaves apart free)
  apart-by (Err d) x t new apart free same is = subst (λ (s : Table). AreApart s.leaves) (sym same) apart

  pub added-served : {V : Type 0} (r : Result U E) (q : Result V NestRefusal) (x : Leaf) (t new : Table) → IsAsAdded r q → is_ok r ≡ has_room (Insert x) t.leaves (shape_of 3 t) → OnErr r (new ≡ t)
      → OnOk r (new.leaves ≡ with_leaf x t.leaves) → OnOk r (shape_of 3 new ≡ shape_after (Insert x) t.leaves (shape_of 3 t)) → new.loads ≡ t.loads
      → IsServed (room_rule (Some (Insert x)) (stage_of t)) q (stage_of t) (stage_after (Some (Insert x)) (stage_of t)) (stage_of new)
  added-served (Ok u) (Ok v) x t new known room same a b d = (rw (← room) refl, added x t new a b d)
  added-served (Ok u) (Err e) x t new known room same a b d = absurd known
  added-served (Err e) (Ok v) x t new known room same a b d = absurd known
  added-served (Err e) (Err f) x t new known room same a b d = (rw (← room, known) refl, ap stage_of same)

-- the root of space 0 has number 0
pub root-is : (page : ℕ) (t : Table) → WordsReadBack 3 t.spaces t.leaves t.nodes t.words → IsPage (shape_of 3 t) 0 page → number_of 0 3 (up 3 page) t.nodes ≡ Some 0
root-is page t back fits =
    let h = fits.page_in in
    let e : up 3 page ≡ 0 = omega arith in
    subst (λ (n : ℕ). number_of 0 3 n t.nodes ≡ Some 0) (sym e) (back.roots 0 fits.space_in)
