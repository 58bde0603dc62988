-- Blocks of pages that overlap.
use Rattle.xl_radix.proofs.Common.{◌&&◌, ◌*◌, ◌+◌, ◌==◌, ◌≡◌, ◌≤◌, ◌⊎◌, arith, Bool, covers, eq-eqb, eqb-true, inl, inr, Leaf, level_of, meets_block, nat_le, nat_lt, nat_tests, Order, pages_of, sym, true, up, ℕ}
use Rattle.xl_model.proofs.BoolLemmas.{both-so, so-both}
use Rattle.xl_radix.proofs.UpLemmas.{covers-up, up-covers}
use Rattle.xl_model.specs.declared.address.Order.TheVariants as order

abbrev pub Overlap : ℕ → ℕ → ℕ → ℕ → Type 0
Overlap l first m page = ((l ≤ m) × (up m first ≡ up m page)) ⊎ ((m ≤ l) × (up l first ≡ up l page))

abbrev pub meets_at : ℕ → ℕ → ℕ → ℕ → Bool
meets_at first pages at count = nat_lt first (at + count) && nat_lt at (first + pages)

pub meets-up : (a b : Order) (first at : ℕ) → up (level_of a) first * pages_of a ≡ first → up (level_of b) at * pages_of b ≡ at → meets_at first (pages_of a) at (pages_of b) ≡ true → Overlap (level_of a) first (level_of b) at
meets-up order.K4 order.K4 first at h g t = inl (omega arith, grind (arith, nat_tests))
meets-up order.K4 order.M2 first at h g t = inl (omega arith, grind (arith, nat_tests))
meets-up order.K4 order.G1 first at h g t = inl (omega arith, grind (arith, nat_tests))
meets-up order.M2 order.K4 first at h g t = inr (omega arith, grind (arith, nat_tests))
meets-up order.M2 order.M2 first at h g t = inl (omega arith, grind (arith, nat_tests))
meets-up order.M2 order.G1 first at h g t = inl (omega arith, grind (arith, nat_tests))
meets-up order.G1 order.K4 first at h g t = inr (omega arith, grind (arith, nat_tests))
meets-up order.G1 order.M2 first at h g t = inr (omega arith, grind (arith, nat_tests))
meets-up order.G1 order.G1 first at h g t = inl (omega arith, grind (arith, nat_tests))

pub up-meets : (a b : Order) (first at : ℕ) → up (level_of a) first * pages_of a ≡ first → up (level_of b) at * pages_of b ≡ at → Overlap (level_of a) first (level_of b) at → meets_at first (pages_of a) at (pages_of b) ≡ true
up-meets order.K4 order.K4 first at h g (inl t) = let e = t.1 in grind (arith, nat_tests)
up-meets order.K4 order.M2 first at h g (inl t) = let e = t.1 in grind (arith, nat_tests)
up-meets order.K4 order.G1 first at h g (inl t) = let e = t.1 in grind (arith, nat_tests)
up-meets order.M2 order.K4 first at h g (inl t) = let e = t.0 in grind (arith, nat_tests)
up-meets order.M2 order.M2 first at h g (inl t) = let e = t.1 in grind (arith, nat_tests)
up-meets order.M2 order.G1 first at h g (inl t) = let e = t.1 in grind (arith, nat_tests)
up-meets order.G1 order.K4 first at h g (inl t) = let e = t.0 in grind (arith, nat_tests)
up-meets order.G1 order.M2 first at h g (inl t) = let e = t.0 in grind (arith, nat_tests)
up-meets order.G1 order.G1 first at h g (inl t) = let e = t.1 in grind (arith, nat_tests)
up-meets order.K4 order.K4 first at h g (inr t) = let e = t.1 in grind (arith, nat_tests)
up-meets order.K4 order.M2 first at h g (inr t) = let e = t.0 in grind (arith, nat_tests)
up-meets order.K4 order.G1 first at h g (inr t) = let e = t.0 in grind (arith, nat_tests)
up-meets order.M2 order.K4 first at h g (inr t) = let e = t.1 in grind (arith, nat_tests)
up-meets order.M2 order.M2 first at h g (inr t) = let e = t.1 in grind (arith, nat_tests)
up-meets order.M2 order.G1 first at h g (inr t) = let e = t.0 in grind (arith, nat_tests)
up-meets order.G1 order.K4 first at h g (inr t) = let e = t.1 in grind (arith, nat_tests)
up-meets order.G1 order.M2 first at h g (inr t) = let e = t.1 in grind (arith, nat_tests)
up-meets order.G1 order.G1 first at h g (inr t) = let e = t.1 in grind (arith, nat_tests)

-- What it means that a leaf overlaps a block.
pub record Met (space at : ℕ) (level : ℕ) (leaf : Leaf) : Type 0 where
  pub space_is : leaf.space ≡ space
  pub overlap : Overlap (level_of leaf.order) leaf.first level at

pub met : (space at : ℕ) (o : Order) (leaf : Leaf) → up (level_of leaf.order) leaf.first * pages_of leaf.order ≡ leaf.first → up (level_of o) at * pages_of o ≡ at → meets_block space at o leaf ≡ true → Met space at (level_of o) leaf
met space at o leaf h g t =
    let r = both-so (leaf.space == space) (meets_at leaf.first (pages_of leaf.order) at (pages_of o)) t in
    record { space_is = eqb-true leaf.space space r.0; overlap = meets-up leaf.order o leaf.first at h g r.1 }

pub meets : (space at : ℕ) (o : Order) (leaf : Leaf) → up (level_of leaf.order) leaf.first * pages_of leaf.order ≡ leaf.first → up (level_of o) at * pages_of o ≡ at → Met space at (level_of o) leaf → meets_block space at o leaf ≡ true
meets space at o leaf h g m =
    so-both (leaf.space == space) (meets_at leaf.first (pages_of leaf.order) at (pages_of o)) (eq-eqb leaf.space space m.space_is) (up-meets leaf.order o leaf.first at h g m.overlap)

pub covered : (space page : ℕ) (leaf : Leaf) → up (level_of leaf.order) leaf.first * pages_of leaf.order ≡ leaf.first → covers space page leaf ≡ true → (leaf.space ≡ space) × (up (level_of leaf.order) leaf.first ≡ up (level_of leaf.order) page)
covered space page leaf h t =
    let r = both-so (leaf.space == space) (nat_le leaf.first page && nat_lt page (leaf.first + pages_of leaf.order)) t in
    (eqb-true leaf.space space r.0, sym (covers-up leaf.order leaf.first page h r.1))

pub covering : (space page : ℕ) (leaf : Leaf) → up (level_of leaf.order) leaf.first * pages_of leaf.order ≡ leaf.first → leaf.space ≡ space → up (level_of leaf.order) leaf.first ≡ up (level_of leaf.order) page → covers space page leaf ≡ true
covering space page leaf h s e =
    so-both (leaf.space == space) (nat_le leaf.first page && nat_lt page (leaf.first + pages_of leaf.order)) (eq-eqb leaf.space space s) (up-covers leaf.order leaf.first page h (sym e))
