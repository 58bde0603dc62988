-- Maximal runs, and the lowest free number.
use Rattle.xl_model_laws.proofs.Common.{◌&&◌, ◌+◌, ◌-◌, ◌<◌, ◌==◌, ◌∙◌, ◌∷◌, ◌≡◌, ◌≤◌, [], ap, arith, cond, false, goes_into, joined, Leaf, length, List, Node, None, Option, Order, pages_of, Perm, Range, range_of_leaf, ranges_of, refl, same_order, same_perm, Some, subst, suc, sym, true, zero, ℕ}
use Rattle.xl_model_laws.proofs.FreshRangeLemmas.{Joins, joins}
use Rattle.xl_model_laws.specs.Sentences.{ANodeTakesTheLowestNumber, AreConsecutive, AreRuns, IsRun, NoneRunsOn, runs_on, TheRangesAreMaximalRuns}

-- a run looked at from a range of the same kind
same-kind : (a b : Range) (start frame pages : ℕ) (xs : List Leaf) → a.space ≡ b.space → a.order ≡ b.order → a.perm ≡ b.perm
    → AreConsecutive a start frame pages xs → AreConsecutive b start frame pages xs
same-kind a b start frame pages [] s o p h = h
same-kind a b start frame pages (x ∷ xs) s o p (h1, h2, h3, h4, h5, h6, h7) =
    let Q : Order → Type 0 = λ q. AreConsecutive b (start + pages_of q) (frame + pages_of q) (pages - pages_of q) xs in (
      h1 ∙ s,
      h2 ∙ o,
      h3 ∙ p,
      h4,
      h5,
      subst (λ (q : Order). pages_of q ≤ pages) o h6,
      subst Q o (same-kind a b (start + pages_of a.order) (frame + pages_of a.order) (pages - pages_of a.order) xs s o p h7),
    )

-- the range of a leaf in front of a range
front : Leaf → Range → Range
front leaf r = record (range_of_leaf leaf) { pages = pages_of leaf.order + r.pages }

own-run : (leaf : Leaf) → IsRun (range_of_leaf leaf) (leaf ∷ [])
own-run leaf = (refl, refl, refl, refl, refl, omega arith, omega arith)

front-run : (leaf : Leaf) (r : Range) (xs : List Leaf) → Joins leaf r → IsRun r xs → IsRun (front leaf r) (leaf ∷ xs)
unfolding front
front-run leaf r xs j h =
    let e : pages_of leaf.order + r.pages - pages_of leaf.order ≡ r.pages = omega arith in
    let P : ℕ → Type 0 = λ n. AreConsecutive (record (range_of_leaf leaf) { pages = pages_of leaf.order + r.pages }) (leaf.first + pages_of leaf.order) (leaf.frame + pages_of leaf.order) n xs in
    let Q : ℕ → Type 0 = λ n. AreConsecutive (record (range_of_leaf leaf) { pages = pages_of leaf.order + r.pages }) n (leaf.frame + pages_of leaf.order) r.pages xs in
    let R : ℕ → Type 0 = λ n. AreConsecutive (record (range_of_leaf leaf) { pages = pages_of leaf.order + r.pages }) r.start n r.pages xs in (
      refl,
      refl,
      refl,
      refl,
      refl,
      omega arith,
      subst P (sym e) (subst Q (sym j.pages_next) (subst R (sym j.frames_next)
          (same-kind r (record (range_of_leaf leaf) { pages = pages_of leaf.order + r.pages }) r.start r.frame r.pages xs (sym j.space_same) (sym j.order_same) (sym j.perm_same) h))),
    )

joined-runs : (leaf : Leaf) (rs : List Range) (leaves : List Leaf) → AreRuns rs leaves → AreRuns (joined leaf rs) (leaf ∷ leaves)
unfolding front
joined-runs leaf [] leaves h = (leaf ∷ [], [], ap (λ (xs : List Leaf). leaf ∷ xs) h, omega arith, own-run leaf, refl)
joined-runs leaf (r ∷ rs) leaves h =
    elim (goes_into leaf r) as (λ b. goes_into leaf r ≡ b → AreRuns (cond b (front leaf r ∷ rs) (range_of_leaf leaf ∷ r ∷ rs)) (leaf ∷ leaves)) [
      | true ↦ λ t. (leaf ∷ h.0, h.1, ap (λ (xs : List Leaf). leaf ∷ xs) h.2, omega arith, front-run leaf r h.0 (joins leaf r t) h.4, h.5)
      | false ↦ λ t. (leaf ∷ [], leaves, refl, omega arith, own-run leaf, h)
    ] refl

front-on : (leaf : Leaf) (r next : Range) → Joins leaf r → runs_on (front leaf r) next ≡ runs_on r next
unfolding front
front-on leaf r next j =
    let pages : leaf.first + (pages_of leaf.order + r.pages) ≡ r.start + r.pages = let e : leaf.first + pages_of leaf.order ≡ r.start = j.pages_next in omega arith in
    let frames : leaf.frame + (pages_of leaf.order + r.pages) ≡ r.frame + r.pages = let e : leaf.frame + pages_of leaf.order ≡ r.frame = j.frames_next in omega arith in
    by-kind leaf.space r.space leaf.order r.order leaf.perm r.perm (leaf.first + (pages_of leaf.order + r.pages)) (r.start + r.pages)
    (leaf.frame + (pages_of leaf.order + r.pages)) (r.frame + r.pages) next j.space_same j.order_same j.perm_same pages frames
  where
    by-kind : (s t : ℕ) (o q : Order) (p p2 : Perm) (e f g h : ℕ) (next : Range) → s ≡ t → o ≡ q → p ≡ p2 → e ≡ f → g ≡ h
        → (((s == next.space) && (same_order o next.order && same_perm p next.perm)) && ((e == next.start) && (g == next.frame)))
        ≡ (((t == next.space) && (same_order q next.order && same_perm p2 next.perm)) && ((f == next.start) && (h == next.frame)))
    by-kind s t o q p p2 e f g h next a b c d i =
        let P : Order → Type 0 = λ z. (((s == next.space) && (same_order o next.order && same_perm p next.perm)) && ((e == next.start) && (g == next.frame)))
        ≡ (((s == next.space) && (same_order z next.order && same_perm p next.perm)) && ((e == next.start) && (g == next.frame))) in
        let Q : Perm → Type 0 = λ z. (((s == next.space) && (same_order o next.order && same_perm p next.perm)) && ((e == next.start) && (g == next.frame)))
        ≡ (((s == next.space) && (same_order q next.order && same_perm z next.perm)) && ((e == next.start) && (g == next.frame))) in
        subst Q c (subst P b refl) ∙ rw (a, d, i) refl

joined-none : (leaf : Leaf) (rs : List Range) → NoneRunsOn rs → NoneRunsOn (joined leaf rs)
unfolding front
joined-none leaf [] h = tt
joined-none leaf (r ∷ []) h =
    elim (goes_into leaf r) as (λ b. goes_into leaf r ≡ b → NoneRunsOn (cond b (front leaf r ∷ []) (range_of_leaf leaf ∷ r ∷ []))) [
      | true ↦ λ t. tt
      | false ↦ λ t. (t, tt)
    ] refl
joined-none leaf (r ∷ q ∷ rs) (first, rest) =
    elim (goes_into leaf r) as (λ b. goes_into leaf r ≡ b → NoneRunsOn (cond b (front leaf r ∷ q ∷ rs) (range_of_leaf leaf ∷ r ∷ q ∷ rs))) [
      | true ↦ λ t. (front-on leaf r q (joins leaf r t) ∙ first, rest)
      | false ↦ λ t. (t, (first, rest))
    ] refl

pub the_ranges_are_maximal_runs : TheRangesAreMaximalRuns
unfolding ranges_of
the_ranges_are_maximal_runs [] = (refl, tt)
the_ranges_are_maximal_runs (x ∷ xs) =
    let rest = the_ranges_are_maximal_runs xs in
    (joined-runs x (ranges_of xs) xs rest.0, joined-none x (ranges_of xs) rest.1)

pub a_node_takes_the_lowest_number : ANodeTakesTheLowestNumber
a_node_takes_the_lowest_number x [] n h = let e : n < 0 = h.within in absurd (omega arith)
a_node_takes_the_lowest_number x (None ∷ nodes) zero h = refl
a_node_takes_the_lowest_number x (None ∷ nodes) (suc n) h = absurd (h.least 0 (omega arith) refl)
a_node_takes_the_lowest_number x (Some y ∷ nodes) zero h = let e : Some y ≡ None = h.is_free in absurd (cc)
a_node_takes_the_lowest_number x (Some y ∷ nodes) (suc n) h =
    ap (λ (ns : List (Option Node)). Some y ∷ ns) (a_node_takes_the_lowest_number x nodes n
    (record { within = let e : suc n < length nodes + 1 = omega (arith, h.within) in omega arith; is_free = h.is_free; least = λ m less free. h.least (suc m) (omega arith) free }))
