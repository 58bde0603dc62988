-- For the table of ranges: maximal ranges are the ranges of their leaves.
use Rattle.xl_range.proofs.Common.{◌*◌, ◌+◌, ◌/◌, ◌∙◌, ◌∷◌, ◌≡◌, [], ap, arith, begins, end_key, false, first_leaf, goes_into, IsHeld, IsRange, joined, Leaf, List, nat_tests, next_leaf, Order, order-same, pages_of, Range, range_from, range_leaves, range_of_leaf, ranges_of, refl, run_on, same_order, same_perm, spread, Stops, subst, suc, sym, true, zero, ℕ}
use Rattle.xl_model_lemmas.proofs.PermLemmas.{perm-same}
use Rattle.xl_model.specs.declared.address.Order.TheVariants as order

-- a leaf goes into a range of its kind that begins after it
pub goes-next : (n : ℕ) (l : Leaf) → goes_into l (range_from n (next_leaf l)) ≡ true
goes-next n l =
    let o : same_order l.order l.order ≡ true = order-same l.order in
    let p : same_perm l.perm l.perm ≡ true = perm-same l.perm in
    grind (arith, nat_tests)

pub next-pages : (n p : ℕ) → p + suc n * p ≡ suc (suc n) * p
next-pages n p = omega arith

pub stops-next : (n : ℕ) (l : Leaf) (rs : List Range) → Stops (range_from (suc (suc n)) l) rs → Stops (range_from (suc n) (next_leaf l)) rs
stops-next n l [] h = tt
stops-next n l (q ∷ qs) h =
    let p : ℕ = pages_of l.order in
    let a : l.first + suc (suc n) * p ≡ l.first + p + suc n * p = omega arith in
    let b : l.frame + suc (suc n) * p ≡ l.frame + p + suc n * p = omega arith in
    subst (λ (x : ℕ). begins l (l.first + p + suc n * p) x q ≡ false) b (subst (λ (x : ℕ). begins l x (l.frame + suc (suc n) * p) q ≡ false) a h)

joined-stops : (l : Leaf) (rs : List Range) → Stops (range_from 1 l) rs → joined l rs ≡ range_from 1 l ∷ rs
joined-stops l [] h = ap (λ (k : ℕ). record (range_of_leaf l) { pages = k } ∷ []) (omega arith)
joined-stops l (q ∷ qs) h =
    let p : ℕ = pages_of l.order in
    let one : 1 * p ≡ p = omega arith in
    let no : goes_into l q ≡ false = subst (λ (k : ℕ). begins l (l.first + k) (l.frame + k) q ≡ false) one h in
    rw no (ap (λ (k : ℕ). record (range_of_leaf l) { pages = k } ∷ q ∷ qs) (sym one))

pub ranges-run : (n : ℕ) (l : Leaf) (rest : List Leaf) (rs : List Range) → ranges_of rest ≡ rs → Stops (range_from (suc n) l) rs
    → ranges_of (run_on (suc n) l rest) ≡ range_from (suc n) l ∷ rs
unfolding ranges_of
ranges-run zero l rest rs is h = rw is (joined-stops l rs h)
ranges-run (suc n) l rest rs is h =
    let tail : ranges_of (run_on (suc n) (next_leaf l) rest) ≡ range_from (suc n) (next_leaf l) ∷ rs =
    ranges-run n (next_leaf l) rest rs is (stops-next n l rs h) in
    let into : goes_into l (range_from (suc n) (next_leaf l)) ≡ true = goes-next (suc n) l in
    rw (tail, into) (ap (λ (k : ℕ). record (range_of_leaf l) { pages = k } ∷ rs) (next-pages n (pages_of l.order)))

pub count-is : (o : Order) (n pages : ℕ) → pages ≡ n * pages_of o → pages / pages_of o ≡ n
count-is order.K4 n pages h = omega arith
count-is order.M2 n pages h = omega arith
count-is order.G1 n pages h = omega arith

pub leaves-is : (r : Range) (h : IsRange r) → range_leaves r ≡ suc h.leaves.0
leaves-is r h = count-is r.order (suc h.leaves.0) r.pages h.leaves.1

pub range-is : (r : Range) (n : ℕ) → r.pages ≡ n * pages_of r.order → range_from n (first_leaf r) ≡ r
range-is r n h = ap (λ (k : ℕ). record r { pages = k }) (sym h)

-- the ranges of the leaves of maximal ranges are these
pub ranges-spread : (low : ℕ) (rs : List Range) → IsHeld low rs → ranges_of (spread rs) ≡ rs
unfolding ranges_of spread
ranges-spread low [] h = refl
ranges-spread low (r ∷ rs) (above, is, stops, rest) =
    let tail : ranges_of (spread rs) ≡ rs = ranges-spread (end_key r) rs rest in
    let n : ℕ = is.leaves.0 in
    let same : range_from (suc n) (first_leaf r) ≡ r = range-is r (suc n) is.leaves.1 in
    let all : ranges_of (run_on (suc n) (first_leaf r) (spread rs)) ≡ range_from (suc n) (first_leaf r) ∷ rs =
    ranges-run n (first_leaf r) (spread rs) rs tail (subst (λ (x : Range). Stops x rs) (sym same) stops) in
    rw (leaves-is r is) (all ∙ ap (λ (x : Range). x ∷ rs) same)
