-- The ranges beside a key's place.
use Rattle.xl_treap.proofs.Common.{◌*◌, ◌++◌, ◌+◌, ◌-◌, ◌<◌, ◌∙◌, ◌∷◌, ◌≡◌, ◌≤◌, [], ap, AreBeside, arith, Bin, cond, false, first_from, High, In, inl, inr, IsTree, last_below, last_or, length, link_at, List, Low, nat_lt, None, on_side, Option, pick-no, pick-yes, Range, range_key, range_of_link, ranges, refl, Side, slice_index, Some, sym, Tip, Tree, tree_at, true, ℕ}
use Rattle.xl_treap.proofs.FoundLemmas.{tree-is}
use Rattle.xl_treap.proofs.OrderLemmas.{on-either}
use Rattle.xl_treap.proofs.UnderLemmas.{IsPlaced, IsTop, placed-tree, tip-of, top-of}
use Rattle.xl_treap.specs.declared.beside.Beside.{Beside}

-- what the first says, or else the second
abbrev pub or_else : Option Range → Option Range → Option Range
or_else None o = o
or_else (Some x) o = Some x

last-here : (k : ℕ) (ls : List Range) (x : Range) (rs : List Range) → ((z : Range) → In z ls → range_key z < k) → range_key x < k → last_below k (ls ++ x ∷ rs) ≡ Some (last_or x (last_below k rs))
last-here k [] x rs h lt = pick-yes (range_key x) k _ _ lt
last-here k (y ∷ ls) x rs h lt = pick-yes (range_key y) k _ _ (h y (inl refl)) ∙ ap (λ q. Some (last_or y q)) (last-here k ls x rs (λ z i. h z (inr i)) lt)

last-before : (k : ℕ) (ls : List Range) (x : Range) (rs : List Range) → k ≤ range_key x → last_below k (ls ++ x ∷ rs) ≡ last_below k ls
last-before k [] x rs ge = pick-no (range_key x) k _ _ ge
last-before k (y ∷ ls) x rs ge = ap (λ q. cond (nat_lt (range_key y) k) (Some (last_or y q)) None) (last-before k ls x rs ge)

first-following : (k : ℕ) (ls : List Range) (x : Range) (rs : List Range) → ((z : Range) → In z ls → range_key z < k) → range_key x < k → first_from k (ls ++ x ∷ rs) ≡ first_from k rs
first-following k [] x rs h lt = pick-yes (range_key x) k _ _ lt
first-following k (y ∷ ls) x rs h lt = pick-yes (range_key y) k _ _ (h y (inl refl)) ∙ first-following k ls x rs (λ z i. h z (inr i)) lt

first-here : (k : ℕ) (ls : List Range) (x : Range) (rs : List Range) → k ≤ range_key x → first_from k (ls ++ x ∷ rs) ≡ or_else (first_from k ls) (Some x)
first-here k [] x rs ge = pick-no (range_key x) k _ _ ge
first-here k (y ∷ ls) x rs ge = elim (nat_lt (range_key y) k) as (λ c. cond c (first_from k (ls ++ x ∷ rs)) (Some y) ≡ or_else (cond c (first_from k ls) (Some y)) (Some x)) [
  | true ↦ first-here k ls x rs ge
  | false ↦ refl
]

or-last : (x : Range) (q o : Option Range) → or_else (Some (last_or x q)) o ≡ or_else q (Some x)
or-last x None o = refl
or-last x (Some y) o = refl

or-twice : (x : Range) (q o : Option Range) → or_else (or_else q (Some x)) o ≡ or_else q (Some x)
or-twice x None o = refl
or-twice x (Some y) o = refl

-- a link reached on the way down: the tree under it decides, or else the nodes passed
pub record IsBetween (words : List ℕ) (t : Tree) (k at : ℕ) (found : Beside) : Type 0 where
  pub under : Tree
  pub placed : IsPlaced words at under
  pub few : length (ranges under) ≤ length (ranges t)
  pub before_in : 4 * found.before ≤ length words
  pub from_in : 4 * found.from ≤ length words
  pub before_is : last_below k (ranges t) ≡ or_else (last_below k (ranges under)) (range_of_link words found.before)
  pub from_is : first_from k (ranges t) ≡ or_else (first_from k (ranges under)) (range_of_link words found.from)

or-none : (q : Option Range) → q ≡ or_else q None
or-none None = refl
or-none (Some x) = refl

pub between-start : (words : List ℕ) (t : Tree) (k root : ℕ) → IsTree words root t → IsBetween words t k root (record { before = 0; from = 0 })
between-start words t k root s = record {
  under = t;
  placed = placed-tree words root t s;
  few = omega arith;
  before_in = omega arith;
  from_in = omega arith;
  before_is = or-none (last_below k (ranges t));
  from_is = or-none (first_from k (ranges t));
}

pub between-end : {words : List ℕ} {t : Tree} {k at : ℕ} {found : Beside} → IsBetween words t k at found → at ≡ 0 → AreBeside words t k found
between-end {words = words} {t = t} {k = k} {at = at} {found = found} b z =
    let e : b.under ≡ Tip = tip-of words at b.under b.placed z in
    record {
      before_in = b.before_in;
      from_in = b.from_in;
      before_is = sym (b.before_is ∙ ap (λ s. or_else (last_below k (ranges s)) (range_of_link words found.before)) e);
      from_is = sym (b.from_is ∙ ap (λ s. or_else (first_from k (ranges s)) (range_of_link words found.from)) e);
    }

-- how many ranges are under a link, as the words have them
abbrev pub ranges_under : List ℕ → Tree → ℕ → ℕ
ranges_under words t at = length (ranges (tree_at (length (ranges t)) words at))

under-is : (words : List ℕ) (t : Tree) (at : ℕ) (s : Tree) → IsPlaced words at s → length (ranges s) ≤ length (ranges t) → ranges_under words t at ≡ length (ranges s)
under-is words t at s h few = ap (λ z. length (ranges z)) (tree-is h.order.0 h.order.1 (length (ranges t)) words at s h.here h.order.2 few)

-- one node of the way
module _ {words : List ℕ} {t : Tree} {k at : ℕ} {found : Beside} (b : IsBetween words t k at found) (some : 0 < at) where
  top : IsTop words at b.under
  top = top-of words at b.under b.placed some

  pub between-there : 4 * (at - 1) + 4 ≤ length words
  between-there = top.node.there

  less-under : (next : ℕ) (s : Tree) → IsPlaced words next s → length (ranges s) < length (ranges b.under) → ranges_under words t next < ranges_under words t at
  less-under next s h less =
      let f = b.few in
      let e = under-is words t at b.under b.placed f in
      let n = under-is words t next s h (omega arith) in
      omega arith

  pub less-side : (s : Side) → ranges_under words t (link_at s words (at - 1)) < ranges_under words t at
  less-side s =
      let z = top.size_is in
      less-under (link_at s words (at - 1)) (on_side s top.low top.high) (top.under s)
      (on-either (λ q. length (ranges q) < length (ranges b.under)) s top.low top.high (omega arith) (omega arith))

  -- continues to one of the trees under the node
  between-next : (next : ℕ) (s : Tree) (met : Beside) → IsPlaced words next s → length (ranges s) < length (ranges b.under) → 4 * met.before ≤ length words → 4 * met.from ≤ length words
      → or_else (last_below k (ranges (Bin (at - 1) top.range top.low top.high))) (range_of_link words found.before) ≡ or_else (last_below k (ranges s)) (range_of_link words met.before)
      → or_else (first_from k (ranges (Bin (at - 1) top.range top.low top.high))) (range_of_link words found.from) ≡ or_else (first_from k (ranges s)) (range_of_link words met.from)
      → IsBetween words t k next met
  between-next next s met h less before_in from_in last first =
      let f = b.few in
      record {
        under = s;
        placed = h;
        few = omega arith;
        before_in = before_in;
        from_in = from_in;
        before_is = b.before_is ∙ ap (λ z. or_else (last_below k (ranges z)) (range_of_link words found.before)) top.is ∙ last;
        from_is = b.from_is ∙ ap (λ z. or_else (first_from k (ranges z)) (range_of_link words found.from)) top.is ∙ first;
      }

  pub between-below : slice_index words (4 * (at - 1)) < k → IsBetween words t k (link_at High words (at - 1)) (record found { before = at })
  between-below lt =
      let x = top.range in let e = top.node.key_is in let h = top.node.there in let z = top.size_is in
      let l = ranges top.low in let r = ranges top.high in
      let less : range_key x < k = omega arith in
      let lower : (y : Range) → In y l → range_key y < k = (λ y i. let a = top.lower y i in omega arith) in
      between-next (link_at High words (at - 1)) top.high (record found { before = at }) (top.under High) (omega arith) (omega arith) b.from_in
      (ap (λ q. or_else q (range_of_link words found.before)) (last-here k l x r lower less) ∙ or-last x (last_below k r) (range_of_link words found.before)
      ∙ ap (or_else (last_below k r)) (sym top.said))
      (ap (λ q. or_else q (range_of_link words found.from)) (first-following k l x r lower less))

  pub between-above : k ≤ slice_index words (4 * (at - 1)) → IsBetween words t k (link_at Low words (at - 1)) (record found { from = at })
  between-above ge =
      let x = top.range in let e = top.node.key_is in let h = top.node.there in let z = top.size_is in
      let l = ranges top.low in let r = ranges top.high in
      let more : k ≤ range_key x = omega arith in
      between-next (link_at Low words (at - 1)) top.low (record found { from = at }) (top.under Low) (omega arith) b.before_in (omega arith)
      (ap (λ q. or_else q (range_of_link words found.before)) (last-before k l x r more))
      (ap (λ q. or_else q (range_of_link words found.from)) (first-here k l x r more) ∙ or-twice x (first_from k l) (range_of_link words found.from)
      ∙ ap (or_else (first_from k l)) (sym top.said))
