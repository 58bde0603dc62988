-- Which key is above which.
use Rattle.xl_treap.proofs.Common.{◌∷◌, ◌≡◌, arith, Bin, false, In, In-append, inl, inr, is_above, nat_tests, Over, Range, range_key, ranges, subst, sym, Tip, Tree, true, ℕ}

pub above-not : (a b : ℕ) → is_above a b ≡ true → (a ≡ b → ⊥) → is_above b a ≡ false
above-not a b h n = grind (arith, nat_tests)

pub above-total : (a b : ℕ) → is_above a b ≡ false → is_above b a ≡ true
above-total a b h = grind (arith, nat_tests)

pub above-chain : (a b c : ℕ) → is_above a b ≡ true → is_above b c ≡ true → is_above a c ≡ true
above-chain a b c h k = grind (arith, nat_tests)

pub over-chain : (a b : ℕ) (t : Tree) → is_above a b ≡ true → Over b t → Over a t
over-chain a b Tip h o = tt
over-chain a b (Bin n x l r) h (o, p, q) = (above-chain a b (range_key x) h o, over-chain a b l h p, over-chain a b r h q)

pub over-In : (a : ℕ) (y : Range) (t : Tree) → Over a t → In y (ranges t) → is_above a (range_key y) ≡ true
over-In a y Tip o i = absurd i
over-In a y (Bin n x l r) (o, p, q) i = elim (In-append y (ranges l) (x ∷ ranges r) i) [
  | inl j ↦ over-In a y l p j
  | inr j ↦ elim j [
    | inl e ↦ let P : Range → Type 0 = λ z. is_above a (range_key z) ≡ true in subst P (sym e) o
    | inr k ↦ over-In a y r q k
  ]
]
