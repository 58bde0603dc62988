-- What a treap keeps after a change of its words.
use Rattle.xl_treap.proofs.Common.{◌*◌, ◌++◌, ◌+◌, ◌==◌, ◌^◌, ◌∙◌, ◌∷◌, ◌≡◌, ◌≤◌, [], ap, arith, CanPut, cond, false, In, In-append, In-left, In-right, inl, inr, IsApart, IsEmpty, IsKept, IsMade, IsTreap, IsTree, length, length-append, List, nat_lt, Once, once-last, once-more, Range, range_key, ranges, refl, resized, seen_in, subst, suc, sym, TreapView, Tree, tree_at, true, with_range, ℕ}
use Rattle.xl_treap.proofs.FoundLemmas.{tree-is}
use Rattle.xl_treap.proofs.OrderLemmas.{order-apart}

-- a treap of these words and free nodes that holds these ranges
pub record Holds (words : List ℕ) (root nodes : ℕ) (free : List ℕ) (held : List Range) : Type 0 where
  pub treap : IsTreap words root nodes free (tree_at nodes words root)
  pub holds : ranges (tree_at nodes words root) ≡ held

pub placed-treap : (words : List ℕ) (root nodes : ℕ) (free : List ℕ) (t : Tree) → IsTree words root t → length words ≡ 4 * nodes → length (ranges t) + length free ≡ nodes → Once free
    → ((e : ℕ) → In e free → IsEmpty words e) → Holds words root nodes free (ranges t)
placed-treap words root nodes free t s size count once empty =
    let e : tree_at nodes words root ≡ t = tree-is 0 (2 ^ 58) nodes words root t s.at (order-apart t s.apart) (omega arith) in
    record {
      treap = subst (λ (z : Tree). IsTreap words root nodes free z) (sym e) (record { placed = s; size = size; count = count; free_once = once; empty = empty });
      holds = ap ranges e;
    }

pub with-length : (x : Range) (xs : List Range) → length (with_range x xs) ≡ suc (length xs)
with-length x [] = refl
with-length x (r ∷ rs) = elim (nat_lt (range_key r) (range_key x)) as (λ b. length (cond b (r ∷ with_range x rs) (x ∷ r ∷ rs)) ≡ suc (suc (length rs))) [
  | true ↦ ap suc (with-length x rs)
  | false ↦ refl
]

pub resized-length : (k pages : ℕ) (xs : List Range) → length (resized k pages xs) ≡ length xs
resized-length k pages [] = refl
resized-length k pages (r ∷ rs) = elim (range_key r == k) as (λ b. length (cond b (record r { pages = pages } ∷ rs) (r ∷ resized k pages rs)) ≡ suc (length rs)) [
  | true ↦ refl
  | false ↦ ap suc (resized-length k pages rs)
]

-- what a range more is put into
pub can-put : (words : List ℕ) (root nodes n : ℕ) (front : List ℕ) (t : Tree) (x : Range) → IsTreap words root nodes (front ++ n ∷ []) t → nodes ≤ 2 ^ 16 + 1 → IsApart 0 (with_range x (ranges t))
    → CanPut words root nodes t n x
can-put words root nodes n front t x k few apart =
    let e : IsEmpty words n = k.empty n (In-right n front (n ∷ []) (inl refl)) in
    let c = k.count in let s = k.size in let h = e.there in
    record { placed = k.placed; few = omega arith; empty = e; small = omega arith; apart = apart }

-- one range more, in a node that was free
pub held-more : (old new : List ℕ) (root result nodes n : ℕ) (front : List ℕ) (t : Tree) (x : Range) → IsTreap old root nodes (front ++ n ∷ []) t → IsMade old new result n (with_range x (ranges t))
    → Holds new result nodes front (with_range x (ranges t))
held-more old new root result nodes n front t x k m =
    let once = once-last front n k.free_once in
    let c = k.count in
    let l : length (ranges m.tree) ≡ suc (length (ranges t)) = ap length m.holds ∙ with-length x (ranges t) in
    subst (λ (zs : List Range). Holds new result nodes front zs) m.holds (placed-treap new result nodes front m.tree m.placed (m.len ∙ k.size) (omega (arith, length-append front (n ∷ []))) once.0
    (λ e i. m.others e (λ q. let N : ℕ → Type 0 = λ z. In z front in once.1 (subst N q i)) (k.empty e (In-left e front (n ∷ []) i))))

-- one range less, whose node is free
pub held-less : (old new : List ℕ) (root result nodes n : ℕ) (free : List ℕ) (t : Tree) (held : List Range) → IsTreap old root nodes free t → IsMade old new result n held
    → suc (length held) ≡ length (ranges t) → IsEmpty new n → (IsEmpty old n → ⊥) → Holds new result nodes (free ++ n ∷ []) held
held-less old new root result nodes n free t held k m l here was =
    let c = k.count in
    let e : length (ranges m.tree) ≡ length held = ap length m.holds in
    let other : (e : ℕ) → In e free → e ≡ n → ⊥ = (λ e i q. was (let N : ℕ → Type 0 = λ z. IsEmpty old z in subst N q (k.empty e i))) in
    let P : List Range → Type 0 = λ zs. Holds new result nodes (free ++ n ∷ []) zs in
    subst P m.holds (placed-treap new result nodes (free ++ n ∷ []) m.tree m.placed (m.len ∙ k.size) (omega (arith, length-append free (n ∷ [])))
    (once-more free n k.free_once (λ i. other n i refl))
    (λ e i. elim (In-append e free (n ∷ []) i) [
      | inl j ↦ m.others e (other e j) (k.empty e j)
      | inr j ↦ elim j [ inl q ↦ (let N : ℕ → Type 0 = λ z. IsEmpty new z in subst N (sym q) here) | inr z ↦ absurd z ]
    ]))

-- as many ranges as before, in the nodes that they had
pub held-same : (old new : List ℕ) (root result nodes n : ℕ) (free : List ℕ) (t : Tree) (held : List Range) → IsTreap old root nodes free t → IsMade old new result n held
    → length held ≡ length (ranges t) → (IsEmpty old n → ⊥) → Holds new result nodes free held
held-same old new root result nodes n free t held k m l was =
    let c = k.count in
    let e : length (ranges m.tree) ≡ length held = ap length m.holds in
    subst (λ (zs : List Range). Holds new result nodes free zs) m.holds (placed-treap new result nodes free m.tree m.placed (m.len ∙ k.size) (omega arith) k.free_once
    (λ e i. m.others e (λ q. was (let N : ℕ → Type 0 = λ z. IsEmpty old z in subst N q (k.empty e i))) (k.empty e i)))

-- a treap of words that are these
pub kept-after : (words there : List ℕ) (root nodes count room : ℕ) (free : List ℕ) (held : List Range) → there ≡ words → count ≡ nodes → Holds words root nodes free held → nodes ≤ 2 ^ 16 + 1 → nodes ≤ room
    → IsKept there root count free room
kept-after words there root nodes count room free held w n h few room-in =
    subst (λ (ws : List ℕ). IsKept ws root count free room) (sym w) (subst (λ (m : ℕ). IsKept words root m free room) (sym n) (h.treap, few, room-in))

pub seen-after : (words there : List ℕ) (root nodes count loads : ℕ) (free : List ℕ) (held : List Range) → there ≡ words → count ≡ nodes → Holds words root nodes free held
    → (seen_in there root count loads).seen ≡ record { kept = held; nodes = nodes; loads = loads }
seen-after words there root nodes count loads free held w n h =
    ap (λ (ws : List ℕ). (seen_in ws root count loads).seen) w ∙ ap (λ (m : ℕ). (seen_in words root m loads).seen) n
    ∙ ap (λ (zs : List Range). let v : TreapView = record { kept = zs; nodes = nodes; loads = loads } in v) h.holds
