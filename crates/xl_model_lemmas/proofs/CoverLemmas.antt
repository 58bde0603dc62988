-- The one leaf that covers a page, and the one that a name names. For the machine too.
use Rattle.xl_model_lemmas.proofs.Common.{◌∙◌, ◌≡◌, arith, covers, find-In, find-only, find-passes, In, is_leaf, IsFound, IsMapping, Leaf, leaf_at_page, leaf_named, List, nat_tests, Order, Row, Some, subst, sym, true, ℕ}
use Rattle.xl_model_lemmas.proofs.InsertionLemmas.{same-place}
use Rattle.xl_model_lemmas.proofs.PlaceLemmas.{named-key}

-- two leaves of a mapping that cover a page are one
pub covered-one : (row : Row) (leaves : List Leaf) (space page : ℕ) (x y : Leaf) → IsMapping row leaves → In x leaves → In y leaves
    → covers space page x ≡ true → covers space page y ≡ true → x ≡ y
covered-one row leaves space page x y m i j a b =
    let s : x.space ≡ space = grind (arith, nat_tests) in
    let P : Leaf → ℕ → Type 0 = λ z n. covers n page z ≡ true in
    m.pages x y page i j (subst (P x) (sym s) a) (subst (P y) (sym s) b)

-- a leaf of the mapping that covers a page is the page's
pub covered-is : (row : Row) (leaves : List Leaf) (space page : ℕ) (x : Leaf) → IsMapping row leaves → In x leaves → covers space page x ≡ true
    → leaf_at_page space page leaves ≡ Some x
unfolding leaf_at_page
covered-is row leaves space page x m i t = find-only (covers space page) x leaves i t (λ y j h. covered-one row leaves space page y x m j i h t)

-- what a walk finds
pub found-leaf : (row : Row) (space page : ℕ) (leaves : List Leaf) → IsMapping row leaves → (leaf : Leaf) → leaf_at_page space page leaves ≡ Some leaf → IsFound space page leaves leaf
unfolding leaf_at_page
found-leaf row space page leaves m leaf h =
    let i : In leaf leaves = find-In (covers space page) leaf leaves h in
    record { member = i; covers_page = find-passes (covers space page) leaf leaves h; aligned = (m.valid leaf i).pages_aligned }

-- a leaf of the mapping that has a name is the name's
pub named-by : (row : Row) (leaves : List Leaf) (space first : ℕ) (o : Order) (x : Leaf) → IsMapping row leaves → In x leaves → is_leaf space first o x ≡ true
    → leaf_named space first o leaves ≡ Some x
unfolding leaf_named
named-by row leaves space first o x m i t =
    find-only (is_leaf space first o) x leaves i t
    (λ y j h. same-place y x leaves m.sorted j i (named-key space first o y h ∙ sym (named-key space first o x t)))
