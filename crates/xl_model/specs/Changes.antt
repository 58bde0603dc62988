-- What a command does to the mapping: the four changes of a leaf.
use Rattle.std.specs.Prelude.{ℕ, ◌≡◌, true, is_some, List, Option, None, Some}
use Rattle.xl_model.specs.declared.address.Order.{Order}
use Rattle.xl_model.specs.declared.perm.Perm.{Perm}
use Rattle.xl_model.specs.declared.leaf.Leaf.{Leaf}
use Rattle.xl_model.specs.Mapping.{leaf_named, with_leaf, without_leaf}

-- A change of one leaf: it comes, goes, gets another permission, or moves to another page.
pub data Change : Type 0 where
  Insert : (leaf : Leaf) → Change
  Remove : (space : ℕ) → (first : ℕ) → (order : Order) → Change
  Protect : (space : ℕ) → (first : ℕ) → (order : Order) → (perm : Perm) → Change
  Relocate : (space : ℕ) → (first : ℕ) → (to : ℕ) → (order : Order) → Change

-- the leaf as it was before
abbrev pub old_leaf : Change → List Leaf → Option Leaf
old_leaf (Insert leaf) leaves = None
old_leaf (Remove space first order) leaves = leaf_named space first order leaves
old_leaf (Protect space first order perm) leaves = leaf_named space first order leaves
old_leaf (Relocate space first to order) leaves = leaf_named space first order leaves

-- A leaf with another permission.
abbrev pub with_perm : Perm → Option Leaf → Option Leaf
with_perm perm None = None
with_perm perm (Some leaf) = Some (record leaf { perm = perm })

-- A leaf at another first page.
abbrev pub at_page : ℕ → Option Leaf → Option Leaf
at_page to None = None
at_page to (Some leaf) = Some (record leaf { first = to })

-- the leaf as it is after
abbrev pub new_leaf : Change → List Leaf → Option Leaf
new_leaf (Insert leaf) leaves = Some leaf
new_leaf (Remove space first order) leaves = None
new_leaf (Protect space first order perm) leaves = with_perm perm (leaf_named space first order leaves)
new_leaf (Relocate space first to order) leaves = at_page to (leaf_named space first order leaves)

-- The leaves without the leaf as it was.
abbrev pub without_old : Option Leaf → List Leaf → List Leaf
without_old None leaves = leaves
without_old (Some leaf) leaves = without_leaf leaf.space leaf.first leaves

-- The leaves with the leaf as it is after.
abbrev pub with_new : Option Leaf → List Leaf → List Leaf
with_new None leaves = leaves
with_new (Some leaf) leaves = with_leaf leaf leaves

-- the mapping after the change
unfoldable pub changed : Change → List Leaf → List Leaf
changed c leaves = with_new (new_leaf c leaves) (without_old (old_leaf c leaves) leaves)

-- the new leaf beside the old one, for counting alone
unfoldable pub with_both : Change → List Leaf → List Leaf
with_both c leaves = with_new (new_leaf c leaves) leaves

-- exactly this leaf is there
abbrev pub IsNamed : ℕ → ℕ → Order → List Leaf → Type 0
IsNamed space first order leaves = is_some (leaf_named space first order leaves) ≡ true
