-- Requests of remote fences (TLB shootdowns): each says what a command did to the mapping, so that
-- it can be undone. Lists of requests are newest first.
use Rattle.std.specs.Prelude.{ℕ, zero, suc, List, [], ◌∷◌, Option, None, Some}
use Rattle.xl_hart_model.specs.declared.hart.Request.{Request}
use Rattle.xl_model.specs.declared.leaf.Leaf.{Leaf}
use Rattle.xl_model.specs.Changes.{Change, old_leaf, new_leaf, with_new, without_old}

-- The request of a change: the leaf before, which a map has not, and the leaf after, which an unmap
-- has not.
abbrev pub request_of : Change → List Leaf → Request
request_of c leaves = record { before = old_leaf c leaves; after = new_leaf c leaves }

-- The mapping before a request: its leaf after is taken away, and its leaf before brought back.
abbrev pub undone : Request → List Leaf → List Leaf
undone r leaves = with_new r.before (without_old r.after leaves)

-- The mapping with this number of requests undone, the newest first.
abbrev pub older : ℕ → List Request → List Leaf → List Leaf
older zero requests leaves = leaves
older (suc i) [] leaves = leaves
older (suc i) (r ∷ requests) leaves = older i requests (undone r leaves)

-- An unmap holds its leaf's frames back.
abbrev pub with_held : Option Leaf → Option Leaf → List Leaf → List Leaf
with_held (Some leaf) None leaves = leaf ∷ leaves
with_held (Some leaf) (Some after) leaves = leaves
with_held None after leaves = leaves

-- The leaves whose frames some requests hold back.
abbrev pub held_leaves : List Request → List Leaf
held_leaves [] = []
held_leaves (r ∷ requests) = with_held r.before r.after (held_leaves requests)
