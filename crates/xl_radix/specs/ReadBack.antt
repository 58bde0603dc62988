-- The leaves that the words of a radix table say.
use Rattle.std.specs.Prelude.{ℕ, zero, suc, ◌+◌, ◌*◌, ◌/◌, ◌%◌, List, [], length, slice_index, slice_index_or, Option, None, Some}
use Rattle.xl_model.specs.declared.address.Order.{Order}
use Rattle.xl_model.specs.declared.address.Order.TheVariants as order
use Rattle.xl_model.specs.declared.leaf.Leaf.{Leaf}
use Rattle.xl_model.specs.Addresses.{pages_of}
use Rattle.xl_model.specs.Changes.{with_new}
use Rattle.xl_model.specs.Nodes.{Node}
use Rattle.xl_pte.specs.Decode.{decode_of}
use Rattle.xl_pte.specs.declared.word.Pte.{Pte}
use Rattle.xl_pte.specs.declared.word.Pte.TheVariants as pte

-- The order of the leaves of a level; levels above 2 have none.
abbrev pub order_of : ℕ → Option Order
order_of zero = Some order.K4
order_of (suc zero) = Some order.M2
order_of (suc (suc zero)) = Some order.G1
order_of (suc (suc (suc l))) = None

-- The leaf of a space and a block of pages that a word of this order says.
abbrev pub leaf_said : ℕ → ℕ → Option Order → Pte → Option Leaf
leaf_said space block None word = None
leaf_said space block (Some o) (pte.Leaf frame perm) =
    Some (record { space = space; first = block * pages_of o; order = o; frame = frame; perm = perm })
leaf_said space block (Some o) pte.Invalid = None
leaf_said space block (Some o) (pte.Pointer node) = None
leaf_said space block (Some o) pte.Reserved = None
leaf_said space block (Some o) pte.Misaligned = None

-- The leaf that a word says, at this index of a node.
abbrev pub leaf_by : Option Node → ℕ → ℕ → Option Leaf
leaf_by None index word = None
leaf_by (Some node) index word =
    leaf_said node.space (node.prefix * 512 + index) (order_of node.level) (decode_of word node.level)

-- The leaf that the word at a place says.
unfoldable pub leaf_here : List (Option Node) → List ℕ → ℕ → Option Leaf
leaf_here nodes words place = leaf_by (slice_index_or nodes (place / 512) None) (place % 512) (slice_index words place)

-- The leaves that the words at the first places say.
abbrev pub read_to : List (Option Node) → List ℕ → ℕ → List Leaf
read_to nodes words zero = []
read_to nodes words (suc place) = with_new (leaf_here nodes words place) (read_to nodes words place)

-- The leaves that all words say, sorted.
unfoldable pub read_back : List (Option Node) → List ℕ → List Leaf
read_back nodes words = read_to nodes words (length nodes * 512)
