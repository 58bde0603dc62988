-- The words of a node, a line of four: its range's key, its pages, the word of its frame, permission and order, and
-- the links to the nodes below it. A link is a node's number plus one, or 0.
use Rattle.std.specs.Prelude.{ℕ, zero, suc, ◌≡◌, ◌+◌, ◌*◌, ◌/◌, ◌%◌, ◌^◌, ◌≤◌, nat_lt, if◌then◌else◌, List, length, slice_index, Option, None, Some}
use Rattle.xl_model.specs.declared.address.Order.{Order}
use Rattle.xl_model.specs.declared.address.Order.TheVariants as order
use Rattle.xl_model.specs.declared.leaf.Range.{Range}
use Rattle.xl_model.specs.Addresses.{level_of}
use Rattle.xl_model.specs.Words.{leaf_word}
use Rattle.xl_model.specs.Ranges.{range_key}
use Rattle.xl_pte.specs.declared.word.Pte.{Pte}
use Rattle.xl_pte.specs.declared.word.Pte.TheVariants.{Invalid, Pointer, Leaf, Reserved, Misaligned}
use Rattle.xl_pte.specs.Decode.{decode_of}
use Rattle.xl_treap.specs.declared.node.Side.{Side}
use Rattle.xl_treap.specs.declared.node.Side.TheVariants.{Low, High}

-- the word of a range's frame, permission and order: a leaf's word, and the order's number from bit
-- 62 on
unfoldable pub node_word : Range → ℕ
node_word r = leaf_word r.frame r.perm + level_of r.order * 2 ^ 62

-- the order of this number; there is none of number 3
abbrev pub order_said : ℕ → Option Order
order_said zero = Some order.K4
order_said (suc zero) = Some order.M2
order_said (suc (suc zero)) = Some order.G1
order_said (suc (suc (suc n))) = None

-- the range of a key, `pages` pages and an order, where the word is a leaf's
abbrev pub range_by : ℕ → ℕ → Order → Pte → Option Range
range_by key pages o (Leaf frame p) =
    Some (record { space = key / 2 ^ 52; start = key % 2 ^ 52; pages = pages; frame = frame; order = o; perm = p })
range_by key pages o Invalid = None
range_by key pages o (Pointer node) = None
range_by key pages o Reserved = None
range_by key pages o Misaligned = None

-- the range of a key, `pages` pages and a word, where there is an order
abbrev pub range_under : ℕ → ℕ → ℕ → Option Order → Option Range
range_under key pages word None = None
range_under key pages word (Some o) = range_by key pages o (decode_of (word % 2 ^ 62) 0)

-- the range that a node's first three words say, if they say one
unfoldable pub range_said : ℕ → ℕ → ℕ → Option Range
range_said key pages word = range_under key pages word (order_said (word / 2 ^ 62))

-- the range that a node's words say
abbrev pub range_of_node : List ℕ → ℕ → Option Range
range_of_node words n =
    range_said (slice_index words (4 * n)) (slice_index words (4 * n + 1)) (slice_index words (4 * n + 2))

-- the other side of a node
abbrev pub beyond : Side → Side
beyond Low = High
beyond High = Low

-- the one on a side of a node, of the two on its low and on its high side
abbrev pub on_side : {A : Type 0} → Side → A → A → A
on_side Low low high = low
on_side High low high = high

-- the side of a node with the first key on which the place of the second is: that of the keys below
-- its own, or that of the keys above it
abbrev pub side_at : ℕ → ℕ → Side
side_at own k = if nat_lt own k then High else Low

-- a node's link on a side
abbrev pub link_at : Side → List ℕ → ℕ → ℕ
link_at s words n = on_side s (slice_index words (4 * n + 3) % 2 ^ 32) (slice_index words (4 * n + 3) / 2 ^ 32)

-- the side of a node on which the place of a key is
abbrev pub side_in : List ℕ → ℕ → ℕ → Side
side_in words n k = side_at (slice_index words (4 * n)) k

-- the words of a node say this range
pub record IsNode (words : List ℕ) (n : ℕ) (x : Range) : Type 0 where
  pub there : 4 * n + 4 ≤ length words
  pub key_is : slice_index words (4 * n) ≡ range_key x
  pub pages_is : slice_index words (4 * n + 1) ≡ x.pages
  pub word_is : slice_index words (4 * n + 2) ≡ node_word x

-- the range of the node of a link, if there is one
abbrev pub range_of_link : List ℕ → ℕ → Option Range
range_of_link words zero = None
range_of_link words (suc n) = range_of_node words n
