-- How a leaf of the host's table is kept in an item of the G cache: the tag has the block of guest pages and the
-- order, the word has the frame and the permission. Each tag is that of one block and order.
use Rattle.std.specs.Prelude.{ℕ, ◌≡◌, ◌+◌, ◌-◌, ◌*◌, ◌/◌, ◌%◌, ◌^◌, ◌<◌, ◌==◌, Bool, true, false, ◌||◌, List, [], map, Option, None, Some}
use Rattle.xl_model.specs.declared.address.Kind.{Kind}
use Rattle.xl_model.specs.declared.address.Order.{Order}
use Rattle.xl_model.specs.declared.leaf.Leaf.{Leaf}
use Rattle.xl_model.specs.Addresses.{allows, level_of, order_at, pages_of}
use Rattle.xl_model.specs.Caches.{Cached}
use Rattle.xl_model.specs.LeafWords.{perm_at}
use Rattle.xl_list_lemmas.specs.Members.{In}
use Rattle.xl_nested_model.specs.Stages.{host_page, host_space}
use Rattle.xl_recency.specs.declared.item.Item.{Item}
use Rattle.xl_nested.specs.declared.g_cache.Held.{Held}
use Rattle.xl_nested.specs.declared.g_cache.Held.TheVariants as held

-- The tag of the block of this order that has the guest page.
unfoldable pub tag_of : ℕ → Order → ℕ
tag_of g o = g / pages_of o * 3 + level_of o

-- The item has this tag.
abbrev pub has_tag : ℕ → Item → Bool
has_tag tag i = i.tag == tag

-- The item has one of these tags.
abbrev pub is_among : ℕ → ℕ → ℕ → Item → Bool
is_among k4 m2 g1 i = (i.tag == k4) || ((i.tag == m2) || (i.tag == g1))

-- The leaf of a block of guest pages, with the frame and the permission of the word.
abbrev pub block_leaf : Order → ℕ → ℕ → Leaf
block_leaf o block word = record {
  space = host_space (block * pages_of o);
  first = host_page (block * pages_of o);
  order = o;
  frame = word / 16;
  perm = perm_at word;
}

-- The leaf that an item keeps.
unfoldable pub leaf_of : Item → Leaf
leaf_of i = block_leaf (order_at (i.tag % 3)) (i.tag / 3) i.word

-- The leaves that a list keeps.
abbrev pub cached_leaves : Cached Item → Cached Leaf
cached_leaves c = record { width = c.width; items = map leaf_of c.items }

-- A leaf that an item can keep.
pub record IsKeepable (leaf : Leaf) : Type 0 where
  pub space_in : leaf.space < 4
  pub first_in : leaf.first < 2 ^ 27
  pub aligned : (e : ℕ) × (leaf.first ≡ e * pages_of leaf.order)
  pub frame_in : leaf.frame < 2 ^ 44

-- The words of a list are small: each frame is below 2^44.
pub record AreSmall (items : List Item) : Type 0 where
  pub small : (i : Item) → In i items → i.word < 2 ^ 48

-- The orders of a list's leaves are as it is said of them.
abbrev pub IsHeld : Held → Cached Item → Type 0
IsHeld held.Off c = (c.width ≡ 0) × (c.items ≡ [])
IsHeld held.Nothing c = c.items ≡ []
IsHeld (held.Only o) c = (i : Item) → In i c.items → i.tag % 3 ≡ level_of o
IsHeld held.Several c = Unit {0}

-- What the G cache keeps: its words are small, and the orders of its leaves are as it is said of them.
pub record IsGCache (held : Held) (list : Cached Item) : Type 0 where
  pub small : AreSmall list.items
  pub orders : IsHeld held list

-- A word says a page of a leaf: it has the frame of the page (times 16), and the leaf's permission.
pub record IsPageWord (page word : ℕ) (leaf : Leaf) : Type 0 where
  pub frame : word / 16 ≡ leaf.frame + (page - leaf.first)
  pub perm : perm_at word ≡ leaf.perm

-- A word is found where a leaf is, and says the page of it.
abbrev pub IsFound : ℕ → Option ℕ → Option Leaf → Type 0
IsFound page None None = Unit {0}
IsFound page None (Some leaf) = ⊥
IsFound page (Some word) None = ⊥
IsFound page (Some word) (Some leaf) = IsPageWord page word leaf

-- A frame where the access is allowed.
abbrev pub frame_if : Bool → ℕ → Option ℕ
frame_if true frame = Some frame
frame_if false frame = None

-- The frame that a word says, where its permission allows the access.
abbrev pub frame_said : Kind → ℕ → Option ℕ
frame_said kind word = frame_if (allows (perm_at word) kind) (word / 16)
