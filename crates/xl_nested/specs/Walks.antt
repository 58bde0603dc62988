-- The steps of a walk through both stages.
use Rattle.std.specs.Prelude.{ℕ, suc, ◌≡◌, ◌+◌, ◌-◌, ◌/◌, ◌^◌, ◌<◌, ◌≤◌, List, Option, None, Some}
use Rattle.std.specs.List.{list_all}
use Rattle.xl_model.specs.declared.address.Kind.{Kind}
use Rattle.xl_model.specs.declared.leaf.Leaf.{Leaf}
use Rattle.xl_nested_model.specs.declared.nest.NestReply.{NestReply}
use Rattle.xl_model.specs.Addresses.{pages_of}
use Rattle.xl_model.specs.Mapping.{leaf_at_page, reply_by}
use Rattle.xl_nested_model.specs.Nested.{NestState, along, with_last}
use Rattle.xl_model.specs.Nodes.{up, number_of}
use Rattle.xl_nested_model.specs.Stages.{Stage, Guest, frame_of, guest_reply, is_loadable, nodes_in, path_from, reply_if_loadable}
use Rattle.xl_model.specs.Walks.{end_level}
use Rattle.xl_model.specs.LeafWords.{small_leaf}
use Rattle.xl_pte.specs.Decode.{SaysSmall, decode_of}
use Rattle.xl_pte.specs.declared.word.Pte.{Pte}
use Rattle.xl_pte.specs.declared.word.Pte.TheVariants as pte
use Rattle.xl_radix.specs.ReadBack.{order_of, leaf_said}
use Rattle.xl_nested.specs.declared.stage.Entry.{Entry}
use Rattle.xl_nested.specs.declared.stage.Entry.TheVariants as entry

-- A page of a leaf.
pub record IsFor (page : ℕ) (leaf : Leaf) : Type 0 where
  pub from : leaf.first ≤ page
  pub to : page < leaf.first + pages_of leaf.order
  pub frames_in : leaf.frame + pages_of leaf.order ≤ 2 ^ 44

-- The entry that is a leaf, or nothing.
abbrev pub entry_by : Option Leaf → Entry
entry_by None = entry.Nothing
entry_by (Some leaf) = entry.Leaf leaf

-- What a word of a level says, for a block of pages of space 0.
abbrev pub entry_said : ℕ → ℕ → Pte → Entry
entry_said level block (pte.Pointer node) = entry.Node node
entry_said level block pte.Invalid = entry.Nothing
entry_said level block (pte.Leaf frame perm) = entry_by (leaf_said 0 block (order_of level) (pte.Leaf frame perm))
entry_said level block pte.Reserved = entry.Nothing
entry_said level block pte.Misaligned = entry.Nothing

-- What a word of a level says at a page of space 0. A leaf of 4 KiB may be given by its word.
abbrev pub IsSaid : ℕ → ℕ → ℕ → Entry → Type 0
IsSaid level page word (entry.Node next) = entry.Node next ≡ entry_said level (up level page) (decode_of word level)
IsSaid level page word (entry.Small small) = (level ≡ 0) × SaysSmall word small
IsSaid level page word (entry.Leaf leaf) = entry.Leaf leaf ≡ entry_said level (up level page) (decode_of word level)
IsSaid level page word entry.Nothing = entry.Nothing ≡ entry_said level (up level page) (decode_of word level)

-- The level at which the nodes of a page of space 0 end.
abbrev pub last_level : ℕ → Stage → ℕ
last_level page stage = end_level 2 0 0 page stage.leaves

-- The page's word at a level leads to its node one level down; or the page's nodes end there, at its leaf or
-- without one.
abbrev pub IsEntry : ℕ → ℕ → Entry → Stage → Type 0
IsEntry level page (entry.Node next) stage =
    (0 < level) × (last_level page stage < level) × (number_of 0 level (up level page) (nodes_in stage.shape) ≡ Some next)
IsEntry level page (entry.Small word) stage =
    (last_level page stage ≡ level) × (leaf_at_page 0 page stage.leaves ≡ Some (small_leaf 0 page word))
IsEntry level page (entry.Leaf leaf) stage =
    (last_level page stage ≡ level) × (leaf_at_page 0 page stage.leaves ≡ Some leaf)
IsEntry level page entry.Nothing stage =
    (last_level page stage ≡ level) × (leaf_at_page 0 page stage.leaves ≡ None)

-- The guest's node of this number is the page's at a level, down to which the page's nodes reach.
pub record IsAt (level node page : ℕ) (guest : Guest) : Type 0 where
  pub level_in : level < 3
  pub page_in : page < 2 ^ 27
  pub at : number_of 0 (suc level) (up (suc level) page) (nodes_in guest.stage.shape) ≡ Some node
  pub last : last_level page guest.stage ≤ level

-- A leaf of the guest that covers a page: its frames are guest pages.
pub record IsReached (page : ℕ) (leaf : Leaf) : Type 0 where
  pub covers : IsFor page leaf
  pub low : leaf.frame + pages_of leaf.order ≤ 2 ^ 29

-- The same of what a word says, where it says a leaf.
abbrev pub LeavesReach : ℕ → Entry → Type 0
LeavesReach page (entry.Node next) = Unit {0}
LeavesReach page (entry.Small word) = word / 16 < 2 ^ 29
LeavesReach page (entry.Leaf leaf) = IsReached page leaf
LeavesReach page entry.Nothing = Unit {0}

-- The guest pages of a page's nodes from a level down to the last.
abbrev pub path_down : ℕ → ℕ → Guest → List ℕ
path_down level page guest = path_from guest.base level page (suc level - last_level page guest.stage) (nodes_in guest.stage.shape)

-- The guest page of a page for an access of this kind, by the guest's leaf.
abbrev pub guest_frame : ℕ → Kind → Guest → Option ℕ
guest_frame page kind guest = frame_of (reply_by (leaf_at_page 0 page guest.stage.leaves) page kind)

-- The reply of a walk from a page's node of a level.
unfoldable pub reply_from : ℕ → ℕ → Kind → NestState → NestReply
reply_from level page kind s =
    reply_if_loadable (list_all (is_loadable s.host.stage.leaves) (path_down level page s.guest))
    (guest_reply (guest_frame page kind s.guest) s.host.stage.leaves kind)

-- Both after a walk from a page's node of a level.
unfoldable pub walked_from : ℕ → ℕ → Kind → NestState → NestState
walked_from level page kind s = along (path_down level page s.guest) (with_last (guest_frame page kind s.guest)) s
