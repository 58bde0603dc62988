-- What a hart finds in its array, and the replies that follow.
use Rattle.std.specs.Prelude.{ℕ, ◌≡◌, ◌+◌, ◌-◌, ◌<◌, ◌≤◌, ◌^◌, Bool, true, false, Option, None, Some}
use Rattle.xl_model.specs.declared.address.Mode.TheVariants as mode
use Rattle.xl_model.specs.Addresses.{is_canonical, page_of}
use Rattle.xl_model.specs.Structures.{TableState, table_walked}
use Rattle.xl_model.specs.declared.address.Kind.{Kind}
use Rattle.xl_model.specs.declared.leaf.Leaf.{Leaf}
use Rattle.xl_model.specs.declared.leaf.Reply.{Reply}
use Rattle.xl_hart_model.specs.Harts.{Hart, hart_hit, hart_replied, hart_walked, hart_reply, array_walked}
use Rattle.xl_hart_model.specs.Tally.{count_miss}
use Rattle.xl_model.specs.Mapping.{leaf_at_page, reply_by}
use Rattle.xl_model.specs.Tally.{IsSmall}
use Rattle.xl_model.specs.Tlb.{array_hit}
use Rattle.xl_array.specs.Touches.{IsPageWord}

-- The array holds a leaf that covers the page, which moves to the front; the word says the page's
-- frame in it.
pub record IsSeen (page word : ℕ) (old new : Hart) : Type 0 where
  pub leaf : Leaf
  pub found : array_hit old.array old.space page ≡ Some leaf
  pub says : IsPageWord page word leaf
  pub after : new ≡ hart_hit leaf page old

-- The array holds no such leaf, and nothing changes.
pub record IsUnseen (page : ℕ) (old new : Hart) : Type 0 where
  pub found : array_hit old.array old.space page ≡ None
  pub after : new ≡ old

-- A hart whose array was filled with what a walk found, the walk's loads counted.
abbrev pub hart_filled : Option Leaf → ℕ → Hart → Hart
hart_filled found loads h = record h { array = array_walked found h.array; counts = count_miss loads h.counts }

-- A leaf that a page was found in: its first page is at or below the page, and the frame of the
-- page is small.
pub record IsReached (page : ℕ) (leaf : Leaf) : Type 0 where
  pub from : leaf.first ≤ page
  pub small : leaf.frame + (page - leaf.first) < 2 ^ 52

-- The reply to an access of a page that this leaf covers; a frame in it is small.
pub record IsReplied (page : ℕ) (leaf : Leaf) (kind : Kind) (reply : Reply) : Type 0 where
  pub is : reply ≡ reply_by (Some leaf) page kind
  pub small : IsSmall reply

-- A hart after an access: not canonical, or a hit, or a miss with its walk.
abbrev pub hart_after : Bool → Option Leaf → ℕ → Reply → ℕ → TableState → Hart → Hart
hart_after false hit page reply va t h = hart_replied reply va h
hart_after true (Some leaf) page reply va t h = hart_replied reply va (hart_hit leaf page h)
hart_after true None page reply va t h = hart_replied reply va (hart_walked page t h)

-- The table after it.
abbrev pub table_looked : Bool → Option Leaf → ℕ → ℕ → TableState → TableState
table_looked false hit space page t = t
table_looked true (Some leaf) space page t = t
table_looked true None space page t = table_walked space page t

-- An access was replied to, and left the hart and the table as the definitions say.
pub record IsAccess (va : ℕ) (kind : Kind) (reply : Reply) (table after : TableState) (old new : Hart) : Type 0 where
  pub reply_is : reply ≡ hart_reply old table.leaves va kind
  pub hart_is : new ≡ hart_after (is_canonical mode.Sv39 va) (array_hit old.array old.space (page_of mode.Sv39 va)) (page_of mode.Sv39 va) reply va table old
  pub table_is : after ≡ table_looked (is_canonical mode.Sv39 va) (array_hit old.array old.space (page_of mode.Sv39 va)) old.space (page_of mode.Sv39 va) table

-- An access that the array missed was replied to by a walk.
pub record IsWalked (va page : ℕ) (kind : Kind) (reply : Reply) (table after : TableState) (old new : Hart) : Type 0 where
  pub reply_is : reply ≡ reply_by (leaf_at_page old.space page table.leaves) page kind
  pub hart_is : new ≡ hart_replied reply va (hart_walked page table old)
  pub table_is : after ≡ table_walked old.space page table
