-- Refusals 1 to 7, in the order in which they are tested, and the change that a command is.
use Rattle.std.specs.Prelude.{ℕ, Bool, true, false, not, nat_lt, List, [], ◌∷◌, Option, None, Some}
use Rattle.std.specs.List.{list_all}
use Rattle.xl_model.specs.declared.address.Order.{Order}
use Rattle.xl_model.specs.declared.leaf.Leaf.{Leaf}
use Rattle.xl_model.specs.declared.event.Scope.{Scope}
use Rattle.xl_model.specs.declared.event.Scope.TheVariants as scope
use Rattle.xl_model.specs.declared.event.Event.{Event}
use Rattle.xl_model.specs.declared.event.Event.TheVariants as event
use Rattle.xl_model.specs.declared.event.Refusal.{Refusal}
use Rattle.xl_model.specs.declared.event.Refusal.TheVariants as refused
use Rattle.xl_model.specs.Addresses.{is_canonical, is_aligned, page_of}
use Rattle.xl_model.specs.Mapping.{leaf_at_page, is_leaf, meets_any}
use Rattle.xl_model.specs.Frames.{lowest}
use Rattle.xl_model.specs.Changes.{Change, Insert, Remove, Protect, Relocate}
use Rattle.xl_model.specs.Rows.{Row}

-- The first refusal, or else the second.
abbrev pub or_else : Option Refusal → Option Refusal → Option Refusal
or_else (Some r) next = Some r
or_else None next = next

-- A refusal, unless the test holds.
abbrev pub unless : Bool → Refusal → Option Refusal
unless true r = None
unless false r = Some r

-- 1 to 3: the space is the row's, each address canonical, then each address aligned
abbrev pub place_rule : Row → ℕ → Order → List ℕ → Option Refusal
place_rule row space o addresses =
    or_else (unless (nat_lt space row.spaces) refused.BadSpace)
    (or_else (unless (list_all (is_canonical row.mode) addresses) refused.NotCanonical)
    (unless (list_all (is_aligned o) addresses) refused.Misaligned))

-- 4 and 5: a leaf covers the page, and it is the one that is named
abbrev pub named_rule : Option Leaf → ℕ → ℕ → Order → Option Refusal
named_rule None space first o = Some refused.Unmapped
named_rule (Some leaf) space first o = unless (is_leaf space first o leaf) refused.WrongSize

-- 4 and 5 of a command's address: exactly the leaf that is named covers its page.
abbrev pub there_rule : Row → List Leaf → ℕ → ℕ → Order → Option Refusal
there_rule row leaves space va o = named_rule (leaf_at_page space (page_of row.mode va) leaves) space (page_of row.mode va) o

-- 6: no leaf overlaps the block
abbrev pub overlap_rule : Row → List Leaf → ℕ → ℕ → Order → Option Refusal
overlap_rule row leaves space va o = unless (not (meets_any space (page_of row.mode va) o leaves)) refused.Overlap

-- 7: there is a free block of frames
abbrev pub frames_rule : Option ℕ → Option Refusal
frames_rule None = Some refused.NoFrames
frames_rule (Some at) = None

-- 1 and 2 of a fence, which names a space, an address or both.
abbrev pub fence_rule : Row → Scope → Option Refusal
fence_rule row scope.All = None
fence_rule row (scope.Space space) = unless (nat_lt space row.spaces) refused.BadSpace
fence_rule row (scope.Addr va) = unless (is_canonical row.mode va) refused.NotCanonical
fence_rule row (scope.Page space va) =
    or_else (unless (nat_lt space row.spaces) refused.BadSpace) (unless (is_canonical row.mode va) refused.NotCanonical)

-- The first of refusals 1 to 7 that holds for an event.
unfoldable pub rule : Row → List Leaf → Event → Option Refusal
rule row leaves (event.Access va kind) = None
rule row leaves (event.Map space va o perm) =
    or_else (place_rule row space o (va ∷ []))
    (or_else (overlap_rule row leaves space va o) (frames_rule (lowest row.frames o leaves)))
rule row leaves (event.Unmap space va o) =
    or_else (place_rule row space o (va ∷ [])) (there_rule row leaves space va o)
rule row leaves (event.Protect space va o perm) =
    or_else (place_rule row space o (va ∷ [])) (there_rule row leaves space va o)
rule row leaves (event.Move space from to o) =
    or_else (place_rule row space o (from ∷ to ∷ []))
    (or_else (there_rule row leaves space from o) (overlap_rule row leaves space to o))
rule row leaves (event.Space space) = unless (nat_lt space row.spaces) refused.BadSpace
rule row leaves (event.Fence s) = fence_rule row s

-- A leaf comes, in the frames from here on.
abbrev pub insert_at : ℕ → ℕ → Order → Leaf → Option ℕ → Option Change
insert_at space first o leaf None = None
insert_at space first o leaf (Some at) = Some (Insert (record leaf { frame = at }))

-- the change that a command is, where no refusal stops it
unfoldable pub change_of : Row → List Leaf → Event → Option Change
change_of row leaves (event.Access va kind) = None
change_of row leaves (event.Map space va o perm) =
    insert_at space (page_of row.mode va) o
    (record { space = space; first = page_of row.mode va; order = o; frame = 0; perm = perm })
    (lowest row.frames o leaves)
change_of row leaves (event.Unmap space va o) = Some (Remove space (page_of row.mode va) o)
change_of row leaves (event.Protect space va o perm) = Some (Protect space (page_of row.mode va) o perm)
change_of row leaves (event.Move space from to o) =
    Some (Relocate space (page_of row.mode from) (page_of row.mode to) o)
change_of row leaves (event.Space space) = None
change_of row leaves (event.Fence s) = None
