-- The mapping: the leaves of all spaces, sorted by space, then first page. What an access finds in it
-- (RISC-V Privileged manual, user accesses).
use Rattle.std.specs.Prelude.{ℕ, ◌+◌, ◌-◌, ◌*◌, ◌^◌, ◌==◌, Bool, true, false, ◌&&◌, nat_le, nat_lt, if◌then◌else◌, List, [], ◌∷◌, find, filter, Option, None, Some}
use Rattle.std.specs.List.{list_any}
use Rattle.xl_model.specs.declared.address.Mode.{Mode}
use Rattle.xl_model.specs.declared.address.Order.{Order}
use Rattle.xl_model.specs.declared.address.Kind.{Kind}
use Rattle.xl_model.specs.declared.leaf.Leaf.{Leaf}
use Rattle.xl_model.specs.declared.leaf.Reply.{Reply}
use Rattle.xl_model.specs.declared.leaf.Reply.TheVariants as reply
use Rattle.xl_model.specs.Addresses.{is_canonical, page_of, pages_of, same_order, allows}

-- a leaf covers a page of a space
abbrev pub covers : ℕ → ℕ → Leaf → Bool
covers space page leaf =
    (leaf.space == space) && (nat_le leaf.first page && nat_lt page (leaf.first + pages_of leaf.order))

-- a leaf has a page of a block
abbrev pub meets_block : ℕ → ℕ → Order → Leaf → Bool
meets_block space first order leaf =
    (leaf.space == space)
    && (nat_lt leaf.first (first + pages_of order) && nat_lt first (leaf.first + pages_of leaf.order))

-- a leaf holds a frame of a block of frames
abbrev pub holds_frames : ℕ → ℕ → Leaf → Bool
holds_frames at size leaf = nat_lt leaf.frame (at + size) && nat_lt at (leaf.frame + pages_of leaf.order)

-- the leaf of this space, first page and order
abbrev pub is_leaf : ℕ → ℕ → Order → Leaf → Bool
is_leaf space first order leaf = (leaf.space == space) && ((leaf.first == first) && same_order leaf.order order)

-- The leaf that covers a page of a space.
unfoldable pub leaf_at_page : ℕ → ℕ → List Leaf → Option Leaf
leaf_at_page space page leaves = find (covers space page) leaves

-- Some leaf has a page of a block.
unfoldable pub meets_any : ℕ → ℕ → Order → List Leaf → Bool
meets_any space first order leaves = list_any (meets_block space first order) leaves

-- The leaf of exactly this space, first page and order.
unfoldable pub leaf_named : ℕ → ℕ → Order → List Leaf → Option Leaf
leaf_named space first order leaves = find (is_leaf space first order) leaves

-- Leaves are sorted by this number: first pages are below 2^52.
abbrev pub leaf_key : Leaf → ℕ
leaf_key leaf = leaf.space * 2 ^ 52 + leaf.first

-- the mapping with one leaf more; a leaf of the same place gives way
abbrev pub with_leaf : Leaf → List Leaf → List Leaf
with_leaf leaf [] = leaf ∷ []
with_leaf leaf (x ∷ xs) =
    if leaf_key leaf == leaf_key x
    then leaf ∷ xs
    else (if nat_lt (leaf_key leaf) (leaf_key x) then leaf ∷ x ∷ xs else (x ∷ with_leaf leaf xs))

-- the mapping without the leaf of this place
unfoldable pub without_leaf : ℕ → ℕ → List Leaf → List Leaf
without_leaf space first leaves = filter (λ leaf. if leaf.space * 2 ^ 52 + leaf.first == space * 2 ^ 52 + first then false else true) leaves

-- The reply to a canonical access, by the leaf that covers its page.
abbrev pub reply_by : Option Leaf → ℕ → Kind → Reply
reply_by None page kind = reply.Unmapped
reply_by (Some leaf) page kind =
    if allows leaf.perm kind then reply.Frame (leaf.frame + (page - leaf.first)) else reply.Denied

-- Not canonical, or else the answer.
abbrev pub reply_where : Bool → Reply → Reply
reply_where false answer = reply.NotCanonical
reply_where true answer = answer

-- the reply to an access: not canonical, then unmapped, then denied, else the frame of its page
unfoldable pub flat : List Leaf → Mode → ℕ → ℕ → Kind → Reply
flat leaves m space va kind =
    reply_where (is_canonical m va) (reply_by (leaf_at_page space (page_of m va) leaves) (page_of m va) kind)
