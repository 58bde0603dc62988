-- The commands of a guest over a host: refusals 1 to 6, in the order in which they are tested, and the stage after
-- a command that none of them refuses.
use Rattle.std.specs.Prelude.{ℕ, ◌/◌, ◌^◌, Bool, true, false, not, nat_le, ◌||◌, is_some, Option, None, Some}
use Rattle.xl_model.specs.declared.address.Mode.TheVariants as mode
use Rattle.xl_model.specs.declared.address.Order.{Order}
use Rattle.xl_nested_model.specs.declared.nest.NestRefusal.{NestRefusal}
use Rattle.xl_nested_model.specs.declared.nest.NestRefusal.TheVariants as refused
use Rattle.xl_model.specs.declared.perm.Perm.{Perm}
use Rattle.xl_model.specs.Addresses.{is_aligned, is_canonical, page_of}
use Rattle.xl_model.specs.Caches.{without_items}
use Rattle.xl_model.specs.Changes.{Change, Insert, Remove, changed}
use Rattle.xl_model.specs.Frames.{lowest}
use Rattle.xl_model.specs.Mapping.{is_leaf, meets_any, leaf_named}
use Rattle.xl_model.specs.Room.{has_room}
use Rattle.xl_model.specs.Rules.{insert_at}
use Rattle.xl_model.specs.Shapes.{shape_after}
use Rattle.xl_nested_model.specs.Stages.{Stage, Guest, Host, host_space, host_page}

-- This refusal where the test holds, else the next one.
abbrev pub refused_if : Bool → NestRefusal → Option NestRefusal → Option NestRefusal
refused_if true r next = Some r
refused_if false r next = next

-- The address has more than the 41 bits of a guest physical address.
abbrev pub is_beyond : ℕ → Bool
is_beyond gaddr = nat_le (2 ^ 41) gaddr

-- 5 and 6: no block of frames is free, so there is no change; the table has no room for the change.
abbrev pub room_rule : Option Change → Stage → Option NestRefusal
room_rule None stage = Some refused.NoFrames
room_rule (Some c) stage = refused_if (not (has_room c stage.leaves stage.shape)) refused.NoTable None

-- 4 to 6, of a map: a leaf of the stage has a page of the block; then 5 and 6.
abbrev pub map_rule : ℕ → ℕ → Order → Option Change → Stage → Option NestRefusal
map_rule space first o c stage = refused_if (meets_any space first o stage.leaves) refused.Overlap (room_rule c stage)

-- 3, of an unmap: no leaf of the stage is exactly the one named.
abbrev pub unmap_rule : ℕ → ℕ → Order → Stage → Option NestRefusal
unmap_rule space first o stage = refused_if (not (is_some (leaf_named space first o stage.leaves))) refused.Absent None

-- A stage after the change of its table, if there is one.
abbrev pub stage_after : Option Change → Stage → Stage
stage_after None stage = stage
stage_after (Some c) stage = record stage { leaves = changed c stage.leaves; shape = shape_after c stage.leaves stage.shape }

-- The change of a map at the host: the leaf takes the lowest free block of frames. None where no
-- block is free.
abbrev pub host_map : ℕ → Order → Perm → Host → Option Change
host_map g o perm host =
    insert_at (host_space g) (host_page g) o
    (record { space = host_space g; first = host_page g; order = o; frame = 0; perm = perm })
    (lowest host.frames o host.stage.leaves)

-- The change of an unmap at the host.
abbrev pub host_unmap : ℕ → Order → Change
host_unmap g o = Remove (host_space g) (host_page g) o

-- The change of a map at the guest: the leaf's frames are the guest pages named, which other leaves
-- may have too.
abbrev pub guest_map : ℕ → Order → ℕ → Perm → Change
guest_map page o g perm = Insert (record { space = 0; first = page; order = o; frame = g; perm = perm })

-- The first refusal that holds of a map at the host.
unfoldable pub gmap_rule : ℕ → Order → Perm → Host → Option NestRefusal
gmap_rule gaddr o perm host =
    refused_if (is_beyond gaddr) refused.BadAddress
    (refused_if (not (is_aligned o gaddr)) refused.Misaligned
    (map_rule (host_space (gaddr / 4096)) (host_page (gaddr / 4096)) o (host_map (gaddr / 4096) o perm host) host.stage))

-- The first refusal that holds of an unmap at the host.
unfoldable pub gunmap_rule : ℕ → Order → Host → Option NestRefusal
gunmap_rule gaddr o host =
    refused_if (is_beyond gaddr) refused.BadAddress
    (refused_if (not (is_aligned o gaddr)) refused.Misaligned
    (unmap_rule (host_space (gaddr / 4096)) (host_page (gaddr / 4096)) o host.stage))

-- The first refusal that holds of a map at the guest.
unfoldable pub vmap_rule : ℕ → Order → ℕ → Perm → Guest → Option NestRefusal
vmap_rule va o gaddr perm guest =
    refused_if (not (is_canonical mode.Sv39 va) || is_beyond gaddr) refused.BadAddress
    (refused_if (not (is_aligned o va) || not (is_aligned o gaddr)) refused.Misaligned
    (map_rule 0 (page_of mode.Sv39 va) o (Some (guest_map (page_of mode.Sv39 va) o (gaddr / 4096) perm)) guest.stage))

-- The first refusal that holds of an unmap at the guest.
unfoldable pub vunmap_rule : ℕ → Order → Guest → Option NestRefusal
vunmap_rule va o guest =
    refused_if (not (is_canonical mode.Sv39 va)) refused.BadAddress
    (refused_if (not (is_aligned o va)) refused.Misaligned (unmap_rule 0 (page_of mode.Sv39 va) o guest.stage))

-- The host after a map.
unfoldable pub gmapped : ℕ → Order → Perm → Host → Host
gmapped g o perm host = record host { stage = stage_after (host_map g o perm host) host.stage }

-- The host after an unmap, which removes the leaf from the G cache too.
unfoldable pub gunmapped : ℕ → Order → Host → Host
gunmapped g o host = record host {
  stage = stage_after (Some (host_unmap g o)) host.stage;
  cache = without_items (is_leaf (host_space g) (host_page g) o) host.cache;
}

-- The guest after a map.
unfoldable pub vmapped : ℕ → Order → ℕ → Perm → Guest → Guest
vmapped page o g perm guest = record guest { stage = stage_after (Some (guest_map page o g perm)) guest.stage }

-- The guest after an unmap.
unfoldable pub vunmapped : ℕ → Order → Guest → Guest
vunmapped page o guest = record guest { stage = stage_after (Some (Remove 0 page o)) guest.stage }
