-- TLB arrays: hits, fills, purges and fences.
use Rattle.std.specs.Prelude.{true, List, [], ◌∷◌}
use Rattle.xl_model.specs.declared.address.Order.TheVariants as order
use Rattle.xl_model.specs.declared.address.Kind.TheVariants as kind
use Rattle.xl_model.specs.declared.event.Event.TheVariants as event
use Rattle.xl_model.specs.declared.event.Scope.TheVariants as scope
use Rattle.xl_model.specs.declared.row.Purge.TheVariants as purge
use Rattle.xl_model.specs.Rows.{Row}
use Rattle.xl_model.specs.declared.script.Item.{Item}
use Rattle.xl_model.specs.declared.script.Item.TheVariants.{Command, Referenced}
use Rattle.xl_model.specs.declared.row.Serves.TheVariants as serves
use Rattle.xl_model_rows.specs.Plain.{plain_row, one_array, perm_r__u, perm_rw_u}

-- A store on a read-only leaf that hits.
abbrev pub denied_on_a_hit_rows : List Row
denied_on_a_hit_rows = (record plain_row { tlb = one_array }) ∷ []

-- What is served then.
abbrev pub denied_on_a_hit_items : List Item
denied_on_a_hit_items =
    (Command (event.Map 0 4096 order.K4 perm_r__u)) ∷
    (Referenced 1 4096 kind.Load) ∷
    (Referenced 2 4096 kind.Store) ∷ []

-- The same with its answer lines.
abbrev pub denied_on_a_hit_known_rows : List Row
denied_on_a_hit_known_rows = (record plain_row { tlb = one_array }) ∷ []

-- What is served then.
abbrev pub denied_on_a_hit_known_items : List Item
denied_on_a_hit_known_items =
    (Command (event.Map 0 4096 order.K4 perm_r__u)) ∷
    (Referenced 1 4096 kind.Load) ∷
    (Referenced 2 4096 kind.Store) ∷ []

-- A protect purges the leaf.
abbrev pub a_protect_rows : List Row
a_protect_rows = (record plain_row { tlb = one_array }) ∷ []

-- What is served then.
abbrev pub a_protect_items : List Item
a_protect_items =
    (Command (event.Map 0 4096 order.K4 perm_r__u)) ∷
    (Referenced 1 4096 kind.Load) ∷
    (Referenced 2 4096 kind.Load) ∷
    (Command (event.Protect 0 4096 order.K4 perm_rw_u)) ∷
    (Referenced 3 4096 kind.Store) ∷ []

-- The same frame again, and no stale permission.
abbrev pub an_unmap_rows : List Row
an_unmap_rows = (record plain_row { tlb = one_array }) ∷ []

-- What is served then.
abbrev pub an_unmap_items : List Item
an_unmap_items =
    (Command (event.Map 0 4096 order.K4 perm_rw_u)) ∷
    (Referenced 1 4096 kind.Store) ∷
    (Command (event.Unmap 0 4096 order.K4)) ∷
    (Command (event.Map 0 4096 order.K4 perm_r__u)) ∷
    (Referenced 2 4096 kind.Store) ∷ []

-- Fences by space, by page and by address remove 1, 1 and 2 entries.
abbrev pub spaces_and_fences_rows : List Row
spaces_and_fences_rows = (record plain_row { tlb = one_array }) ∷ []

-- What is served then.
abbrev pub spaces_and_fences_items : List Item
spaces_and_fences_items =
    (Command (event.Map 0 4096 order.K4 perm_r__u)) ∷
    (Command (event.Map 1 4096 order.K4 perm_r__u)) ∷
    (Referenced 1 4096 kind.Load) ∷
    (Command (event.Space 1)) ∷
    (Referenced 2 4096 kind.Load) ∷
    (Command (event.Fence (scope.Space 1))) ∷
    (Referenced 3 4096 kind.Load) ∷
    (Command (event.Space 0)) ∷
    (Referenced 4 4096 kind.Load) ∷
    (Command (event.Fence (scope.Page 0 4096))) ∷
    (Referenced 5 4096 kind.Load) ∷
    (Command (event.Fence (scope.Addr 4096))) ∷
    (Referenced 6 4096 kind.Load) ∷ []

-- A hit in the second level fills the first.
abbrev pub two_levels_rows : List Row
two_levels_rows = (record plain_row { tlb = (record { level = 1; sets = 1; width = 1; k4 = true; m2 = true; g1 = true; serves = serves.All }) ∷ (record { level = 2; sets = 1; width = 4; k4 = true; m2 = true; g1 = true; serves = serves.All }) ∷ [] }) ∷ []

-- What is served then.
abbrev pub two_levels_items : List Item
two_levels_items =
    (Command (event.Map 0 4096 order.K4 perm_r__u)) ∷
    (Command (event.Map 0 8192 order.K4 perm_r__u)) ∷
    (Referenced 1 4096 kind.Load) ∷
    (Referenced 2 8192 kind.Load) ∷
    (Referenced 3 4096 kind.Load) ∷ []

-- An unmap that purges everything.
abbrev pub purge_all_rows : List Row
purge_all_rows = (record plain_row { purge = purge.All; tlb = one_array }) ∷ []

-- What is served then.
abbrev pub purge_all_items : List Item
purge_all_items =
    (Command (event.Map 0 4096 order.K4 perm_r__u)) ∷
    (Command (event.Map 0 8192 order.K4 perm_r__u)) ∷
    (Referenced 1 4096 kind.Load) ∷
    (Referenced 2 8192 kind.Load) ∷
    (Command (event.Unmap 0 4096 order.K4)) ∷
    (Referenced 3 8192 kind.Load) ∷ []

-- An unmap that purges the leaf alone.
abbrev pub purge_page_rows : List Row
purge_page_rows = (record plain_row { tlb = one_array }) ∷ []

-- What is served then.
abbrev pub purge_page_items : List Item
purge_page_items =
    (Command (event.Map 0 4096 order.K4 perm_r__u)) ∷
    (Command (event.Map 0 8192 order.K4 perm_r__u)) ∷
    (Referenced 1 4096 kind.Load) ∷
    (Referenced 2 8192 kind.Load) ∷
    (Command (event.Unmap 0 4096 order.K4)) ∷
    (Referenced 3 8192 kind.Load) ∷ []
