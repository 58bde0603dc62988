-- Never a stale entry: what TLB arrays and walk caches hold is what the mapping and the shape have.
use Rattle.std.specs.Prelude.{List}
use Rattle.xl_model.specs.Rows.{Row}
use Rattle.xl_model.specs.RowRun.{RowState}
use Rattle.xl_model.specs.declared.script.Item.{Item}
use Rattle.xl_model.specs.Items.{run}
use Rattle.xl_model_laws.specs.FreshCaches.{CachesFresh}
use Rattle.xl_model_lemmas.specs.Fresh.{ArraysFresh}

-- what the arrays and the walk caches of a row hold is not stale
pub record IsFresh (s : RowState) : Type 0 where
  pub arrays : ArraysFresh s.arrays s.table.leaves
  pub caches : CachesFresh s.table.shape s.table.caches s.table.leaves

-- After every list of items nothing that is held beside the mapping is stale.
abbrev pub NothingIsStale : Type 0
NothingIsStale = (row : Row) (items : List Item) → IsFresh (run row items)
