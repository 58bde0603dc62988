-- What a purge takes from a curve.
use Rattle.std.specs.Prelude.{ℕ, ◌==◌, Bool, true}
use Rattle.xl_model.specs.declared.address.Order.{Order}
use Rattle.xl_model.specs.declared.leaf.Leaf.{Leaf}
use Rattle.xl_model.specs.declared.row.Purge.{Purge}
use Rattle.xl_model.specs.declared.row.Purge.TheVariants as purge
use Rattle.xl_model.specs.Mapping.{is_leaf}

-- What a purge takes of the leaf of this space, first page and order: that leaf, those of its space, or all.
abbrev pub purges : Purge → ℕ → ℕ → Order → Leaf → Bool
purges purge.Page space first order leaf = is_leaf space first order leaf
purges purge.Space space first order leaf = leaf.space == space
purges purge.All space first order leaf = true
