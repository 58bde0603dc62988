use Rattle.xl_array.proofs.Common.{is_any, is_item, refl}
use Rattle.xl_array.proofs.DropLemmas.{drop_array, drop_kept, left_over}
use Rattle.xl_array.proofs.array.Array.drop_all.Goals as goal

pub invariant_of-self : goal.invariant_of-self
invariant_of-self g c = drop_kept c.self.inside.spec c.self.inside.sets c.drop_each.new.sets is_any is_item (λ x. refl) c.drop_each.ensures.gone.kept g.row.W c.self.invariant

pub returns-clause-array : goal.returns-clause-array
returns-clause-array g c = rw (← c.self.view_is) (drop_array c.self.inside.spec c.self.inside.sets c.drop_each.new.sets is_any is_item (λ x. refl) c.drop_each.ensures.gone.kept)

pub returns-clause-left : goal.returns-clause-left
returns-clause-left g c = rw (← c.self.view_is) (left_over c.drop_each.result c.self.inside.sets c.drop_each.new.sets c.drop_each.ensures.gone.count)
