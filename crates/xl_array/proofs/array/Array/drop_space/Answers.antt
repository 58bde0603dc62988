use Rattle.xl_array.proofs.Common.{has_space, is_of_space}
use Rattle.xl_array.proofs.DropLemmas.{drop_array, drop_kept, left_over}
use Rattle.xl_array.proofs.TagLemmas.{same_space}
use Rattle.xl_array.proofs.array.Array.drop_space.Goals as goal

pub invariant_of-self : goal.invariant_of-self
invariant_of-self g c = drop_kept c.self.inside.spec c.self.inside.sets c.drop_of_space.new.sets (is_of_space c.args.space) (has_space c.args.space) (λ x. same_space x c.args.space) c.drop_of_space.ensures.gone.kept g.row.W c.self.invariant

pub returns-clause-array : goal.returns-clause-array
returns-clause-array g c = rw (← c.self.view_is) (drop_array c.self.inside.spec c.self.inside.sets c.drop_of_space.new.sets (is_of_space c.args.space) (has_space c.args.space) (λ x. same_space x c.args.space) c.drop_of_space.ensures.gone.kept)

pub returns-clause-left : goal.returns-clause-left
returns-clause-left g c = rw (← c.self.view_is) (left_over c.drop_of_space.result c.self.inside.sets c.drop_of_space.new.sets c.drop_of_space.ensures.gone.count)
