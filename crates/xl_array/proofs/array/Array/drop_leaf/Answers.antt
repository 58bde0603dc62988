use Rattle.xl_array.proofs.Common.{has_tag, is_same}
unfoldable use Rattle.xl_array.specs.Coding.{tag_of}
use Rattle.xl_array.proofs.DropLemmas.{drop_array, drop_kept, drop_there, left_over, tag_there}
use Rattle.xl_array.proofs.TagLemmas.{same_leaf}
use Rattle.xl_array.proofs.array.Array.drop_leaf.Goals as goal

pub invariant_of-self : goal.invariant_of-self
invariant_of-self g c =
    drop_kept c.self.inside.spec c.self.inside.sets c.remove_tag.new.self (is_same c.args.leaf) (has_tag (tag_of c.args.leaf.space c.args.leaf.first c.args.leaf.order))
    (λ x. same_leaf x c.args.leaf.space c.args.leaf.first c.args.leaf.order c.requires.space_in c.requires.aligned)
    (drop_there c.self.inside.spec c.self.inside.sets c.remove_tag.new.self g.row.W _ (has_tag (tag_of c.args.leaf.space c.args.leaf.first c.args.leaf.order)) c.self.invariant
    (tag_there c.self.inside.spec c.args.leaf.space c.args.leaf.first c.args.leaf.order c.requires.space_in)
    (rw (c.set_of-set.ensures.value, c.tag_of-tag.ensures) at c.remove_tag.ensures.gone.kept))
    g.row.W c.self.invariant

pub returns-clause-array : goal.returns-clause-array
returns-clause-array g c =
    rw (← c.self.view_is) (drop_array c.self.inside.spec c.self.inside.sets c.remove_tag.new.self (is_same c.args.leaf) (has_tag (tag_of c.args.leaf.space c.args.leaf.first c.args.leaf.order))
    (λ x. same_leaf x c.args.leaf.space c.args.leaf.first c.args.leaf.order c.requires.space_in c.requires.aligned)
    (drop_there c.self.inside.spec c.self.inside.sets c.remove_tag.new.self g.row.W _ (has_tag (tag_of c.args.leaf.space c.args.leaf.first c.args.leaf.order)) c.self.invariant
    (tag_there c.self.inside.spec c.args.leaf.space c.args.leaf.first c.args.leaf.order c.requires.space_in)
    (rw (c.set_of-set.ensures.value, c.tag_of-tag.ensures) at c.remove_tag.ensures.gone.kept)))

pub returns-clause-left : goal.returns-clause-left
returns-clause-left g c = rw (← c.self.view_is) (left_over c.remove_tag.result c.self.inside.sets c.remove_tag.new.self c.remove_tag.ensures.gone.count)
