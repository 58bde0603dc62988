use Rattle.xl_array.proofs.Common.{covers_as, has_tag}
unfoldable use Rattle.xl_array.specs.Coding.{tag_of}
use Rattle.xl_array.proofs.DropLemmas.{drop_array, drop_kept, drop_there, left_over, tag_there}
use Rattle.xl_array.proofs.TagLemmas.{same_tag}
use Rattle.xl_array.proofs.array.Array.drop_as.Goals as goal

pub invariant_of-self : goal.invariant_of-self
invariant_of-self g c =
    drop_kept c.self.inside.spec c.self.inside.sets c.remove_tag.new.self (covers_as c.args.space c.args.page c.args.order) (has_tag (tag_of c.args.space c.args.page c.args.order))
    (λ x. same_tag x c.args.space c.args.page c.args.order c.requires.space)
    (drop_there c.self.inside.spec c.self.inside.sets c.remove_tag.new.self g.row.W _ (has_tag (tag_of c.args.space c.args.page c.args.order)) c.self.invariant
    (tag_there c.self.inside.spec c.args.space c.args.page c.args.order c.requires.space)
    (rw (c.set_of-set.ensures.value, c.tag_of-tag.ensures) at c.remove_tag.ensures.gone.kept))
    g.row.W c.self.invariant

pub returns-clause-array : goal.returns-clause-array
returns-clause-array g c =
    rw (← c.self.view_is) (drop_array c.self.inside.spec c.self.inside.sets c.remove_tag.new.self (covers_as c.args.space c.args.page c.args.order) (has_tag (tag_of c.args.space c.args.page c.args.order))
    (λ x. same_tag x c.args.space c.args.page c.args.order c.requires.space)
    (drop_there c.self.inside.spec c.self.inside.sets c.remove_tag.new.self g.row.W _ (has_tag (tag_of c.args.space c.args.page c.args.order)) c.self.invariant
    (tag_there c.self.inside.spec c.args.space c.args.page c.args.order c.requires.space)
    (rw (c.set_of-set.ensures.value, c.tag_of-tag.ensures) at c.remove_tag.ensures.gone.kept)))

pub returns-clause-left : goal.returns-clause-left
returns-clause-left g c = rw (← c.self.view_is) (left_over c.remove_tag.result c.self.inside.sets c.remove_tag.new.self c.remove_tag.ensures.gone.count)
