use Rattle.xl_array.proofs.Common.{covers_anywhere_as, has_block}
unfoldable use Rattle.xl_array.specs.Coding.{tag_of}
use Rattle.xl_array.proofs.DropLemmas.{block_there, drop_array, drop_kept, drop_there, left_over}
use Rattle.xl_array.proofs.TagLemmas.{same_block}
use Rattle.xl_array.proofs.array.Array.drop_anywhere_as.Goals as goal

pub invariant_of-self : goal.invariant_of-self
invariant_of-self g c =
    drop_kept c.self.inside.spec c.self.inside.sets c.drop_block.new.sets (covers_anywhere_as c.args.page c.args.order) (has_block (tag_of 0 c.args.page c.args.order))
    (λ x. same_block x c.args.page c.args.order)
    (drop_there c.self.inside.spec c.self.inside.sets c.drop_block.new.sets g.row.W _ (has_block (tag_of 0 c.args.page c.args.order)) c.self.invariant
    (block_there c.self.inside.spec c.args.page c.args.order)
    (rw (c.set_of-set.ensures.value, c.tag_of-tag.ensures) at c.drop_block.ensures.gone.kept))
    g.row.W c.self.invariant

pub returns-clause-array : goal.returns-clause-array
returns-clause-array g c =
    rw (← c.self.view_is) (drop_array c.self.inside.spec c.self.inside.sets c.drop_block.new.sets (covers_anywhere_as c.args.page c.args.order) (has_block (tag_of 0 c.args.page c.args.order))
    (λ x. same_block x c.args.page c.args.order)
    (drop_there c.self.inside.spec c.self.inside.sets c.drop_block.new.sets g.row.W _ (has_block (tag_of 0 c.args.page c.args.order)) c.self.invariant
    (block_there c.self.inside.spec c.args.page c.args.order)
    (rw (c.set_of-set.ensures.value, c.tag_of-tag.ensures) at c.drop_block.ensures.gone.kept)))

pub returns-clause-left : goal.returns-clause-left
returns-clause-left g c = rw (← c.self.view_is) (left_over c.drop_block.result c.self.inside.sets c.drop_block.new.sets c.drop_block.ensures.gone.count)
