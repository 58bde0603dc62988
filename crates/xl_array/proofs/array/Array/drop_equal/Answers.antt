use Rattle.xl_array.proofs.Common.{is_equal, keeps_leaf}
unfoldable use Rattle.xl_array.specs.Coding.{tag_of}
use Rattle.xl_array.proofs.DropLemmas.{drop_array, drop_kept, drop_there, left_over}
use Rattle.xl_array.proofs.EqualLemmas.{kept_there, same_kept}
use Rattle.xl_array.proofs.array.Array.drop_equal.Goals as goal

pub invariant_of-self : goal.invariant_of-self
invariant_of-self g c =
    let x = c.args.leaf in
    drop_kept c.self.inside.spec c.self.inside.sets c.drop_kept.new.sets (is_equal x) (keeps_leaf (tag_of x.space x.first x.order) x.frame x.perm)
    (λ i. same_kept i x c.requires)
    (drop_there c.self.inside.spec c.self.inside.sets c.drop_kept.new.sets g.row.W _ (keeps_leaf (tag_of x.space x.first x.order) x.frame x.perm) c.self.invariant
    (kept_there c.self.inside.spec x c.requires.space_in)
    (rw (c.set_of-set.ensures.value, c.tag_of-tag.ensures) at c.drop_kept.ensures.gone.kept))
    g.row.W c.self.invariant

pub returns-clause-array : goal.returns-clause-array
returns-clause-array g c =
    let x = c.args.leaf in
    rw (← c.self.view_is) (drop_array c.self.inside.spec c.self.inside.sets c.drop_kept.new.sets (is_equal x) (keeps_leaf (tag_of x.space x.first x.order) x.frame x.perm)
    (λ i. same_kept i x c.requires)
    (drop_there c.self.inside.spec c.self.inside.sets c.drop_kept.new.sets g.row.W _ (keeps_leaf (tag_of x.space x.first x.order) x.frame x.perm) c.self.invariant
    (kept_there c.self.inside.spec x c.requires.space_in)
    (rw (c.set_of-set.ensures.value, c.tag_of-tag.ensures) at c.drop_kept.ensures.gone.kept)))

pub returns-clause-left : goal.returns-clause-left
returns-clause-left g c = rw (← c.self.view_is) (left_over c.drop_kept.result c.self.inside.sets c.drop_kept.new.sets c.drop_kept.ensures.gone.count)
