use Rattle.xl_range.proofs.Common.{◌∙◌, ap, with_fill, with_newest}
use Rattle.xl_range.proofs.RangeLemmas.{filled_within, range_filled}
use Rattle.xl_range.proofs.range_list.RangeList.fill.Goals as goal

pub returns : goal.returns
returns c =
    range_filled c.self.inside.cache c.fill-left.new.self c.args.range c.requires
    (c.fill-left.ensures.filled.list ∙ ap (λ x. with_newest c.self.inside.cache.width x c.self.inside.cache.items) c.item_of_range.ensures) c.fill-left.ensures.width
    ∙ ap (with_fill c.args.range) c.self.view_is

pub invariant_of-self : goal.invariant_of-self
invariant_of-self c =
    filled_within c.self.inside.cache.width c.args.range c.self.inside.cache.items c.fill-left.new.self.items c.self.invariant c.requires
    (c.fill-left.ensures.filled.list ∙ ap (λ x. with_newest c.self.inside.cache.width x c.self.inside.cache.items) c.item_of_range.ensures)
