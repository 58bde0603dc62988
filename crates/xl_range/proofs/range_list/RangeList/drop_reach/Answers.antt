use Rattle.xl_range.proofs.Common.{◌∙◌, ap, item_reached, reaches_range, without_items}
use Rattle.xl_range.proofs.RangeLemmas.{purged_within, ranges_dropped}
use Rattle.xl_range.proofs.range_list.RangeList.drop_reach.Goals as goal

pub returns-clause-after : goal.returns-clause-after
returns-clause-after c =
    let p = reaches_range c.args.reach in
    ranges_dropped p c.self.inside.cache c.drop_reached.new.cache c.drop_reached.ensures.kept c.drop_reached.ensures.width ∙ ap (without_items p) c.self.view_is

pub invariant_of-self : goal.invariant_of-self
invariant_of-self c = purged_within (item_reached c.args.reach) c.self.inside.cache.items c.drop_reached.new.cache.items c.self.invariant c.drop_reached.ensures.kept
