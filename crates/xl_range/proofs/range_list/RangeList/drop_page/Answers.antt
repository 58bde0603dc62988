use Rattle.xl_range.proofs.Common.{◌∙◌, ap, holds_page, item_holds, without_items}
use Rattle.xl_range.proofs.RangeLemmas.{purged_within, ranges_dropped}
use Rattle.xl_range.proofs.range_list.RangeList.drop_page.Goals as goal

pub returns-clause-after : goal.returns-clause-after
returns-clause-after c =
    let p = holds_page c.args.space c.args.page in
    ranges_dropped p c.self.inside.cache c.drop_holding.new.cache c.drop_holding.ensures.kept c.drop_holding.ensures.width ∙ ap (without_items p) c.self.view_is

pub invariant_of-self : goal.invariant_of-self
invariant_of-self c = purged_within (item_holds c.args.space c.args.page) c.self.inside.cache.items c.drop_holding.new.cache.items c.self.invariant c.drop_holding.ensures.kept
