use Rattle.xl_nested.proofs.CodingLemmas.{filled-leaves, filled-small}
use Rattle.xl_nested.proofs.g_cache.GCache.fill.Goals as goal

pub invariant_of-self : goal.invariant_of-self
invariant_of-self c = record {
  small = filled-small c.self.inside.list.width c.item_of.result c.self.inside.list.items c.fill_list.new.list.items c.self.invariant.small c.item_of.ensures.small c.fill_list.ensures.filled;
  orders = c.fill_list.ensures.orders;
}

pub returns-clause-filled : goal.returns-clause-filled
returns-clause-filled c =
    rw (← c.self.view_is) (filled-leaves c.args.leaf c.item_of.result c.self.inside.list.width c.self.inside.list.items c.fill_list.new.list.items c.item_of.ensures.leaf c.fill_list.ensures.filled)
