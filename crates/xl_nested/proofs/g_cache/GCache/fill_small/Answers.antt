use Rattle.xl_nested.proofs.CodingLemmas.{filled-leaves, filled-small, small-kept}
use Rattle.xl_nested.proofs.g_cache.GCache.fill_small.Goals as goal

pub invariant_of-self : goal.invariant_of-self
invariant_of-self c = record {
  small = filled-small c.self.inside.list.width _ c.self.inside.list.items c.fill_list.new.list.items c.self.invariant.small c.requires.small c.fill_list.ensures.filled;
  orders = c.fill_list.ensures.orders;
}

pub returns-clause-filled : goal.returns-clause-filled
returns-clause-filled c =
    rw (← c.self.view_is) (filled-leaves _ _ c.self.inside.list.width c.self.inside.list.items c.fill_list.new.list.items (small-kept c.args.guest_page _ c.tag_of-tag.ensures.value) c.fill_list.ensures.filled)
