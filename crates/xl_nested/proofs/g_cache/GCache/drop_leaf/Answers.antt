use Rattle.xl_nested.proofs.Common.{has_tag}
use Rattle.xl_nested.proofs.CodingLemmas.{purged-leaves, purged-small}
use Rattle.xl_nested.proofs.GuestLemmas.{first-low}
use Rattle.xl_nested.proofs.HeldLemmas.{held-purged}
use Rattle.xl_nested.proofs.g_cache.GCache.drop_leaf.Goals as goal

pub tag_of-requires : goal.tag_of-requires
tag_of-requires c = first-low c.args.guest_page c.args.order _ c.requires

pub invariant_of-self : goal.invariant_of-self
invariant_of-self c = record {
  small = purged-small (has_tag c.tag_of.result) c.self.inside.list.items c.remove_tag.new.list.items c.self.invariant.small c.remove_tag.ensures.kept.1.kept;
  orders = held-purged c.self.inside.held c.self.inside.list c.remove_tag.new.list (has_tag c.tag_of.result) c.self.invariant.orders c.remove_tag.ensures.width c.remove_tag.ensures.kept.1.kept;
}

pub returns-clause-kept : goal.returns-clause-kept
returns-clause-kept c =
    rw (← c.self.view_is) (purged-leaves c.args.guest_page c.args.order c.self.inside.list.items c.remove_tag.new.list.items c.requires (rw c.tag_of.ensures.value at c.remove_tag.ensures.kept.1.kept))
