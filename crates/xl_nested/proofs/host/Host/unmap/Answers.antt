use Rattle.xl_nested.proofs.Common.{◌≡◌, host_page, host_space, leaf_named, Some, sym}
use Rattle.xl_nested.proofs.HostLemmas.{old-frames, unmap-done, unmapped-kept}
use Rattle.xl_nested.proofs.host.Host.unmap.Goals as goal

pub give-requires : goal.give-requires
give-requires c = old-frames c.self.invariant c.space_of-space.result c.page_in-first.result c.args.order c.in-Some.leaf (sym c.in-Some.ensures)

pub invariant_of-self : goal.invariant_of-self
invariant_of-self c =
    let named : leaf_named (host_space c.args.guest_page) (host_page c.args.guest_page) c.args.order c.self.inside.stage.leaves ≡ Some c.in-Some.leaf = rw (← c.space_of-space.ensures.value, ← c.page_in-first.ensures.value) (sym c.in-Some.ensures) in
    rw (c.remove.ensures, c.give.ensures, c.space_of-space.ensures.value, c.page_in-first.ensures.value)
    (unmapped-kept c.self.invariant (host_space c.args.guest_page) (host_page c.args.guest_page) c.args.order c.in-Some.leaf c.drop_leaf.new.self named c.drop_leaf.ensures.kept)

pub returns : goal.returns
returns c =
    let named : leaf_named (host_space c.args.guest_page) (host_page c.args.guest_page) c.args.order c.self.inside.stage.leaves ≡ Some c.in-Some.leaf = rw (← c.space_of-space.ensures.value, ← c.page_in-first.ensures.value) (sym c.in-Some.ensures) in
    let gone = rw (c.space_of-space.ensures.value, c.page_in-first.ensures.value) at c.remove.ensures in
    rw (← c.self.view_is) (unmap-done c.self.invariant c.args.guest_page c.args.order c.in-Some.leaf c.self.inside.hits c.remove.new.self c.give.new.self c.drop_leaf.new.self named gone c.give.ensures c.drop_leaf.ensures.width c.drop_leaf.ensures.kept)
