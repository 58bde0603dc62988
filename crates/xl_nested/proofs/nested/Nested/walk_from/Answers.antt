use Rattle.xl_nested.proofs.Common.{◌+◌, ◌∙◌, ◌≡◌, IsAt, NestState, reply_from, Some, stage2, sym, walked_from}
use Rattle.xl_nested.proofs.WalkLemmas.{leaf-after, leaf-reply, missing-after, missing-reply, next-after, next-at, next-reply, nothing-after, nothing-reply, small-after, small-reply}
use Rattle.xl_model.specs.declared.address.Kind.TheVariants as kinds
use Rattle.xl_nested.proofs.nested.Nested.walk_from.Goals as goal

pub returns-in_default-clause-reply : goal.returns-in_default-clause-reply
returns-in_default-clause-reply c =
    let s : NestState = record { guest = c.self.inside.guest; host = c.self.inside.host; counts = c.self.inside.counts } in
    let at : IsAt c.down.level c.down.at c.args.page s.guest = rw (← c.self.view_is) at c.down.invariant.here in
    let reply : reply_from c.down.level c.args.page c.args.kind s ≡ reply_from c.args.start c.args.page c.args.kind c.args.self.now = rw (← c.self.view_is) at c.down.invariant.reply in
    missing-reply c.down.level c.down.at c.args.page c.args.kind s at (rw c.page_of_node-node_page.ensures.page at (sym c.in_default.ensures.frame)) ∙ reply

pub returns-in_default-clause-after : goal.returns-in_default-clause-after
returns-in_default-clause-after c =
    let s : NestState = record { guest = c.self.inside.guest; host = c.self.inside.host; counts = c.self.inside.counts } in
    let at : IsAt c.down.level c.down.at c.args.page s.guest = rw (← c.self.view_is) at c.down.invariant.here in
    let after : walked_from c.down.level c.args.page c.args.kind s ≡ walked_from c.args.start c.args.page c.args.kind c.args.self.now = rw (← c.self.view_is) at c.down.invariant.after in
    rw (c.translate.ensures.after, c.page_of_node-node_page.ensures.page) (missing-after c.down.level c.down.at c.args.page c.args.kind s at (rw c.page_of_node-node_page.ensures.page at (sym c.in_default.ensures.frame)) ∙ after)

pub down-preserved : goal.down-preserved
down-preserved c =
    let s : NestState = record { guest = c.self.inside.guest; host = c.self.inside.host; counts = c.self.inside.counts } in
    let at : IsAt c.down.level c.down.at c.args.page s.guest = rw (← c.self.view_is) at c.down.invariant.here in
    let reply : reply_from c.down.level c.args.page c.args.kind s ≡ reply_from c.args.start c.args.page c.args.kind c.args.self.now = rw (← c.self.view_is) at c.down.invariant.reply in
    let after : walked_from c.down.level c.args.page c.args.kind s ≡ walked_from c.args.start c.args.page c.args.kind c.args.self.now = rw (← c.self.view_is) at c.down.invariant.after in
    let there : stage2 s.host.stage.leaves (s.guest.base + c.down.at) kinds.Load ≡ Some c.in-Some._frame = rw c.page_of_node-node_page.ensures.page at (sym c.in-Some.ensures.frame) in
    record {
      here = rw c.load.ensures.after (next-at c.down.level c.down.at c.args.page c.args.kind s at c.in-Some._frame there c.in-Node.next c.in-Node.ensures.says);
      reply = rw (c.load.ensures.after, c.translate.ensures.after, c.page_of_node-node_page.ensures.page) (next-reply c.down.level c.down.at c.args.page c.args.kind s at c.in-Some._frame there c.in-Node.next c.in-Node.ensures.says ∙ reply);
      after = rw (c.load.ensures.after, c.translate.ensures.after, c.page_of_node-node_page.ensures.page) (next-after c.down.level c.down.at c.args.page c.args.kind s at c.in-Some._frame there c.in-Node.next c.in-Node.ensures.says ∙ after);
    }

pub returns-in-Small-clause-reply : goal.returns-in-Small-clause-reply
returns-in-Small-clause-reply c =
    let s : NestState = record { guest = c.self.inside.guest; host = c.self.inside.host; counts = c.self.inside.counts } in
    let at : IsAt c.down.level c.down.at c.args.page s.guest = rw (← c.self.view_is) at c.down.invariant.here in
    let reply : reply_from c.down.level c.args.page c.args.kind s ≡ reply_from c.args.start c.args.page c.args.kind c.args.self.now = rw (← c.self.view_is) at c.down.invariant.reply in
    let there : stage2 s.host.stage.leaves (s.guest.base + c.down.at) kinds.Load ≡ Some c.in-Some._frame = rw c.page_of_node-node_page.ensures.page at (sym c.in-Some.ensures.frame) in
    (rw (c.translate.ensures.after, c.page_of_node-node_page.ensures.page) at c.reach.ensures.reply) ∙ small-reply c.down.level c.down.at c.args.page c.args.kind s at c.in-Some._frame there c.in-Small.word c.frame_allowed.result c.frame_allowed.ensures.frame c.in-Small.ensures.says ∙ reply

pub returns-in-Small-clause-after : goal.returns-in-Small-clause-after
returns-in-Small-clause-after c =
    let s : NestState = record { guest = c.self.inside.guest; host = c.self.inside.host; counts = c.self.inside.counts } in
    let at : IsAt c.down.level c.down.at c.args.page s.guest = rw (← c.self.view_is) at c.down.invariant.here in
    let after : walked_from c.down.level c.args.page c.args.kind s ≡ walked_from c.args.start c.args.page c.args.kind c.args.self.now = rw (← c.self.view_is) at c.down.invariant.after in
    let there : stage2 s.host.stage.leaves (s.guest.base + c.down.at) kinds.Load ≡ Some c.in-Some._frame = rw c.page_of_node-node_page.ensures.page at (sym c.in-Some.ensures.frame) in
    (rw (c.load.ensures.after, c.translate.ensures.after, c.page_of_node-node_page.ensures.page) at c.reach.ensures.after) ∙ small-after c.down.level c.down.at c.args.page c.args.kind s at c.in-Some._frame there c.in-Small.word c.frame_allowed.result c.frame_allowed.ensures.frame c.in-Small.ensures.says ∙ after

pub returns-in-Leaf-clause-reply : goal.returns-in-Leaf-clause-reply
returns-in-Leaf-clause-reply c =
    let s : NestState = record { guest = c.self.inside.guest; host = c.self.inside.host; counts = c.self.inside.counts } in
    let at : IsAt c.down.level c.down.at c.args.page s.guest = rw (← c.self.view_is) at c.down.invariant.here in
    let reply : reply_from c.down.level c.args.page c.args.kind s ≡ reply_from c.args.start c.args.page c.args.kind c.args.self.now = rw (← c.self.view_is) at c.down.invariant.reply in
    let there : stage2 s.host.stage.leaves (s.guest.base + c.down.at) kinds.Load ≡ Some c.in-Some._frame = rw c.page_of_node-node_page.ensures.page at (sym c.in-Some.ensures.frame) in
    (rw (c.translate.ensures.after, c.page_of_node-node_page.ensures.page, c.frame_in.ensures.frame) at c.reach-in-Leaf.ensures.reply) ∙ leaf-reply c.down.level c.down.at c.args.page c.args.kind s at c.in-Some._frame there c.in-Leaf.leaf c.in-Leaf.ensures.says ∙ reply

pub returns-in-Leaf-clause-after : goal.returns-in-Leaf-clause-after
returns-in-Leaf-clause-after c =
    let s : NestState = record { guest = c.self.inside.guest; host = c.self.inside.host; counts = c.self.inside.counts } in
    let at : IsAt c.down.level c.down.at c.args.page s.guest = rw (← c.self.view_is) at c.down.invariant.here in
    let after : walked_from c.down.level c.args.page c.args.kind s ≡ walked_from c.args.start c.args.page c.args.kind c.args.self.now = rw (← c.self.view_is) at c.down.invariant.after in
    let there : stage2 s.host.stage.leaves (s.guest.base + c.down.at) kinds.Load ≡ Some c.in-Some._frame = rw c.page_of_node-node_page.ensures.page at (sym c.in-Some.ensures.frame) in
    (rw (c.load.ensures.after, c.translate.ensures.after, c.page_of_node-node_page.ensures.page, c.frame_in.ensures.frame) at c.reach-in-Leaf.ensures.after) ∙ leaf-after c.down.level c.down.at c.args.page c.args.kind s at c.in-Some._frame there c.in-Leaf.leaf c.in-Leaf.ensures.says ∙ after

pub returns-in-Nothing-clause-reply : goal.returns-in-Nothing-clause-reply
returns-in-Nothing-clause-reply c =
    let s : NestState = record { guest = c.self.inside.guest; host = c.self.inside.host; counts = c.self.inside.counts } in
    let at : IsAt c.down.level c.down.at c.args.page s.guest = rw (← c.self.view_is) at c.down.invariant.here in
    let reply : reply_from c.down.level c.args.page c.args.kind s ≡ reply_from c.args.start c.args.page c.args.kind c.args.self.now = rw (← c.self.view_is) at c.down.invariant.reply in
    let there : stage2 s.host.stage.leaves (s.guest.base + c.down.at) kinds.Load ≡ Some c.in-Some._frame = rw c.page_of_node-node_page.ensures.page at (sym c.in-Some.ensures.frame) in
    nothing-reply c.down.level c.down.at c.args.page c.args.kind s at c.in-Some._frame there c.in-Nothing.ensures.says ∙ reply

pub returns-in-Nothing-clause-after : goal.returns-in-Nothing-clause-after
returns-in-Nothing-clause-after c =
    let s : NestState = record { guest = c.self.inside.guest; host = c.self.inside.host; counts = c.self.inside.counts } in
    let at : IsAt c.down.level c.down.at c.args.page s.guest = rw (← c.self.view_is) at c.down.invariant.here in
    let after : walked_from c.down.level c.args.page c.args.kind s ≡ walked_from c.args.start c.args.page c.args.kind c.args.self.now = rw (← c.self.view_is) at c.down.invariant.after in
    let there : stage2 s.host.stage.leaves (s.guest.base + c.down.at) kinds.Load ≡ Some c.in-Some._frame = rw c.page_of_node-node_page.ensures.page at (sym c.in-Some.ensures.frame) in
    rw (c.load.ensures.after, c.translate.ensures.after, c.page_of_node-node_page.ensures.page) (nothing-after c.down.level c.down.at c.args.page c.args.kind s at c.in-Some._frame there c.in-Nothing.ensures.says ∙ after)
