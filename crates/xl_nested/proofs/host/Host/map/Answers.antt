use Rattle.xl_nested.proofs.Common.{◌∙◌, ◌≡◌, false, host_page, host_space, meets_any, refl, sym}
use Rattle.xl_nested.proofs.GuestLemmas.{block-of}
use Rattle.xl_nested.proofs.HostLemmas.{given-kept, leaf-for, map-done, map-undone, mapped-kept, no-frames, place-in}
use Rattle.xl_nested.proofs.host.Host.map.Goals as goal

pub meets-requires : goal.meets-requires
meets-requires c =
    let p = place-in c.args.guest_page c.args.order c.requires in
    rw (c.space_of-space.ensures.value, c.page_in-first.ensures.value) (block-of 4 (host_space c.args.guest_page) (host_page c.args.guest_page) c.args.order c.self.inside.stage c.self.invariant.stage_is p.0 p.1)

pub returns-in_default : goal.returns-in_default
returns-in_default c =
    let free : meets_any (host_space c.args.guest_page) (host_page c.args.guest_page) c.args.order c.self.inside.stage.leaves ≡ false = rw (← c.space_of-space.ensures.value, ← c.page_in-first.ensures.value) (sym c.meets.ensures ∙ c.if-meets.false) in
    rw (c.in_default.ensures.unchanged, ← c.self.view_is) (no-frames c.self.invariant c.args.guest_page c.args.order c.args.perm c.self.inside.hits free c.in_default.ensures.none, refl)

pub add-requires-clause-valid : goal.add-requires-clause-valid
add-requires-clause-valid c =
    let p = place-in c.args.guest_page c.args.order c.requires in
    let free : meets_any (host_space c.args.guest_page) (host_page c.args.guest_page) c.args.order c.self.inside.stage.leaves ≡ false = rw (← c.space_of-space.ensures.value, ← c.page_in-first.ensures.value) (sym c.meets.ensures ∙ c.if-meets.false) in
    rw (c.space_of-space.ensures.value, c.page_in-first.ensures.value) (leaf-for c.self.invariant c.args.guest_page c.args.order c.args.perm c.in-Some.frame p.1 p.0 c.in-Some.ensures.lowest free)

pub invariant_of-self-in-Ok : goal.invariant_of-self-in-Ok
invariant_of-self-in-Ok c =
    let p = place-in c.args.guest_page c.args.order c.requires in
    let free : meets_any (host_space c.args.guest_page) (host_page c.args.guest_page) c.args.order c.self.inside.stage.leaves ≡ false = rw (← c.space_of-space.ensures.value, ← c.page_in-first.ensures.value) (sym c.meets.ensures ∙ c.if-meets.false) in
    rw (c.in-Ok.ensures.1, c.in-Some.ensures.taken, c.space_of-space.ensures.value, c.page_in-first.ensures.value)
    (mapped-kept c.self.invariant c.args.guest_page c.args.order c.args.perm c.in-Some.frame p.1 p.0 c.in-Some.ensures.lowest free)

pub invariant_of-self-in-Err : goal.invariant_of-self-in-Err
invariant_of-self-in-Err c =
    let p = place-in c.args.guest_page c.args.order c.requires in
    let free : meets_any (host_space c.args.guest_page) (host_page c.args.guest_page) c.args.order c.self.inside.stage.leaves ≡ false = rw (← c.space_of-space.ensures.value, ← c.page_in-first.ensures.value) (sym c.meets.ensures ∙ c.if-meets.false) in
    rw (c.in-Err.ensures.1, c.give.ensures, c.in-Some.ensures.taken)
    (given-kept c.self.invariant c.args.guest_page c.args.order c.args.perm c.in-Some.frame p.1 p.0 c.in-Some.ensures.lowest free)

pub returns-in-Ok : goal.returns-in-Ok
returns-in-Ok c =
    let p = place-in c.args.guest_page c.args.order c.requires in
    let free : meets_any (host_space c.args.guest_page) (host_page c.args.guest_page) c.args.order c.self.inside.stage.leaves ≡ false = rw (← c.space_of-space.ensures.value, ← c.page_in-first.ensures.value) (sym c.meets.ensures ∙ c.if-meets.false) in
    let known = rw (c.space_of-space.ensures.value, c.page_in-first.ensures.value) at c.in-Ok.ensures in
    rw (← c.self.view_is) (map-done c.self.invariant c.args.guest_page c.args.order c.args.perm c.in-Some.frame p.1 p.0 c.in-Some.ensures.lowest free c.self.inside.hits c.add.new.self c.take.new.self known.0 known.1 c.in-Some.ensures.taken)

pub returns-in-Err : goal.returns-in-Err
returns-in-Err c =
    let p = place-in c.args.guest_page c.args.order c.requires in
    let free : meets_any (host_space c.args.guest_page) (host_page c.args.guest_page) c.args.order c.self.inside.stage.leaves ≡ false = rw (← c.space_of-space.ensures.value, ← c.page_in-first.ensures.value) (sym c.meets.ensures ∙ c.if-meets.false) in
    let known = rw (c.space_of-space.ensures.value, c.page_in-first.ensures.value) at c.in-Err.ensures in
    rw (← c.self.view_is) (map-undone c.self.invariant c.args.guest_page c.args.order c.args.perm c.in-Some.frame p.1 p.0 c.in-Some.ensures.lowest free c.self.inside.hits c.in-Err.refusal c.add.new.self c.give.new.self known.0 known.1
    (rw (← c.in-Some.ensures.taken) c.give.ensures))
