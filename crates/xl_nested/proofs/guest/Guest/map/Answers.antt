use Rattle.xl_nested.proofs.Common.{◌∙◌, ◌≡◌, false, Guest, guest_map, IsGuest, map_rule, meets_any, room_rule, Some, Stage, stage_after, sym, vmapped}
use Rattle.xl_nested.proofs.CommandLemmas.{guest-mapped-is, map-rule-free, served-in, served-kept}
use Rattle.xl_nested.proofs.GuestLemmas.{guest-mapped}
use Rattle.xl_nested.proofs.guest.Guest.map.Goals as goal

pub invariant_of-self : goal.invariant_of-self
invariant_of-self c =
    let P : Stage → Type 0 = λ s. IsGuest c.self.inside.base s in
    served-kept P _ c.add.result c.self.inside.stage _ c.add.new.self c.add.ensures c.self.invariant
    (guest-mapped c.self.inside.base c.args.page c.args.order c.args.to c.args.perm c.self.inside.stage c.self.invariant c.requires.frames)

pub returns : goal.returns
returns c =
    let whole : Stage → Guest = λ s. record { base = c.self.inside.base; stage = s } in
    let free : meets_any 0 c.args.page c.args.order c.self.inside.stage.leaves ≡ false = sym c.meets.ensures ∙ c.if-meets.false in
    rw (← c.self.view_is) (served-in whole (room_rule (Some (guest_map c.args.page c.args.order c.args.to c.args.perm)) c.self.inside.stage) (map_rule 0 c.args.page c.args.order (Some (guest_map c.args.page c.args.order c.args.to c.args.perm)) c.self.inside.stage) c.add.result c.self.inside.stage
    (stage_after (Some (guest_map c.args.page c.args.order c.args.to c.args.perm)) c.self.inside.stage) c.add.new.self
    (vmapped c.args.page c.args.order c.args.to c.args.perm (whole c.self.inside.stage)) (map-rule-free 0 c.args.page c.args.order (Some (guest_map c.args.page c.args.order c.args.to c.args.perm)) c.self.inside.stage free)
    (guest-mapped-is c.self.inside.base c.args.page c.args.order c.args.to c.args.perm c.self.inside.stage) c.add.ensures)
