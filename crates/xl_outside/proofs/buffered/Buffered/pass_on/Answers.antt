use Rattle.xl_outside.proofs.Common.{◌+◌, ◌-◌, ◌<◌, ◌∙◌, ◌≡◌, ◌≤◌, ap, arith, inl, length, length-drop, rules, subst, take, true, with_more}
use Rattle.xl_outside.proofs.BufferLemmas.{moved_on}
use Rattle.xl_outside.proofs.SinkLemmas.{proceeds_then, put_proceeds, put_stops}
use Rattle.xl_outside.proofs.buffered.Buffered.pass_on.Goals as goal

pub returns-in-Ok-eq0-clause-proceeds : goal.returns-in-Ok-eq0-clause-proceeds
returns-in-Ok-eq0-clause-proceeds g c =
    let put = c.in-Ok-eq0.ensures.leaves in
    let some : 0 < length c.bytes.result.now = search rules in
    put_stops _ _ _ c.loop-self.invariant.proceeds put.stays (put.counts.0 c.in-Ok-eq0.field-0-test some)

pub loop-self-preserved : goal.loop-self-preserved
loop-self-preserved g c =
    let inv = c.loop-self.invariant in
    let put = c.in-Ok.ensures.leaves in
    let held = c.loop-self.self.held in
    let count = c.in-Ok.count in
    let gone = c.drop_front.ensures in
    let shown = c.bytes.ensures in
    let most : count ≤ length held = subst (λ xs. count ≤ length xs) shown c.in-Ok.ensures.count in
    let some = c.in-Ok.count-test.1 in
    let size : length c.drop_front.new.self ≡ length held - count = ap (λ xs. length xs) gone ∙ length-drop count held in
    let all : length c.bytes.result.now ≡ length held = ap (λ xs. length xs) shown in
    record {
      kept = ap (with_more (g.K.Sink.sink.taken c.put.new.self)) gone
          ∙ moved_on (g.K.Sink.sink.taken c.loop-self.self.to) (g.K.Sink.sink.taken c.put.new.self) held count (put.took ∙ ap (λ xs. with_more (g.K.Sink.sink.taken c.loop-self.self.to) (take count xs)) shown)
          ∙ inv.kept;
      proceeds = proceeds_then true _ _ _ inv.proceeds (put_proceeds _ _ put.stays (put.counts.1 (inl (omega (arith, some)))));
      calm = λ room h.
          let fits : length c.bytes.result.now ≤ length held + room = omega (arith, all) in
          let left = put.calm (length held + room) (inv.calm room h) fits in
          let e : (length held + room) - count ≡ length c.drop_front.new.self + room = omega (arith, size, most) in
          subst (g.K.Sink.sink.roomy c.put.new.self) e left.1;
    }

pub returns-in-Err-clause-proceeds : goal.returns-in-Err-clause-proceeds
returns-in-Err-clause-proceeds g c = put_stops _ _ _ c.loop-self.invariant.proceeds c.in-Err.ensures.leaves.stays c.in-Err.ensures.leaves.counts
