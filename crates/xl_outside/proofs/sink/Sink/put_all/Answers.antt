use Rattle.xl_outside.proofs.Common.{◌+◌, ◌-◌, ◌∙◌, ◌≡◌, ◌≤◌, arith, drop, inl, length, subst, take, true}
use Rattle.xl_outside.proofs.SinkLemmas.{length-rest, proceeds_then, put_proceeds, put_stops, written_on}
use Rattle.xl_outside.proofs.sink.Sink.put_all.Goals as goal

pub loop-done-preserved : goal.loop-done-preserved
loop-done-preserved g c =
    let bytes = c.args.bytes.now in
    let inv = c.loop-done.invariant in
    let put = c.in-Ok.ensures.leaves in
    let rest = length-rest bytes c.loop-done.done inv.within in
    let most = c.in-Ok.ensures.count in record {
      within = omega (arith, most);
      so_far = written_on (g.Self.Sink.sink.taken c.args.self.now) (g.Self.Sink.sink.taken c.loop-done.self) _ bytes c.loop-done.done c.in-Ok.count inv.so_far put.took;
      proceeds = proceeds_then true _ _ _ inv.proceeds (put_proceeds _ _ put.stays (put.counts.1 (inl (omega arith))));
      calm = λ room h k.
          let fits : length (take (length bytes - c.loop-done.done) (drop c.loop-done.done bytes)) ≤ room - c.loop-done.done = omega arith in
          let step = put.calm (room - c.loop-done.done) (inv.calm room h k) fits in
          let e : (room - c.loop-done.done) - c.in-Ok.count ≡ room - (c.loop-done.done + c.in-Ok.count) = omega arith in
          subst (λ left. g.Self.Sink.sink.roomy c.put.new.self left) e step.1;
    }

pub returns-in-Ok-eq0 : goal.returns-in-Ok-eq0
returns-in-Ok-eq0 g c =
    let bytes = c.args.bytes.now in
    let done = c.loop-done.done in
    let inv = c.loop-done.invariant in
    let put = c.in-Ok-eq0.ensures.leaves in
    let rest = length-rest bytes done inv.within in
    let most = c.in-Ok-eq0.ensures.count in
    let more = c.loop-done-test.true in record {
      took = (done + c.in-Ok-eq0.field-0, omega (arith, most), written_on (g.Self.Sink.sink.taken c.args.self.now) (g.Self.Sink.sink.taken c.loop-done.self) _ bytes done c.in-Ok-eq0.field-0 inv.so_far put.took);
      proceeds = put_stops _ _ _ inv.proceeds put.stays (put.counts.0 c.in-Ok-eq0.field-0-test (omega arith));
      calm = λ room h k.
          let fits : length (take (length bytes - done) (drop done bytes)) ≤ room - done = omega arith in
          let none = (put.calm (room - done) (inv.calm room h k) fits).0 c.in-Ok-eq0.field-0-test in absurd (omega arith);
    }

pub returns-in-Err : goal.returns-in-Err
returns-in-Err g c =
    let bytes = c.args.bytes.now in
    let done = c.loop-done.done in
    let inv = c.loop-done.invariant in
    let put = c.in-Err.ensures.leaves in
    let rest = length-rest bytes done inv.within in record {
      took = (done, inv.within, put.took ∙ inv.so_far);
      proceeds = put_stops _ _ _ inv.proceeds put.stays put.counts;
      calm = λ room h k.
          let fits : length (take (length bytes - done) (drop done bytes)) ≤ room - done = omega arith in
          absurd (put.calm (room - done) (inv.calm room h k) fits);
    }
