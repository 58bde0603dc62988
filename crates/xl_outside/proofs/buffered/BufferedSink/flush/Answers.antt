use Rattle.xl_outside.proofs.Common.{◌+◌, ◌∙◌, ◌≡◌, ap, arith, is_ok, length, subst, with_more}
use Rattle.xl_outside.proofs.BufferLemmas.{flushed_none}
use Rattle.xl_outside.proofs.SinkLemmas.{proceeds_then}
use Rattle.xl_outside.proofs.buffered.BufferedSink.flush.Goals as goal

pub returns : goal.returns
returns g c =
    let passed = c.in_ok-pass_on.ensures in
    let flushed = c.flush.ensures in
    let held = c.pass_on.new.self.held in
    let size : length held ≡ 0 = ap (λ xs. length xs) passed.none in
    record {
      keeps = ap (λ w. with_more w held) flushed.keeps ∙ passed.kept;
      flushed = flushed_none (is_ok c.flush.result) _ _ held passed.none flushed.flushed;
      proceeds = proceeds_then (is_ok c.flush.result) _ _ _ passed.proceeds flushed.proceeds;
      calm = λ room h.
          let left = flushed.calm room (passed.calm room h).1 in
          let e : room ≡ length held + room = omega (arith, size) in
          (left.0, subst (g.K.Sink.sink.roomy c.flush.new.self) e left.1);
    }
