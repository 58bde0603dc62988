use Rattle.xl_rack.proofs.Common.{images_lines, SinkAfter, take, true}
use Rattle.xl_rack.proofs.image.write_images.Given as goal

abbrev pub invariant-loop-i : goal.invariant-loop-i
invariant-loop-i g l = SinkAfter g.K.Sink.sink (images_lines (take l.i l.rack)) l.fn.out l.out true
