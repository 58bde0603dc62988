use Rattle.xl_made.proofs.Common.{ap, arith, length, List, refl, ℕ}
use Rattle.xl_made.proofs.MadeLemmas.{lines-length}
use Rattle.xl_made.proofs.trace.MadeTrace.piece.Goals as goal

pub loop-i-init : goal.loop-i-init
loop-i-init c =
    let whole = ap (λ (bs : List ℕ). length bs) c.self.view_is in record {
      given = refl;
      some = omega (arith, whole, lines-length c.self.inside.left c.self.inside.generator, c.min-lines.ensures);
      size = refl;
    }
