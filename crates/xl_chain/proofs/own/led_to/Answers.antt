use Rattle.xl_chain.proofs.Common.{◌+◌, ◌-◌, arith, refl}
use Rattle.xl_chain.proofs.PlaceLemmas.{base-by, base_past}
use Rattle.xl_chain.proofs.own.led_to.Goals as goal

pub returns : goal.returns
returns g c =
    let a = c.args in
    let base = base-by a.shape (a.at - 1) (g.row.V + 3) _ c.requires.lines (omega arith) refl in
    record {
      base = base;
      within = (let p = base_past a.shape (a.at - 1) a.shape.entries (omega arith) in omega arith);
    }
