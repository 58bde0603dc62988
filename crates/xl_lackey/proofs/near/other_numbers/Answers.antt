use Rattle.xl_lackey.proofs.Common.{◌+◌, ◌-◌, arith, sym, take_rest}
use Rattle.xl_lackey.proofs.NearLineLemmas.{numbers_at}
use Rattle.xl_lackey.proofs.near.other_numbers.Goals as goal

pub returns-then-fits : goal.returns-then-fits
returns-then-fits c =
    let comma = c.in_ok-addr.comma in
    let size = c.in_ok-size.size in
    numbers_at c.args.text.now _ c.in_ok-addr.addr comma size (size - 1) c.in_ok-size.digits (omega (arith, c.in_ok-addr.ensures.few, c.in_ok-size.ensures.few))
    (take_rest c.args.text.now (comma + 1)) (omega (arith, c.in_ok-size.ensures.some)) c.in_ok-size.ensures.small (sym c.if-fits.ensures)
    c.in_ok-addr.ensures.value c.in_ok-size.ensures.value c.in_ok-size.ensures.newline
