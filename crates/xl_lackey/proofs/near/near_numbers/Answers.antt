use Rattle.xl_lackey.proofs.Common.{◌+◌, arith, refl}
use Rattle.xl_lackey.proofs.NearLineLemmas.{comma_at, near_fits, numbers_at}
use Rattle.xl_lackey.proofs.near.near_numbers.Goals as goal

pub returns-in-Some : goal.returns-in-Some
returns-in-Some c =
    let text = c.args.text.now in
    let addr = c.in_ok-addr.addr in
    let above = c.in-Some.above in
    let address = comma_at text addr 8 c.in_ok-addr.ensures.value (omega arith) (omega arith) (omega arith) c.in-Some.ensures.comma in
    numbers_at text _ addr 8 (above + 1) above 1 (omega arith) refl refl (omega (arith, c.in-Some.ensures.small))
    (near_fits addr (above + 1) (omega (arith, c.in_ok-addr.ensures.small)) (omega (arith, c.in-Some.ensures.small))) address c.in-Some.ensures.value c.in-Some.ensures.newline
