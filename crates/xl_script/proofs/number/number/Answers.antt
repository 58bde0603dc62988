use Rattle.xl_script.proofs.Common.{◌+◌, ◌^◌, ◌∙◌, ap, arith, below, drop, none_read, number_after, sym}
use Rattle.xl_script.proofs.DigitLemmas.{all_read, next_digit, refused}
use Rattle.xl_script.proofs.number.number.Goals as goal

pub loop-digit-init : goal.loop-digit-init
loop-digit-init c = (none_read c.args.base c.args.digits.now, omega arith)

pub loop-digit-preserved : goal.loop-digit-preserved
loop-digit-preserved c =
    let l = c.loop-digit in
    let e = c.in-Some.ensures in
    let ds = c.args.digits.now in (
      ap (λ m. number_after c.args.base m (drop (l.digit-index + 1) ds)) e.1
          ∙ sym (next_digit c.args.base l.n l.digit-index ds c.loop-digit-test.true e.0.0) ∙ l.invariant.0,
      omega arith,
    )

pub returns-in_default : goal.returns-in_default
returns-in_default c =
    let l = c.loop-digit in
    sym (refused c.args.base l.n l.digit-index c.args.digits.now c.loop-digit-test.true (2 ^ 64) (omega arith) c.in_default.ensures)
    ∙ ap (below (2 ^ 64)) l.invariant.0

pub returns : goal.returns
returns c =
    let l = c.loop-digit in
    all_read (2 ^ 64) c.args.base l.n l.digit-index c.args.digits.now c.loop-digit-test.false l.invariant.1
    ∙ ap (below (2 ^ 64)) l.invariant.0
