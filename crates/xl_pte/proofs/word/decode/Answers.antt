use Rattle.std.proofs.Common.{◌≡◌, ◌/◌, ◌^◌, ◌==◌, true, sym, ◌∙◌, arith}
use Rattle.xl_pte.specs.Decode.{bit}
use Rattle.xl_pte.proofs.BitLemmas.{decode-leaf, number-shifted}
use Rattle.xl_pte.proofs.word.decode.Goals as goal

pub returns-in-true-default-default-clause-value : goal.returns-in-true-default-default-clause-value
returns-in-true-default-default-clause-value c =
    let v : bit c.args.word 0 ≡ true = grind arith in
    let high : (c.args.word / 2 ^ 54 == 0) ≡ true = grind arith in
    c.leaf_at.ensures ∙ decode-leaf c.args.word c.args.level _ _ v high (number-shifted c.args.word (omega arith)) (sym c.bit-r.ensures) (sym c.bit-w.ensures) (sym c.bit-x.ensures) (sym c.bit-u.ensures)

pub returns-in-false-false-true-clause-value : goal.returns-in-false-false-true-clause-value
returns-in-false-false-true-clause-value c =
    let v : bit c.args.word 0 ≡ true = grind arith in
    let high : (c.args.word / 2 ^ 54 == 0) ≡ true = grind arith in
    c.leaf_at-in-false-false-true.ensures ∙ decode-leaf c.args.word c.args.level _ _ v high (number-shifted c.args.word (omega arith)) (sym c.bit-r.ensures) (sym c.bit-w.ensures) (sym c.bit-x.ensures) (sym c.bit-u.ensures)
