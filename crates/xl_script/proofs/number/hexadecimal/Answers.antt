use Rattle.xl_script.proofs.Common.{◌∙◌, address_of, ap, hexadecimal_of, rules}
use Rattle.xl_script.proofs.DigitLemmas.{address_read}
use Rattle.xl_script.proofs.number.hexadecimal.Goals as goal

pub returns : goal.returns
unfolding hexadecimal_of
returns c =
    c.number.ensures ∙ address_read c.without_prefix-digits.result.now (search rules) c.if-digits-gt-DIGITS.false
    ∙ ap address_of c.without_prefix-digits.ensures
