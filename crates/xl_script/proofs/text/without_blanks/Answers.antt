use Rattle.xl_script.proofs.Common.{take_rest}
use Rattle.xl_script.proofs.TextLemmas.{blanks_end, skip_blanks}
use Rattle.xl_script.proofs.text.without_blanks.Goals as goal

pub returns-clause-same : goal.returns-clause-same
returns-clause-same c = rw take_rest (skip_blanks c.args.line.now c.blank_length.result c.blank_length.ensures.value)

pub returns-clause-front : goal.returns-clause-front
returns-clause-front c = rw take_rest (blanks_end c.args.line.now c.blank_length.result c.blank_length.ensures.value)
