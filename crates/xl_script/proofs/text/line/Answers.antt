use Rattle.xl_script.proofs.Common.{take_rest}
use Rattle.xl_script.proofs.TextLemmas.{line_found, line_last}
use Rattle.xl_script.proofs.text.line.Goals as goal

pub returns-then-length-rest-clause-lines : goal.returns-then-length-rest-clause-lines
returns-then-length-rest-clause-lines c =
    line_found c.args.text.now c.args.at c.line_length-length.result c.without_return.result.now c.requires (rw take_rest at c.line_length-length.ensures.value)
    (record { value = rw take_rest at c.without_return.ensures.value; first = rw take_rest at c.without_return.ensures.front; within = rw take_rest at c.without_return.ensures.within })

pub returns-else-length-rest-clause-lines : goal.returns-else-length-rest-clause-lines
returns-else-length-rest-clause-lines c =
    line_last c.args.text.now c.args.at c.line_length-length.result c.without_return.result.now c.requires (rw take_rest at c.line_length-length.ensures.value)
    (rw take_rest at c.if-length-rest.false)
    (record { value = rw take_rest at c.without_return.ensures.value; first = rw take_rest at c.without_return.ensures.front; within = rw take_rest at c.without_return.ensures.within })
