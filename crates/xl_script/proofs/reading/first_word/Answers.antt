use Rattle.xl_script.proofs.Common.{words_of}
use Rattle.xl_script.proofs.WordLemmas.{found-next, nothing-left}
use Rattle.xl_script.proofs.reading.first_word.Goals as goal

pub returns-in_default-clause-none : goal.returns-in_default-clause-none
returns-in_default-clause-none c = nothing-left (words_of c.args.line.now) 0 c.in_default.ensures

pub returns-clause-some : goal.returns-clause-some
returns-clause-some c = found-next (words_of c.args.line.now) 0 c.in-Some.first.now c.in-Some.ensures
