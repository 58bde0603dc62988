use Rattle.xl_words.specs.Words.{app}
use Rattle.xl_words.proofs.commands.command.Goals as goal

pub returns : goal.returns
unfolding app
returns c =
    let named = c.add-command.ensures _ _ c.file_command-command.ensures c.numbered.ensures.rule in
    let answered = c.add-command-2.ensures _ _ named c.flag.ensures.rule in
    let imaged = c.add-command-3.ensures _ _ answered c.flag-2.ensures.rule in
    c.add.ensures _ _ imaged c.flag-3.ensures.rule
