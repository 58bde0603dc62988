use Rattle.xl_words.specs.Words.{file_app}
use Rattle.xl_words.proofs.commands.file_command.Goals as goal

pub returns : goal.returns
unfolding file_app
returns c =
    let configured = c.add-command.ensures _ _ c.new.ensures.app c.needed.ensures.rule in
    let scripted = c.add-command-2.ensures _ _ configured c.option.ensures.rule in
    c.add.ensures _ _ scripted c.option-2.ensures.rule
