use Rattle.xl_words.specs.Words.{curve_app}
use Rattle.xl_words.proofs.commands.curve_command.Goals as goal

pub returns : goal.returns
unfolding curve_app
returns c =
    c.add.ensures _ _ c.file_command.ensures c.counted.ensures.rule
