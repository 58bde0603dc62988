use Rattle.xl_words.specs.Words.{pair_app}
use Rattle.xl_words.proofs.commands.pair_command.Goals as goal

pub returns : goal.returns
unfolding pair_app
returns c =
    let scripted = c.add-command.ensures _ _ c.new.ensures.app c.needed.ensures.rule in
    let traced = c.add-command-2.ensures _ _ scripted c.needed-2.ensures.rule in
    c.add.ensures _ _ traced c.flag.ensures.rule
