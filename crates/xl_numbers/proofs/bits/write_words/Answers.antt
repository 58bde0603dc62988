use Rattle.xl_numbers.proofs.LevelLemmas.{words-more, words-none}
use Rattle.xl_numbers.proofs.bits.write_words.Goals as goal

pub loop-i-init : goal.loop-i-init
loop-i-init c = words-none c.args.words.now c.args.first c.args.word

pub loop-i-preserved : goal.loop-i-preserved
loop-i-preserved c = words-more c.args.words.now _ _ c.args.first c.loop-i.i c.args.word c.loop-i.invariant c.write_word.ensures
