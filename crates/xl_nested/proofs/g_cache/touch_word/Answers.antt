use Rattle.xl_nested.proofs.HeldLemmas.{touches_word}
use Rattle.xl_nested.proofs.g_cache.touch_word.Goals as goal

pub returns-clause-some : goal.returns-clause-some
returns-clause-some c = touches_word c.args.tag c.args.list.now.items _ c.in-Some.item c.in-Some.ensures.touched
