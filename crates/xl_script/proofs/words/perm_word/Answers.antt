use Rattle.xl_script.proofs.PermLemmas.{perm_read}
use Rattle.xl_script.proofs.words.perm_word.Goals as goal

pub returns : goal.returns
returns c =
    perm_read c.args.word.now c.in-Some.r c.in-Some-flag.w c.in-Some-flag-2.x c.in-Some-flag-3.u c.new.result
    c.in-len4.len_at_least c.in-len4.len_below c.in-Some.ensures c.in-Some-flag.ensures c.in-Some-flag-2.ensures c.in-Some-flag-3.ensures
    c.new.ensures.some c.new.ensures.none
