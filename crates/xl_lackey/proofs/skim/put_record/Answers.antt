use Rattle.xl_lackey.proofs.SkimLemmas.{put_counted}
use Rattle.xl_lackey.proofs.skim.put_record.Goals as goal

pub returns-clause-items : goal.returns-clause-items
returns-clause-items c =
    let found = c.args.found in
    rw (c.put-2.ensures, c.put.ensures) (put_counted c.args.slots.now c.args.at found.count found.va found.kind found.is_modify c.requires.room c.requires.count)
