use Rattle.xl_tagged.proofs.GroupLemmas.{full-of}
use Rattle.xl_hashed.proofs.OneLemmas.{put-one}
use Rattle.xl_hashed.proofs.slots.put.Goals as goal

pub returns-clause-ok : goal.returns-clause-ok
returns-clause-ok c = put-one c.args.tag c.args.word c.insert.result c.args.chains.now c.insert.new.self c.insert.ensures.ok c.requires.absent c.requires.sized

pub returns-clause-full : goal.returns-clause-full
returns-clause-full c = full-of c.args.tag c.insert.result c.args.chains.now c.insert.ensures.full c.requires.absent
