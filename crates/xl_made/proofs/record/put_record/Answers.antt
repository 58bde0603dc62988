use Rattle.xl_made.proofs.ReadLemmas.{follows_put}
use Rattle.xl_made.proofs.record.put_record.Goals as goal

pub returns : goal.returns
returns c = follows_put c.args.word _ _ c.is_modify.result c.address.result c.kind.result c.is_modify.ensures c.address.ensures c.kind.ensures c.put_accesses.ensures
