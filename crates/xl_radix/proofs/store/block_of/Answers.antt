use Rattle.xl_radix.proofs.UpLemmas.{up-shift}
use Rattle.xl_radix.proofs.store.block_of.Goals as goal

pub returns : goal.returns
returns c = up-shift c.args.level c.args.page c.requires
