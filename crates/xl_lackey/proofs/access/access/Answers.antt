use Rattle.xl_lackey.proofs.Common.{arith, sym}
use Rattle.xl_lackey.proofs.AccessLemmas.{get_later, get_none}
use Rattle.xl_lackey.proofs.access.access.Goals as goal

pub returns-then-i-borders : goal.returns-then-i-borders
returns-then-i-borders c =
    let r = c.args.reference.now in sym (get_later c.args.kind r.addr r.size c.args.i (omega arith) (omega arith))

pub returns-else-i-borders : goal.returns-else-i-borders
returns-else-i-borders c = let r = c.args.reference.now in sym (get_none c.args.kind r.addr r.size c.args.i (omega arith))
