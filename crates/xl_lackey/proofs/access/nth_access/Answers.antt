use Rattle.xl_lackey.proofs.Common.{◌∙◌, arith, Load, Store}
use Rattle.xl_lackey.proofs.AccessLemmas.{get_first_going, get_second_going}
use Rattle.xl_lackey.proofs.access.nth_access.Goals as goal

pub returns-then-i-pages : goal.returns-then-i-pages
returns-then-i-pages c =
    let r = c.args.reference.now in
    rw c.in-M.is (c.access-then-i-pages.ensures ∙ get_first_going Load Store r.addr r.size c.args.i (omega arith))

pub returns-else-i-pages : goal.returns-else-i-pages
returns-else-i-pages c =
    let r = c.args.reference.now in
    rw c.in-M.is (c.access-else-i-pages.ensures ∙ get_second_going Load Store r.addr r.size c.args.i _ (omega arith))
