use Rattle.xl_lackey.proofs.Common.{◌+◌, Found, IsFirstLine, subst, sym}
use Rattle.xl_lackey.proofs.near.near_line.Goals as goal

pub returns-clause-line : goal.returns-clause-line
returns-clause-line c =
    let l = c.in_ok-front.front.now.letter in
    let n = c.in_ok-found.found in
    subst (λ (xs : _). IsFirstLine xs n.used (Found l n.addr (n.above + 1))) (sym c.in_ok-front.ensures.front) (c.in_ok-found.ensures.line l)
