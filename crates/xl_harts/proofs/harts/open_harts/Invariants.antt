use Rattle.xl_harts.proofs.Common.{◌≡◌, opening_hart, replicate}
use Rattle.xl_harts.proofs.harts.open_harts.Given as goal

abbrev pub invariant-opened : goal.invariant-opened
invariant-opened l = l.harts.items ≡ replicate l.counter (opening_hart l.spec)
