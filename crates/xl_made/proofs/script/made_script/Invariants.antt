use Rattle.xl_made.proofs.Common.{◌-◌, ◌/◌, ◌≡◌, made_script, with_unmaps}
use Rattle.xl_made.proofs.script.made_script.Given as goal

abbrev pub invariant-loop : goal.invariant-loop
invariant-loop l = with_unmaps (l.n / 64 - l.counter) l.generator l.script.items ≡ made_script l.n
