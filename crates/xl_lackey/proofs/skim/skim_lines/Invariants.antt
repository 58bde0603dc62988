use Rattle.xl_lackey.proofs.Common.{◌-◌, ◌≤◌, Runs}
use Rattle.xl_lackey.proofs.skim.skim_lines.Given as goal

abbrev pub invariant-skim : goal.invariant-skim
invariant-skim l = record {
  runs : Runs l.text l.fn.into.items l.into.items l.run;
  few : l.run.taken ≤ l.most;
}

abbrev pub decreases-skim : goal.decreases-skim
decreases-skim l = l.most - l.run.taken
