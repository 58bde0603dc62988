use Rattle.xl_lackey.proofs.Common.{◌+◌, ◌-◌, ◌≡◌, ◌≤◌, batch_size, IsSure, length, Runs, take}
use Rattle.xl_lackey.proofs.skim.skim_kept.Given as goal

abbrev pub invariant-kept : goal.invariant-kept
invariant-kept l = record {
  runs : Runs l.text (take l.len l.fn.slots) (take (l.len + l.taken) l.slots) (record { used = l.used; taken = l.taken });
  places : length l.slots ≡ batch_size;
  few : l.taken ≤ l.most;
  sure : IsSure (l.most - l.taken) (length l.text - l.used) (take (l.len + l.taken) l.slots);
}

abbrev pub decreases-kept : goal.decreases-kept
decreases-kept l = l.most - l.taken
