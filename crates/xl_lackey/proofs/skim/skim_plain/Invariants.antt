use Rattle.xl_lackey.proofs.Common.{◌+◌, ◌-◌, ◌≡◌, ◌≤◌, batch_size, length, Runs, take}
use Rattle.xl_lackey.proofs.skim.skim_plain.Given as goal

abbrev pub invariant-plain : goal.invariant-plain
invariant-plain l = record {
  runs : Runs l.text (take l.len l.fn.slots) (take l.end l.slots) (record { used = l.used; taken = l.taken });
  places : length l.slots ≡ batch_size;
  end : l.end ≤ batch_size;
  within : l.used ≤ length l.text;
  some : l.len + l.taken ≤ l.end;
  few : l.taken ≤ l.most;
}

abbrev pub decreases-plain : goal.decreases-plain
decreases-plain l = l.most - l.taken
