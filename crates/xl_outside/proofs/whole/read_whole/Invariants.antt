use Rattle.xl_outside.proofs.Common.{◌+◌, ◌-◌, ◌≤◌, file_of, Fine, FolderAfter, IfSome}
use Rattle.std.specs.Vec.{vec_len}
use Rattle.xl_outside.proofs.FrontLemmas.{IsFrontOf}
use Rattle.xl_outside.proofs.whole.read_whole.Given as goal

abbrev pub invariant-loop-buf : goal.invariant-loop-buf
invariant-loop-buf g l = record {
  within : vec_len l.bytes ≤ l.limit + 1;
  front : IfSome (g.F.Folder.folder.files l.fn.folder) (λ fs. IsFrontOf (file_of fs l.name) l.bytes.items);
  folder : FolderAfter g.F.Folder.folder l.fn.folder l.folder Fine;
}

abbrev pub decreases-loop-buf : goal.decreases-loop-buf
decreases-loop-buf g l = l.limit + 1 - vec_len l.bytes
