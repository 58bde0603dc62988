use Rattle.xl_serving.proofs.Common.{◌≤◌, file_of, Fine, FolderAfter, IsFedFrom, size_of, to_come}
use Rattle.std.specs.Option.{IfSome}
use Rattle.xl_serving.proofs.RecordLemmas.{Still}
use Rattle.xl_serving.proofs.tape.Tape.next.Given as goal

abbrev pub invariant-pieces : goal.invariant-pieces
invariant-pieces g l = record {
  still : IfSome (g.F.Folder.folder.files l.fn.folder) (λ fs. IsFedFrom (file_of fs l.name) l.fn.self → Still (file_of fs l.name) l.fn.self l.self);
  folder : FolderAfter g.F.Folder.folder l.fn.folder l.folder Fine;
  no_more : size_of l.self ≤ size_of l.fn.self;
}

abbrev pub decreases-pieces : goal.decreases-pieces
decreases-pieces g l = to_come l.self
