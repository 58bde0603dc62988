use Rattle.xl_outside.proofs.Common.{◌≡◌, drop, file_of}
use Rattle.xl_outside.specs.Memory.{known}
use Rattle.xl_outside.proofs.mem_folder.find.Given as goal

abbrev pub invariant-loop-held : goal.invariant-loop-held
invariant-loop-held l = file_of (known (drop l.held-index l.files)) l.name ≡ file_of (known l.files) l.name
