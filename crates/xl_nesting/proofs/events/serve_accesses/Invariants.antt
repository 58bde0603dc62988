use Rattle.xl_nesting.proofs.Common.{◌≡◌, accesses_after, drop, nested_form}
use Rattle.xl_nesting.proofs.events.serve_accesses.Given as goal

abbrev pub invariant-loop-access : goal.invariant-loop-access
invariant-loop-access l = accesses_after nested_form (drop l.access-index l.fn.accesses) l.nested ≡ accesses_after nested_form l.fn.accesses l.fn.nested
