use Rattle.xl_numbers.proofs.Common.{◌+◌, arith}
use Rattle.xl_numbers.proofs.ViewLemmas.{free-seen, words-count}
use Rattle.xl_numbers.proofs.free.FreeNumbers.are_free.Goals as goal

pub all_ones-requires : goal.all_ones-requires
all_ones-requires c =
    let fits = words-count _ _ _ (c.args.first + c.args.count) c.self.view_is c.requires in
    let room = c.self.invariant.room in
    rw c.deref.ensures.value (omega arith)

pub returns : goal.returns
returns c =
    let a = c.args in
    free-seen _ _ _ a.first a.count c.all_ones.result c.self.view_is c.requires (rw c.deref.ensures.value at c.all_ones.ensures)
