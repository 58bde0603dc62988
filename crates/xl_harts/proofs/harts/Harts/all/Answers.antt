use Rattle.xl_harts.proofs.Common.{HartsState, row_table, state_of}
use Rattle.xl_harts.proofs.StepLemmas.{waiting-few}
use Rattle.xl_harts.proofs.harts.Harts.all.Goals as goal

pub waiting-requires : goal.waiting-requires
waiting-requires c =
    let i = c.self.inside in
    let s : HartsState = state_of i.spec (row_table 3 i.table) i.requests.items i.harts.items i.current i.accepted i.refused in
    rw c.deref.ensures.value (waiting-few s c.self.invariant.kept)
