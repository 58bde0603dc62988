use Rattle.xl_harts.proofs.Common.{◌∙◌, AreServed, HartsState, IsCurrent, opening_hart, refl, row_table, state_of}
use Rattle.xl_harts.proofs.ServeLemmas.{served-harts, served-placed}
use Rattle.xl_harts.proofs.StepLemmas.{same-place}
use Rattle.xl_harts.proofs.harts.Harts.access_each.Goals as goal

pub serve_each-requires : goal.serve_each-requires
serve_each-requires c =
    let i = c.self.inside in
    let s : HartsState = state_of i.spec (row_table 3 i.table) i.requests.items i.harts.items i.current i.accepted i.refused in
    let at = c.index_mut-hart.ensures.value ∙ same-place i.harts.items i.current c.index_mut-hart.result.now (opening_hart i.spec) c.self.invariant.kept.current_in in
    let current : IsCurrent s (row_table 3 i.table) c.index_mut-hart.result.now = record { kept = c.self.invariant.kept; table_is = refl; hart_is = at } in
    (s, current)

pub invariant_of-self : goal.invariant_of-self
invariant_of-self c =
    let i = c.self.inside in
    let s : HartsState = state_of i.spec (row_table 3 i.table) i.requests.items i.harts.items i.current i.accepted i.refused in
    let at = c.index_mut-hart.ensures.value ∙ same-place i.harts.items i.current c.index_mut-hart.result.now (opening_hart i.spec) c.self.invariant.kept.current_in in
    let current : IsCurrent s (row_table 3 i.table) c.index_mut-hart.result.now = record { kept = c.self.invariant.kept; table_is = refl; hart_is = at } in
    let served : AreServed c.args.accesses.now s c.serve_each.result (row_table 3 c.serve_each.new.table) c.serve_each.new.hart = c.serve_each.ensures s current in
    served-harts c.args.accesses.now s c.serve_each.result (row_table 3 c.serve_each.new.table) c.serve_each.new.hart i.requests.capacity i.frames served c.self.invariant

pub returns : goal.returns
returns c =
    let i = c.self.inside in
    let s : HartsState = state_of i.spec (row_table 3 i.table) i.requests.items i.harts.items i.current i.accepted i.refused in
    let at = c.index_mut-hart.ensures.value ∙ same-place i.harts.items i.current c.index_mut-hart.result.now (opening_hart i.spec) c.self.invariant.kept.current_in in
    let current : IsCurrent s (row_table 3 i.table) c.index_mut-hart.result.now = record { kept = c.self.invariant.kept; table_is = refl; hart_is = at } in
    let served : AreServed c.args.accesses.now s c.serve_each.result (row_table 3 c.serve_each.new.table) c.serve_each.new.hart = c.serve_each.ensures s current in
    record {
      reply = rw (← c.self.view_is) served.reply_is;
      after = rw (← c.self.view_is) (served-placed c.args.accesses.now s c.serve_each.result (row_table 3 c.serve_each.new.table) c.serve_each.new.hart served);
    }
