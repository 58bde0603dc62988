use Rattle.xl_harts.proofs.Common.{◌<◌, ◌∙◌, ◌≡◌, ap, current_hart, Hart, HartsState, IsHarts, opening_hart, plus, row_table, set, state_of, subst, switched-kept, sym}
use Rattle.xl_harts.proofs.StepLemmas.{same-place}
use Rattle.xl_harts.proofs.harts.Harts.switch.Goals as goal

pub invariant_of-self : goal.invariant_of-self
invariant_of-self c =
    let i = c.self.inside in
    let s : HartsState = state_of i.spec (row_table 3 i.table) i.requests.items i.harts.items i.current i.accepted i.refused in
    let kept = c.self.invariant.kept in
    let small : c.args.space < i.spec.spaces = rw (← c.self.view_is) at c.requires in
    let at = c.index_mut.ensures.value ∙ same-place i.harts.items i.current c.index_mut.result.now (opening_hart i.spec) kept.current_in in
    let new : c.switch.new.self ≡ record (current_hart s) { space = c.args.space } = c.switch.ensures ∙ ap (λ (h : Hart). let k : Hart = record h { space = c.args.space } in k) at in
    let P : Hart → Type 0 = λ h. IsHarts (state_of i.spec (row_table 3 i.table) i.requests.items (set i.harts.items i.current h) i.current (plus i.accepted 1) i.refused) i.requests.capacity i.frames in
    subst P (sym new) (record { kept = switched-kept s kept c.args.space small; pool_is = c.self.invariant.pool_is; room = c.self.invariant.room })
