use Rattle.xl_harts.proofs.Common.{◌<◌, ◌∙◌, ◌≡◌, ◌≤◌, ap, arith, Hart, hart_at, HartsState, length, opening_hart, row_table, state_of, sym}
use Rattle.xl_harts.proofs.StepLemmas.{same-place, take-bad, take-none, take-nothing}
use Rattle.xl_harts.proofs.harts.Harts.take_refusal.Goals as goal

pub returns-then-hart-len : goal.returns-then-hart-len
returns-then-hart-len c =
    let past : length c.args.self.now.harts ≤ c.args.hart = rw (← c.self.view_is) (omega arith) in
    sym (take-bad c.args.self.now c.args.hart past)

pub returns-then-waiting-eq0 : goal.returns-then-waiting-eq0
returns-then-waiting-eq0 c =
    let i = c.self.inside in
    let s : HartsState = state_of i.spec (row_table 3 i.table) i.requests.items i.harts.items i.current i.accepted i.refused in
    let below : c.args.hart < length i.harts.items = omega arith in
    let at = c.index.ensures ∙ same-place i.harts.items c.args.hart c.index.result.now (opening_hart i.spec) below in
    let w : (hart_at c.args.hart s).waiting ≡ 0 = ap (λ (h : Hart). h.waiting) (sym at) ∙ sym c.waiting.ensures ∙ c.if-waiting-eq0.true in
    rw (← c.self.view_is) (sym (take-nothing s c.args.hart below w))

pub returns : goal.returns
returns c =
    let i = c.self.inside in
    let s : HartsState = state_of i.spec (row_table 3 i.table) i.requests.items i.harts.items i.current i.accepted i.refused in
    let below : c.args.hart < length i.harts.items = omega arith in
    let at = c.index.ensures ∙ same-place i.harts.items c.args.hart c.index.result.now (opening_hart i.spec) below in
    let w : (hart_at c.args.hart s).waiting ≡ c.waiting.result = ap (λ (h : Hart). h.waiting) (sym at) ∙ sym c.waiting.ensures in
    let e = c.if-waiting-eq0.false in
    rw (← c.self.view_is) (sym (take-none s c.args.hart below (omega arith)))
