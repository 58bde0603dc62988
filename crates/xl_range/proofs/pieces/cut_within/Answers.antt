use Rattle.xl_range.proofs.Common.{◌+◌, ◌-◌, ◌∙◌, ◌≤◌, ap, arith, cut, length, refl, sym, ℕ}
use Rattle.xl_range.proofs.CutCallLemmas.{can-cut, CanCut, test-cut}
use Rattle.xl_range.proofs.PutLemmas.{few-test}
use Rattle.xl_range.proofs.pieces.cut_within.Goals as goal

pub overflow_add-following : goal.overflow_add-following
overflow_add-following c =
    let k : CanCut c.args.first c.args.order c.args.range.now c.args.treap.now.seen.kept = can-cut c.args.range.now.space c.args.first c.args.order c.args.range.now c.args.treap.now.seen.kept c.requires.held c.requires.there c.requires.place in
    let b = k.inside.to in
    let d = k.inside.fit.pages_in in
    let f = k.inside.fit.frames_in in
    omega arith

pub overflow_add-following-2 : goal.overflow_add-following-2
overflow_add-following-2 c =
    let k : CanCut c.args.first c.args.order c.args.range.now c.args.treap.now.seen.kept = can-cut c.args.range.now.space c.args.first c.args.order c.args.range.now c.args.treap.now.seen.kept c.requires.held c.requires.there c.requires.place in
    let b = k.inside.to in
    let d = k.inside.fit.pages_in in
    let f = k.inside.fit.frames_in in
    let e = c.pages.ensures in
    omega arith

pub returns-then-not-has_room_without-clause-test : goal.returns-then-not-has_room_without-clause-test
returns-then-not-has_room_without-clause-test c =
    sym c.if-not-has_room_without.true ∙ test-cut c.args.ranges c.len.result (c.args.first - c.args.range.now.start) (c.args.range.now.start + c.args.range.now.pages - (c.args.first + c.pages.result)) c.args.first c.args.order c.args.range.now c.args.treap.now.seen.kept c.has_room_without.result c.requires.there c.has_room_without.ensures c.len.ensures refl (ap (λ (p : ℕ). c.args.range.now.start + c.args.range.now.pages - (c.args.first + p)) c.pages.ensures)

pub cut-requires-clause-room : goal.cut-requires-clause-room
cut-requires-clause-room c =
    let f : length (cut c.args.first c.args.order c.args.range.now c.args.treap.now.seen.kept) ≤ c.args.ranges = few-test _ _ (sym (test-cut c.args.ranges c.len.result (c.args.first - c.args.range.now.start) (c.args.range.now.start + c.args.range.now.pages - (c.args.first + c.pages.result)) c.args.first c.args.order c.args.range.now c.args.treap.now.seen.kept c.has_room_without.result c.requires.there c.has_room_without.ensures c.len.ensures refl (ap (λ (p : ℕ). c.args.range.now.start + c.args.range.now.pages - (c.args.first + p)) c.pages.ensures)) ∙ c.if-not-has_room_without.false) in
    let n = c.requires.room in
    omega arith

pub returns-clause-test : goal.returns-clause-test
returns-clause-test c =
    sym c.if-not-has_room_without.false ∙ test-cut c.args.ranges c.len.result (c.args.first - c.args.range.now.start) (c.args.range.now.start + c.args.range.now.pages - (c.args.first + c.pages.result)) c.args.first c.args.order c.args.range.now c.args.treap.now.seen.kept c.has_room_without.result c.requires.there c.has_room_without.ensures c.len.ensures refl (ap (λ (p : ℕ). c.args.range.now.start + c.args.range.now.pages - (c.args.first + p)) c.pages.ensures)
