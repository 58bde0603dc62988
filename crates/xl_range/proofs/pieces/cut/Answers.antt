use Rattle.xl_range.proofs.Common.{◌+◌, ◌-◌, ◌∙◌, ◌≡◌, ◌≤◌, ap, arith, cut, IsApart, keeping, kept_following, length, List, Range, subst, sym, TreapView}
use Rattle.xl_range.proofs.CutCallLemmas.{can-cut, CanCut, put-calls}
use Rattle.xl_range.proofs.pieces.cut.Goals as goal

pub overflow_add-end : goal.overflow_add-end
overflow_add-end c =
    let k : CanCut c.args.first c.args.order c.args.range.now c.args.treap.now.seen.kept = can-cut c.args.range.now.space c.args.first c.args.order c.args.range.now c.args.treap.now.seen.kept c.requires.held c.requires.there c.requires.place in
    let b = k.inside.to in
    let d = k.inside.fit.pages_in in
    let f = k.inside.fit.frames_in in
    let e = c.pages.ensures in
    omega arith

pub overflow_add-rest : goal.overflow_add-rest
overflow_add-rest c =
    let k : CanCut c.args.first c.args.order c.args.range.now c.args.treap.now.seen.kept = can-cut c.args.range.now.space c.args.first c.args.order c.args.range.now c.args.treap.now.seen.kept c.requires.held c.requires.there c.requires.place in
    let b = k.inside.to in
    let d = k.inside.fit.pages_in in
    let f = k.inside.fit.frames_in in
    let e = c.pages.ensures in
    omega arith

pub overflow_add-rest-2 : goal.overflow_add-rest-2
overflow_add-rest-2 c =
    let k : CanCut c.args.first c.args.order c.args.range.now c.args.treap.now.seen.kept = can-cut c.args.range.now.space c.args.first c.args.order c.args.range.now c.args.treap.now.seen.kept c.requires.held c.requires.there c.requires.place in
    let b = k.inside.to in
    let d = k.inside.fit.pages_in in
    let f = k.inside.fit.frames_in in
    let e = c.pages.ensures in
    omega arith

pub cut_before-requires-clause-there : goal.cut_before-requires-clause-there
cut_before-requires-clause-there c =
    let k : CanCut c.args.first c.args.order c.args.range.now c.args.treap.now.seen.kept = can-cut c.args.range.now.space c.args.first c.args.order c.args.range.now c.args.treap.now.seen.kept c.requires.held c.requires.there c.requires.place in
    k.there

pub cut_before-requires-clause-apart : goal.cut_before-requires-clause-apart
cut_before-requires-clause-apart c =
    let k : CanCut c.args.first c.args.order c.args.range.now c.args.treap.now.seen.kept = can-cut c.args.range.now.space c.args.first c.args.order c.args.range.now c.args.treap.now.seen.kept c.requires.held c.requires.there c.requires.place in
    k.shorter

pub put_rest-requires : goal.put_rest-requires
put_rest-requires c =
    let k : CanCut c.args.first c.args.order c.args.range.now c.args.treap.now.seen.kept = can-cut c.args.range.now.space c.args.first c.args.order c.args.range.now c.args.treap.now.seen.kept c.requires.held c.requires.there c.requires.place in
    let e : kept_following (c.args.range.now.start + c.args.range.now.pages - (c.args.first + c.pages.result)) (record c.args.range.now { start = c.args.first + c.pages.result; pages = c.args.range.now.start + c.args.range.now.pages - (c.args.first + c.pages.result); frame = c.args.range.now.frame + (c.args.first + c.pages.result - c.args.range.now.start) }) c.cut_before.new.treap.seen.kept ≡ cut c.args.first c.args.order c.args.range.now c.args.treap.now.seen.kept =
    put-calls c.args.first c.pages.result c.args.order c.args.range.now c.args.treap.now.seen c.cut_before.new.treap.seen c.pages.ensures c.cut_before.ensures k in
    let Q : TreapView → Type 0 = λ t. length (cut c.args.first c.args.order c.args.range.now c.args.treap.now.seen.kept) ≤ t.nodes in
    record {
      apart = subst (λ (xs : List Range). IsApart 0 xs) (sym e) k.apart;
      room =
          subst (λ (xs : List Range). length xs ≤ c.cut_before.new.treap.seen.nodes) (sym e) (subst Q (sym c.cut_before.ensures) c.requires.room);
    }

pub returns : goal.returns
returns c =
    let k : CanCut c.args.first c.args.order c.args.range.now c.args.treap.now.seen.kept = can-cut c.args.range.now.space c.args.first c.args.order c.args.range.now c.args.treap.now.seen.kept c.requires.held c.requires.there c.requires.place in
    let e : kept_following (c.args.range.now.start + c.args.range.now.pages - (c.args.first + c.pages.result)) (record c.args.range.now { start = c.args.first + c.pages.result; pages = c.args.range.now.start + c.args.range.now.pages - (c.args.first + c.pages.result); frame = c.args.range.now.frame + (c.args.first + c.pages.result - c.args.range.now.start) }) c.cut_before.new.treap.seen.kept ≡ cut c.args.first c.args.order c.args.range.now c.args.treap.now.seen.kept =
    put-calls c.args.first c.pages.result c.args.order c.args.range.now c.args.treap.now.seen c.cut_before.new.treap.seen c.pages.ensures c.cut_before.ensures k in
    c.put_rest.ensures ∙ ap (keeping c.cut_before.new.treap.seen) e ∙ ap (λ (t : TreapView). keeping t (cut c.args.first c.args.order c.args.range.now c.args.treap.now.seen.kept)) c.cut_before.ensures
