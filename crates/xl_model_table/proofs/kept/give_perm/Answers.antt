use Rattle.xl_model_table.proofs.Common.{◌++◌, ◌∙◌, ap, append-nil, arith, drop_all, map, set, sym, take, take_all}
use Rattle.std.proofs.lemmas.List.Edits.{map_over_more}
use Rattle.xl_model_table.proofs.GivenLemmas.{given, perm-named-is}
use Rattle.xl_model_table.proofs.kept.give_perm.Goals as goal

pub loop-leaf-preserved : goal.loop-leaf-preserved
unfolding given
loop-leaf-preserved c =
    let f = given c.args.space c.args.first c.args.order c.args.perm in
    ap (set c.loop-leaf.items c.loop-leaf.leaf-index) (c.given.ensures ∙ ap f (sym c.leaf-item.is))
    ∙ map_over_more f c.args.items.now c.loop-leaf.items c.loop-leaf.leaf-index c.leaf-item.result c.loop-leaf-test.true c.loop-leaf.invariant c.leaf-item.is

pub returns : goal.returns
returns c =
    let xs = c.args.items.now in
    let i = c.loop-leaf.leaf-index in
    let f = given c.args.space c.args.first c.args.order c.args.perm in
    c.loop-leaf.invariant
    ∙ ap (λ ys. map f (take i xs) ++ ys) (drop_all i xs (omega arith))
    ∙ append-nil (map f (take i xs))
    ∙ ap (map f) (take_all i xs (omega arith))
    ∙ sym (perm-named-is c.args.space c.args.first c.args.order c.args.perm xs)
