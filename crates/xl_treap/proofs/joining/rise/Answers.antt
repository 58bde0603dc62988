use Rattle.xl_treap.proofs.Common.{arith, refl}
use Rattle.xl_treap.proofs.RiseLemmas.{rise-one, rise-some, rise-there}
use Rattle.xl_treap.proofs.joining.rise.Goals as goal

pub loop-depth-init : goal.loop-depth-init
loop-depth-init g c = record {
  short = omega arith;
  here = c.requires.spine.here;
  but = record { off = record { len = refl; same = λ m o j l. refl }; kept = λ m j l. refl };
}

pub hang-requires : goal.hang-requires
hang-requires g c =
    let l = c.loop-depth in
    rise-there c.args.words.now l.words c.args.path.now g.tree c.args.key c.args.way.depth l.depth l.at c.args.way.at c.requires c.loop-depth-test.true l.invariant.short l.invariant.here l.invariant.but

pub loop-depth-preserved : goal.loop-depth-preserved
loop-depth-preserved g c =
    let l = c.loop-depth in
    let r = rise-one c.args.words.now l.words c.args.path.now g.tree c.args.key c.args.way.depth l.depth l.at c.args.way.at c.requires c.loop-depth-test.true l.invariant.short l.invariant.here l.invariant.but c.hang.new.words c.hang.ensures in
    record { short = (let s = l.invariant.short in omega arith); here = r.0; but = r.1 }

pub overflow_sub-above-in-loop-depth : goal.overflow_sub-above-in-loop-depth
overflow_sub-above-in-loop-depth g c =
    let l = c.loop-depth in
    let h = rise-some c.args.words.now l.words c.args.path.now g.tree c.args.key c.args.way.depth l.depth l.at c.args.way.at c.requires c.loop-depth-test.true l.invariant.short l.invariant.here l.invariant.but in
    omega (arith, h)
