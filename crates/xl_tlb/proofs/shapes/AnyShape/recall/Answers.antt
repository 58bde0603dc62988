use Rattle.xl_tlb.proofs.Common.{arith, split_of}
use Rattle.xl_tlb.proofs.ShapeLemmas.{few_firsts, recalled, shape_numbers}
use Rattle.xl_tlb.proofs.shapes.AnyShape.recall.Goals as goal

pub word-requires-clause-first : goal.word-requires-clause-first
word-requires-clause-first c =
    let e = c.first-first.ensures (split_of c.args.self) (shape_numbers c.args.self c.args.known.now.pages c.args.known.now.levels.arrays c.requires.fits) in
    rw e (few_firsts (split_of c.args.self) c.args.kind)

pub hit-requires : goal.hit-requires
hit-requires c =
    let e = c.first-first.ensures (split_of c.args.self) (shape_numbers c.args.self c.args.known.now.pages c.args.known.now.levels.arrays c.requires.fits) in
    let few = few_firsts (split_of c.args.self) c.args.kind in
    omega (arith, e, few)

pub returns-clause-some : goal.returns-clause-some
returns-clause-some c =
    let e = c.first-first.ensures (split_of c.args.self) (shape_numbers c.args.self c.args.known.now.pages c.args.known.now.levels.arrays c.requires.fits) in
    let front = rw e at c.in-Some.ensures in
    rw (c.hit.ensures.counts, e) (recalled c.args.kind c.args.lookup.space c.args.lookup.page c.in-Some.word c.args.known.now.levels c.hit.ensures.state c.args.self c.args.known.now.pages c.requires.fits front)

pub returns-clause-fits : goal.returns-clause-fits
returns-clause-fits c = rw c.hit.ensures.counts c.requires.fits
