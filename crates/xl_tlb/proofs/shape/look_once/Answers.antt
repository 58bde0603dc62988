use Rattle.xl_tlb.proofs.ShapeLemmas.{forgot_fits}
use Rattle.xl_tlb.proofs.StepLemmas.{looked_specs, nowhere_same, word_seen}
use Rattle.xl_tlb.proofs.shape.look_once.Goals as goal

pub returns-in-Word-clause-answer : goal.returns-in-Word-clause-answer
returns-in-Word-clause-answer g c = word_seen _ c.args.kind c.args.lookup.space c.args.lookup.page c.in-Word.word c.args.known.now.levels c.look_in.new.levels c.in-Word.ensures

pub returns-in-Word-clause-fits : goal.returns-in-Word-clause-fits
returns-in-Word-clause-fits g c =
    let old = c.args.known.now.levels in
    let new = c.look_in.new.levels in
    let is = c.in-Word.ensures in
    c.keep.ensures old.arrays new.arrays c.requires.fits (looked_specs c.args.kind c.args.lookup.space c.args.lookup.page old new is.after) is.kept

pub returns-in-Large-clause-fits : goal.returns-in-Large-clause-fits
returns-in-Large-clause-fits g c =
    let old = c.args.known.now.levels in
    let new = c.look_in.new.levels in
    let specs = looked_specs c.args.kind c.args.lookup.space c.args.lookup.page old new c.in-Large.ensures.after in
    forgot_fits _ _ _ _ old.arrays new.arrays specs c.requires.fits (c.forget.ensures _ old.arrays new.arrays c.requires.fits.known specs)

pub returns-in-Nowhere-clause-fits : goal.returns-in-Nowhere-clause-fits
returns-in-Nowhere-clause-fits g c =
    rw (nowhere_same c.args.kind c.args.lookup.space c.args.lookup.page c.args.known.now.levels c.look_in.new.levels c.in-Nowhere.ensures) c.requires.fits

pub returns-in-Unknown-clause-fits : goal.returns-in-Unknown-clause-fits
returns-in-Unknown-clause-fits g c = rw c.in-Unknown.ensures.1 c.requires.fits
