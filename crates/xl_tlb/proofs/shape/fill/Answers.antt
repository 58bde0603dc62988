use Rattle.xl_tlb.proofs.Common.{small_leaf}
use Rattle.xl_tlb.proofs.StepLemmas.{filled_specs}
use Rattle.xl_tlb.proofs.shape.fill.Goals as goal

pub returns-clause-filled : goal.returns-clause-filled
returns-clause-filled g c =
    let s = c.of-lookup.ensures in
    rw (s.space, s.page) at c.fill_in.ensures.after

pub returns-clause-fits : goal.returns-clause-fits
returns-clause-fits g c =
    let old = c.args.known.now.levels in
    let new = c.fill_in.new.levels in
    let s = c.of-lookup.result in
    let is = c.fill_in.ensures in
    c.keep.ensures old.arrays new.arrays c.requires.fits (filled_specs c.args.kind (small_leaf s.space s.page c.args.word) old new is.after) is.kept
