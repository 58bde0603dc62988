use Rattle.xl_tlb.proofs.ShapeLemmas.{forgot_fits}
use Rattle.xl_tlb.proofs.StepLemmas.{look_specs}
use Rattle.xl_tlb.proofs.shape.look_in_turn.Goals as goal

pub returns-clause-fits : goal.returns-clause-fits
returns-clause-fits g c =
    let old = c.args.known.now.levels in
    let new = c.look.new.self in
    let specs = look_specs c.args.kind c.args.space c.args.page c.look.result old new c.look.ensures in
    forgot_fits _ _ _ _ old.arrays new.arrays specs c.requires.fits (c.forget.ensures _ old.arrays new.arrays c.requires.fits.known specs)
