use Rattle.xl_outside.proofs.Common.{◌∙◌, sym}
use Rattle.xl_outside.proofs.open_folder.OpenFolder.read.Goals as goal

pub placed-requires : goal.placed-requires
placed-requires g c = λ fs e p h. c.args.self.now.held fs e p (sym c.take-last.ensures.value ∙ h)
