use Rattle.xl_lackey.proofs.Common.{refl}
use Rattle.xl_lackey.proofs.StepLemmas.{take_part}
use Rattle.xl_lackey.proofs.reader.Reader.truncate.Goals as goal

pub returns : goal.returns
returns c =
    let r = c.self.inside in rw (c.min-self-inside.ensures, ← c.self.view_is, take_part 258 r.start r.end r.buf.items) refl
