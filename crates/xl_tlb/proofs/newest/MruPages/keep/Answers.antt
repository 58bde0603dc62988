use Rattle.xl_tlb.proofs.Common.{rules}
use Rattle.xl_tlb.proofs.KnownLemmas.{kept_one, kept_others}
use Rattle.xl_tlb.proofs.newest.MruPages.keep.Goals as goal

pub returns-clause-known : goal.returns-clause-known
returns-clause-known c arrays known front =
    rw c.place_of-place.ensures (kept_one c.args.first c.args.self.now c.args.lookup c.args.word arrays c.requires.first c.requires.lookup (search rules) (search rules) known front)

pub returns-clause-others : goal.returns-clause-others
returns-clause-others c = rw c.place_of-place.ensures (kept_others c.args.first c.args.self.now c.args.lookup c.args.word c.requires.first)
