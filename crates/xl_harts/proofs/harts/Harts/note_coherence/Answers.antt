use Rattle.xl_harts.proofs.Common.{coherent, HartsState, IsKept, subst}
use Rattle.xl_harts.proofs.AccessLemmas.{replies-small}
use Rattle.xl_harts.proofs.harts.Harts.note_coherence.Goals as goal

pub returns-clause-coherent : goal.returns-clause-coherent
returns-clause-coherent c =
    coherent c.args.self.now (subst (λ (s : HartsState). IsKept s) c.self.view_is c.self.invariant.kept)

pub returns-clause-small : goal.returns-clause-small
returns-clause-small c =
    replies-small c.args.self.now (subst (λ (s : HartsState). IsKept s) c.self.view_is c.self.invariant.kept)
