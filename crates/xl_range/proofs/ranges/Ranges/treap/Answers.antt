use Rattle.xl_range.proofs.Common.{◌∙◌, ap, ranges_of, RowState, spread, sym}
use Rattle.xl_range.proofs.RunLemmas.{ranges-spread}
use Rattle.xl_range.proofs.ranges.Ranges.treap.Goals as goal

pub returns-clause-kept : goal.returns-clause-kept
returns-clause-kept c =
    sym (ranges-spread 0 c.self.inside.treap.seen.kept c.self.invariant.whole.held)
    ∙ ap (λ (s : RowState). ranges_of (spread s.treap.seen.kept)) c.self.view_is
