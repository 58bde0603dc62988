use Rattle.xl_curve.proofs.Common.{◌∙◌, ◌≡◌, arith, false, gap, leaf_in, list_of, places_of, same_leaf, sym}
use Rattle.xl_curve.proofs.KernelLemmas.{further_none, gaps_passed, no_gap}
use Rattle.xl_curve.proofs.RankLemmas.{turn_length}
use Rattle.xl_curve.proofs.kernel.bring_apart.Goals as goal

pub bring_anew-requires-clause-none : goal.bring_anew-requires-clause-none
bring_anew-requires-clause-none c =
    let q = same_leaf (leaf_in c.args.leaf) in
    let s = c.args.slots.now in
    let kept = c.requires.kept in
    let full : s.solid ≡ 64 = c.if-slots-eq64.true in
    let unmarked : c.is_marked.result ≡ false = c.if-not-is_marked.true in
    sym (further_none (gap q (list_of s)))
    ∙ gaps_passed s.marks s.ranks s.places kept.guided.stack (omega arith) (omega arith) c.args.leaf 0 64 c.requires.solid (omega arith) (omega arith)
    (λ k l a b. (rw c.mark.ensures at (c.is_marked.ensures unmarked k l), λ h. omega (arith, kept.front k l h, full, b)))
    ∙ sym (no_gap q (list_of s) 64 (omega (arith, turn_length s.ranks (places_of s.places))))
