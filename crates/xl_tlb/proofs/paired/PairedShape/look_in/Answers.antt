use Rattle.xl_tlb.proofs.Common.{◌++◌, ◌∙◌, ◌≡◌, ap, ArePaired, arith, AtPair, Bool, drop, eqb, IsPairLook, length, map, not, spec_of, sym, take}
use Rattle.xl_tlb.proofs.PairLemmas.{pair_answer, pair_kept}
use Rattle.xl_tlb.proofs.TlbLemmas.{written}
use Rattle.xl_tlb.proofs.paired.PairedShape.look_in.Goals as goal

pub invariant_of-levels : goal.invariant_of-levels
invariant_of-levels g c =
    let t = c.levels.inside in
    let s = c.args.lookup in
    let split : Bool = not (eqb g.row.SPLIT 0) in
    let new = c.look_paired-seen.new.arrays in
    let look : AtPair (IsPairLook s.space s.page c.look_paired-seen.result) split c.args.kind t.arrays.items new = rw c.deref_mut.ensures.value at c.look_paired-seen.ensures in
    let back : take t.arrays.len (new ++ drop (length new) t.arrays.items) ≡ new =
    written t.arrays.len new t.arrays.items (c.look_paired-seen.auto.arrays ∙ ap length c.deref_mut.ensures.value) (sym c.deref_mut.ensures.len ∙ ap length c.deref_mut.ensures.value) in
    rw back (pair_kept c.look_paired-seen.result split c.args.kind s.space s.page t.arrays.items new t.hits t.misses t.fills look c.levels.invariant)

pub returns : goal.returns
returns g c =
    let t = c.levels.inside in
    let s = c.args.lookup in
    let split : Bool = not (eqb g.row.SPLIT 0) in
    let new = c.look_paired-seen.new.arrays in
    let look : AtPair (IsPairLook s.space s.page c.look_paired-seen.result) split c.args.kind t.arrays.items new = rw c.deref_mut.ensures.value at c.look_paired-seen.ensures in
    let paired : ArePaired split (map spec_of t.arrays.items) = rw (← c.levels.view_is) at c.requires.fits in
    let back : take t.arrays.len (new ++ drop (length new) t.arrays.items) ≡ new =
    written t.arrays.len new t.arrays.items (c.look_paired-seen.auto.arrays ∙ ap length c.deref_mut.ensures.value) (sym c.deref_mut.ensures.len ∙ ap length c.deref_mut.ensures.value) in
    rw (← c.levels.view_is, c.count.ensures.answer, c.count.ensures.counts, c.first_of.ensures, c.first_count.ensures, back)
    (pair_answer c.look_paired-seen.result split c.args.kind s.space s.page t.arrays.items new t.hits t.misses t.fills (omega arith) (omega arith) c.levels.ranges.1.1.1.0.1 paired c.levels.invariant.rising look)
