use Rattle.xl_tlb.proofs.Common.{◌++◌, ◌∙◌, ◌≡◌, ap, ArePaired, AtPair, Bool, drop, eqb, IsPairFill, length, map, not, small_leaf, spec_of, sym, take}
use Rattle.xl_tlb.proofs.PairLemmas.{pair_filled}
use Rattle.xl_tlb.proofs.TlbLemmas.{fill_after, fill_kept, written}
use Rattle.xl_tlb.proofs.paired.PairedShape.fill_in.Goals as goal

pub invariant_of-levels : goal.invariant_of-levels
invariant_of-levels g c =
    let t = c.levels.inside in
    let s = c.args.lookup in
    let split : Bool = not (eqb g.row.SPLIT 0) in
    let new = c.fill_paired.new.arrays in
    let fill : AtPair (IsPairFill s.space s.page c.args.word) split c.args.kind t.arrays.items new = rw c.deref_mut.ensures.value at c.fill_paired.ensures in
    let paired : ArePaired split (map spec_of t.arrays.items) = rw (← c.levels.view_is) at c.requires.fits in
    let is = pair_filled s c.args.word split c.args.kind t.arrays.items new fill paired in
    let back : take t.arrays.len (new ++ drop (length new) t.arrays.items) ≡ new =
    written t.arrays.len new t.arrays.items (c.fill_paired.auto.arrays ∙ ap length c.deref_mut.ensures.value) (sym c.deref_mut.ensures.len ∙ ap length c.deref_mut.ensures.value) in
    rw back (fill_kept t.arrays.items new t.hits t.hits t.misses t.misses t.fills _ c.levels.invariant c.args.kind (small_leaf s.space s.page c.args.word) is.0.filled)

pub returns : goal.returns
returns g c =
    let t = c.levels.inside in
    let s = c.args.lookup in
    let split : Bool = not (eqb g.row.SPLIT 0) in
    let new = c.fill_paired.new.arrays in
    let fill : AtPair (IsPairFill s.space s.page c.args.word) split c.args.kind t.arrays.items new = rw c.deref_mut.ensures.value at c.fill_paired.ensures in
    let paired : ArePaired split (map spec_of t.arrays.items) = rw (← c.levels.view_is) at c.requires.fits in
    let is = pair_filled s c.args.word split c.args.kind t.arrays.items new fill paired in
    let back : take t.arrays.len (new ++ drop (length new) t.arrays.items) ≡ new =
    written t.arrays.len new t.arrays.items (c.fill_paired.auto.arrays ∙ ap length c.deref_mut.ensures.value) (sym c.deref_mut.ensures.len ∙ ap length c.deref_mut.ensures.value) in
    rw (back, ← c.levels.view_is) (record {
      after = fill_after c.args.kind t.arrays.items new t.hits t.misses t.fills 2 (small_leaf s.space s.page c.args.word) is.0.filled is.0.count;
      kept = is.1;
    })
