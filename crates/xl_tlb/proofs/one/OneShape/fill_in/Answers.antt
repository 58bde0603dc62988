use Rattle.xl_tlb.proofs.Common.{◌++◌, ◌∙◌, ◌≡◌, ap, AtOne, drop, IsAloneFill, IsOne, length, map, small_leaf, spec_of, sym, take}
use Rattle.xl_tlb.proofs.OneLemmas.{one_filled}
use Rattle.xl_tlb.proofs.TlbLemmas.{fill_after, fill_kept, written}
use Rattle.xl_model.specs.declared.address.Kind.TheVariants as kind
use Rattle.xl_tlb.proofs.one.OneShape.fill_in.Goals as goal

pub invariant_of-levels : goal.invariant_of-levels
invariant_of-levels c =
    let t = c.levels.inside in
    let s = c.args.lookup in
    let new = c.fill_alone.new.arrays in
    let fill : AtOne (IsAloneFill s.space s.page c.args.word) t.arrays.items new = rw c.deref_mut.ensures.value at c.fill_alone.ensures in
    let one : IsOne (map spec_of t.arrays.items) = rw (← c.levels.view_is) at c.requires.fits in
    let is = one_filled s c.args.word kind.Load t.arrays.items new fill one in
    let back : take t.arrays.len (new ++ drop (length new) t.arrays.items) ≡ new =
    written t.arrays.len new t.arrays.items (c.fill_alone.auto.arrays ∙ ap length c.deref_mut.ensures.value) (sym c.deref_mut.ensures.len ∙ ap length c.deref_mut.ensures.value) in
    rw back (fill_kept t.arrays.items new t.hits t.hits t.misses t.misses t.fills _ c.levels.invariant kind.Load (small_leaf s.space s.page c.args.word) is.0.filled)

pub returns : goal.returns
returns c =
    let t = c.levels.inside in
    let s = c.args.lookup in
    let new = c.fill_alone.new.arrays in
    let fill : AtOne (IsAloneFill s.space s.page c.args.word) t.arrays.items new = rw c.deref_mut.ensures.value at c.fill_alone.ensures in
    let one : IsOne (map spec_of t.arrays.items) = rw (← c.levels.view_is) at c.requires.fits in
    let is = one_filled s c.args.word c.args._kind t.arrays.items new fill one in
    let back : take t.arrays.len (new ++ drop (length new) t.arrays.items) ≡ new =
    written t.arrays.len new t.arrays.items (c.fill_alone.auto.arrays ∙ ap length c.deref_mut.ensures.value) (sym c.deref_mut.ensures.len ∙ ap length c.deref_mut.ensures.value) in
    rw (back, ← c.levels.view_is) (record {
      after = fill_after c.args._kind t.arrays.items new t.hits t.misses t.fills 1 (small_leaf s.space s.page c.args.word) is.0.filled is.0.count;
      kept = is.1;
    })
