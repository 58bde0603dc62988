use Rattle.xl_tlb.proofs.Common.{◌++◌, ◌∙◌, ◌≡◌, ap, arith, AtOne, drop, IsAloneLook, IsOne, length, map, spec_of, sym, take}
use Rattle.xl_tlb.proofs.OneLemmas.{one_answer, one_kept_state}
use Rattle.xl_tlb.proofs.TlbLemmas.{written}
use Rattle.xl_tlb.proofs.one.OneShape.look_in.Goals as goal

pub invariant_of-levels : goal.invariant_of-levels
invariant_of-levels g c =
    let t = c.levels.inside in
    let s = c.args.lookup in
    let new = c.look_alone-answered.new.arrays in
    let look : AtOne (IsAloneLook s.space s.page c.look_alone-answered.result) t.arrays.items new = rw c.deref_mut.ensures.value at c.look_alone-answered.ensures in
    let back : take t.arrays.len (new ++ drop (length new) t.arrays.items) ≡ new =
    written t.arrays.len new t.arrays.items (c.look_alone-answered.auto.arrays ∙ ap length c.deref_mut.ensures.value) (sym c.deref_mut.ensures.len ∙ ap length c.deref_mut.ensures.value) in
    rw back (one_kept_state c.look_alone-answered.result s.space s.page t.arrays.items new t.hits t.misses t.fills look c.levels.invariant)

pub returns : goal.returns
returns g c =
    let t = c.levels.inside in
    let s = c.args.lookup in
    let new = c.look_alone-answered.new.arrays in
    let look : AtOne (IsAloneLook s.space s.page c.look_alone-answered.result) t.arrays.items new = rw c.deref_mut.ensures.value at c.look_alone-answered.ensures in
    let one : IsOne (map spec_of t.arrays.items) = rw (← c.levels.view_is) at c.requires.fits in
    let back : take t.arrays.len (new ++ drop (length new) t.arrays.items) ≡ new =
    written t.arrays.len new t.arrays.items (c.look_alone-answered.auto.arrays ∙ ap length c.deref_mut.ensures.value) (sym c.deref_mut.ensures.len ∙ ap length c.deref_mut.ensures.value) in
    rw (← c.levels.view_is, c.count_alone.ensures.answer, c.count_alone.ensures.counts, back) (one_answer c.look_alone-answered.result c.args._kind s.space s.page t.arrays.items new t.hits t.misses t.fills (omega arith) (omega arith) c.levels.ranges.1.1.1.0.1 one look)
