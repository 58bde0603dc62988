use Rattle.xl_curve.proofs.Common.{◌<◌, ◌≡◌, ap, arith, leaf_in, length, set_of}
use Rattle.xl_curve.proofs.CurveLemmas.{accessed_by, accessed_kept, written}
use Rattle.xl_curve.proofs.curve.Curve.access_place.Goals as goal

pub invariant_of-self : goal.invariant_of-self
invariant_of-self c =
    let i = c.self.inside in
    let items : length i.stacks.items ≡ i.stacks.len = omega (arith, c.deref_mut.ensures.len, ap length c.deref_mut.ensures.value) in
    let sets : c.len.result ≡ length i.stacks.items = omega (arith, c.len.ensures, items) in
    let set_is : c.set_of-set.result ≡ set_of (length i.stacks.items) (leaf_in c.args.place) = rw (c.requires.first, c.requires.order) (rw sets at c.set_of-set.ensures.value) in
    let inside : c.set_of-set.result < length i.stacks.items = rw sets at c.set_of-set.ensures.within in
    let same : length c.access_in-distance.new.stacks ≡ i.stacks.len = omega (arith, c.access_in-distance.auto.stacks, c.deref_mut.ensures.len) in
    accessed_kept i.stacks.items c.access_in-distance.new.stacks i.stacks.len c.set_of-set.result (leaf_in c.args.place) c.self.invariant items same set_is inside c.requires.fit.aligned
    (rw c.deref_mut.ensures.value at c.access_in-distance.ensures.stacks)

pub returns : goal.returns
returns c =
    let i = c.self.inside in
    let items : length i.stacks.items ≡ i.stacks.len = omega (arith, c.deref_mut.ensures.len, ap length c.deref_mut.ensures.value) in
    let sets : c.len.result ≡ length i.stacks.items = omega (arith, c.len.ensures, items) in
    let set_is : c.set_of-set.result ≡ set_of (length i.stacks.items) (leaf_in c.args.place) = rw (c.requires.first, c.requires.order) (rw sets at c.set_of-set.ensures.value) in
    let inside : c.set_of-set.result < length i.stacks.items = rw sets at c.set_of-set.ensures.within in
    let same : length c.access_in-distance.new.stacks ≡ i.stacks.len = omega (arith, c.access_in-distance.auto.stacks, c.deref_mut.ensures.len) in
    let counts : length i.counts ≡ 64 = omega arith in
    rw (written i.stacks.len c.access_in-distance.new.stacks i.stacks.items same, ← c.self.view_is)
    (accessed_by i.stacks.items c.access_in-distance.new.stacks i.counts c.count.new.counts i.lookups c.set_of-set.result (leaf_in c.args.place) c.access_in-distance.result
    set_is inside
    (rw c.deref_mut.ensures.value at c.access_in-distance.ensures.stacks)
    (rw c.deref_mut.ensures.value at c.access_in-distance.ensures.distance)
    (rw counts c.access_in-distance.ensures.below)
    c.count.ensures)
