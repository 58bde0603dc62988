use Rattle.xl_tlb.proofs.Common.{◌++◌, ◌∙◌, ◌≡◌, ap, drop, length, reaches_leaf, sym, take}
use Rattle.xl_tlb.proofs.TlbLemmas.{fence_after, purge_kept, written}
use Rattle.xl_tlb.proofs.levels.Levels.fence.Goals as goal

pub invariant_of-self : goal.invariant_of-self
invariant_of-self c =
    let back : take c.self.inside.arrays.len (c.fence_each.new.arrays ++ drop (length c.fence_each.new.arrays) c.self.inside.arrays.items) ≡ c.fence_each.new.arrays =
    written c.self.inside.arrays.len c.fence_each.new.arrays c.self.inside.arrays.items (c.fence_each.auto.arrays ∙ ap length c.deref_mut.ensures.value) (sym c.deref_mut.ensures.len ∙ ap length c.deref_mut.ensures.value) in
    rw back (purge_kept c.self.inside.arrays.items c.fence_each.new.arrays c.self.inside.hits c.self.inside.hits c.self.inside.misses c.self.inside.misses c.self.inside.fills _ c.self.invariant
    (reaches_leaf c.args.reach) (rw c.deref_mut.ensures.value at c.fence_each.ensures.arrays))

pub returns-clause-after : goal.returns-clause-after
returns-clause-after c =
    let back : take c.self.inside.arrays.len (c.fence_each.new.arrays ++ drop (length c.fence_each.new.arrays) c.self.inside.arrays.items) ≡ c.fence_each.new.arrays =
    written c.self.inside.arrays.len c.fence_each.new.arrays c.self.inside.arrays.items (c.fence_each.auto.arrays ∙ ap length c.deref_mut.ensures.value) (sym c.deref_mut.ensures.len ∙ ap length c.deref_mut.ensures.value) in
    rw (back, ← c.self.view_is) (fence_after c.self.inside.arrays.items c.fence_each.new.arrays c.self.inside.hits c.self.inside.misses c.self.inside.fills c.args.reach
    (rw c.deref_mut.ensures.value at c.fence_each.ensures.arrays))
