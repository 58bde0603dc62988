use Rattle.xl_tlb.proofs.Common.{[], ArePaired, false, IsOne, map, spec_of, true}
use Rattle.xl_tlb.proofs.shapes.AnyShape.of.Goals as goal

pub returns-then-are_joint : goal.returns-then-are_joint
returns-then-are_joint c =
    let t = c.levels.inside in
    let are = c.are_joint.ensures c.if-are_joint.true in
    let shape : ArePaired false (map spec_of t.arrays.items) = rw c.deref-arrays.ensures.value at are in
    rw (← c.levels.view_is) (record { shape = shape; known = c.none.ensures t.arrays.items (λ e. rw c.deref-arrays.ensures.value at (c.has_eights-eights.ensures e)) })

pub returns-then-are_split : goal.returns-then-are_split
returns-then-are_split c =
    let t = c.levels.inside in
    let are = c.are_split.ensures c.if-are_split.true in
    let shape : ArePaired true (map spec_of t.arrays.items) = rw c.deref-arrays.ensures.value at are in
    rw (← c.levels.view_is) (record { shape = shape; known = c.none-then-are_split.ensures t.arrays.items (λ e. rw c.deref-arrays.ensures.value at (c.has_eights-eights.ensures e)) })

pub returns-then-is_one : goal.returns-then-is_one
returns-then-is_one c =
    let t = c.levels.inside in
    let are = c.is_one.ensures c.if-is_one.true in
    let shape : IsOne (map spec_of t.arrays.items) = rw c.deref-arrays.ensures.value at are in
    rw (← c.levels.view_is) (record { shape = shape; known = c.none-then-is_one.ensures t.arrays.items (λ e. rw c.deref-arrays.ensures.value at (c.has_eights-eights.ensures e)) })

pub returns : goal.returns
returns c = c.none-2.ensures [] (λ e. tt)
