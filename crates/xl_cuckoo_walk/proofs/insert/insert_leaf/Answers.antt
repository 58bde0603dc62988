use Rattle.xl_cuckoo_walk.proofs.Common.{◌≤◌, Insert, length, lit<, RowParts, subst, sym}
use Rattle.xl_cuckoo_walk.proofs.HoldLemmas.{few-ways, fit-leaf}
use Rattle.xl_cuckoo_walk.proofs.StepLemmas.{counted-row, inserted-by, less-cached, SteppedRow}
use Rattle.xl_cuckoo_walk.proofs.insert.insert_leaf.Given.{Over}
use Rattle.xl_model.specs.declared.address.Order.TheVariants as order
use Rattle.xl_cuckoo_walk.proofs.insert.insert_leaf.Goals as goal

pub refresh_displaced-requires : goal.refresh_displaced-requires
refresh_displaced-requires g c =
    let holds = c.in-Ok.ensures.made.holds in
    (lit< tt, (few-ways c.enter.new.parts _ holds order.M2, few-ways c.enter.new.parts _ holds order.G1))

pub refresh_leaf-requires : goal.refresh_leaf-requires
refresh_leaf-requires g c =
    let a = c.args in
    let p = (fit-leaf a.parts.now a.leaf c.requires.valid).aligned.placed in
    let few : RowParts → Type 0 = λ q. (length q.tables.m2.ways ≤ 4) × (length q.tables.g1.ways ≤ 4) in
    let w = subst few (sym c.refresh_displaced.ensures) (few-ways c.enter.new.parts _ c.in-Ok.ensures.made.holds order.M2, few-ways c.enter.new.parts _ c.in-Ok.ensures.made.holds order.G1) in
    (lit< tt, (w.0, (w.1, (p.space_in, p.page_in))))

pub overflow_sub-before : goal.overflow_sub-before
overflow_sub-before g c =
    let a = c.args in
    less-cached (Insert a.leaf) a.parts.now c.refresh_leaf.new.parts c.in-Ok.moves c.cached-before.result c.cached.result
    (inserted-by c.words_read_back.ensures a.parts.now c.enter.new.parts c.refresh_displaced.new.parts c.refresh_leaf.new.parts c.requires.whole a.leaf c.requires.valid c.requires.free c.in-Ok.moves
    c.in-Ok.ensures.made c.refresh_displaced.ensures c.refresh_leaf.ensures)
    c.cached-before.ensures.is c.cached.ensures.is

stepped : (g : Over) (c : goal.After-work g) → SteppedRow (Insert c.args.leaf) c.args.parts.now c.refresh_leaf.new.parts c.in-Ok.moves
stepped g c =
    inserted-by c.words_read_back.ensures c.args.parts.now c.enter.new.parts c.refresh_displaced.new.parts c.refresh_leaf.new.parts c.requires.whole c.args.leaf c.requires.valid c.requires.free c.in-Ok.moves
    c.in-Ok.ensures.made c.refresh_displaced.ensures c.refresh_leaf.ensures

pub returns-in-Ok-clause-whole : goal.returns-in-Ok-clause-whole
returns-in-Ok-clause-whole g c = (stepped g c).row

pub returns-in-Ok-clause-changes : goal.returns-in-Ok-clause-changes
returns-in-Ok-clause-changes g c =
    counted-row (Insert c.args.leaf) c.args.parts.now c.refresh_leaf.new.parts c.in-Ok.moves c.cached-before.result c.cached.result c.work.result
    (stepped g c) c.cached-before.ensures.is c.cached.ensures.is c.work.ensures
