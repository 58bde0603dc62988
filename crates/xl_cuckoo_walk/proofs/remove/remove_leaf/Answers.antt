use Rattle.xl_cuckoo_walk.proofs.Common.{◌-◌, ap, lit<, no_moves, Remove, row_state, Work}
use Rattle.xl_cuckoo_walk.proofs.HoldLemmas.{few-ways}
use Rattle.xl_cuckoo_walk.proofs.StepLemmas.{counted-row, less-cached, named-leaf, NamedLeaf, removed-by, SteppedRow}
use Rattle.xl_cuckoo_walk.proofs.remove.remove_leaf.Given.{Over}
use Rattle.xl_model.specs.declared.address.Order.TheVariants as order
use Rattle.xl_cuckoo_walk.proofs.remove.remove_leaf.Goals as goal

pub leave-requires : goal.leave-requires
unfolding row_state
leave-requires g c = (lit< tt, (c.requires.whole.holds, c.requires.named))

pub refresh_leaf-requires : goal.refresh_leaf-requires
refresh_leaf-requires g c =
    let a = c.args in
    let n : NamedLeaf a.parts.now a.space a.first a.order = named-leaf c.words_read_back.ensures a.parts.now c.requires.whole a.space a.first a.order c.requires.named in
    (lit< tt, (few-ways c.leave.new.parts _ c.leave.ensures.holds order.M2, (few-ways c.leave.new.parts _ c.leave.ensures.holds order.G1, (n.space_in, n.page_in))))

pub overflow_sub-result : goal.overflow_sub-result
overflow_sub-result g c =
    let a = c.args in
    less-cached (Remove a.space a.first a.order) a.parts.now c.refresh_leaf.new.parts no_moves c.cached-before.result c.cached.result
    (removed-by c.words_read_back.ensures a.parts.now c.leave.new.parts c.refresh_leaf.new.parts c.requires.whole a.space a.first a.order c.requires.named c.leave.ensures c.refresh_leaf.ensures)
    c.cached-before.ensures.is c.cached.ensures.is

stepped : (g : Over) (c : goal.After-none g) → SteppedRow (Remove c.args.space c.args.first c.args.order) c.args.parts.now c.refresh_leaf.new.parts no_moves
stepped g c =
    removed-by c.words_read_back.ensures c.args.parts.now c.leave.new.parts c.refresh_leaf.new.parts c.requires.whole c.args.space c.args.first c.args.order c.requires.named c.leave.ensures c.refresh_leaf.ensures

pub returns-clause-whole : goal.returns-clause-whole
returns-clause-whole g c = (stepped g c).row

pub returns-clause-changes : goal.returns-clause-changes
returns-clause-changes g c =
    counted-row (Remove c.args.space c.args.first c.args.order) c.args.parts.now c.refresh_leaf.new.parts no_moves c.cached-before.result c.cached.result (record c.none.result { invalidated = c.cached-before.result - c.cached.result })
    (stepped g c) c.cached-before.ensures.is c.cached.ensures.is (ap (λ (w : Work). record w { invalidated = c.cached-before.result - c.cached.result }) c.none.ensures)
