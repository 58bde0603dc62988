use Rattle.xl_range.proofs.Common.{ap, leaf_in, refl, row_table, sym}
use Rattle.xl_range.proofs.WalkLemmas.{found-own, hit-at, hit-walk, page-walk, still-walk}
use Rattle.xl_range.proofs.ranges.Ranges.walk_newest.Goals as goal

pub walk_of-requires-clause-at : goal.walk_of-requires-clause-at
walk_of-requires-clause-at c =
    hit-at c.self.inside.ranges c.args.space c.args.page c.self.inside.treap.seen c.self.inside.tlb c.in-Some.range.now c.self.invariant (sym c.in-Some.ensures.found)

pub walk_of-requires-clause-own : goal.walk_of-requires-clause-own
walk_of-requires-clause-own c = found-own c.args.space c.args.page c.in-Some.range.now c.self.inside.tlb.items (sym c.in-Some.ensures.found)

pub returns-in-Some : goal.returns-in-Some
returns-in-Some c =
    record {
      walks = page-walk c.args.space c.args.page _ _ (row_table c.args.self.now) (row_table c.args.self.now) c.walk_of.ensures
          (still-walk c.args.space c.args.page c.self.inside.ranges c.self.inside.treap.seen c.self.inside.tlb _ (row_table c.args.self.now) (ap row_table c.self.view_is) (hit-walk c.self.inside.ranges c.args.space c.args.page c.self.inside.treap.seen c.self.inside.tlb c.self.inside.tlb c.in-Some.range.now (leaf_in c.args.page c.in-Some.range.now) c.self.invariant (sym c.in-Some.ensures.found) (sym c.in-Some.ensures.same) refl));
    }
