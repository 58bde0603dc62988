use Rattle.xl_range.proofs.Common.{◌∙◌, ap, leaf_in, None, refl, row_table, Some, sym}
use Rattle.xl_range.proofs.FindLemmas.{found-at}
use Rattle.xl_range.proofs.WalkLemmas.{found-own, hit-at, hit-walk, keepable, miss-walk, none-of, page-walk, seen-walk}
use Rattle.xl_range.proofs.ranges.Ranges.walk_next.Goals as goal

pub walk_of-requires-clause-at : goal.walk_of-requires-clause-at
walk_of-requires-clause-at c =
    hit-at c.self.inside.ranges c.args.space c.args.page c.self.inside.treap.seen c.self.inside.tlb c.in-Some.range c.self.invariant c.in-Some.ensures.found

pub invariant_of-self : goal.invariant_of-self
invariant_of-self c =
    (hit-walk c.self.inside.ranges c.args.space c.args.page c.self.inside.treap.seen c.self.inside.tlb c.look.new.self c.in-Some.range (leaf_in c.args.page c.in-Some.range) c.self.invariant c.in-Some.ensures.found c.in-Some.ensures.after refl).row

pub walk_of-requires-clause-own : goal.walk_of-requires-clause-own
walk_of-requires-clause-own c = found-own c.args.space c.args.page c.in-Some.range c.self.inside.tlb.items c.in-Some.ensures.found

pub returns-in-Some : goal.returns-in-Some
returns-in-Some c =
    page-walk c.args.space c.args.page _ _ (row_table c.args.self.now) _ c.walk_of.ensures
    (seen-walk c.args.space c.args.page c.self.inside.ranges c.self.inside.treap.seen c.self.inside.treap.seen c.self.inside.tlb c.look.new.self _ (row_table c.args.self.now) (ap row_table c.self.view_is) (hit-walk c.self.inside.ranges c.args.space c.args.page c.self.inside.treap.seen c.self.inside.tlb c.look.new.self c.in-Some.range (leaf_in c.args.page c.in-Some.range) c.self.invariant c.in-Some.ensures.found c.in-Some.ensures.after refl))

pub fill-requires : goal.fill-requires
fill-requires c =
    keepable c.args.page c.in-Some-walk.range (found-at c.args.space c.args.page c.self.inside.treap.seen.kept c.in-Some-walk.range c.self.invariant.whole.held (sym c.walk.ensures.found ∙ c.in-Some-walk.is))

pub walk_of-requires-in-Some-walk-clause-own : goal.walk_of-requires-in-Some-walk-clause-own
walk_of-requires-in-Some-walk-clause-own c = found-own c.args.space c.args.page c.in-Some-walk.range c.self.inside.treap.seen.kept (sym c.in-Some-walk.is ∙ c.walk.ensures.found)

pub walk_of-requires-in-Some-walk-clause-at : goal.walk_of-requires-in-Some-walk-clause-at
walk_of-requires-in-Some-walk-clause-at c =
    found-at c.args.space c.args.page c.self.inside.treap.seen.kept c.in-Some-walk.range c.self.invariant.whole.held (sym c.walk.ensures.found ∙ c.in-Some-walk.is)

pub invariant_of-self-in-Some-walk : goal.invariant_of-self-in-Some-walk
invariant_of-self-in-Some-walk c =
    (miss-walk c.self.inside.ranges c.args.space c.args.page c.self.inside.treap.seen c.walk.new.self.seen c.self.inside.tlb c.look.new.self c.fill.new.self (Some c.in-Some-walk.range) c.self.invariant (sym (none-of c.look.result c.in_default.not-Some) ∙ c.look.ensures.found) c.look.ensures.after (record { found = (sym c.in-Some-walk.is ∙ c.walk.ensures.found); loads = c.walk.ensures.loads }) c.fill.ensures).row

pub invariant_of-self-in-None : goal.invariant_of-self-in-None
invariant_of-self-in-None c =
    (miss-walk c.self.inside.ranges c.args.space c.args.page c.self.inside.treap.seen c.walk.new.self.seen c.self.inside.tlb c.look.new.self c.look.new.self None c.self.invariant (sym (none-of c.look.result c.in_default.not-Some) ∙ c.look.ensures.found) c.look.ensures.after (record { found = (sym c.in-None.is ∙ c.walk.ensures.found); loads = c.walk.ensures.loads }) refl).row

pub returns-in-Some-walk : goal.returns-in-Some-walk
returns-in-Some-walk c =
    page-walk c.args.space c.args.page _ _ (row_table c.args.self.now) _ c.walk_of-in-Some-walk.ensures
    (seen-walk c.args.space c.args.page c.self.inside.ranges c.self.inside.treap.seen c.walk.new.self.seen c.self.inside.tlb c.fill.new.self _ (row_table c.args.self.now) (ap row_table c.self.view_is) (miss-walk c.self.inside.ranges c.args.space c.args.page c.self.inside.treap.seen c.walk.new.self.seen c.self.inside.tlb c.look.new.self c.fill.new.self (Some c.in-Some-walk.range) c.self.invariant (sym (none-of c.look.result c.in_default.not-Some) ∙ c.look.ensures.found) c.look.ensures.after (record { found = (sym c.in-Some-walk.is ∙ c.walk.ensures.found); loads = c.walk.ensures.loads }) c.fill.ensures))

pub returns-in-None : goal.returns-in-None
returns-in-None c =
    seen-walk c.args.space c.args.page c.self.inside.ranges c.self.inside.treap.seen c.walk.new.self.seen c.self.inside.tlb c.look.new.self _ (row_table c.args.self.now) (ap row_table c.self.view_is) (miss-walk c.self.inside.ranges c.args.space c.args.page c.self.inside.treap.seen c.walk.new.self.seen c.self.inside.tlb c.look.new.self c.look.new.self None c.self.invariant (sym (none-of c.look.result c.in_default.not-Some) ∙ c.look.ensures.found) c.look.ensures.after (record { found = (sym c.in-None.is ∙ c.walk.ensures.found); loads = c.walk.ensures.loads }) refl)
