use Rattle.xl_radix.proofs.Common.{◌%◌, ◌∙◌, ◌≡◌, ap, arith, level_of, rules, up, ℕ}
use Rattle.xl_radix.proofs.PermLemmas.{frame-low, node-low, perm-step}
use Rattle.xl_radix.proofs.store.Store.write_perm.Goals as goal

pub invariant_of-self : goal.invariant_of-self
invariant_of-self g c =
    let exact = rw (← c.self.view_is) at c.requires.exact in
    let name = rw (← c.self.view_is) at c.requires.there in
    let at = rw (← c.self.view_is) at c.requires.at in
    let index : c.index_of.result ≡ up (level_of c.args.old.order) c.args.old.first % 512 = c.index_of.ensures.value ∙ ap (λ (v : ℕ). up v c.args.old.first % 512) c.level.ensures in
    let step = perm-step g.row.LEVELS _ c.args.node c.index_of.result c.leaf_word.result c.args.old c.args.perm _ _ _ _ c.self.invariant exact name at index c.leaf_word.ensures in
    rw c.set.ensures (rw step.back step.store)

pub returns : goal.returns
returns g c =
    let exact = rw (← c.self.view_is) at c.requires.exact in
    let name = rw (← c.self.view_is) at c.requires.there in
    let at = rw (← c.self.view_is) at c.requires.at in
    let index : c.index_of.result ≡ up (level_of c.args.old.order) c.args.old.first % 512 = c.index_of.ensures.value ∙ ap (λ (v : ℕ). up v c.args.old.first % 512) c.level.ensures in
    let step = perm-step g.row.LEVELS _ c.args.node c.index_of.result c.leaf_word.result c.args.old c.args.perm _ _ _ _ c.self.invariant exact name at index c.leaf_word.ensures in
    record {
      leaves = rw (c.set.ensures, ← c.self.view_is) step.back;
      nodes = search rules;
      spaces = search rules;
      exact = rw c.set.ensures (rw step.back step.exact);
    }

pub overflow_mul-at : goal.overflow_mul-at
overflow_mul-at g c = let k = node-low g.row.LEVELS _ c.args.old.space c.args.old.first (level_of c.args.old.order) c.args.node _ _ _ _ c.self.invariant (rw (← c.self.view_is) at c.requires.at) in omega arith

pub overflow_add-at : goal.overflow_add-at
overflow_add-at g c = let k = node-low g.row.LEVELS _ c.args.old.space c.args.old.first (level_of c.args.old.order) c.args.node _ _ _ _ c.self.invariant (rw (← c.self.view_is) at c.requires.at) in let h = c.index_of.ensures.low in omega arith

pub leaf_word-requires : goal.leaf_word-requires
leaf_word-requires g c = frame-low g.row.LEVELS _ c.args.old _ _ _ _ c.self.invariant (rw (← c.self.view_is) at c.requires.there)
