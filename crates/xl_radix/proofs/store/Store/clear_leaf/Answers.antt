use Rattle.xl_radix.proofs.Common.{◌%◌, ◌∙◌, ◌≡◌, ap, level_of, refl, rules, up, ℕ}
use Rattle.xl_radix.proofs.RemovalLemmas.{clear-step}
use Rattle.xl_radix.proofs.store.Store.clear_leaf.Goals as goal

pub overflow_sub-index_mut : goal.overflow_sub-index_mut
overflow_sub-index_mut g c =
    let exact = rw (← c.self.view_is) at c.requires.exact in
    let name = rw (← c.self.view_is) at c.requires.named in
    let at = rw (← c.self.view_is) at c.requires.at in
    (clear-step g.row.LEVELS _ c.args.space c.args.first c.args.node (up (level_of c.args.order) c.args.first % 512) c.index_mut.result.now c.args.order _ _ _ _ c.self.invariant exact name at refl c.index_mut.ensures.value).some

pub invariant_of-self : goal.invariant_of-self
invariant_of-self g c =
    let exact = rw (← c.self.view_is) at c.requires.exact in
    let name = rw (← c.self.view_is) at c.requires.named in
    let at = rw (← c.self.view_is) at c.requires.at in
    let index : c.index_of.result ≡ up (level_of c.args.order) c.args.first % 512 = c.index_of.ensures.value ∙ ap (λ (v : ℕ). up v c.args.first % 512) c.level.ensures in
    let step = clear-step g.row.LEVELS _ c.args.space c.args.first c.args.node c.index_of.result c.index_mut.result.now c.args.order _ _ _ _ c.self.invariant exact name at index c.index_mut.ensures.value in
    rw c.set.ensures (rw step.back step.store)

pub returns : goal.returns
returns g c =
    let exact = rw (← c.self.view_is) at c.requires.exact in
    let name = rw (← c.self.view_is) at c.requires.named in
    let at = rw (← c.self.view_is) at c.requires.at in
    let index : c.index_of.result ≡ up (level_of c.args.order) c.args.first % 512 = c.index_of.ensures.value ∙ ap (λ (v : ℕ). up v c.args.first % 512) c.level.ensures in
    let step = clear-step g.row.LEVELS _ c.args.space c.args.first c.args.node c.index_of.result c.index_mut.result.now c.args.order _ _ _ _ c.self.invariant exact name at index c.index_mut.ensures.value in
    record {
      leaves = rw (c.set.ensures, ← c.self.view_is) step.back;
      nodes = search rules;
      spaces = search rules;
      nearly = rw c.set.ensures (rw step.back step.nearly);
    }
