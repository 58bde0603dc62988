use Rattle.xl_radix.proofs.Common.{◌%◌, ◌∙◌, ◌≡◌, ap, arith, level_of, rules, up, ℕ}
use Rattle.xl_radix.proofs.StepLemmas.{at_node-in, count-fits, put-step}
use Rattle.xl_radix.proofs.store.Store.write_leaf.Goals as goal

pub overflow_add-index_mut : goal.overflow_add-index_mut
overflow_add-index_mut g c =
    let ready = rw (← c.self.view_is) at c.requires.ready in
    let h = count-fits g.row.LEVELS _ c.args.node c.index_mut.result.now _ _ _ _ c.self.invariant (at_node-in c.args.leaf.space c.args.leaf.first (level_of c.args.leaf.order) c.args.node _ ready.at) c.index_mut.ensures.value in
    omega (arith, h)

pub invariant_of-self : goal.invariant_of-self
invariant_of-self g c =
    let ready = rw (← c.self.view_is) at c.requires.ready in
    let new = rw (← c.self.view_is) at c.requires.new in
    let index : c.index_of.result ≡ up (level_of c.args.leaf.order) c.args.leaf.first % 512 = c.index_of.ensures.value ∙ ap (λ (v : ℕ). up v c.args.leaf.first % 512) c.level.ensures in
    let step = put-step g.row.LEVELS _ c.args.node c.index_of.result c.leaf_word.result c.index_mut.result.now c.args.leaf _ _ _ _ c.self.invariant new ready index c.leaf_word.ensures c.index_mut.ensures.value in
    rw c.set.ensures (rw step.back step.store)

pub returns : goal.returns
returns g c =
    let ready = rw (← c.self.view_is) at c.requires.ready in
    let new = rw (← c.self.view_is) at c.requires.new in
    let index : c.index_of.result ≡ up (level_of c.args.leaf.order) c.args.leaf.first % 512 = c.index_of.ensures.value ∙ ap (λ (v : ℕ). up v c.args.leaf.first % 512) c.level.ensures in
    let step = put-step g.row.LEVELS _ c.args.node c.index_of.result c.leaf_word.result c.index_mut.result.now c.args.leaf _ _ _ _ c.self.invariant new ready index c.leaf_word.ensures c.index_mut.ensures.value in
    record {
      leaves = rw (c.set.ensures, ← c.self.view_is) step.back;
      nodes = search rules;
      spaces = search rules;
      exact = λ near. rw c.set.ensures (rw step.back (step.exact (rw (← c.self.view_is) at near)));
    }
