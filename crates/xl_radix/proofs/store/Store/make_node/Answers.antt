use Rattle.xl_radix.proofs.Common.{◌-◌, ◌∙◌, ◌≡◌, ap, arith, Node, refl, rules, slice_set, Some, sym, up, ℕ}
use Rattle.xl_radix.proofs.FreeLemmas.{not-none}
use Rattle.xl_radix.proofs.SlotLemmas.{lowest-is, put-first-count, put-lowest}
use Rattle.xl_radix.proofs.StepLemmas.{at_node-in, count-fits, made-step-at}
use Rattle.xl_radix.proofs.store.Store.make_node.Goals as goal

abbrev named : ℕ → ℕ → ℕ → Node
named s l q = record { space = s; level = l; prefix = q }

pub unreachable-requires : goal.unreachable-requires
unreachable-requires g c =
    let free = rw (← c.self.view_is) at c.requires.free in
    not-none c.self.inside.numbers c.take.result c.take.ensures.none c.in_default.not-Some free

pub overflow_add-index_mut : goal.overflow_add-index_mut
overflow_add-index_mut g c =
    let ready = rw (← c.self.view_is) at c.requires.ready in
    let h = count-fits g.row.LEVELS _ c.args.above.node c.index_mut.result.now _ _ _ _ c.self.invariant (at_node-in c.args.space c.args.page c.args.above.level c.args.above.node _ ready.at) c.index_mut.ensures.value in
    omega (arith, h)

pub invariant_of-self : goal.invariant_of-self
invariant_of-self g c =
    let ready = rw (← c.self.view_is) at c.requires.ready in
    let name : c.new-name.result ≡ record { space = c.args.space; level = c.args.above.level - 1; prefix = up c.args.above.level c.args.page } = c.new-name.ensures ∙ ap (named c.args.space (c.args.above.level - 1)) c.block_of.ensures in
    let free = lowest-is c.self.inside.numbers c.in-Some.number c.in-Some.ensures.lowest in
    let step = made-step-at g.row.LEVELS _ c.args.space c.args.page c.args.above.level c.in-Some.number c.args.above.node c.index_of.result c.pointer.result c.index_mut.result.now c.new-name.result _ _ _ _ c.self.invariant c.requires.low c.requires.high ready free.0 free.1 c.index_of.ensures.value c.pointer.ensures name c.index_mut.ensures.value in
    let taken : c.take.new.self ≡ slice_set c.self.inside.numbers c.in-Some.number (Some c.new-name.result) = c.in-Some.ensures.taken ∙ sym (put-lowest c.self.inside.numbers c.in-Some.number c.new-name.result c.in-Some.ensures.lowest) in
    rw (taken, c.set.ensures) (rw step.back step.store)

pub returns : goal.returns
returns g c =
    let ready = rw (← c.self.view_is) at c.requires.ready in
    let name : c.new-name.result ≡ record { space = c.args.space; level = c.args.above.level - 1; prefix = up c.args.above.level c.args.page } = c.new-name.ensures ∙ ap (named c.args.space (c.args.above.level - 1)) c.block_of.ensures in
    let free = lowest-is c.self.inside.numbers c.in-Some.number c.in-Some.ensures.lowest in
    let step = made-step-at g.row.LEVELS _ c.args.space c.args.page c.args.above.level c.in-Some.number c.args.above.node c.index_of.result c.pointer.result c.index_mut.result.now c.new-name.result _ _ _ _ c.self.invariant c.requires.low c.requires.high ready free.0 free.1 c.index_of.ensures.value c.pointer.ensures name c.index_mut.ensures.value in
    let taken : c.take.new.self ≡ slice_set c.self.inside.numbers c.in-Some.number (Some c.new-name.result) = c.in-Some.ensures.taken ∙ sym (put-lowest c.self.inside.numbers c.in-Some.number c.new-name.result c.in-Some.ensures.lowest) in
    record {
      leaves = rw (taken, c.set.ensures, ← c.self.view_is) step.back;
      nodes = rw (← c.self.view_is) (c.in-Some.ensures.taken ∙ rw name refl);
      spaces = search rules;
      ready = rw (taken, c.set.ensures) (rw step.back step.ready);
      nearly = λ l h near. rw (taken, c.set.ensures) (rw step.back (step.nearly l h (rw (← c.self.view_is) at near)));
      free =
          let free = rw (← c.self.view_is) at c.requires.free in
          rw (← c.self.view_is) (rw c.in-Some.ensures.taken (put-first-count c.self.inside.numbers c.new-name.result free));
    }
