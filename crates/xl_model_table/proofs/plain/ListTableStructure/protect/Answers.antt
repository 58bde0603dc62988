use Rattle.xl_model_table.proofs.Common.{◌∙◌, ◌≡◌, ap, IsKept, length, subst, sym, with_items, with_items_is, with_perm_named}
use Rattle.xl_model_table.proofs.GivenLemmas.{kept-protected, length-protected}
use Rattle.xl_model_table.proofs.TableLemmas.{protect-made}
use Rattle.xl_model_table.proofs.plain.ListTableStructure.protect.Goals as goal

pub invariant_of-self : goal.invariant_of-self
invariant_of-self c =
    let s = c.self.inside in
    let a = c.args in
    let xs = s.leaves.items in
    let new : c.give_perm.new.items ≡ with_perm_named a.space a.first a.order a.perm xs =
    c.give_perm.ensures ∙ ap (with_perm_named a.space a.first a.order a.perm) c.deref_mut.ensures.value in
    let long : length c.give_perm.new.items ≡ s.leaves.len = ap length new ∙ length-protected a.space a.first a.order a.perm xs ∙ sym s.leaves.ok.0 in
    let is : (with_items s.leaves c.give_perm.new.items).items ≡ with_perm_named a.space a.first a.order a.perm xs = with_items_is s.leaves c.give_perm.new.items long ∙ new in
    record {
      kept = subst IsKept (sym is) (kept-protected a.space a.first a.order a.perm xs c.self.invariant.kept);
      some_buckets = c.self.invariant.some_buckets;
      few = c.self.invariant.few;
      within = c.self.invariant.within;
      room = c.self.invariant.room;
    }

pub returns : goal.returns
returns c =
    let s = c.self.inside in
    let a = c.args in
    let xs = s.leaves.items in
    let new : c.give_perm.new.items ≡ with_perm_named a.space a.first a.order a.perm xs =
    c.give_perm.ensures ∙ ap (with_perm_named a.space a.first a.order a.perm) c.deref_mut.ensures.value in
    let long : length c.give_perm.new.items ≡ s.leaves.len = ap length new ∙ length-protected a.space a.first a.order a.perm xs ∙ sym s.leaves.ok.0 in
    let is : (with_items s.leaves c.give_perm.new.items).items ≡ with_perm_named a.space a.first a.order a.perm xs = with_items_is s.leaves c.give_perm.new.items long ∙ new in
    record { changes = protect-made s.buckets s.entries s.loads a.space a.first a.order a.perm xs _ a.self.now c.none.result c.none.ensures c.self.view_is c.self.invariant.kept c.requires is }
