use Rattle.xl_model_table.proofs.Common.{arith, IsKept, subst, sym}
use Rattle.xl_model_table.proofs.TableLemmas.{remove-made}
use Rattle.xl_model_table.proofs.WithoutLemmas.{kept-without}
use Rattle.xl_model_table.proofs.plain.ListTableStructure.remove.Goals as goal

pub invariant_of-self : goal.invariant_of-self
invariant_of-self c =
    let s = c.self.inside in
    let a = c.args in
    record {
      kept = subst IsKept (sym c.take_out.ensures.items) (kept-without a.space a.first a.order s.leaves.items c.self.invariant.kept);
      some_buckets = c.self.invariant.some_buckets;
      few = c.self.invariant.few;
      within = (let e = c.take_out.ensures.len in let f = c.self.invariant.within in omega arith);
      room = (let e = c.take_out.ensures.capacity in let f = c.self.invariant.room in omega arith);
    }

pub returns : goal.returns
returns c =
    let s = c.self.inside in
    let a = c.args in
    record { changes = remove-made s.buckets s.entries s.loads a.space a.first a.order s.leaves.items _ a.self.now c.none.result c.none.ensures c.self.view_is c.self.invariant.kept c.requires c.take_out.ensures.items }
