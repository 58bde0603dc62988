use Rattle.xl_array.proofs.Common.{◌∙◌, ap, leaves_in_sets, sym, TlbArray}
use Rattle.xl_array.proofs.HeldLemmas.{none_held}
use Rattle.xl_array.proofs.SmallLemmas.{opened-small}
use Rattle.xl_array.proofs.any.AnyArray.open.Goals as goal

pub invariant_of-result : goal.invariant_of-result
invariant_of-result c = record {
  counts = λ less. ap (λ (a : TlbArray). leaves_in_sets a.sets) c.in_ok-array.ensures ∙ none_held c.args.spec.sets;
  smalls = λ none. rw c.in_ok-array.ensures (opened-small c.args.spec.sets);
  spec_is = c.of.ensures ∙ sym (ap (λ (z : TlbArray). z.spec) c.in_ok-array.ensures);
  some = rw c.of.ensures c.requires.sets;
}
