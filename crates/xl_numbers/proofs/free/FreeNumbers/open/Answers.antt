use Rattle.xl_numbers.proofs.Common.{◌*◌, ◌/◌, ◌∙◌, ap, AreMarked, arith, Bool, false, List, replicate, slice_set, subst, true}
use Rattle.xl_numbers.proofs.FlagLemmas.{first-free, more-free}
use Rattle.xl_numbers.proofs.free.FreeNumbers.open.Goals as goal

pub given-init : goal.given-init
given-init c =
    let n = c.args.count in
    let m : AreMarked (replicate n false) c.mark_words.new.self 0 (64 * (n / 64)) true = subst (λ (bs : List Bool). AreMarked bs c.mark_words.new.self 0 (64 * (n / 64)) true) c.in_ok-numbers.ensures c.mark_words.ensures in
    first-free n (n / 64 * 64) c.mark_words.new.self (omega arith) (subst (λ k. AreMarked (replicate n false) c.mark_words.new.self 0 k true) (omega arith) m)

pub given-preserved : goal.given-preserved
given-preserved c =
    c.give.ensures ∙ ap (λ (bs : List Bool). slice_set bs c.given.number true) c.given.invariant ∙ more-free c.args.count c.given.number c.given-test.true
