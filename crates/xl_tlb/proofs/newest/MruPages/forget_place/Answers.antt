use Rattle.xl_tlb.proofs.Common.{no_key, page_place, refl, set}
use Rattle.xl_tlb.proofs.KnownLemmas.{forgot_one, forgot_others}
use Rattle.xl_tlb.proofs.newest.MruPages.forget_place.Goals.{else-not-eights, then-not-eights}
use Rattle.xl_tlb.proofs.newest.MruPages.forget_place.Goals as goal

pub returns-clause-known : goal.returns-clause-known
returns-clause-known c = λ old new known stay.
    let first = c.args.first in
    let block = c.args.page in
    elim c.if-not-eights.branch [
      | then-not-eights w ↦ rw (w.self-is, c.place_of-place.ensures) (forgot_one first w.forget.new.self (record w.forget.new.self { keys = set w.forget.new.self.keys (page_place first block) no_key }) block refl refl new new (w.forget.ensures first new) (λ space page word other front. front))
      | else-not-eights w ↦ rw (w.self-is, c.place_of-place.ensures) (forgot_one first c.args.self.now (record c.args.self.now { keys = set c.args.self.now.keys (page_place first block) no_key }) block refl refl old new known (stay w.if-not-eights.false))
    ]

pub returns-clause-others : goal.returns-clause-others
returns-clause-others c = λ other arrays few apart known.
    let first = c.args.first in
    let block = c.args.page in
    elim c.if-not-eights.branch [
      | then-not-eights w ↦ rw (w.self-is, c.place_of-place.ensures) (forgot_others first w.forget.new.self (record w.forget.new.self { keys = set w.forget.new.self.keys (page_place first block) no_key }) block refl refl c.requires other arrays few apart (w.forget.ensures other arrays))
      | else-not-eights w ↦ rw (w.self-is, c.place_of-place.ensures) (forgot_others first c.args.self.now (record c.args.self.now { keys = set c.args.self.now.keys (page_place first block) no_key }) block refl refl c.requires other arrays few apart known)
    ]
