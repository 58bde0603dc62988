use Rattle.xl_machine.proofs.Common.{◌∙◌, HasPage, row_of}
use Rattle.xl_machine.proofs.Accesses.{after_without_tlb, has_page}
use Rattle.xl_machine.proofs.machine.Machine.access_apart.Goals as goal

pub returns-then-lacks_tlb : goal.returns-then-lacks_tlb
returns-then-lacks_tlb g c =
    let paged : HasPage (row_of c.self.inside.row) c.args.va c.page_of-page.result = has_page (row_of c.self.inside.row) c.self.invariant.span_is c.canonical.ensures c.if-canonical.true c.page_of-page.ensures in
    let nowhere = c.lacks_tlb.ensures.looked c.if-lacks_tlb.true c.args.kind c.self.inside.space c.page_of-page.result in
    let walked = c.access_walk_in_turn.ensures in
    record {
      reply_is = walked.reply_is;
      after_is = walked.after_is ∙ rw (← c.self.view_is) (after_without_tlb c.self.invariant.served c.page_of-page.result paged c.args.kind c.self.inside.counts nowhere);
      small = walked.small;
    }
