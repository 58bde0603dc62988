use Rattle.xl_machine.proofs.Common.{arith, HasPage, row_of, small_leaf}
use Rattle.xl_machine.proofs.Accesses.{has_page, missed_kept, page_in, replied_leaf, same_access_left, same_kept, small_found, walked_reached}
use Rattle.xl_machine.proofs.machine.Machine.access_found.Goals as goal

pub walk_allowed-requires : goal.walk_allowed-requires
walk_allowed-requires g c = page_in c.self.invariant.served c.page_of-page.result c.args.va (rw c.self.invariant.span_is at c.page_of-page.ensures)

pub invariant_of-self : goal.invariant_of-self
invariant_of-self g c = record { served = same_kept c.in_err-word.ensures.none c.self.invariant.served; span_is = c.self.invariant.span_is }

pub returns-in_err-word-clause-none : goal.returns-in_err-word-clause-none
returns-in_err-word-clause-none g c =
    let paged : HasPage (row_of c.self.inside.row) c.args.va c.page_of-page.result = has_page (row_of c.self.inside.row) c.self.invariant.span_is c.canonical.ensures c.if-not-canonical.false c.page_of-page.ensures in
    rw (c.from_residual.ensures, ← c.self.view_is) (same_access_left c.in_err-word.ensures.none c.self.invariant.served paged c.args.kind c.self.inside.counts (c.lacks_tlb.ensures.looked c.if-not-lacks_tlb.false c.args.kind c.self.inside.space c.page_of-page.result))

pub count_small-requires : goal.count_small-requires
count_small-requires g c =
    let r = (walked_reached c.self.invariant.served c.page_of-page.result (small_leaf c.self.inside.space c.page_of-page.result c.in_ok-word.word) (replied_leaf c.in_ok-word.ensures.some.walks)).small in
    omega (arith, r)

pub invariant_of-self-2 : goal.invariant_of-self-2
invariant_of-self-2 g c = record { served = rw c.in_ok-word.ensures.some.walks.after (missed_kept c.self.invariant.served c.page_of-page.result); span_is = c.self.invariant.span_is }

pub returns-clause-some : goal.returns-clause-some
returns-clause-some g c =
    let paged : HasPage (row_of c.self.inside.row) c.args.va c.page_of-page.result = has_page (row_of c.self.inside.row) c.self.invariant.span_is c.canonical.ensures c.if-not-canonical.false c.page_of-page.ensures in
    let nowhere = c.lacks_tlb.ensures.looked c.if-not-lacks_tlb.false c.args.kind c.self.inside.space c.page_of-page.result in
    let filled = c.lacks_tlb.ensures.filled c.if-not-lacks_tlb.false c.args.kind (small_leaf c.self.inside.space c.page_of-page.result c.in_ok-word.word) in
    rw (c.count_small.ensures.counts, ← c.self.view_is)
    (small_found c.self.invariant.served c.page_of-page.result paged c.args.kind c.self.inside.counts c.in_ok-word.word _ nowhere filled c.in_ok-word.ensures.some.walks c.in_ok-word.ensures.some.allowed)
