use Rattle.xl_machine.proofs.Common.{arith, Leaf, small_leaf}
use Rattle.xl_machine.proofs.Accesses.{allowed_reply, page_in, page_small, replied_leaf, same_kept, same_walk_left, small_answer, walked_kept, walked_reached}
use Rattle.xl_machine.proofs.machine.Machine.walk_at_once.Goals as goal

pub walk_allowed-requires : goal.walk_allowed-requires
walk_allowed-requires g c = page_in c.self.invariant.served c.args.page c.args.va (rw (← c.self.view_is) at c.requires.page_is)

pub invariant_of-self : goal.invariant_of-self
invariant_of-self g c = record { served = same_kept c.in_err-word.ensures.none c.self.invariant.served; span_is = c.self.invariant.span_is }

pub returns-in_err-word-clause-none : goal.returns-in_err-word-clause-none
returns-in_err-word-clause-none g c =
    rw (c.from_residual.ensures, ← c.self.view_is) (same_walk_left c.in_err-word.ensures.none c.self.invariant.served (rw (← c.self.view_is) at c.requires) c.args.kind c.self.inside.counts)

pub fill_small-requires-clause-page : goal.fill_small-requires-clause-page
fill_small-requires-clause-page g c = (page_small c.self.inside.row.mode c.args.va c.args.page (rw (← c.self.view_is) at c.requires.page_is)).0

pub count_small-requires : goal.count_small-requires
count_small-requires g c =
    let r = (walked_reached c.self.invariant.served c.args.page (small_leaf c.self.inside.space c.args.page c.in_ok-word.word) (replied_leaf c.in_ok-word.ensures.some.walks)).small in
    omega (arith, r)

pub invariant_of-self-2 : goal.invariant_of-self-2
invariant_of-self-2 g c =
    record {
      served = rw (c.fill_small.ensures, c.in_ok-word.ensures.some.walks.after) (walked_kept c.self.invariant.served c.args.page c.args.kind (small_leaf c.self.inside.space c.args.page c.in_ok-word.word) (replied_leaf c.in_ok-word.ensures.some.walks));
      span_is = c.self.invariant.span_is;
    }

pub returns-clause-some : goal.returns-clause-some
returns-clause-some g c =
    let leaf : Leaf = small_leaf c.self.inside.space c.args.page c.in_ok-word.word in
    let walks = c.in_ok-word.ensures.some.walks in
    let r = (walked_reached c.self.invariant.served c.args.page leaf (replied_leaf walks)).small in
    rw (c.count_small.ensures.reply, c.count_small.ensures.counts, c.fill_small.ensures, ← c.self.view_is)
    (small_answer c.self.invariant.served c.args.page (rw (← c.self.view_is) at c.requires) c.args.kind c.self.inside.counts leaf 1 walks (allowed_reply c.self.inside.space c.args.page c.in_ok-word.word c.args.kind c.in_ok-word.ensures.some.allowed) (omega (arith, r)))
