use Rattle.xl_machine.proofs.Common.{◌∙◌, None, refl, small_leaf, Some, sym}
use Rattle.xl_machine.proofs.Accesses.{missed_kept, page_in, page_small, replied_hits, replied_leaf, small_answer, small_replied, walked_answer, walked_fit, walked_kept, walked_reached}
use Rattle.xl_machine.proofs.machine.Machine.access_walk_in_turn.Goals as goal

pub walk-requires : goal.walk-requires
walk-requires g c = page_in c.self.invariant.served c.args.page c.args.va (rw (← c.self.view_is) at c.requires.page_is)

pub fill-requires : goal.fill-requires
fill-requires g c = walked_fit c.self.invariant.served c.args.page c.in-Some.leaf (sym c.in-Some.is ∙ replied_leaf c.in-Any.ensures.walks)

pub reply_of-reply-requires : goal.reply_of-reply-requires
reply_of-reply-requires g c = walked_reached c.self.invariant.served c.args.page c.in-Some.leaf (sym c.in-Some.is ∙ replied_leaf c.in-Any.ensures.walks)

pub invariant_of-self-in-Some : goal.invariant_of-self-in-Some
invariant_of-self-in-Some g c =
    record {
      served = rw (c.fill.ensures, c.in-Any.ensures.walks.after) (walked_kept c.self.invariant.served c.args.page c.args.kind c.in-Some.leaf (sym c.in-Some.is ∙ replied_leaf c.in-Any.ensures.walks));
      span_is = c.self.invariant.span_is;
    }

pub invariant_of-self-in-None : goal.invariant_of-self-in-None
invariant_of-self-in-None g c = record { served = rw (c.in-Any.ensures.walks.after) (missed_kept c.self.invariant.served c.args.page); span_is = c.self.invariant.span_is }

pub returns-in-Some : goal.returns-in-Some
returns-in-Some g c =
    rw (c.reply-in-Some.ensures, c.walk-in-Any.ensures, c.fill.ensures, c.in-Any.ensures.walks.after, replied_hits c.in-Any.ensures.walks, ← c.self.view_is)
    (walked_answer c.self.invariant.served c.args.page (rw (← c.self.view_is) at c.requires) c.args.kind c.self.inside.counts (Some c.in-Some.leaf) (sym c.in-Some.is ∙ replied_leaf c.in-Any.ensures.walks) c.reply_of-reply.ensures.is c.reply_of-reply.ensures.small)

pub returns-in-None : goal.returns-in-None
returns-in-None g c =
    rw (c.reply-in-None.ensures, c.walk-in-Any.ensures, c.in-Any.ensures.walks.after, replied_hits c.in-Any.ensures.walks, ← c.self.view_is)
    (walked_answer c.self.invariant.served c.args.page (rw (← c.self.view_is) at c.requires) c.args.kind c.self.inside.counts None (sym c.in-None.is ∙ replied_leaf c.in-Any.ensures.walks) refl tt)

pub fill_small-requires-clause-page : goal.fill_small-requires-clause-page
fill_small-requires-clause-page g c = (page_small c.self.inside.row.mode c.args.va c.args.page (rw (← c.self.view_is) at c.requires.page_is)).0

pub reply-requires : goal.reply-requires
reply-requires g c = (small_replied c.self.invariant.served c.args.page (replied_leaf c.in-Small.ensures.walks) c.reply_of_word-reply.ensures).small

pub invariant_of-self : goal.invariant_of-self
invariant_of-self g c =
    record {
      served = rw (c.fill_small.ensures, c.in-Small.ensures.walks.after) (walked_kept c.self.invariant.served c.args.page c.args.kind (small_leaf c.self.inside.space c.args.page c.in-Small.word) (replied_leaf c.in-Small.ensures.walks));
      span_is = c.self.invariant.span_is;
    }

pub returns-in-Small : goal.returns-in-Small
returns-in-Small g c =
    let page = c.args.page in
    let leaf = small_leaf c.self.inside.space page c.in-Small.word in
    let replied = small_replied c.self.invariant.served page (replied_leaf c.in-Small.ensures.walks) c.reply_of_word-reply.ensures in
    rw (c.reply.ensures, c.walk-in-Small.ensures, c.fill_small.ensures, ← c.self.view_is)
    (small_answer c.self.invariant.served page (rw (← c.self.view_is) at c.requires) c.args.kind c.self.inside.counts leaf c.in-Small.cache_hits c.in-Small.ensures.walks replied.is replied.small)
