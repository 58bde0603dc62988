use Rattle.xl_harts.proofs.Common.{◌∙◌, arith, row_table, sym}
use Rattle.xl_harts.proofs.AccessLemmas.{access-refused, access-seen, access-walked, seen-valid}
use Rattle.xl_harts.proofs.RefusalLemmas.{page-small}
use Rattle.xl_harts.proofs.access.serve.Goals as goal

pub returns-then-not-canonical : goal.returns-then-not-canonical
returns-then-not-canonical c = access-refused c.args.va c.args.kind (row_table 3 c.args.table.now) c.args.hart.now c.reply.new.self (sym c.canonical.ensures ∙ c.if-not-canonical.true) c.reply.ensures

pub look-requires-clause-page : goal.look-requires-clause-page
look-requires-clause-page c = let a = page-small c.args.va in rw c.page_of-page.ensures (omega arith)

pub reply-requires-in-Some : goal.reply-requires-in-Some
reply-requires-in-Some c =
    let seen = c.in-Some.ensures.some in
    let reached = seen-valid c.requires.0 (row_table 3 c.args.table.now) c.args.hart.now c.page_of-page.result seen.leaf c.requires.1 seen.found in
    (c.reply_of_word-reply.ensures c.page_of-page.result seen.leaf reached seen.says).small

pub returns-in-Some : goal.returns-in-Some
returns-in-Some c =
    let seen = c.in-Some.ensures.some in
    let reached = seen-valid c.requires.0 (row_table 3 c.args.table.now) c.args.hart.now c.page_of-page.result seen.leaf c.requires.1 seen.found in
    access-seen c.args.va c.page_of-page.result c.args.kind c.reply_of_word-reply.result seen.leaf (row_table 3 c.args.table.now) c.args.hart.now c.reply-in-Some.new.self c.page_of-page.ensures (sym c.canonical.ensures ∙ c.if-not-canonical.false) seen.found
    (c.reply_of_word-reply.ensures c.page_of-page.result seen.leaf reached seen.says).is (rw seen.after at c.reply-in-Some.ensures)

pub returns-in-None : goal.returns-in-None
returns-in-None c =
    let unseen = c.in-None.ensures.none in
    access-walked c.args.va c.page_of-page.result c.args.kind c.walk.result (row_table 3 c.args.table.now) (row_table 3 c.walk.new.table) c.args.hart.now c.walk.new.hart c.page_of-page.ensures (sym c.canonical.ensures ∙ c.if-not-canonical.false) unseen.found
    (rw unseen.after at c.walk.ensures)
