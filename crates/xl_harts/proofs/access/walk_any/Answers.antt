use Rattle.xl_harts.proofs.Common.{arith, refl, row_table, small_leaf, small_says, Some, sym, Walk}
use Rattle.xl_harts.proofs.AccessLemmas.{found-fit, found-reached, found-valid, walk-leaf, walked-by}
use Rattle.xl_harts.proofs.RefusalLemmas.{page-here, page-small}
use Rattle.xl_harts.proofs.access.walk_any.Goals as goal

pub walk-requires : goal.walk-requires
walk-requires c =
    let served = c.requires.served.1 in
    (omega arith, rw (c.space-space.ensures, c.requires.page) (page-here c.requires.served.0 (row_table 3 c.args.table.now).shape served.table_is c.args.hart.now.space c.args.va served.space_in))

pub fill_small-requires-clause-page : goal.fill_small-requires-clause-page
fill_small-requires-clause-page c = let a = page-small c.args.va in rw c.requires.page (omega arith)

pub reply-requires : goal.reply-requires
reply-requires c =
    let served = c.requires.served.1 in
    let leaf = small_leaf c.space-space.result c.args.page c.in-Small.word in
    let found = found-valid c.requires.served.0 c.args.table.now.radix.leaves c.space-space.result c.args.page leaf served.spec_is served.mapping (sym (walk-leaf _ c.space-space.result c.args.page (row_table 3 c.args.table.now) (row_table 3 c.walk.new.self) c.in-Small.ensures.walks)) in
    (c.reply_of_word-reply.ensures c.args.page leaf found.0 (small_says c.space-space.result c.args.page c.in-Small.word)).small

pub fill-requires : goal.fill-requires
fill-requires c =
    let served = c.requires.served.1 in
    found-fit c.requires.served.0 c.args.table.now.radix.leaves c.space-space.result c.args.page c.in-Any.walk.leaf served.spec_is served.mapping (walk-leaf _ c.space-space.result c.args.page (row_table 3 c.args.table.now) (row_table 3 c.walk.new.self) c.in-Any.ensures.walks)

pub reply_of_found-reply-requires : goal.reply_of_found-reply-requires
reply_of_found-reply-requires c =
    let served = c.requires.served.1 in
    found-reached c.requires.served.0 c.args.table.now.radix.leaves c.space-space.result c.args.page c.in-Any.walk.leaf served.spec_is served.mapping (walk-leaf _ c.space-space.result c.args.page (row_table 3 c.args.table.now) (row_table 3 c.walk.new.self) c.in-Any.ensures.walks)

pub returns-in-Small : goal.returns-in-Small
returns-in-Small c =
    let served = c.requires.served.1 in
    let leaf = small_leaf c.space-space.result c.args.page c.in-Small.word in
    let walks = c.in-Small.ensures.walks in
    let found = found-valid c.requires.served.0 c.args.table.now.radix.leaves c.space-space.result c.args.page leaf served.spec_is served.mapping (sym (walk-leaf _ c.space-space.result c.args.page (row_table 3 c.args.table.now) (row_table 3 c.walk.new.self) walks)) in
    let w : Walk = record { leaf = Some (small_leaf c.args.hart.now.space c.args.page c.in-Small.word); cache_hits = c.in-Small.cache_hits } in
    walked-by c.args.va c.args.page c.args.kind c.reply_of_word-reply.result w (row_table 3 c.args.table.now) (row_table 3 c.walk.new.self) c.args.hart.now c.fill_small.new.self c.reply.new.self _
    (rw c.space-space.ensures at walks) (rw (← c.loads-before.ensures) (omega arith)) (rw (c.loads.ensures, c.loads-before.ensures) refl) c.fill_small.ensures
    (c.reply_of_word-reply.ensures c.args.page leaf found.0 (small_says c.space-space.result c.args.page c.in-Small.word)).is c.reply.ensures

pub returns-in-Any : goal.returns-in-Any
returns-in-Any c =
    let walks = c.in-Any.ensures.walks in
    walked-by c.args.va c.args.page c.args.kind c.reply_of_found-reply.result c.in-Any.walk (row_table 3 c.args.table.now) (row_table 3 c.walk.new.self) c.args.hart.now c.fill.new.self c.reply-in-Any.new.self _
    (rw c.space-space.ensures at walks) (rw (← c.loads-before.ensures) (omega arith)) (rw (c.loads-in-Any.ensures, c.loads-before.ensures) refl) c.fill.ensures c.reply_of_found-reply.ensures.is c.reply-in-Any.ensures
