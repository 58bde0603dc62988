use Rattle.xl_harts.proofs.Common.{arith, refl, row_table, small_leaf, small_says, Some, sym, Walk}
use Rattle.xl_harts.proofs.AccessLemmas.{found-valid, same-served, walk-leaf, walked-by, walked-same}
use Rattle.xl_harts.proofs.RefusalLemmas.{page-here, page-small}
use Rattle.xl_harts.proofs.access.walk.Goals as goal

pub walk_allowed-requires : goal.walk_allowed-requires
walk_allowed-requires c =
    let served = c.requires.served.1 in
    (omega arith, rw (c.space-space.ensures, c.requires.page) (page-here c.requires.served.0 (row_table 3 c.args.table.now).shape served.table_is c.args.hart.now.space c.args.va served.space_in))

pub fill_small-requires-clause-page : goal.fill_small-requires-clause-page
fill_small-requires-clause-page c = let a = page-small c.args.va in rw c.requires.page (omega arith)

pub reply-requires : goal.reply-requires
reply-requires c =
    let served = c.requires.served.1 in
    let leaf = small_leaf c.space-space.result c.args.page c.in-Some.word in
    let found = found-valid c.requires.served.0 c.args.table.now.radix.leaves c.space-space.result c.args.page leaf served.spec_is served.mapping (sym (walk-leaf _ c.space-space.result c.args.page (row_table 3 c.args.table.now) (row_table 3 c.walk_allowed.new.self) c.in-Some.ensures.some.walks)) in
    (c.reply_of_word-reply.ensures c.args.page leaf found.0 (small_says c.space-space.result c.args.page c.in-Some.word)).small

pub returns-in-Some : goal.returns-in-Some
returns-in-Some c =
    let served = c.requires.served.1 in
    let leaf = small_leaf c.space-space.result c.args.page c.in-Some.word in
    let walks = c.in-Some.ensures.some.walks in
    let found = found-valid c.requires.served.0 c.args.table.now.radix.leaves c.space-space.result c.args.page leaf served.spec_is served.mapping (sym (walk-leaf _ c.space-space.result c.args.page (row_table 3 c.args.table.now) (row_table 3 c.walk_allowed.new.self) walks)) in
    let w : Walk = record { leaf = Some (small_leaf c.args.hart.now.space c.args.page c.in-Some.word); cache_hits = 0 } in
    walked-by c.args.va c.args.page c.args.kind c.reply_of_word-reply.result w (row_table 3 c.args.table.now) (row_table 3 c.walk_allowed.new.self) c.args.hart.now c.fill_small.new.self c.reply.new.self _
    (rw c.space-space.ensures at walks) (rw (← c.loads-before.ensures) (omega arith)) (rw (c.loads.ensures, c.loads-before.ensures) refl) c.fill_small.ensures
    (c.reply_of_word-reply.ensures c.args.page leaf found.0 (small_says c.space-space.result c.args.page c.in-Some.word)).is c.reply.ensures

pub walk_any-requires-clause-served : goal.walk_any-requires-clause-served
walk_any-requires-clause-served c =
    (c.requires.served.0, same-served c.requires.served.0 (row_table 3 c.args.table.now) (row_table 3 c.walk_allowed.new.self) c.args.hart.now c.space-space.result c.args.page c.requires.served.1 c.in-None.ensures.none)

pub returns-in-None : goal.returns-in-None
returns-in-None c =
    walked-same c.args.va c.args.page c.args.kind c.walk_any.result (row_table 3 c.args.table.now) (row_table 3 c.walk_allowed.new.self) (row_table 3 c.walk_any.new.table) c.args.hart.now c.walk_any.new.hart
    (rw c.space-space.ensures at c.in-None.ensures.none) c.walk_any.ensures
