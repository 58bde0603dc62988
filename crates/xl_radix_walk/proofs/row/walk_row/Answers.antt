use Rattle.xl_radix_walk.proofs.Common.{◌≤◌, arith, IsWalked, length, lit<, None, page-low, Some, Start, subst, walk_of_page}
use Rattle.xl_model.specs.declared.work.Walk.{Walk}
use Rattle.xl_radix_walk.proofs.RowLemmas.{is-start, IsStart, root-at}
use Rattle.xl_radix_walk.proofs.WalkedLemmas.{row-from, WalkedFrom}
use Rattle.xl_radix_walk.proofs.row.walk_row.Goals as goal

pub look-requires-clause-page : goal.look-requires-clause-page
look-requires-clause-page g c = page-low g.row.LEVELS c.args.page c.requires.row.low c.requires.page.page_in

pub walk_from-requires : goal.walk_from-requires
walk_from-requires g c =
    let root = root-at g.row.LEVELS c.args.radix.now.spaces c.args.space c.args.page c.args.radix.now.leaves c.args.radix.now.nodes c.args.radix.now.words c.words_read_back.ensures c.requires.row.low c.requires.page.page_in c.requires.page.space_in in
    let s : IsStart g.row.LEVELS c.args.space c.args.page c.args.radix.now.nodes c.args.caches.now (Some c.in-Some.start) = is-start g.row.LEVELS c.args.space c.args.page c.args.radix.now.nodes c.args.caches.now (Some c.in-Some.start) c.requires.row.caches c.in-Some.ensures.some c.in-Some.ensures.low tt (c.in-Some.ensures.number c.args.radix.now.nodes c.requires.row.numbered) root in
    let few : length c.look.new.self ≤ 4 = (let a = c.look.ensures.length in let b = c.requires.row.caches in let d = c.requires.row.low in omega arith) in
    (lit< tt, (few, (page-low g.row.LEVELS c.args.page c.requires.row.low c.requires.page.page_in, (s.number, s.low))))

pub walk_from-requires-in-None : goal.walk_from-requires-in-None
walk_from-requires-in-None g c =
    let root = root-at g.row.LEVELS c.args.radix.now.spaces c.args.space c.args.page c.args.radix.now.leaves c.args.radix.now.nodes c.args.radix.now.words c.words_read_back.ensures c.requires.row.low c.requires.page.page_in c.requires.page.space_in in
    let s : IsStart g.row.LEVELS c.args.space c.args.page c.args.radix.now.nodes c.args.caches.now None = is-start g.row.LEVELS c.args.space c.args.page c.args.radix.now.nodes c.args.caches.now None c.requires.row.caches tt tt c.in-None.ensures.none tt root in
    let few : length c.look.new.self ≤ 4 = (let a = c.look.ensures.length in let b = c.requires.row.caches in let d = c.requires.row.low in omega arith) in
    (lit< tt, (few, (page-low g.row.LEVELS c.args.page c.requires.row.low c.requires.page.page_in, (rw c.root.ensures s.number, rw c.root.ensures s.low))))

pub returns-in-Some : goal.returns-in-Some
returns-in-Some g c =
    let root = root-at g.row.LEVELS c.args.radix.now.spaces c.args.space c.args.page c.args.radix.now.leaves c.args.radix.now.nodes c.args.radix.now.words c.words_read_back.ensures c.requires.row.low c.requires.page.page_in c.requires.page.space_in in
    let s : IsStart g.row.LEVELS c.args.space c.args.page c.args.radix.now.nodes c.args.caches.now (Some c.in-Some.start) = is-start g.row.LEVELS c.args.space c.args.page c.args.radix.now.nodes c.args.caches.now (Some c.in-Some.start) c.requires.row.caches c.in-Some.ensures.some c.in-Some.ensures.low tt (c.in-Some.ensures.number c.args.radix.now.nodes c.requires.row.numbered) root in
    let known : Walk = walk_of_page c.args.space c.args.page c.walk_from.result in
    let w : WalkedFrom g.row.LEVELS c.args.space c.args.page c.args.radix.now c.walk_from.new.radix c.args.caches.now c.walk_from.new.caches known.leaf known.cache_hits =
    row-from g.row.LEVELS c.args.space c.args.page c.args.radix.now c.walk_from.new.radix c.args.caches.now c.look.new.self c.walk_from.new.caches (Some c.in-Some.start) known.leaf known.cache_hits c.words_read_back.ensures
    (page-low g.row.LEVELS c.args.page c.requires.row.low c.requires.page.page_in) c.requires.row s c.look.ensures.caches c.look.ensures.length (c.look.ensures.kept c.args.radix.now.nodes c.requires.row.numbered) c.walk_from.ensures.hits c.walk_from.ensures.walked in
    record { row = w.row; walks = w.walks }

pub returns-in-None : goal.returns-in-None
returns-in-None g c =
    let root = root-at g.row.LEVELS c.args.radix.now.spaces c.args.space c.args.page c.args.radix.now.leaves c.args.radix.now.nodes c.args.radix.now.words c.words_read_back.ensures c.requires.row.low c.requires.page.page_in c.requires.page.space_in in
    let s : IsStart g.row.LEVELS c.args.space c.args.page c.args.radix.now.nodes c.args.caches.now None = is-start g.row.LEVELS c.args.space c.args.page c.args.radix.now.nodes c.args.caches.now None c.requires.row.caches tt tt c.in-None.ensures.none tt root in
    let known : Walk = walk_of_page c.args.space c.args.page c.walk_from-in-None.result in
    let walked = subst (λ (v : Start). IsWalked g.row.LEVELS v.level c.args.space c.args.page known.leaf c.args.radix.now c.look.new.self c.walk_from-in-None.new.radix c.walk_from-in-None.new.caches) c.root.ensures c.walk_from-in-None.ensures.walked in
    let w : WalkedFrom g.row.LEVELS c.args.space c.args.page c.args.radix.now c.walk_from-in-None.new.radix c.args.caches.now c.walk_from-in-None.new.caches known.leaf known.cache_hits =
    row-from g.row.LEVELS c.args.space c.args.page c.args.radix.now c.walk_from-in-None.new.radix c.args.caches.now c.look.new.self c.walk_from-in-None.new.caches None known.leaf known.cache_hits c.words_read_back.ensures
    (page-low g.row.LEVELS c.args.page c.requires.row.low c.requires.page.page_in) c.requires.row s c.look.ensures.caches c.look.ensures.length (c.look.ensures.kept c.args.radix.now.nodes c.requires.row.numbered) c.walk_from-in-None.ensures.hits walked in
    record { row = w.row; walks = w.walks }
