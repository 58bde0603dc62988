use Rattle.xl_cuckoo_walk.proofs.Common.{by_size, IsRow, lit<, parts_by, RowParts, small_known, subst, sym, with_table}
use Rattle.xl_cuckoo_walk.proofs.SoleLemmas.{both-fronts, middle-inside, middle-walked, small-walked}
use Rattle.xl_cuckoo_walk.proofs.WalkLemmas.{IsWalked, page-of}
use Rattle.xl_cuckoo_walk.proofs.walk.walk_page.Given.{Over}
use Rattle.xl_model.specs.declared.address.Order.TheVariants as order
use Rattle.xl_cuckoo_walk.proofs.walk.walk_page.Goals as goal

pub section-middle_key-requires : goal.section-middle_key-requires
section-middle_key-requires g c =
    let at = page-of c.args.parts.now c.args.space c.args.page c.requires.page in
    record { space_in = at.0; page_in = at.1 }

pub section-large_key-requires : goal.section-large_key-requires
section-large_key-requires g c =
    let at = page-of c.args.parts.now c.args.space c.args.page c.requires.page in
    record { space_in = at.0; page_in = at.1 }

pub probe_small-found-requires : goal.probe_small-found-requires
probe_small-found-requires g c = (lit< tt, page-of c.args.parts.now c.args.space c.args.page c.requires.page)

pub probe_order-leaf-requires : goal.probe_order-leaf-requires
probe_order-leaf-requires g c =
    let s = c.parts.inside in
    let q : RowParts = parts_by s.k4 s.m2 s.g1 s.middle s.large s.middle_cache s.large_cache in
    let in_page = page-of c.args.parts.now c.args.space c.args.page c.requires.page in (
      lit< tt,
      (
        middle-inside c.words_read_back.ensures q (subst IsRow (sym c.parts.view_is) c.requires.whole) c.args.space c.args.page in_page.0 in_page.1 (by_size c.front-middle.result c.front-large.result)
            (both-fronts q c.args.space c.args.page c.section-middle_key.result c.section-large_key.result c.front-middle.result c.front-large.result c.section-middle_key.ensures c.section-large_key.ensures c.front-middle.ensures c.front-large.ensures)
            c.in-Middle.way c.in-Middle.ensures,
        in_page,
      ),
    )

small : (g : Over) (c : goal.After-small_walk g) →
    let s = c.parts.inside in
    IsWalked c.args.parts.now c.args.space c.args.page (small_known c.args.space c.args.page c.probe_small-found.result) 2
    (parts_by c.probe_small-found.new.table s.m2 s.g1 s.middle s.large s.middle_cache s.large_cache)
small g c =
    let s = c.parts.inside in
    let q : RowParts = parts_by s.k4 s.m2 s.g1 s.middle s.large s.middle_cache s.large_cache in
    let in_page = page-of c.args.parts.now c.args.space c.args.page c.requires.page in
    let leaf = small_known c.args.space c.args.page c.probe_small-found.result in
    subst (λ p. IsWalked p c.args.space c.args.page leaf 2 (with_table order.K4 c.probe_small-found.new.table q)) c.parts.view_is
    (small-walked c.words_read_back.ensures q (subst IsRow (sym c.parts.view_is) c.requires.whole) c.args.space c.args.page in_page.0 in_page.1 (by_size c.front-middle.result c.front-large.result)
    (both-fronts q c.args.space c.args.page c.section-middle_key.result c.section-large_key.result c.front-middle.result c.front-large.result c.section-middle_key.ensures c.section-large_key.ensures c.front-middle.ensures c.front-large.ensures)
    c.in-Small.ensures leaf c.probe_small-found.new.table c.probe_small-found.ensures.found c.probe_small-found.ensures.after)

middle_leaf : (g : Over) (c : goal.After-probe_order-leaf g) →
    let s = c.parts.inside in
    IsWalked c.args.parts.now c.args.space c.args.page c.probe_order-leaf.result 2 (parts_by s.k4 c.probe_order-leaf.new.table s.g1 s.middle s.large s.middle_cache s.large_cache)
middle_leaf g c =
    let s = c.parts.inside in
    let q : RowParts = parts_by s.k4 s.m2 s.g1 s.middle s.large s.middle_cache s.large_cache in
    let in_page = page-of c.args.parts.now c.args.space c.args.page c.requires.page in
    subst (λ p. IsWalked p c.args.space c.args.page c.probe_order-leaf.result 2 (with_table order.M2 c.probe_order-leaf.new.table q)) c.parts.view_is
    (middle-walked c.words_read_back.ensures q (subst IsRow (sym c.parts.view_is) c.requires.whole) c.args.space c.args.page in_page.0 in_page.1 (by_size c.front-middle.result c.front-large.result)
    (both-fronts q c.args.space c.args.page c.section-middle_key.result c.section-large_key.result c.front-middle.result c.front-large.result c.section-middle_key.ensures c.section-large_key.ensures c.front-middle.ensures c.front-large.ensures)
    c.in-Middle.way c.in-Middle.ensures c.probe_order-leaf.result c.probe_order-leaf.new.table c.probe_order-leaf.ensures.found c.probe_order-leaf.ensures.after)

pub returns-in-Small-clause-whole : goal.returns-in-Small-clause-whole
returns-in-Small-clause-whole g c = (small g c).row

pub returns-in-Small-clause-walks : goal.returns-in-Small-clause-walks
returns-in-Small-clause-walks g c = rw c.small_walk.ensures (small g c).walks

pub returns-in-Middle-clause-whole : goal.returns-in-Middle-clause-whole
returns-in-Middle-clause-whole g c = (middle_leaf g c).row

pub returns-in-Middle-clause-walks : goal.returns-in-Middle-clause-walks
returns-in-Middle-clause-walks g c = (middle_leaf g c).walks
