use Rattle.xl_cuckoo_walk.proofs.Common.{◌+◌, ◌∙◌, ◌≡◌, ap, by_size, Cached, CuckooState, fills_m2, hit_of, is_some, IsRow, Item, Leaf, lit<, Middle, None, one_if, Option, or_leaf, Order, page_key, parts_by, Plan, plans_by, probed, refl, RowParts, Size, small_known, Some, subst, sym, touched_in, ℕ}
use Rattle.xl_cuckoo_walk.proofs.IndexLemmas.{each, each-size}
use Rattle.xl_cuckoo_walk.proofs.SoleLemmas.{touched-walked}
use Rattle.xl_cuckoo_walk.specs.Soles.{AreSmall}
use Rattle.xl_cuckoo_walk.proofs.WalkLemmas.{cache_walked, few-probed, filled-same, found-words, IsWalked, page-of, plan_in, probe-ready, said_in, steps-walked}
use Rattle.xl_cuckoo_walk.proofs.walk.walk_next.Given.{Over}
use Rattle.xl_model.specs.declared.address.Order.TheVariants as order
use Rattle.xl_cuckoo_walk.proofs.walk.walk_next.Goals as goal

pub section-middle_key-requires : goal.section-middle_key-requires
section-middle_key-requires g c =
    let at = page-of c.args.parts.now c.args.space c.args.page c.requires.page in
    record { space_in = at.0; page_in = at.1 }

pub section-large_key-requires : goal.section-large_key-requires
section-large_key-requires g c =
    let at = page-of c.args.parts.now c.args.space c.args.page c.requires.page in
    record { space_in = at.0; page_in = at.1 }

pub probe_order-k4-requires : goal.probe_order-k4-requires
probe_order-k4-requires g c =
    let s = c.parts.inside in (
      lit< tt,
      probe-ready c.words_read_back.ensures c.args.parts.now (parts_by s.k4 s.m2 s.g1 s.middle s.large s.middle_cache s.large_cache) c.parts.view_is c.requires.whole c.args.space c.args.page c.requires.page
          (found-words (parts_by s.k4 s.m2 s.g1 s.middle s.large s.middle_cache s.large_cache) c.args.space c.args.page c.section-middle_key.result c.section-large_key.result c.touch-middle.result c.touch-large.result
          c.section-middle_key.ensures c.section-large_key.ensures c.touch-middle.ensures.found c.touch-large.ensures.found) order.K4 c.planned-k4_plan.result
          (c.planned-k4_plan.ensures (page_key order.M2 c.args.space c.args.page) (page_key order.G1 c.args.space c.args.page)),
    )

pub probe_next-m2-requires : goal.probe_next-m2-requires
probe_next-m2-requires g c =
    let s = c.parts.inside in (
      lit< tt,
      probe-ready c.words_read_back.ensures c.args.parts.now (parts_by s.k4 s.m2 s.g1 s.middle s.large s.middle_cache s.large_cache) c.parts.view_is c.requires.whole c.args.space c.args.page c.requires.page
          (found-words (parts_by s.k4 s.m2 s.g1 s.middle s.large s.middle_cache s.large_cache) c.args.space c.args.page c.section-middle_key.result c.section-large_key.result c.touch-middle.result c.touch-large.result
          c.section-middle_key.ensures c.section-large_key.ensures c.touch-middle.ensures.found c.touch-large.ensures.found) order.M2 c.planned-m2_plan.result
          (c.planned-m2_plan.ensures (page_key order.M2 c.args.space c.args.page) (page_key order.G1 c.args.space c.args.page)),
    )

pub probe_next-leaf-requires : goal.probe_next-leaf-requires
probe_next-leaf-requires g c =
    let s = c.parts.inside in (
      lit< tt,
      probe-ready c.words_read_back.ensures c.args.parts.now (parts_by s.k4 s.m2 s.g1 s.middle s.large s.middle_cache s.large_cache) c.parts.view_is c.requires.whole c.args.space c.args.page c.requires.page
          (found-words (parts_by s.k4 s.m2 s.g1 s.middle s.large s.middle_cache s.large_cache) c.args.space c.args.page c.section-middle_key.result c.section-large_key.result c.touch-middle.result c.touch-large.result
          c.section-middle_key.ensures c.section-large_key.ensures c.touch-middle.ensures.found c.touch-large.ensures.found) order.G1 c.planned-g1_plan.result
          (c.planned-g1_plan.ensures (page_key order.M2 c.args.space c.args.page) (page_key order.G1 c.args.space c.args.page)),
    )

pub fill_if-requires : goal.fill_if-requires
fill_if-requires g c =
    let s = c.parts.inside in (
      lit< tt,
      few-probed c.args.parts.now (parts_by s.k4 s.m2 s.g1 s.middle s.large s.middle_cache s.large_cache) c.parts.view_is c.requires.whole order.M2 c.planned-m2_plan.result
          c.probe_next-m2.new.table c.probe_next-m2.ensures.after,
    )

pub fill_if-requires-2 : goal.fill_if-requires-2
fill_if-requires-2 g c =
    let s = c.parts.inside in (
      lit< tt,
      few-probed c.args.parts.now (parts_by s.k4 s.m2 s.g1 s.middle s.large s.middle_cache s.large_cache) c.parts.view_is c.requires.whole order.G1 c.planned-g1_plan.result
          c.probe_next-leaf.new.table c.probe_next-leaf.ensures.after,
    )

pub probe_small-found-requires : goal.probe_small-found-requires
probe_small-found-requires g c = (lit< tt, page-of c.args.parts.now c.args.space c.args.page c.requires.page)

small : (g : Over) (c : goal.After-small_walk g) →
    let s = c.parts.inside in
    IsWalked c.args.parts.now c.args.space c.args.page (small_known c.args.space c.args.page c.probe_small-found.result) 2
    (parts_by c.probe_small-found.new.table s.m2 s.g1 s.middle s.large c.touch-middle.new.self c.touch-large.new.self)
small g c =
    let s = c.parts.inside in
    let q : RowParts = parts_by s.k4 s.m2 s.g1 s.middle s.large s.middle_cache s.large_cache in
    let space : ℕ = c.args.space in
    let page : ℕ = c.args.page in
    let in_page = page-of c.args.parts.now space page c.requires.page in
    let leaf = small_known space page c.probe_small-found.result in
    let are : AreSmall c.touch-middle.result c.touch-large.result = c.leave_small.ensures c.if-leave_small.true in
    let words = found-words q space page c.section-middle_key.result c.section-large_key.result c.touch-middle.result c.touch-large.result
    c.section-middle_key.ensures c.section-large_key.ensures c.touch-middle.ensures.found c.touch-large.ensures.found in
    let said = each-size (λ z. Some (are.words z) ≡ by_size c.touch-middle.result c.touch-large.result z) (sym are.middle_is) (sym are.large_is) in
    subst (λ p. IsWalked p space page leaf 2 (parts_by c.probe_small-found.new.table s.m2 s.g1 s.middle s.large c.touch-middle.new.self c.touch-large.new.self)) c.parts.view_is
    (touched-walked c.words_read_back.ensures q (subst IsRow (sym c.parts.view_is) c.requires.whole) space page in_page.0 in_page.1 are.words (λ z. said z ∙ words z)
    are.plans leaf c.probe_small-found.new.table c.touch-middle.new.self c.touch-large.new.self c.probe_small-found.ensures.found c.probe_small-found.ensures.after
    (c.touch-middle.ensures.moved ∙ ap (λ k. touched_in k s.middle_cache) c.section-middle_key.ensures)
    (c.touch-large.ensures.moved ∙ ap (λ k. touched_in k s.large_cache) c.section-large_key.ensures))

pub returns-then-leave_small-clause-whole : goal.returns-then-leave_small-clause-whole
returns-then-leave_small-clause-whole g c = (small g c).row

pub returns-then-leave_small-clause-walks : goal.returns-then-leave_small-clause-walks
returns-then-leave_small-clause-walks g c = rw c.small_walk.ensures (small g c).walks

or-or : (a b d : Option Leaf) → or_leaf (or_leaf a b) d ≡ or_leaf a (or_leaf b d)
or-or None b d = refl
or-or (Some x) b d = refl

walked : (g : Over) (c : goal.After-one_hit-2 g) →
    let s = c.parts.inside in
    IsWalked c.args.parts.now c.args.space c.args.page c.probe_next-leaf.result (c.one_hit.result + c.one_hit-2.result)
    (parts_by c.probe_order-k4.new.table c.probe_next-m2.new.table c.probe_next-leaf.new.table s.middle s.large c.fill_if.new.cache c.fill_if-2.new.cache)
walked g c =
    let s = c.parts.inside in
    let q : RowParts = parts_by s.k4 s.m2 s.g1 s.middle s.large s.middle_cache s.large_cache in
    let space : ℕ = c.args.space in
    let page : ℕ = c.args.page in
    let in_page = page-of c.args.parts.now space page c.requires.page in
    let k2 : ℕ = page_key order.M2 space page in
    let k1 : ℕ = page_key order.G1 space page in
    let words : Size → Option ℕ = by_size c.touch-middle.result c.touch-large.result in
    let leaf : Option Leaf = c.probe_next-leaf.result in
    let plans : Order → Plan = plans_by c.planned-k4_plan.result c.planned-m2_plan.result c.planned-g1_plan.result in
    let said : Order → Option Leaf = said_in q space page plans in
    let cache2 = filled-same order.M2 c.fills_middle.result (fills_m2 leaf) c.touch-middle.result c.section-middle_key.result k2 s.middle.counts c.probe_next-m2.new.table (probed (plans order.M2) s.m2) s.middle_cache c.touch-middle.new.self c.fill_if.new.cache
    c.fill_if.ensures c.fills_middle.ensures c.section-middle_key.ensures c.probe_next-m2.ensures.after c.touch-middle.ensures.moved in
    let cache1 = filled-same order.G1 c.is_some.result (is_some leaf) c.touch-large.result c.section-large_key.result k1 s.large.counts c.probe_next-leaf.new.table (probed (plans order.G1) s.g1) s.large_cache c.touch-large.new.self c.fill_if-2.new.cache
    c.fill_if-2.ensures c.is_some.ensures c.section-large_key.ensures c.probe_next-leaf.ensures.after c.touch-large.ensures.moved in
    let T : CuckooState → CuckooState → CuckooState → Cached Item → Cached Item → RowParts = λ a b d u v. parts_by a b d s.middle s.large u v in
    let t2 : CuckooState = c.probe_next-m2.new.table in
    let t1 : CuckooState = c.probe_next-leaf.new.table in
    subst (λ p. IsWalked p space page leaf (c.one_hit.result + c.one_hit-2.result) (T c.probe_order-k4.new.table t2 t1 c.fill_if.new.cache c.fill_if-2.new.cache)) c.parts.view_is
    (steps-walked c.words_read_back.ensures q (subst IsRow (sym c.parts.view_is) c.requires.whole) space page in_page.0 in_page.1 leaf (c.one_hit.result + c.one_hit-2.result)
    (T c.probe_order-k4.new.table t2 t1 c.fill_if.new.cache c.fill_if-2.new.cache)
    (record {
      words = words;
      plans = plans;
      words_are = found-words q space page c.section-middle_key.result c.section-large_key.result c.touch-middle.result c.touch-large.result
          c.section-middle_key.ensures c.section-large_key.ensures c.touch-middle.ensures.found c.touch-large.ensures.found;
      plans_are = each (λ o. plans o ≡ plan_in space page words o) (c.planned-k4_plan.ensures k2 k1) (c.planned-m2_plan.ensures k2 k1) (c.planned-g1_plan.ensures k2 k1);
      found_is = c.probe_next-leaf.ensures.found ∙ ap (λ l. or_leaf l (said order.G1)) c.probe_next-m2.ensures.found ∙ or-or c.probe_order-k4.result (said order.M2) (said order.G1)
          ∙ ap (λ l. or_leaf l (or_leaf (said order.M2) (said order.G1))) c.probe_order-k4.ensures.found;
      hits_are = ap (λ n. n + c.one_hit-2.result) (c.one_hit.ensures.is k2) ∙ ap (λ n. one_if (is_some (hit_of k2 c.touch-middle.result)) + n) (c.one_hit-2.ensures.is k1);
      after_is = ap (λ t. T t t2 t1 c.fill_if.new.cache c.fill_if-2.new.cache) c.probe_order-k4.ensures.after
          ∙ ap (λ t. T (probed (plans order.K4) s.k4) t t1 c.fill_if.new.cache c.fill_if-2.new.cache) c.probe_next-m2.ensures.after
          ∙ ap (λ t. T (probed (plans order.K4) s.k4) (probed (plans order.M2) s.m2) t c.fill_if.new.cache c.fill_if-2.new.cache) c.probe_next-leaf.ensures.after
          ∙ ap (λ u. T (probed (plans order.K4) s.k4) (probed (plans order.M2) s.m2) (probed (plans order.G1) s.g1) u c.fill_if-2.new.cache) cache2
          ∙ ap (T (probed (plans order.K4) s.k4) (probed (plans order.M2) s.m2) (probed (plans order.G1) s.g1) (cache_walked q space page leaf words Middle (probed (plans order.M2) s.m2).ways)) cache1;
    }))

pub returns-clause-whole : goal.returns-clause-whole
returns-clause-whole g c = (walked g c).row

pub returns-clause-walks : goal.returns-clause-walks
returns-clause-walks g c = (walked g c).walks
