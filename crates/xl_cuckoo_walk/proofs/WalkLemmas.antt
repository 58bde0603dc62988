-- A walk, step by step, is the definition's.
use Rattle.xl_cuckoo_walk.proofs.Common.{◌%◌, ◌*◌, ◌+◌, ◌/◌, ◌<◌, ◌^◌, ◌∙◌, ◌≡◌, ◌≤◌, ap, AreTied, arith, Bool, by_size, Cached, Count, counts_of, covers, CuckooState, CuckooWays, false, filled, fills_m2, find, find-In, find-passes, first_from, has_leaves, has_tag, hit_of, In, is_page_section, is_section, is_some, IsIn, IsPage, IsPlaced, IsRow, IsWalk, Item, Large, Leaf, leaf_at_page, leaf_said_by, leaves_of_ways, length, level-low, level_of, List, loads_by, loads_in, MadeWordsReadBack, map, Middle, new_word, newest-map, None, not, one_if, only, only-first, Option, Order, order_of, page-found, page_key, pages_of, parts_by, Plan, plan_of, plus, probed, probes, refl, row_state, RowParts, rules_of, same_order, Section, section-some, section-walked, section_after, section_by, section_in, section_of_page, SectionCaches, sections_in, SectionsFresh, Size, size_in, small-block, Some, subst, sym, table_of, table_walked, TableRules, TableState, touched, touched-map, touched-none, touched_in, true, value_by, walk_answer, walked, ways_in, ways_of, WayShape, with_newest, word_of_item, ℕ}
use Rattle.xl_model.specs.declared.work.Walk.{Walk}
use Rattle.xl_model_lemmas.specs.Mappings.{IsFound}
use Rattle.xl_cuckoo_walk.proofs.BitLemmas.{written-is}
use Rattle.xl_cuckoo_walk.proofs.CodeLemmas.{hit-is, tag-same}
use Rattle.xl_cuckoo_walk.proofs.HoldLemmas.{few-ways}
use Rattle.xl_cuckoo_walk.proofs.IndexLemmas.{each, each-size, ways-table}
use Rattle.xl_cuckoo_walk.proofs.PlanLemmas.{AreHits, hit-fresh, IsPlanned, planned}
use Rattle.xl_model.specs.declared.address.Order.TheVariants as order
use Rattle.xl_cuckoo_walk.specs.declared.plan.Plan.TheVariants as plan

-- a cache after a walk
cache-after : (size : Order) (s page : ℕ) (leaves : List Leaf) (ws : CuckooWays) (fills : Bool) (word : ℕ) (c : Cached Item) → page < 2 ^ 45
    → section_by (s * 2 ^ 45 + page / pages_of size) word ≡ section_of_page size s page leaves ws
    → sections_in (filled fills (word_of_item (find (has_tag (s * 2 ^ 45 + page / pages_of size)) c.items)) (s * 2 ^ 45 + page / pages_of size) word (touched_in (s * 2 ^ 45 + page / pages_of size) c))
    ≡ section_after size s page leaves ws fills (find (is_page_section size s page) (sections_in c).items) (sections_in c)
cache-after size s page leaves ws fills word c h e =
    go (find (has_tag tag) c.items) refl fills ∙ ap (λ q. section_after size s page leaves ws fills q (sections_in c)) (hit-is s (page / pages_of size) (small-block size page h) c.items)
  where
    tag : ℕ
    tag = s * 2 ^ 45 + page / pages_of size

    mine : List Section → Cached Section
    mine items = record { width = c.width; items = items }

    moved : map section_in (touched (has_tag tag) c.items) ≡ touched (is_section s (page / pages_of size)) (map section_in c.items)
    moved = sym (touched-map section_in (is_section s (page / pages_of size)) (has_tag tag) (tag-same s (page / pages_of size) (small-block size page h)) c.items)

    go : (o : Option Item) → find (has_tag tag) c.items ≡ o → (f : Bool)
        → sections_in (filled f (word_of_item o) tag word (touched_in tag c)) ≡ section_after size s page leaves ws f (hit_of tag (word_of_item o)) (sections_in c)
    go None w false = ap (λ items. mine (map section_in items)) (touched-none (has_tag tag) c.items w)
    go None w true =
        ap (λ items. mine (map section_in (with_newest c.width (record { tag = tag; word = word }) items))) (touched-none (has_tag tag) c.items w)
        ∙ ap mine (sym (newest-map section_in c.width (record { tag = tag; word = word }) c.items))
        ∙ ap (λ z. mine (with_newest c.width z (map section_in c.items))) e
    go (Some i) w false = ap mine moved
    go (Some i) w true = ap mine moved

-- the loads of a probe
probed-same : (p : Plan) (t : CuckooState) → probed p t ≡ record t { loads = (probed p t).loads }
probed-same plan.Skip t = refl
probed-same plan.Every t = refl
probed-same (plan.At way) t = refl

loads-of : (p : Plan) (t : CuckooState) → (probed p t).loads % 2 ^ 64 ≡ (t.loads + loads_by p (length t.ways)) % 2 ^ 64
loads-of plan.Skip t = omega arith
loads-of plan.Every t = omega arith
loads-of (plan.At way) t = omega arith

sum-loads : (x y z a b c k m g : ℕ) → x % 2 ^ 64 ≡ (a + k) % 2 ^ 64 → y % 2 ^ 64 ≡ (b + m) % 2 ^ 64 → z % 2 ^ 64 ≡ (c + g) % 2 ^ 64
    → plus (plus x y) z ≡ plus (plus (plus a b) c) (k + (m + g))
sum-loads x y z a b c k m g p q r = omega arith

pub page-of : (p : RowParts) (s page : ℕ) → IsPage (row_state p).shape s page → (s < 64) × (page < 2 ^ 45)
unfolding row_state
page-of p s page h = (h.space_in, h.page_in)

-- a walk fills the cache of a size
abbrev pub fills_size : Size → Option Leaf → Bool
fills_size Middle found = fills_m2 found
fills_size Large found = is_some found

-- the cached sections of a page, by the words that were found
abbrev pub hit_in : ℕ → ℕ → (Size → Option ℕ) → Size → Option Section
hit_in s page words z = hit_of (page_key (order_of z) s page) (words z)

abbrev pub plan_in : ℕ → ℕ → (Size → Option ℕ) → Order → Plan
plan_in s page words o = plan_of o (hit_in s page words Middle) (hit_in s page words Large)

abbrev pub hits_in : ℕ → ℕ → (Size → Option ℕ) → ℕ
hits_in s page words = one_if (is_some (hit_in s page words Middle)) + one_if (is_some (hit_in s page words Large))

-- the leaf that probes as planned find
abbrev pub said_in : RowParts → ℕ → ℕ → (Order → Plan) → Order → Option Leaf
said_in p s page plans o = leaf_said_by o s page (value_by (plans o) (page_key o s page) (ways_of o (ways_in p)))

-- the parts after a walk
abbrev pub cache_walked : RowParts → ℕ → ℕ → Option Leaf → (Size → Option ℕ) → Size → List WayShape → Cached Item
cache_walked p s page found words z ways =
    filled (fills_size z found) (words z) (page_key (order_of z) s page) (new_word (order_of z) (page_key (order_of z) s page) (counts_of p z).counts ways)
    (touched_in (page_key (order_of z) s page) (size_in z p).cache)

abbrev pub steps_after : RowParts → ℕ → ℕ → (Order → Plan) → Option Leaf → (Size → Option ℕ) → RowParts
steps_after p s page plans found words =
    parts_by (probed (plans order.K4) p.tables.k4) (probed (plans order.M2) p.tables.m2) (probed (plans order.G1) p.tables.g1) p.middle.counts p.large.counts
    (cache_walked p s page found words Middle (probed (plans order.M2) p.tables.m2).ways) (cache_walked p s page found words Large (probed (plans order.G1) p.tables.g1).ways)

-- the steps of a walk, as the code makes them
pub record Steps (p : RowParts) (s page : ℕ) (found : Option Leaf) (hits : ℕ) (after : RowParts) : Type 0 where
  pub words : Size → Option ℕ
  pub plans : Order → Plan
  pub words_are : (z : Size) → words z ≡ word_of_item (find (has_tag (page_key (order_of z) s page)) (size_in z p).cache.items)
  pub plans_are : (o : Order) → plans o ≡ plan_in s page words o
  pub found_is : found ≡ first_from order.K4 (said_in p s page plans)
  pub hits_are : hits ≡ hits_in s page words
  pub after_is : after ≡ steps_after p s page plans found words

-- the row after a walk, and the walk's result
pub record IsWalked (p : RowParts) (s page : ℕ) (found : Option Leaf) (hits : ℕ) (after : RowParts) : Type 0 where
  pub row : IsRow after
  pub walks : IsWalk s page (row_state p) (record { leaf = found; cache_hits = hits }) (row_state after)

module _ (back : MadeWordsReadBack) (p : RowParts) (r : IsRow p) (s page : ℕ) (space_in : s < 64) (page_in : page < 2 ^ 45) where
  abbrev ws : CuckooWays
  ws = ways_in p

  abbrev leaves : List Leaf
  leaves = leaves_of_ways (ways_in p)

  -- the words of the page's cached sections, and these sections
  abbrev words : Size → Option ℕ
  words z = word_of_item (find (has_tag (page_key (order_of z) s page)) (size_in z p).cache.items)

  abbrev hit : Size → Option Section
  hit z = find (is_page_section (order_of z) s page) (sections_in (size_in z p).cache).items

  placed : (x : Leaf) → In x leaves → IsPlaced x
  placed x i = (r.holds.held.fit x i).aligned.placed

  hit-found : (z : Size) → hit_in s page words z ≡ hit z
  hit-found z = hit-is s (page / pages_of (order_of z)) (small-block (order_of z) page page_in) (size_in z p).cache.items

  hits : (z : Size) → AreHits (order_of z) s page leaves ws (hit_in s page words z)
  hits z = subst (λ h. AreHits (order_of z) s page leaves ws h) (sym (hit-found z)) (hit-fresh (order_of z) s page leaves ws (sections_in (size_in z p).cache) (r.fresh z))

  pub planned-at : (o : Order) → IsPlanned back ws leaves r.holds.held s page space_in page_in o (hit_in s page words Middle) (hit_in s page words Large)
  planned-at o = planned back ws leaves r.holds.held s page space_in page_in o (hit_in s page words Middle) (hit_in s page words Large) (hits Middle) (hits Large)

  abbrev L : Option Leaf
  L = leaf_at_page s page leaves

  abbrev P : Order → Plan
  P o = plan_in s page words o

  found-at : first_from order.K4 (said_in p s page P) ≡ L
  found-at =
      let F : Option Leaf = find (covers s page) leaves in
      let each-found : said_in p s page P ≡ (λ o. only o F) = λ i o. (planned-at o).found i in
      ap (first_from order.K4) each-found ∙ only-first F ∙ sym (page-found s page leaves)

  -- the caches
  abbrev cache : Size → Cached Item
  cache z = cache_walked p s page L words z (ways_of (order_of z) ws)

  after-size : (z : Size) → sections_in (cache z) ≡ section_after (order_of z) s page leaves ws (fills_size z L) (hit z) (sections_in (size_in z p).cache)
  after-size z =
      let size : Order = order_of z in
      cache-after size s page leaves ws (fills_size z L) (new_word size (page_key size s page) (counts_of p z).counts (ways_of size ws)) (size_in z p).cache page_in
      (written-is size s (page / pages_of size) leaves (counts_of p z).counts (ways_of size ws) (small-block size page page_in) r.holds.held.sorted placed (r.holds.tied z).tied)

  is-found : (x : Leaf) → L ≡ Some x → IsFound s page leaves x
  is-found x e =
      let w : find (covers s page) leaves ≡ Some x = sym (page-found s page leaves) ∙ e in
      let i : In x leaves = find-In (covers s page) x leaves w in
      record { member = i; covers_page = find-passes (covers s page) x leaves w; aligned = (r.holds.held.fit x i).aligned.aligned }

  some-leaves : (z : Size) (f : Option Leaf) → L ≡ f → fills_size z f ≡ true → has_leaves (section_of_page (order_of z) s page leaves ws) ≡ true
  some-leaves Middle None e t = absurd (cc)
  some-leaves Middle (Some x) e t = section-some order.M2 s page leaves ws x (is-found x e) (low x.order t)
    where
      low : (o : Order) → not (same_order o order.G1) ≡ true → level_of o ≤ 1
      low order.K4 h = omega arith
      low order.M2 h = omega arith
      low order.G1 h = absurd (cc)
  some-leaves Large None e t = absurd (cc)
  some-leaves Large (Some x) e t = section-some order.G1 s page leaves ws x (is-found x e) (level-low x.order)

  fresh-size : (z : Size) → SectionsFresh (order_of z) leaves (ways_of (order_of z) ws) (sections_in (cache z))
  fresh-size z =
      subst (λ u. SectionsFresh (order_of z) leaves (ways_of (order_of z) ws) u) (sym (after-size z))
      (section-walked (order_of z) s page leaves ws (fills_size z L) (hit z) (sections_in (size_in z p).cache) (some-leaves z L refl) (r.fresh z))

  -- the loads
  abbrev D : ℕ
  D = length p.tables.k4.ways

  abbrev probes_at : Order → ℕ
  probes_at o = probes D (hit Middle) (hit Large) o

  abbrev loads_at : Order → ℕ
  loads_at o = (probed (P o) (table_of o p)).loads

  loads-are : (o : Order) → loads_at o % 2 ^ 64 ≡ ((table_of o p).loads + probes_at o) % 2 ^ 64
  loads-are o =
      let width : length (ways_of o ws) ≡ D = ap length (sym (ways-table o p)) ∙ ap (λ (u : TableRules). u.width) (r.holds.rules o) in
      loads-of (P o) (table_of o p)
      ∙ ap (λ n. ((table_of o p).loads + n) % 2 ^ 64)
      (ap (λ us. loads_by (P o) (length us)) (ways-table o p) ∙ (planned-at o).loads ∙ ap (λ n. probes n (hit_in s page words Middle) (hit_in s page words Large) o) width
      ∙ ap (λ h. probes D h (hit_in s page words Large) o) (hit-found Middle) ∙ ap (λ h. probes D (hit Middle) h o) (hit-found Large))

  -- the row with these loads and caches
  abbrev read_now : RowParts
  read_now = parts_by (record p.tables.k4 { loads = loads_at order.K4 }) (record p.tables.m2 { loads = loads_at order.M2 }) (record p.tables.g1 { loads = loads_at order.G1 })
      p.middle.counts p.large.counts (cache Middle) (cache Large)

  state-now : row_state read_now ≡ table_walked s page (row_state p)
  unfolding row_state table_walked walked
  state-now =
      let T : Cached Section → Cached Section → ℕ → TableState = λ u v l. record (row_state p) { caches = SectionCaches u v; loads = l } in
      let S : Size → Cached Section = λ z. section_after (order_of z) s page leaves ws (fills_size z L) (hit z) (sections_in (size_in z p).cache) in
      let n : ℕ = loads_in read_now.tables in
      ap (λ u. T u (sections_in (cache Large)) n) (after-size Middle)
      ∙ ap (λ v. T (S Middle) v n) (after-size Large)
      ∙ ap (T (S Middle) (S Large))
      (sum-loads (loads_at order.K4) (loads_at order.M2) (loads_at order.G1) p.tables.k4.loads p.tables.m2.loads p.tables.g1.loads
      (probes_at order.K4) (probes_at order.M2) (probes_at order.G1) (loads-are order.K4) (loads-are order.M2) (loads-are order.G1))

  row-now : IsRow read_now
  row-now = record {
    holds = record {
      held = r.holds.held;
      keys = r.holds.keys;
      once = r.holds.once;
      rules = each (λ o. rules_of (table_of o read_now) ≡ rules_of read_now.tables.k4) (r.holds.rules order.K4) (r.holds.rules order.M2) (r.holds.rules order.G1);
      few = r.holds.few;
      tied = each-size (λ z. AreTied (order_of z) leaves (counts_of read_now z)) (r.holds.tied Middle) (r.holds.tied Large);
    };
    fresh = each-size (λ z. SectionsFresh (order_of z) leaves (ways_of (order_of z) ws) (sections_in (size_in z read_now).cache)) (fresh-size Middle) (fresh-size Large);
  }

  answer-now : record { leaf = L; cache_hits = hits_in s page words } ≡ walk_answer s page (row_state p)
  unfolding row_state walk_answer walked
  answer-now =
      let T : Option Section → Option Section → Walk = λ u v. record { leaf = L; cache_hits = one_if (is_some u) + one_if (is_some v) } in
      ap (λ u. T u (hit_in s page words Large)) (hit-found Middle) ∙ ap (T (hit Middle)) (hit-found Large)

  after-now : steps_after p s page P L words ≡ read_now
  after-now =
      let T : CuckooState → CuckooState → CuckooState → RowParts = λ a b c.
      parts_by a b c p.middle.counts p.large.counts (cache_walked p s page L words Middle b.ways) (cache_walked p s page L words Large c.ways) in
      ap (λ a. T a (probed (P order.M2) p.tables.m2) (probed (P order.G1) p.tables.g1)) (probed-same (P order.K4) p.tables.k4)
      ∙ ap (λ b. T (record p.tables.k4 { loads = loads_at order.K4 }) b (probed (P order.G1) p.tables.g1)) (probed-same (P order.M2) p.tables.m2)
      ∙ ap (T (record p.tables.k4 { loads = loads_at order.K4 }) (record p.tables.m2 { loads = loads_at order.M2 })) (probed-same (P order.G1) p.tables.g1)

  -- the steps are a walk
  pub steps-walked : (found : Option Leaf) (hits : ℕ) (after : RowParts) → Steps p s page found hits after → IsWalked p s page found hits after
  steps-walked found hits after st =
      let e : st.words ≡ words = λ i z. st.words_are z i in
      let plan : (o : Order) → st.plans o ≡ P o = λ o. st.plans_are o ∙ ap (λ u. plan_in s page u o) e in
      let plans : st.plans ≡ P = λ i o. plan o i in
      let f : found ≡ L = st.found_is ∙ ap (λ q. first_from order.K4 (said_in p s page q)) plans ∙ found-at in
      let n : hits ≡ hits_in s page words = st.hits_are ∙ ap (hits_in s page) e in
      let a : after ≡ read_now = st.after_is ∙ ap (λ q. steps_after p s page q found st.words) plans ∙ ap (λ q. steps_after p s page P q st.words) f
      ∙ ap (steps_after p s page P L) e ∙ after-now in
      let now : IsWalked p s page L (hits_in s page words) read_now = record { row = row-now; walks = record { answer = answer-now; after = state-now } } in
      subst (λ t. IsWalked p s page found hits t) (sym a) (subst (λ t. IsWalked p s page t hits read_now) (sym f) (subst (λ t. IsWalked p s page L t read_now) (sym n) now))

  -- a way that a plan names is there
  pub plan-inside : (o : Order) (q : Plan) (found : Size → Option ℕ) → ((z : Size) → found z ≡ words z) → q ≡ plan_in s page found o → IsIn q (ways_of o ws)
  plan-inside o q found are is =
      let e : found ≡ words = λ i z. are z i in
      subst (λ u. IsIn u (ways_of o ws)) (sym (is ∙ ap (λ u. plan_in s page u o) e)) (planned-at o).inside

-- a probed table has as many ways
pub few-probed : (p q : RowParts) → q ≡ p → IsRow p → (o : Order) (plan : Plan) (t : CuckooState) → t ≡ probed plan (table_of o q) → length t.ways ≤ 4
few-probed p q e r o plan t is =
    let row : IsRow q = subst IsRow (sym e) r in
    let few : length (table_of o q).ways ≤ 4 = few-ways q (leaves_of_ways (ways_in q)) row.holds o in
    subst (λ (u : CuckooState). length u.ways ≤ 4) (sym (is ∙ probed-same plan (table_of o q))) few

-- a probe as planned by the words that the code found may be made
pub probe-ready : MadeWordsReadBack → (p q : RowParts) → q ≡ p → IsRow p → (s page : ℕ) → IsPage (row_state p).shape s page → {words : Size → Option ℕ}
    → ((z : Size) → words z ≡ word_of_item (find (has_tag (page_key (order_of z) s page)) (size_in z q).cache.items)) → (o : Order) (plan : Plan) → plan ≡ plan_in s page words o
    → IsIn plan (ways_of o (ways_in q)) × ((s < 64) × (page < 2 ^ 45))
probe-ready back p q e r s page at {words} are o plan is =
    let in_page = page-of p s page at in
    (plan-inside back q (subst IsRow (sym e) r) s page in_page.0 in_page.1 o plan words are is, in_page)

pub found-words : (p : RowParts) (s page k2 k1 : ℕ) (w2 w1 : Option ℕ) → k2 ≡ page_key order.M2 s page → k1 ≡ page_key order.G1 s page
    → w2 ≡ word_of_item (find (has_tag k2) p.middle.cache.items) → w1 ≡ word_of_item (find (has_tag k1) p.large.cache.items)
    → (z : Size) → by_size w2 w1 z ≡ word_of_item (find (has_tag (page_key (order_of z) s page)) (size_in z p).cache.items)
found-words p s page k2 k1 w2 w1 e f a b =
    each-size (λ z. by_size w2 w1 z ≡ word_of_item (find (has_tag (page_key (order_of z) s page)) (size_in z p).cache.items))
    (a ∙ ap (λ n. word_of_item (find (has_tag n) p.middle.cache.items)) e) (b ∙ ap (λ n. word_of_item (find (has_tag n) p.large.cache.items)) f)

-- a cache as the code fills it
pub filled-same : (size : Order) (fills fills' : Bool) (hit : Option ℕ) (key key' : ℕ) (counts : List Count) (t t' : CuckooState) (c now new : Cached Item)
    → new ≡ filled fills hit key (new_word size key counts t.ways) now → fills ≡ fills' → key ≡ key' → t ≡ t' → now ≡ touched_in key c
    → new ≡ filled fills' hit key' (new_word size key' counts t'.ways) (touched_in key' c)
filled-same size fills fills' hit key key' counts t t' c now new is f k e m =
    is
    ∙ ap (λ b. filled b hit key (new_word size key counts t.ways) now) f
    ∙ ap (λ (u : CuckooState). filled fills' hit key (new_word size key counts u.ways) now) e
    ∙ ap (λ x. filled fills' hit key (new_word size key counts t'.ways) x) m
    ∙ ap (λ n. filled fills' hit n (new_word size n counts t'.ways) (touched_in n c)) k
