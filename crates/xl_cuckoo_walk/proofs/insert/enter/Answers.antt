use Rattle.xl_cuckoo_walk.proofs.Common.{◌%◌, ◌&&◌, ◌*◌, ◌++◌, ◌+◌, ◌/◌, ◌<◌, ◌^◌, ◌∙◌, ◌≡◌, ◌≤◌, ap, AreCounts, AreFresh, AreHeld, AtCap, Bool, by_size, counts_of, CountState, Cuckoo, CuckooRules, CuckooState, CuckooWays, Displaced, entries-same, entries_in, entries_of, Entry, Err, false, has_fit, has_room, HoldsLeaves, In, Insert, inserted, IsCapped, IsChange, IsEntered, IsFit, IsNoted, IsPut, IsRefused, IsRoomy, IsRow, Large, Leaf, leaf_entry, leaf_word, leaves_of_ways, length, level_of, List, lit<, loads_in, MadeWordsReadBack, map, meets_any, Middle, Moves, nat_le, no_moves, None, once-same, One, Option, Order, order_at, order_of, order_tags, page_key, parts_by, refl, row_state, RowParts, rules_in, rules_of, SameEntries, section-refused, section_count, sections_in, SectionsFresh, Size, size_in, SizeParts, Some, StaysBeside, subst, sym, table_of, TableState, tags_in, true, value_of, values_in, ways_at, ways_in, ways_of, WayShape, with_counts, with_leaf, with_put_in, with_table, with_ways, word_list, word_of, work_of, ℕ}
use Rattle.std.specs.Cmp.{first_so, second_so}
use Rattle.xl_cuckoo_walk.proofs.HoldLemmas.{beside-now, by-rules, entered, entry-key, fit-leaf, free-key, free-now, holds-changed, holds-row, IsTableFor, room-leaf, roomy-leaf}
use Rattle.xl_cuckoo_walk.proofs.IndexLemmas.{each-size, each-way, size-stays, ways-table, with-ways-in}
use Rattle.xl_cuckoo_walk.proofs.RowLemmas.{leaves-known}
use Rattle.xl_model.proofs.CodeLemmas.{word-some}
use Rattle.xl_cuckoo_walk.proofs.VerdictLemmas.{no-place, no-space, room-both, state_by}
use Rattle.xl_model.specs.declared.address.Order.TheVariants as order
use Rattle.xl_model.specs.declared.work.NoRoom.TheVariants as why
use Rattle.xl_cuckoo_walk.proofs.insert.enter.Goals as goal

-- ways with the same entries hold the same words under the same tags
entries-at : (q : Option Order) (o : Order) (after : List WayShape) (ws : CuckooWays) → entries_in after ≡ entries_in (ways_of o ws)
    → entries_in (ways_at q (with_ways o after ws)) ≡ entries_in (ways_at q ws)
entries-at None o after ws e = refl
entries-at (Some q) o after ws e = each-way (λ s w. entries_in w ≡ entries_in (ways_of s ws)) o after ws e (λ s n. refl) q

values-same : (o : Order) (after : List WayShape) (ws : CuckooWays) → entries_in after ≡ entries_in (ways_of o ws) → values_in (with_ways o after ws) ≡ values_in ws
unfolding values_in
values-same o after ws e =
    let at : (t : ℕ) → values_in (with_ways o after ws) t ≡ values_in ws t = λ t. ap (λ es. word_list (word_of (t % 2 ^ 60) es)) (entries-at (order_at (t / 2 ^ 60)) o after ws e) in
    λ i t. at t i

tags-same : (o : Order) (after : List WayShape) (ws : CuckooWays) → entries_in after ≡ entries_in (ways_of o ws) → tags_in (with_ways o after ws) ≡ tags_in ws
unfolding tags_in
tags-same o after ws e =
    let new : CuckooWays = with_ways o after ws in
    let same : (q : Order) → order_tags q (ways_of q new) ≡ order_tags q (ways_of q ws) =
    λ q. ap (λ es. map (λ (x : Entry). level_of q * 2 ^ 60 + x.key) es) (entries-at (Some q) o after ws e) in
    ap (λ ts. ts ++ (order_tags order.M2 new.m2 ++ order_tags order.G1 new.g1)) (same order.K4)
    ∙ ap (λ ts. order_tags order.K4 ws.k4 ++ (ts ++ order_tags order.G1 new.g1)) (same order.M2)
    ∙ ap (λ ts. order_tags order.K4 ws.k4 ++ (order_tags order.M2 ws.m2 ++ ts)) (same order.G1)

-- a leaf that is refused
module _ (back : MadeWordsReadBack) (p : RowParts) (r : IsRow p) (x : Leaf) (fit : IsFit x) (free : meets_any x.space x.first x.order (leaves_of_ways (ways_in p)) ≡ false) where
  abbrev leaves : List Leaf
  leaves = leaves_of_ways (ways_in p)

  abbrev room : Bool
  room = has_fit order.M2 x p.middle.counts && has_fit order.G1 x p.large.counts

  fits-each : room ≡ true → (z : Size) → has_fit (order_of z) x (counts_of p z) ≡ true
  fits-each fits = each-size (λ z. has_fit (order_of z) x (counts_of p z) ≡ true)
      (first_so (has_fit order.M2 x p.middle.counts) (has_fit order.G1 x p.large.counts) fits)
      (second_so (has_fit order.M2 x p.middle.counts) (has_fit order.G1 x p.large.counts) fits)

  -- room by the counts is room by the leaves
  room-is : room ≡ has_room (Insert x) leaves (Cuckoo (rules_in p) (ways_in p))
  room-is =
      let at : (z : Size) → has_fit (order_of z) x (counts_of p z) ≡ nat_le (section_count (order_of z) (with_leaf x leaves)) (counts_of p z).room =
      λ z. room-leaf back p r.holds x fit free (order_of z) (counts_of p z) (r.holds.tied z) in
      ap (λ b. b && has_fit order.G1 x p.large.counts) (at Middle)
      ∙ ap (λ b. nat_le (section_count order.M2 (with_leaf x leaves)) p.middle.counts.room && b) (at Large)
      ∙ sym (room-both (rules_in p) leaves (ways_in p) x)

  refused-full : room ≡ false → IsRefused x p p (record { why = why.NoTable; work = work_of no_moves 0 })
  unfolding row_state
  refused-full none = record {
    row = r;
    changes = no-space (Insert x) (rules_in p) leaves (ways_in p) (sections_in p.middle.cache) (sections_in p.large.cache) (loads_in p.tables) (sym room-is ∙ none);
  }

  module _ (after : List WayShape) (moved : List Displaced) (m : Moves) (capped : inserted (table_of x.order p) (leaf_entry x) ≡ AtCap after m)
      (same : SameEntries (table_of x.order p).ways after) (width : length after ≡ length (table_of x.order p).ways) where
    abbrev table : CuckooState
    table = record (table_of x.order p) { ways = after; moved = moved }

    abbrev now : RowParts
    now = with_table x.order table p

    lists : map entries_of after ≡ map entries_of (ways_of x.order (ways_in p))
    lists = same ∙ ap (λ ws. map entries_of ws) (ways-table x.order p)

    entries : entries_in after ≡ entries_in (ways_of x.order (ways_in p))
    entries = entries-same after (ways_of x.order (ways_in p)) lists

    rules : rules_of table ≡ rules_of (table_of x.order p)
    rules = ap (λ n. record (rules_of (table_of x.order p)) { width = n }) width

    is-table : IsTableFor p x.order table leaves
    is-table = record {
      held = subst (λ vs. AreHeld One vs (tags_in (with_ways x.order after (ways_in p))) leaves) (sym (values-same x.order after (ways_in p) entries))
          (subst (λ ts. AreHeld One (values_in (ways_in p)) ts leaves) (sym (tags-same x.order after (ways_in p) entries)) r.holds.held);
      keys = λ e i. r.holds.keys x.order e (subst (λ es. In e es) entries i);
      once = once-same (ways_of x.order (ways_in p)) after (r.holds.once x.order) lists;
      rules = rules;
    }

    holds : HoldsLeaves now leaves
    holds = holds-changed p r.holds x.order table leaves is-table (counts_of p) r.holds.tied

    beside : StaysBeside p now
    beside = beside-now p r.holds x.order table rules refl (counts_of p) (λ z. refl)

    ways : ways_in now ≡ with_ways x.order after (ways_in p)
    ways = with-ways-in x.order table p

    fresh : AreFresh now leaves
    fresh z =
        let old : List WayShape = ways_of (order_of z) (ways_in p) in
        subst (λ c. SectionsFresh (order_of z) leaves (ways_of (order_of z) (ways_in now)) (sections_in c)) (sym (beside.cache z))
        (subst (λ ws. SectionsFresh (order_of z) leaves (ways_of (order_of z) ws) (sections_in (size_in z p).cache)) (sym ways)
        (section-refused (order_of z) leaves old (ways_of (order_of z) (with_ways x.order after (ways_in p))) (sections_in (size_in z p).cache)
        (each-way (λ q w. map entries_of w ≡ map entries_of (ways_of q (ways_in p))) x.order after (ways_in p) lists (λ q e. refl) (order_of z)) (r.fresh z)))

    state : row_state now ≡ state_by (rules_in p) leaves (with_ways x.order after (ways_in p)) (sections_in p.middle.cache) (sections_in p.large.cache) (loads_in p.tables)
    unfolding row_state
    state =
        let T : List Leaf → CuckooRules → CuckooWays → ℕ → TableState = λ zs rs ws n. state_by rs zs ws (sections_in p.middle.cache) (sections_in p.large.cache) n in
        ap (λ zs. T zs (rules_in now) (ways_in now) (loads_in now.tables)) (leaves-known back (ways_in now) leaves holds.held)
        ∙ ap (λ k. T leaves k (ways_in now) (loads_in now.tables)) beside.rules
        ∙ ap (λ ws. T leaves (rules_in p) ws (loads_in now.tables)) ways
        ∙ ap (λ n. T leaves (rules_in p) (with_ways x.order after (ways_in p)) n) beside.loads

    refused-capped : room ≡ true → IsRefused x p now (record { why = why.WayAtCap; work = work_of m 0 })
    unfolding row_state
    refused-capped some = record {
      row = holds-row back now leaves holds fresh;
      changes = subst (λ t. IsChange (Insert x) (row_state p) (Err (record { why = why.WayAtCap; work = work_of m 0 })) t) (sym state)
          (no-place (Insert x) (rules_in p) leaves (ways_in p) (sections_in p.middle.cache) (sections_in p.large.cache) (loads_in p.tables) x after m refl
          (sym room-is ∙ some) (by-rules p r.holds x.order (leaf_entry x) ∙ capped));
    }

  -- the entry that is put is the leaf's
  entry-is : (key word : ℕ) → key ≡ page_key x.order x.space x.first → word ≡ leaf_word x.frame x.perm → record { key = key; word = word } ≡ leaf_entry x
  entry-is key word k w =
      let E : ℕ → ℕ → Entry = λ a b. record { key = a; word = b } in
      ap (λ a. E a word) (k ∙ sym (entry-key x)) ∙ ap (E (leaf_entry x).key) w

  key-free : (key : ℕ) → key ≡ page_key x.order x.space x.first → value_of key (table_of x.order p).ways ≡ None
  key-free key k = ap (λ n. value_of n (table_of x.order p).ways) (k ∙ sym (entry-key x)) ∙ free-key back p r.holds x fit free

  counts-now : (z : Size) (q : RowParts) → q ≡ with_put_in x.order (table_of x.order q) p → counts_of q z ≡ counts_of p z
  counts-now z q same =
      let t : CuckooState = record (table_of x.order p) { ways = (table_of x.order q).ways; moved = (table_of x.order q).moved } in
      ap (λ (s : SizeParts). s.counts) (ap (size_in z) same ∙ size-stays x.order t p z)

  counted-now : (z : Size) (q : RowParts) → q ≡ with_put_in x.order (table_of x.order q) p → AreCounts (counts_of q z).counts
  counted-now z q same = subst (λ (c : CountState). AreCounts c.counts) (sym (counts-now z q same)) (r.holds.tied z).are

  roomy-now : (z : Size) (q : RowParts) → q ≡ with_put_in x.order (table_of x.order q) p → room ≡ true → level_of x.order ≤ level_of (order_of z) → IsRoomy (order_of z) x (counts_of q z)
  roomy-now z q same fits low =
      subst (IsRoomy (order_of z) x) (sym (counts-now z q same)) (roomy-leaf back p r.holds x fit free (order_of z) (counts_of p z) (r.holds.tied z) (fits-each fits z) low)

  -- what the code makes of a leaf that found a place
  put-entered : (q : RowParts) (m : Moves) (key word : ℕ) → key ≡ page_key x.order x.space x.first → word ≡ leaf_word x.frame x.perm → room ≡ true
      → IsPut x.order (record { key = key; word = word }) p q m → q ≡ with_put_in x.order (table_of x.order q) p → length (table_of x.order q).ways ≡ length (table_of x.order p).ways
      → (middle large : CountState) → IsNoted order.M2 x q.middle.counts middle → IsNoted order.G1 x q.large.counts large → IsEntered x p (with_counts (by_size middle large) q) m
  put-entered q m key word k w fits put same width middle large a b =
      let counts : Size → CountState = by_size middle large in
      let is : IsPut x.order (leaf_entry x) p q m = subst (λ e. IsPut x.order e p q m) (entry-is key word k w) put in
      subst (λ z. IsEntered x p (with_counts counts z) m) (sym same)
      (entered back p r.holds x fit free (table_of x.order q).ways (table_of x.order q).moved m is.placed is.added width (fits-each fits) counts
      (each-size (λ z. IsNoted (order_of z) x (counts_of p z) (counts z))
      (subst (λ (u : RowParts). IsNoted order.M2 x u.middle.counts middle) same a) (subst (λ (u : RowParts). IsNoted order.G1 x u.large.counts large) same b)))

  -- and of one that found none
  put-refused : (q : RowParts) (m : Moves) (key word : ℕ) → key ≡ page_key x.order x.space x.first → word ≡ leaf_word x.frame x.perm → room ≡ true
      → IsCapped x.order (record { key = key; word = word }) p q m → q ≡ with_put_in x.order (table_of x.order q) p → length (table_of x.order q).ways ≡ length (table_of x.order p).ways
      → IsRefused x p q (record { why = why.WayAtCap; work = work_of m 0 })
  put-refused q m key word k w fits put same width =
      let is : IsCapped x.order (leaf_entry x) p q m = subst (λ e. IsCapped x.order e p q m) (entry-is key word k w) put in
      subst (λ z. IsRefused x p z (record { why = why.WayAtCap; work = work_of m 0 })) (sym same)
      (refused-capped (table_of x.order q).ways (table_of x.order q).moved m is.refused is.kept width fits)

pub has_room-requires : goal.has_room-requires
has_room-requires g c =
    let f = fit-leaf c.args.parts.now c.args.leaf c.requires.valid in
    (lit< tt, (f.aligned.placed.space_in, f.aligned.placed.page_in))

pub returns-then-not-has_room-clause-refused : goal.returns-then-not-has_room-clause-refused
returns-then-not-has_room-clause-refused g c =
    let a = c.args in
    subst (λ r. IsRefused a.leaf a.parts.now a.parts.now r) (sym c.full_table.ensures)
    (refused-full c.words_read_back.ensures a.parts.now c.requires.whole a.leaf (fit-leaf a.parts.now a.leaf c.requires.valid) (free-now a.parts.now a.leaf c.requires.free) (sym c.has_room.ensures ∙ c.if-not-has_room.true))

pub section-key-requires : goal.section-key-requires
section-key-requires g c =
    let at = (fit-leaf c.args.parts.now c.args.leaf c.requires.valid).aligned.placed in
    record { space_in = at.space_in; page_in = at.page_in }

pub put-requires : goal.put-requires
put-requires g c =
    let a = c.args in
    let absent = key-free c.words_read_back.ensures a.parts.now c.requires.whole a.leaf (fit-leaf a.parts.now a.leaf c.requires.valid) (free-now a.parts.now a.leaf c.requires.free) c.section-key.result c.section-key.ensures in
    let positive : 0 < c.leaf_word.result = subst (λ n. 0 < n) (sym c.leaf_word.ensures) (word-some a.leaf.frame a.leaf.perm) in
    (lit< tt, (absent, positive))

pub count-requires-clause-are : goal.count-requires-clause-are
count-requires-clause-are g c =
    let a = c.args in
    let s = c.parts.inside in
    counted-now c.words_read_back.ensures a.parts.now c.requires.whole a.leaf (fit-leaf a.parts.now a.leaf c.requires.valid) (free-now a.parts.now a.leaf c.requires.free) Middle
    (parts_by s.k4 s.m2 s.g1 s.middle s.large s.middle_cache s.large_cache)
    (subst (λ z. z ≡ with_put_in a.leaf.order (table_of a.leaf.order z) a.parts.now) (sym c.parts.view_is) c.put.ensures.same)

pub count-requires-clause-roomy : goal.count-requires-clause-roomy
count-requires-clause-roomy g c =
    let a = c.args in
    let s = c.parts.inside in
    roomy-now c.words_read_back.ensures a.parts.now c.requires.whole a.leaf (fit-leaf a.parts.now a.leaf c.requires.valid) (free-now a.parts.now a.leaf c.requires.free) Middle
    (parts_by s.k4 s.m2 s.g1 s.middle s.large s.middle_cache s.large_cache)
    (subst (λ z. z ≡ with_put_in a.leaf.order (table_of a.leaf.order z) a.parts.now) (sym c.parts.view_is) c.put.ensures.same) (sym c.has_room.ensures ∙ c.if-not-has_room.false)

pub count-requires-in-Ok-clause-are : goal.count-requires-in-Ok-clause-are
count-requires-in-Ok-clause-are g c =
    let a = c.args in
    let s = c.parts.inside in
    counted-now c.words_read_back.ensures a.parts.now c.requires.whole a.leaf (fit-leaf a.parts.now a.leaf c.requires.valid) (free-now a.parts.now a.leaf c.requires.free) Large
    (parts_by s.k4 s.m2 s.g1 s.middle s.large s.middle_cache s.large_cache)
    (subst (λ z. z ≡ with_put_in a.leaf.order (table_of a.leaf.order z) a.parts.now) (sym c.parts.view_is) c.put.ensures.same)

pub count-requires-in-Ok-clause-roomy : goal.count-requires-in-Ok-clause-roomy
count-requires-in-Ok-clause-roomy g c =
    let a = c.args in
    let s = c.parts.inside in
    roomy-now c.words_read_back.ensures a.parts.now c.requires.whole a.leaf (fit-leaf a.parts.now a.leaf c.requires.valid) (free-now a.parts.now a.leaf c.requires.free) Large
    (parts_by s.k4 s.m2 s.g1 s.middle s.large s.middle_cache s.large_cache)
    (subst (λ z. z ≡ with_put_in a.leaf.order (table_of a.leaf.order z) a.parts.now) (sym c.parts.view_is) c.put.ensures.same) (sym c.has_room.ensures ∙ c.if-not-has_room.false)

pub returns-in-Err-clause-refused : goal.returns-in-Err-clause-refused
returns-in-Err-clause-refused g c =
    let a = c.args in
    subst (λ r. IsRefused a.leaf a.parts.now c.put.new.parts r) (sym c.no_place.ensures)
    (put-refused c.words_read_back.ensures a.parts.now c.requires.whole a.leaf (fit-leaf a.parts.now a.leaf c.requires.valid) (free-now a.parts.now a.leaf c.requires.free) c.put.new.parts c.in-Err.full.moves
    c.section-key.result c.leaf_word.result c.section-key.ensures c.leaf_word.ensures (sym c.has_room.ensures ∙ c.if-not-has_room.false) c.in-Err.ensures.err c.put.ensures.same c.put.ensures.width)

pub returns-in-Ok-clause-made : goal.returns-in-Ok-clause-made
returns-in-Ok-clause-made g c =
    let a = c.args in
    let s = c.parts.inside in
    let q : RowParts = parts_by s.k4 s.m2 s.g1 s.middle s.large s.middle_cache s.large_cache in
    put-entered c.words_read_back.ensures a.parts.now c.requires.whole a.leaf (fit-leaf a.parts.now a.leaf c.requires.valid) (free-now a.parts.now a.leaf c.requires.free) q c.in-Ok.moves
    c.section-key.result c.leaf_word.result c.section-key.ensures c.leaf_word.ensures (sym c.has_room.ensures ∙ c.if-not-has_room.false)
    (subst (λ z. IsPut a.leaf.order (record { key = c.section-key.result; word = c.leaf_word.result }) a.parts.now z c.in-Ok.moves) (sym c.parts.view_is) c.in-Ok.ensures.ok)
    (subst (λ z. z ≡ with_put_in a.leaf.order (table_of a.leaf.order z) a.parts.now) (sym c.parts.view_is) c.put.ensures.same)
    (subst (λ z. length (table_of a.leaf.order z).ways ≡ length (table_of a.leaf.order a.parts.now).ways) (sym c.parts.view_is) c.put.ensures.width)
    c.count.new.counts c.count-in-Ok.new.counts c.count.ensures c.count-in-Ok.ensures
