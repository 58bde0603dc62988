-- Tables and counts that hold leaves: when a leaf comes and when one goes.
use Rattle.xl_cuckoo_walk.proofs.Common.{◌<◌, ◌^◌, ◌∙◌, ◌≡◌, ◌≤◌, AddsEntry, aligned-frame, any-false, any-In, ap, AreFresh, AreHeld, AreKeys, AreOnce, AreTied, arith, Bool, Cached, counts_at, counts_of, CountState, CuckooState, CuckooWays, Displaced, entries_in, Entry, false, has_fit, has_key, HoldsLeaves, In, In-any, In-keys, inserted, insertion, IsDropped, IsEntered, IsFit, IsLeafFor, IsLeft, IsNoted, IsPlaced, IsRoomy, IsRow, IsTied, Item, keys-count, keys-In, keys-once, Large, Leaf, leaf_entry, leaves_of_ways, length, length-map, level_of, List, low, MadeWordsReadBack, map, meets_any, meets_block, Middle, Moves, nat_le, nat_tests, new-keys, None, once-added, once-cleared, One, one_if, Order, order_of, page_key, Placed, plus, refl, row_state, RowParts, rules_by, rules_in, rules_of, section_count, section_keys, Size, size_in, StaysBeside, subst, sym, table_of, TableRules, Tables, tags_in, tally, true, value_of, values_in, ways-without, ways_in, ways_of, WayShape, with_counts, with_leaf, with_table, with_table_at, with_ways, without-In, without_entry, without_leaf, ℕ}
use Rattle.xl_list_lemmas.proofs.OnceLemmas.{once-short}
use Rattle.xl_cuckoo_walk.proofs.CountLemmas.{Apart, fits-is, place-is, roomy-is, tied-less, tied-with}
use Rattle.xl_cuckoo_walk.proofs.IndexLemmas.{each-size, each-table, each-way, table-now, ways-table, with-ways-in}
use Rattle.xl_cuckoo_walk.proofs.RowLemmas.{free-value, key-low, leaves-known, put-leaf, take-leaf}
use Rattle.xl_cuckoo_walk.proofs.ValueLemmas.{In-tally, tally-In}
use Rattle.xl_model.specs.declared.address.Order.TheVariants as order

-- with fresh caches what holds leaves is a row
pub holds-row : MadeWordsReadBack → (p : RowParts) (leaves : List Leaf) → HoldsLeaves p leaves → AreFresh p leaves → IsRow p
holds-row back p leaves h fresh =
    let is : leaves ≡ leaves_of_ways (ways_in p) = sym (leaves-known back (ways_in p) leaves h.held) in
    record { holds = subst (HoldsLeaves p) is h; fresh = subst (AreFresh p) is fresh }

-- the parts with other cached sections hold what they held
abbrev pub with_caches : Cached Item → Cached Item → RowParts → RowParts
with_caches middle large p = record p { middle = record p.middle { cache = middle }; large = record p.large { cache = large } }

pub holds-with-caches : (middle large : Cached Item) (p : RowParts) (leaves : List Leaf) → HoldsLeaves p leaves → HoldsLeaves (with_caches middle large p) leaves
holds-with-caches middle large p leaves h = record {
  held = h.held;
  keys = h.keys;
  once = h.once;
  rules = h.rules;
  few = h.few;
  tied = each-size (λ z. AreTied (order_of z) leaves (counts_of (with_caches middle large p) z)) (h.tied Middle) (h.tied Large);
}

-- the parts with another table of an order, and other counts
abbrev pub parts_now : Order → CuckooState → (Size → CountState) → RowParts → RowParts
parts_now o t counts p = with_counts counts (with_table o t p)

-- a table that an order may have beside the others
pub record IsTableFor (p : RowParts) (o : Order) (t : CuckooState) (leaves : List Leaf) : Type 0 where
  pub held : AreHeld One (values_in (with_ways o t.ways (ways_in p))) (tags_in (with_ways o t.ways (ways_in p))) leaves
  pub keys : (e : Entry) → In e (entries_in t.ways) → e.key < 2 ^ 60
  pub once : AreOnce t.ways
  pub rules : rules_of t ≡ rules_of (table_of o p)

module _ (p : RowParts) (h : HoldsLeaves p (leaves_of_ways (ways_in p))) (o : Order) where
  rules-now : (t : CuckooState) → rules_of t ≡ rules_of (table_of o p) → (q : Order) → rules_of (table_of q (with_table o t p)) ≡ rules_of p.tables.k4
  rules-now t same = each-table (λ q u. rules_of u ≡ rules_of p.tables.k4) o t p.tables (same ∙ h.rules o) (λ q e. h.rules q)

  pub holds-changed : (t : CuckooState) (leaves : List Leaf) → IsTableFor p o t leaves → (counts : Size → CountState)
      → ((z : Size) → AreTied (order_of z) leaves (counts z)) → HoldsLeaves (parts_now o t counts p) leaves
  holds-changed t leaves is counts tied =
      let e : ways_in (with_table o t p) ≡ with_ways o t.ways (ways_in p) = with-ways-in o t p in
      let rules : (q : Order) → rules_of (table_of q (with_table o t p)) ≡ rules_of p.tables.k4 = rules-now t is.rules in
      record {
        held = subst (λ w. AreHeld One (values_in w) (tags_in w) leaves) (sym e) is.held;
        keys = subst AreKeys (sym e) (each-way (λ q w. (x : Entry) → In x (entries_in w) → x.key < 2 ^ 60) o t.ways (ways_in p) is.keys (λ q n. h.keys q));
        once = subst (λ (w : CuckooWays). (q : Order) → AreOnce (ways_of q w)) (sym e) (each-way (λ q w. AreOnce w) o t.ways (ways_in p) is.once (λ q n. h.once q));
        rules = λ q. rules q ∙ sym (rules order.K4);
        few = subst (λ (r : TableRules). r.width ≤ 4) (sym (rules order.K4)) h.few;
        tied = each-size (λ z. AreTied (order_of z) leaves (counts_of (parts_now o t counts p) z)) (tied Middle) (tied Large);
      }

  pub beside-now : (t : CuckooState) → rules_of t ≡ rules_of (table_of o p) → t.loads ≡ (table_of o p).loads → (counts : Size → CountState)
      → ((z : Size) → (counts z).room ≡ (counts_of p z).room) → StaysBeside p (parts_now o t counts p)
  beside-now t same loads counts room =
      let ts : Tables = with_table_at o t p.tables in
      let each-loads : (q : Order) → (table_of q (with_table o t p)).loads ≡ (table_of q p).loads = each-table (λ q u. u.loads ≡ (table_of q p).loads) o t p.tables loads (λ q e. refl) in
      record {
        rules = ap (λ r. rules_by r (counts Middle).room (counts Large).room) (rules-now t same order.K4)
            ∙ ap (λ n. rules_by (rules_of p.tables.k4) n (counts Large).room) (room Middle)
            ∙ ap (rules_by (rules_of p.tables.k4) p.middle.counts.room) (room Large);
        loads = ap (λ n. plus (plus n ts.m2.loads) ts.g1.loads) (each-loads order.K4)
            ∙ ap (λ n. plus (plus p.tables.k4.loads n) ts.g1.loads) (each-loads order.M2)
            ∙ ap (plus (plus p.tables.k4.loads p.tables.m2.loads)) (each-loads order.G1);
        cache = each-size (λ z. (size_in z (parts_now o t counts p)).cache ≡ (size_in z p).cache) refl refl;
      }

  -- a key that some entry has
  pub low-key : (key : ℕ) → 1 ≤ tally (has_key key) (entries_in (ways_of o (ways_in p))) → key < 2 ^ 60
  low-key key some =
      let d = In-tally (has_key key) (entries_in (ways_of o (ways_in p))) some in
      let k : d.0.key ≡ key = (let q = d.2 in grind (arith, nat_tests)) in
      subst (λ n. n < 2 ^ 60) k (h.keys o d.0 d.1)

  -- an insertion into a table is one by the rules of the row
  pub by-rules : (x : Entry) → insertion (rules_in p).kick_limit (rules_in p).migrate (rules_in p).threshold (ways_of o (ways_in p)) x ≡ inserted (table_of o p) x
  by-rules x =
      ap (λ (r : TableRules). insertion r.kick_limit r.migrate r.threshold (ways_of o (ways_in p)) x) (sym (h.rules o))
      ∙ ap (λ ws. insertion (table_of o p).kick_limit (table_of o p).migrate (table_of o p).threshold ws x) (sym (ways-table o p))

pub fit-leaf : (p : RowParts) (x : Leaf) → IsLeafFor (row_state p).shape x → IsFit x
unfolding row_state
fit-leaf p x v = record {
  aligned = record { placed = record { space_in = v.block.space_in; page_in = low x.order x.first (2 ^ 45) v.block.pages_in }; aligned = v.block.aligned };
  frame_in = low x.order x.frame (2 ^ 44) v.frames_in;
  frame_aligned = aligned-frame x.order x.frame v.frames_aligned.0 v.frames_aligned.1;
}

-- a leaf that overlaps none of the row's
pub free-now : (p : RowParts) (x : Leaf) → meets_any x.space x.first x.order (row_state p).leaves ≡ false → meets_any x.space x.first x.order (leaves_of_ways (ways_in p)) ≡ false
unfolding row_state
free-now p x free = free

-- a leaf's entry has the key of its page
pub entry-key : (x : Leaf) → (leaf_entry x).key ≡ page_key x.order x.space x.first
entry-key x = omega arith

-- a leaf comes
module _ (back : MadeWordsReadBack) (p : RowParts) (h : HoldsLeaves p (leaves_of_ways (ways_in p))) (x : Leaf) (fit : IsFit x)
    (free : meets_any x.space x.first x.order (leaves_of_ways (ways_in p)) ≡ false) where
  abbrev leaves : List Leaf
  leaves = leaves_of_ways (ways_in p)

  free-of : (y : Leaf) → In y leaves → meets_block x.space x.first x.order y ≡ false
  unfolding meets_any
  free-of y i = any-false (meets_block x.space x.first x.order) y leaves free i

  pub apart-leaf : Apart x leaves
  apart-leaf = new-keys One (values_in (ways_in p)) (tags_in (ways_in p)) x leaves h.held fit free-of

  pub free-key : value_of (leaf_entry x).key (table_of x.order p).ways ≡ None
  free-key = ap (value_of (leaf_entry x).key) (ways-table x.order p) ∙ free-value back (ways_in p) leaves h.held h.once x fit.aligned.placed free-of

  placed-all : (y : Leaf) → In y leaves → IsPlaced y
  placed-all y i = (h.held.fit y i).aligned.placed

  -- there is room for its sections
  pub room-leaf : (size : Order) (c : CountState) → AreTied size leaves c → has_fit size x c ≡ nat_le (section_count size (with_leaf x leaves)) c.room
  room-leaf size c t = fits-is size x leaves c apart-leaf t.are t.tied t.within

  pub roomy-leaf : (size : Order) (c : CountState) → AreTied size leaves c → has_fit size x c ≡ true → level_of x.order ≤ level_of size → IsRoomy size x c
  roomy-leaf size c t fits less =
      roomy-is size x leaves c fit.aligned.placed h.held.sorted placed-all t.are t.tied
      (place-is size x c t.within (let e : nat_le (level_of x.order) (level_of size) ≡ true = grind (arith, nat_tests) in e) fits)

  noted : (size : Order) (c d : CountState) → AreTied size leaves c → has_fit size x c ≡ true → IsNoted size x c d → AreTied size (with_leaf x leaves) d
  noted size c d t fits n =
      let tied : IsTied size (with_leaf x leaves) d.counts = tied-with size x leaves c d apart-leaf t.tied n in
      let room : nat_le (section_count size (with_leaf x leaves)) c.room ≡ true = sym (room-leaf size c t) ∙ fits in
      record {
        are = n.are;
        within = (let k = keys-count size (with_leaf x leaves) d.counts n.are tied in let r = n.room in
            let l : section_count size (with_leaf x leaves) ≤ c.room = grind (arith, nat_tests) in omega arith);
        tied = tied;
      }

  module _ (after : List WayShape) (moved : List Displaced) (m : Moves) (placed : inserted (table_of x.order p) (leaf_entry x) ≡ Placed after moved m)
      (added : AddsEntry (leaf_entry x) (table_of x.order p).ways after) (width : length after ≡ length (table_of x.order p).ways) where
    abbrev table : CuckooState
    table = record (table_of x.order p) { ways = after; moved = moved }

    adds : AddsEntry (leaf_entry x) (ways_of x.order (ways_in p)) after
    adds = subst (λ ws. AddsEntry (leaf_entry x) ws after) (ways-table x.order p) added

    keys-low : (e : Entry) → In e (entries_in after) → e.key < 2 ^ 60
    keys-low e i = go (has_key e.key (leaf_entry x)) refl
      where
        own : has_key e.key e ≡ true
        own = grind (arith, nat_tests)

        there : 1 ≤ tally (has_key e.key) (entries_in after)
        there = tally-In (has_key e.key) e (entries_in after) i own

        go : (b : Bool) → has_key e.key (leaf_entry x) ≡ b → e.key < 2 ^ 60
        go true t = let k : (leaf_entry x).key ≡ e.key = grind (arith, nat_tests) in subst (λ n. n < 2 ^ 60) k (key-low x fit.aligned.placed)
        go false f =
            let a = adds (has_key e.key) in
            let z : one_if (has_key e.key (leaf_entry x)) ≡ 0 = ap one_if f in
            let t = there in
            low-key p h x.order e.key (omega arith)

    same-rules : rules_of table ≡ rules_of (table_of x.order p)
    same-rules = ap (λ n. record (rules_of (table_of x.order p)) { width = n }) width

    is-table : IsTableFor p x.order table (with_leaf x leaves)
    is-table = record {
      held = put-leaf back (ways_in p) leaves h.held h.once x after fit free-of adds;
      keys = keys-low;
      once = once-added (leaf_entry x) (ways_of x.order (ways_in p)) after (h.once x.order) adds (free-value back (ways_in p) leaves h.held h.once x fit.aligned.placed free-of);
      rules = same-rules;
    }

    -- what holds the leaves with it
    pub entered : ((z : Size) → has_fit (order_of z) x (counts_of p z) ≡ true) → (counts : Size → CountState)
        → ((z : Size) → IsNoted (order_of z) x (counts_of p z) (counts z)) → IsEntered x p (parts_now x.order table counts p) m
    entered fits counts notes =
        let is : table_of x.order (parts_now x.order table counts p) ≡ table = table-now x.order table p.tables in
        record {
          holds = holds-changed p h x.order table (with_leaf x leaves) is-table counts (λ z. noted (order_of z) (counts_of p z) (counts z) (h.tied z) (fits z) (notes z));
          beside = beside-now p h x.order table same-rules refl counts (λ z. (notes z).room);
          room = λ z. sym (room-leaf (order_of z) (counts_of p z) (h.tied z)) ∙ fits z;
          ways = with-ways-in x.order table p ∙ ap (λ (u : CuckooState). with_ways x.order u.ways (ways_in p)) (sym is);
          placed = by-rules p h x.order (leaf_entry x) ∙ placed ∙ ap (λ (u : CuckooState). Placed u.ways u.moved m) (sym is);
        }

-- without a leaf there are no more sections
fewer : (size : Order) (x : Leaf) (xs : List Leaf) → section_count size (without_leaf x.space x.first xs) ≤ section_count size xs
fewer size x xs =
    once-short (section_keys size (without_leaf x.space x.first xs)) (section_keys size xs) (keys-once size (without_leaf x.space x.first xs))
    (λ k i.
    let found = any-In (counts_at size k) (without_leaf x.space x.first xs) (keys-In size k (without_leaf x.space x.first xs) i) in
    In-keys size k xs (In-any (counts_at size k) found.0 xs (without-In found.0 x.space x.first xs found.1) found.2))

-- a leaf that went
module _ (back : MadeWordsReadBack) (p : RowParts) (h : HoldsLeaves p (leaves_of_ways (ways_in p))) (x : Leaf) (there : In x (leaves_of_ways (ways_in p))) where
  abbrev all_leaves : List Leaf
  all_leaves = leaves_of_ways (ways_in p)

  abbrev gone : CuckooState
  gone = record (table_of x.order p) { ways = map (without_entry (leaf_entry x).key) (table_of x.order p).ways }

  abbrev rest : List Leaf
  rest = without_leaf x.space x.first all_leaves

  out-rules : rules_of gone ≡ rules_of (table_of x.order p)
  out-rules = ap (λ n. record (rules_of (table_of x.order p)) { width = n }) (length-map (table_of x.order p).ways (without_entry (leaf_entry x).key))

  same-ways : map (without_entry (leaf_entry x).key) (ways_of x.order (ways_in p)) ≡ gone.ways
  same-ways = ap (λ ws. map (without_entry (leaf_entry x).key) ws) (sym (ways-table x.order p))

  keys-out : (e : Entry) → In e (entries_in (map (without_entry (leaf_entry x).key) (ways_of x.order (ways_in p)))) → e.key < 2 ^ 60
  keys-out e i =
      let own : has_key e.key e ≡ true = grind (arith, nat_tests) in
      let a = tally-In (has_key e.key) e (entries_in (map (without_entry (leaf_entry x).key) (ways_of x.order (ways_in p)))) i own in
      let w = ways-without (has_key e.key) (leaf_entry x).key (ways_of x.order (ways_in p)) (h.once x.order (leaf_entry x).key) in
      low-key p h x.order e.key (omega arith)

  is-gone : IsTableFor p x.order gone rest
  is-gone =
      let P : List WayShape → Type 0 = λ ws. AreHeld One (values_in (with_ways x.order ws (ways_in p))) (tags_in (with_ways x.order ws (ways_in p))) rest in
      record {
        held = subst P same-ways (take-leaf back (ways_in p) all_leaves h.held h.once x there h.keys);
        keys = subst (λ (ws : List WayShape). (e : Entry) → In e (entries_in ws) → e.key < 2 ^ 60) same-ways keys-out;
        once = subst AreOnce same-ways (once-cleared (leaf_entry x).key (ways_of x.order (ways_in p)) (h.once x.order));
        rules = out-rules;
      }

  dropped : (size : Order) (c d : CountState) → AreTied size all_leaves c → IsDropped size x.space x.first x.order c d → AreTied size rest d
  dropped size c d t n =
      let tied : IsTied size rest d.counts = tied-less size x all_leaves c d h.held.sorted there t.tied n in
      record {
        are = n.are;
        within = (let a = keys-count size rest d.counts n.are tied in let b = keys-count size all_leaves c.counts t.are t.tied in
            let l = fewer size x all_leaves in let r = n.room in let w = t.within in omega arith);
        tied = tied;
      }

  -- a leaf that went, by its own name
  pub left-leaf : (counts : Size → CountState) → ((z : Size) → IsDropped (order_of z) x.space x.first x.order (counts_of p z) (counts z))
      → IsLeft x.space x.first x.order p (parts_now x.order gone counts p)
  left-leaf counts drops = record {
    holds = holds-changed p h x.order gone rest is-gone counts (λ z. dropped (order_of z) (counts_of p z) (counts z) (h.tied z) (drops z));
    beside = beside-now p h x.order gone out-rules refl counts (λ z. (drops z).room);
    ways = with-ways-in x.order gone p
        ∙ ap (λ ws. with_ways x.order (map (without_entry (leaf_entry x).key) ws) (ways_in p)) (ways-table x.order p)
        ∙ ap (λ k. with_ways x.order (map (without_entry k) (ways_of x.order (ways_in p))) (ways_in p)) (entry-key x);
    moved = each-table (λ q u. u.moved ≡ (table_of q p).moved) x.order gone p.tables refl (λ q e. refl);
  }

-- as many ways as the row has
pub few-ways : (p : RowParts) (leaves : List Leaf) → HoldsLeaves p leaves → (o : Order) → length (table_of o p).ways ≤ 4
few-ways p all h o = subst (λ (r : TableRules). r.width ≤ 4) (sym (h.rules o)) h.few
