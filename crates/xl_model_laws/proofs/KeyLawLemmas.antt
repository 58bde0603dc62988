-- Each leaf of a cuckoo row has its key in one way of its order. Entries are counted by every test, and leaves by the
-- test of their entries: at each change the two numbers stay the same.
use Rattle.xl_model_laws.proofs.Common.{◌&&◌, ◌*◌, ◌+◌, ◌/◌, ◌<◌, ◌==◌, ◌^◌, ◌∙◌, ◌≡◌, ◌≤◌, [], any-In, ap, arith, at_page, AtCap, Bool, brought, Chained, Change, changed, cond, Cuckoo, CuckooRules, CuckooWays, entries-same, entries_in, Entry, eq-eqb, false, finds_place, first-low, first-small, first_so, has_key, In, In-any, Insert, insertion-adds, is_placed, is_table, is_width, is_within, IsMapping, IsNewPlace, IsSound, Leaf, leaf_entry, leaf_key, leaf_named, leaf_word, length, levels_of, List, list_all, list_any, map, Mode, named-In, named-is, named-order, named-space, narrowed, nat_le, nat_tests, None, not, old_leaf, one_if, opening_shape, opening_way, opening_ways, Option, Order, order-same, orders-same, other-key, pages_of, Perm, place-small, Placed, placed_leaf, Placing, Protect, Radix, refl, Relocate, Remove, reworded, Row, run, Runs, same_order, second_so, Shape, shape_after, Some, subst, suc, sym, Table, tally, true, ways-reworded, ways-without, ways_brought, ways_of, ways_placed, ways_taken, WayShape, widened, with_leaf, with_new, with_perm, with_ways, with_word, without_entry, without_leaf, without_old, zero, ℕ}
use Rattle.std.proofs.lemmas.List.{length-map}
use Rattle.xl_list_lemmas.proofs.TallyLemmas.{tally-any, tally-each, tally-most, tally-only}
use Rattle.xl_model_lemmas.proofs.InsertionLemmas.{same-place, without-In, without-other}
use Rattle.xl_model_lemmas.proofs.LeafTallyLemmas.{sorted-once, tally-less, tally-with}
use Rattle.xl_model_lemmas.proofs.WayTallyLemmas.{opening-length}
use Rattle.xl_model_laws.proofs.AfterLemmas.{cuckoo-after}
use Rattle.xl_model_laws.proofs.CapLemmas.{refused-same}
use Rattle.xl_model_laws.proofs.PlacingLemmas.{insertion-count, lists-length}
use Rattle.xl_model_laws.proofs.TableRunLemmas.{run-holds}
use Rattle.xl_model_laws.specs.Keys.{AreEntriesOf, EachLeafHasItsKey, HasEntries}
use Rattle.xl_model.specs.declared.address.Mode.TheVariants as mode
use Rattle.xl_model.specs.declared.address.Order.TheVariants as order
use Rattle.xl_model.specs.declared.row.Table.TheVariants as table

-- the ways of an order, where those of an order are others
ways-with : (o p : Order) (ways : List WayShape) (ws : CuckooWays) → ways_of o (with_ways p ways ws) ≡ cond (same_order p o) ways (ways_of o ws)
ways-with order.K4 order.K4 ways ws = refl
ways-with order.K4 order.M2 ways ws = refl
ways-with order.K4 order.G1 ways ws = refl
ways-with order.M2 order.K4 ways ws = refl
ways-with order.M2 order.M2 ways ws = refl
ways-with order.M2 order.G1 ways ws = refl
ways-with order.G1 order.K4 ways ws = refl
ways-with order.G1 order.M2 ways ws = refl
ways-with order.G1 order.G1 ways ws = refl

-- how many entries of an order pass a test, and how many leaves of it have such an entry
abbrev entries_by : Order → CuckooWays → (Entry → Bool) → ℕ
entries_by o ws p = tally p (entries_in (ways_of o ws))

abbrev leaf_by : Order → (Entry → Bool) → Leaf → Bool
leaf_by o p leaf = same_order leaf.order o && p (leaf_entry leaf)

record IsCounted (leaves : List Leaf) (ws : CuckooWays) : Type 0 where
  some : (o : Order) → 0 < length (ways_of o ws)
  same : (o : Order) (p : Entry → Bool) → entries_by o ws p ≡ tally (leaf_by o p) leaves

-- one test by another where the orders agree
with-other : (o q : Order) (ways : List WayShape) (ws : CuckooWays) (p : Entry → Bool) (n m : ℕ)
    → (same_order q o ≡ true → tally p (entries_in ways) + n ≡ m + entries_by q ws p) → (same_order q o ≡ false → n ≡ m)
    → entries_by o (with_ways q ways ws) p + n ≡ m + entries_by o ws p
with-other o q ways ws p n m yes_order no_order =
    ap (λ xs. tally p (entries_in xs) + n) (ways-with o q ways ws)
    ∙ elim (same_order q o) as (λ b. same_order q o ≡ b → tally p (entries_in (cond b ways (ways_of o ws))) + n ≡ m + entries_by o ws p) [
      | true ↦ λ t. yes_order t ∙ ap (λ r. m + entries_by r ws p) (orders-same q o t)
      | false ↦ λ t. let e : n ≡ m = no_order t in omega arith
    ] refl

some-with : (o q : Order) (ways : List WayShape) (ws : CuckooWays) → 0 < length ways → 0 < length (ways_of o ws) → 0 < length (ways_of o (with_ways q ways ws))
some-with o q ways ws a b =
    subst (λ xs. 0 < length xs) (sym (ways-with o q ways ws)) (elim (same_order q o) as (λ t. 0 < length (cond t ways (ways_of o ws))) [ true ↦ a | false ↦ b ])

-- an entry more
brought-adds : (rules : CuckooRules) (ws : CuckooWays) (leaf : Leaf) (o : Order) (p : Entry → Bool) → 0 < length (ways_of leaf.order ws) → is_placed (placed_leaf rules ws leaf) ≡ true
    → entries_by o (ways_brought rules (Some leaf) ws) p ≡ one_if (leaf_by o p leaf) + entries_by o ws p
brought-adds rules ws leaf o p some placed =
    let e = with-other o leaf.order (ways_placed (placed_leaf rules ws leaf)) ws p 0 (one_if (leaf_by o p leaf))
    (λ t. adds (placed_leaf rules ws leaf) refl placed ∙ ap (λ b. one_if (b && p (leaf_entry leaf)) + entries_by leaf.order ws p) (sym t))
    (λ t. ap (λ b. one_if (b && p (leaf_entry leaf))) (sym t)) in
    omega arith
  where
    adds : (q : Placing) → placed_leaf rules ws leaf ≡ q → is_placed q ≡ true → tally p (entries_in (ways_placed q)) + 0 ≡ one_if (p (leaf_entry leaf)) + entries_by leaf.order ws p
    adds (Placed after moved m) h t =
        let e : tally p (entries_in after) ≡ one_if (p (leaf_entry leaf)) + tally p (entries_in (ways_of leaf.order ws)) =
        insertion-adds p rules.kick_limit rules.migrate rules.threshold (ways_of leaf.order ws) after (leaf_entry leaf) moved m some h in
        omega arith
    adds (AtCap after m) h t = absurd (cc)

brought-some : (rules : CuckooRules) (ws : CuckooWays) (leaf : Leaf) → ((o : Order) → 0 < length (ways_of o ws)) → is_placed (placed_leaf rules ws leaf) ≡ true
    → (o : Order) → 0 < length (ways_of o (ways_brought rules (Some leaf) ws))
brought-some rules ws leaf some placed o = some-with o leaf.order (ways_placed (placed_leaf rules ws leaf)) ws (count (placed_leaf rules ws leaf) refl placed) (some o)
  where
    count : (q : Placing) → placed_leaf rules ws leaf ≡ q → is_placed q ≡ true → 0 < length (ways_placed q)
    count (Placed after moved m) h t =
        let e : length after ≡ length (ways_of leaf.order ws) = insertion-count rules.kick_limit rules.migrate rules.threshold (ways_of leaf.order ws) after (leaf_entry leaf) moved m h in
        let s = some leaf.order in
        omega arith
    count (AtCap after m) h t = absurd (cc)

-- an entry less, where it is the only one with its key
dropped-by : (ws : CuckooWays) (old : Leaf) (o : Order) (p : Entry → Bool)
    → ((q : Entry → Bool) → entries_by old.order ws (λ e. has_key (leaf_entry old).key e && q e) ≡ one_if (q (leaf_entry old)))
    → tally (has_key (leaf_entry old).key) (entries_in (ways_of old.order ws)) ≤ 1
    → entries_by o (with_ways old.order (map (without_entry (leaf_entry old).key) (ways_of old.order ws)) ws) p + one_if (leaf_by o p old) ≡ entries_by o ws p
dropped-by ws old o p alone few =
    let e = with-other o old.order (map (without_entry (leaf_entry old).key) (ways_of old.order ws)) ws p (one_if (leaf_by o p old)) 0
    (λ t. ap (λ b. tally p (entries_in (map (without_entry (leaf_entry old).key) (ways_of old.order ws))) + one_if (b && p (leaf_entry old))) t
    ∙ ap (λ n. tally p (entries_in (map (without_entry (leaf_entry old).key) (ways_of old.order ws))) + n) (sym (alone p))
    ∙ ways-without p (leaf_entry old).key (ways_of old.order ws) few ∙ zero-on (entries_by old.order ws p))
    (λ t. ap (λ b. one_if (b && p (leaf_entry old))) t) in
    e ∙ sym (zero-on (entries_by o ws p))
  where
    zero-on : (n : ℕ) → n ≡ 0 + n
    zero-on n = omega arith

-- another word for a key
worded-by : (ws : CuckooWays) (old : Leaf) (word : ℕ) (o : Order) (p : Entry → Bool)
    → entries_by o (with_ways old.order (map (with_word (leaf_entry old).key word) (ways_of old.order ws)) ws) p
    ≡ entries_by o ws (λ e. p (cond (same_order old.order o) (reworded (leaf_entry old).key word e) e))
worded-by ws old word o p =
    ap (λ xs. tally p (entries_in xs)) (ways-with o old.order (map (with_word (leaf_entry old).key word) (ways_of old.order ws)) ws)
    ∙ elim (same_order old.order o) as (λ b. same_order old.order o ≡ b
    → tally p (entries_in (cond b (map (with_word (leaf_entry old).key word) (ways_of old.order ws)) (ways_of o ws))) ≡ entries_by o ws (λ e. p (cond b (reworded (leaf_entry old).key word e) e))) [
      | true ↦ λ t. ways-reworded p (leaf_entry old).key word (ways_of old.order ws) ∙ ap (λ r. entries_by r ws (λ e. p (reworded (leaf_entry old).key word e))) (orders-same old.order o t)
      | false ↦ λ t. refl
    ] refl

-- leaves of one order and key are one
key-place : (o : Order) (s t f g d e : ℕ) → f < 2 ^ 45 → g < 2 ^ 45 → f ≡ d * pages_of o → g ≡ e * pages_of o
    → s * 2 ^ 45 + f / pages_of o / 1 ≡ t * 2 ^ 45 + g / pages_of o / 1 → (s ≡ t) × (f ≡ g)
key-place order.K4 s t f g d e a b c h k = (omega arith, omega arith)
key-place order.M2 s t f g d e a b c h k = (omega arith, omega arith)
key-place order.G1 s t f g d e a b c h k = (omega arith, omega arith)

keys-apart : (x y : Leaf) → x.first < 2 ^ 45 → y.first < 2 ^ 45 → ((e : ℕ) × (x.first ≡ e * pages_of x.order)) → ((e : ℕ) × (y.first ≡ e * pages_of y.order))
    → y.order ≡ x.order → (leaf_entry y).key ≡ (leaf_entry x).key → leaf_key y ≡ leaf_key x
keys-apart x y a b c d same k =
    let Q : Order → Type 0 = λ o. y.space * 2 ^ 45 + y.first / pages_of o / 1 ≡ (leaf_entry x).key in
    let r = key-place x.order y.space x.space y.first x.first d.0 c.0 b a (subst (λ (o : Order). y.first ≡ d.0 * pages_of o) same d.1) c.1 (subst Q same k) in
    let s : y.space ≡ x.space = r.0 in
    let f : y.first ≡ x.first = r.1 in
    omega arith

one-key : (row : Row) (leaves : List Leaf) (x y : Leaf) → IsMapping row leaves → In x leaves → In y leaves → y.order ≡ x.order → (leaf_entry y).key ≡ (leaf_entry x).key → y ≡ x
one-key row leaves x y m i j same k =
    same-place y x leaves m.sorted j i
    (keys-apart x y (first-low row x (m.valid x i)) (first-low row y (m.valid y j)) (m.valid x i).pages_aligned (m.valid y j).pages_aligned same k)

-- the leaves whose entry has an old leaf's key
split-by : (o : Order) (key : ℕ) (q : Entry → Bool) (z : Leaf) → leaf_by o (λ e. has_key key e && q e) z ≡ true → (z.order ≡ o) × ((leaf_entry z).key ≡ key)
split-by o key q z h =
    let a : same_order z.order o ≡ true = first-so (same_order z.order o) (has_key key (leaf_entry z) && q (leaf_entry z)) h in
    let b : has_key key (leaf_entry z) ≡ true = first-so (has_key key (leaf_entry z)) (q (leaf_entry z)) (second-so (same_order z.order o) (has_key key (leaf_entry z) && q (leaf_entry z)) h) in
    (orders-same z.order o a, grind (arith, nat_tests))
  where
    first-so : (b c : Bool) → (b && c) ≡ true → b ≡ true
    first-so true c h = refl
    first-so false c h = h

    second-so : (b c : Bool) → (b && c) ≡ true → c ≡ true
    second-so true c h = h
    second-so false c h = absurd (cc)

alone-in : (row : Row) (leaves : List Leaf) (old : Leaf) (q : Entry → Bool) → IsMapping row leaves → In old leaves
    → tally (leaf_by old.order (λ e. has_key (leaf_entry old).key e && q e)) leaves ≡ one_if (q (leaf_entry old))
alone-in row leaves old q m i =
    tally-only (leaf_by old.order (λ e. has_key (leaf_entry old).key e && q e)) old leaves (sorted-once leaves m.sorted) i
    (λ z j h. let r = split-by old.order (leaf_entry old).key q z h in one-key row leaves old z m i j r.0 r.1)
    ∙ ap (λ b. one_if (b && (has_key (leaf_entry old).key (leaf_entry old) && q (leaf_entry old)))) (order-same old.order)
    ∙ ap (λ b. one_if (b && q (leaf_entry old))) (eq-eqb (leaf_entry old).key (leaf_entry old).key refl)

few-in : (row : Row) (leaves : List Leaf) (o : Order) (key : ℕ) → IsMapping row leaves → tally (leaf_by o (has_key key)) leaves ≤ 1
few-in row leaves o key m =
    tally-most (leaf_by o (has_key key)) leaves (sorted-once leaves m.sorted) (λ y z i j s t.
    let a = split-key y s in
    let b = split-key z t in
    one-key row leaves z y m j i (a.0 ∙ sym b.0) (a.1 ∙ sym b.1))
  where
    split-key : (z : Leaf) → leaf_by o (has_key key) z ≡ true → (z.order ≡ o) × ((leaf_entry z).key ≡ key)
    split-key z h = (orders-same z.order o (grind (arith, nat_tests)), grind (arith, nat_tests))

-- the four changes
inserted-counted : (rules : CuckooRules) (ws : CuckooWays) (leaf : Leaf) (leaves : List Leaf) → ((z : Leaf) → In z leaves → leaf_key z ≡ leaf_key leaf → ⊥)
    → is_placed (placed_leaf rules ws leaf) ≡ true → IsCounted leaves ws → IsCounted (with_leaf leaf leaves) (ways_brought rules (Some leaf) ws)
inserted-counted rules ws leaf leaves apart placed c = record {
  some = brought-some rules ws leaf c.some placed;
  same = λ o p. brought-adds rules ws leaf o p (c.some leaf.order) placed ∙ ap (λ n. one_if (leaf_by o p leaf) + n) (c.same o p) ∙ sym (tally-with (leaf_by o p) leaf leaves apart);
}

removed-counted : (row : Row) (ws : CuckooWays) (old : Leaf) (leaves : List Leaf) → IsMapping row leaves → In old leaves → IsCounted leaves ws
    → IsCounted (without_leaf old.space old.first leaves) (with_ways old.order (map (without_entry (leaf_entry old).key) (ways_of old.order ws)) ws)
removed-counted row ws old leaves m i c = record {
  some = λ o. some-with o old.order (map (without_entry (leaf_entry old).key) (ways_of old.order ws)) ws
      (let e : length (map (without_entry (leaf_entry old).key) (ways_of old.order ws)) ≡ length (ways_of old.order ws) = length-map (ways_of old.order ws) (without_entry (leaf_entry old).key) in let s = c.some old.order in omega arith) (c.some o);
  same = λ o p.
      let a = dropped-by ws old o p (λ q. c.same old.order (λ e. has_key (leaf_entry old).key e && q e) ∙ alone-in row leaves old q m i)
      (let e = c.same old.order (has_key (leaf_entry old).key) in let f = few-in row leaves old.order (leaf_entry old).key m in omega arith) in
      let b = tally-less (leaf_by o p) old leaves m.sorted i in
      let d = c.same o p in
      omega arith;
}

-- a protected leaf: its entry has the new word
protected-counted : (row : Row) (ws : CuckooWays) (old : Leaf) (perm : Perm) (leaves : List Leaf) → IsMapping row leaves → In old leaves → IsCounted leaves ws
    → IsCounted (with_leaf (record old { perm = perm }) (without_leaf old.space old.first leaves))
    (with_ways old.order (map (with_word (leaf_entry old).key (leaf_word old.frame perm)) (ways_of old.order ws)) ws)
protected-counted row ws old perm leaves m i c = record {
  some = λ o. some-with o old.order (map (with_word (leaf_entry old).key (leaf_word old.frame perm)) (ways_of old.order ws)) ws
      (let e : length (map (with_word (leaf_entry old).key (leaf_word old.frame perm)) (ways_of old.order ws)) ≡ length (ways_of old.order ws) = length-map (ways_of old.order ws) (with_word (leaf_entry old).key (leaf_word old.frame perm)) in let s = c.some old.order in omega arith) (c.some o);
  same = λ o p.
      let r : Entry → Bool = λ e. p (cond (same_order old.order o) (reworded (leaf_entry old).key (leaf_word old.frame perm) e) e) in
      let new : Leaf = record old { perm = perm } in
      let rest : List Leaf = without_leaf old.space old.first leaves in
      worded-by ws old (leaf_word old.frame perm) o p ∙ c.same o r ∙ tally-less (leaf_by o r) old leaves m.sorted i
      ∙ ap (λ n. n + one_if (leaf_by o r old)) (tally-each (leaf_by o r) (leaf_by o p) rest (λ z j. other o p z j))
      ∙ ap (λ b. tally (leaf_by o p) rest + one_if b) (own o p)
      ∙ turn (tally (leaf_by o p) rest) (one_if (leaf_by o p new))
      ∙ sym (tally-with (leaf_by o p) new rest (λ z j k. without-other z old.space old.first leaves j k));
}
  where
    turn : (a b : ℕ) → a + b ≡ b + a
    turn a b = omega arith

    own : (o : Order) (p : Entry → Bool) → leaf_by o (λ e. p (cond (same_order old.order o) (reworded (leaf_entry old).key (leaf_word old.frame perm) e) e)) old ≡ leaf_by o p (record old { perm = perm })
    own o p =
        elim (same_order old.order o) as (λ b. (b && p (cond b (reworded (leaf_entry old).key (leaf_word old.frame perm) (leaf_entry old)) (leaf_entry old))) ≡ (b && p (leaf_entry (record old { perm = perm })))) [
          | true ↦ ap (λ b. p (cond b (record (leaf_entry old) { word = leaf_word old.frame perm }) (leaf_entry old))) (eq-eqb (leaf_entry old).key (leaf_entry old).key refl)
          | false ↦ refl
        ]

    other : (o : Order) (p : Entry → Bool) (z : Leaf) → In z (without_leaf old.space old.first leaves)
        → leaf_by o (λ e. p (cond (same_order old.order o) (reworded (leaf_entry old).key (leaf_word old.frame perm) e) e)) z ≡ leaf_by o p z
    other o p z j =
        elim (same_order z.order o) as (λ b. same_order z.order o ≡ b
        → (b && p (cond (same_order old.order o) (reworded (leaf_entry old).key (leaf_word old.frame perm) (leaf_entry z)) (leaf_entry z))) ≡ (b && p (leaf_entry z))) [
          | true ↦ λ t. elim (same_order old.order o) as (λ b. same_order old.order o ≡ b → p (cond b (reworded (leaf_entry old).key (leaf_word old.frame perm) (leaf_entry z)) (leaf_entry z)) ≡ p (leaf_entry z)) [
            | true ↦ λ u. elim ((leaf_entry z).key == (leaf_entry old).key) as (λ b. ((leaf_entry z).key == (leaf_entry old).key) ≡ b
                → p (cond b (record (leaf_entry z) { word = leaf_word old.frame perm }) (leaf_entry z)) ≡ p (leaf_entry z)) [
                  | true ↦ λ k.
                      let same : z.order ≡ old.order = orders-same z.order o t ∙ sym (orders-same old.order o u) in
                      let e : z ≡ old = one-key row leaves old z m i (without-In z old.space old.first leaves j) same (grind (arith, nat_tests)) in
                      absurd (without-other z old.space old.first leaves j (ap leaf_key e))
                  | false ↦ λ k. refl
                ] refl
            | false ↦ λ u. refl
          ] refl
          | false ↦ λ t. refl
        ] refl

-- a moved leaf: put at its new place, then taken out at its old one
moved-counted : (row : Row) (rules : CuckooRules) (ws : CuckooWays) (old new : Leaf) (leaves : List Leaf) → IsMapping row leaves → In old leaves
    → ((z : Leaf) → In z leaves → leaf_key z ≡ leaf_key new → ⊥) → new.first < 2 ^ 45 → ((e : ℕ) × (new.first ≡ e * pages_of new.order))
    → is_placed (placed_leaf rules ws new) ≡ true → IsCounted leaves ws
    → IsCounted (with_leaf new (without_leaf old.space old.first leaves))
    (with_ways old.order (map (without_entry (leaf_entry old).key) (ways_of old.order (ways_brought rules (Some new) ws))) (ways_brought rules (Some new) ws))
moved-counted row rules ws old new leaves m i apart small aligned placed c = record {
  some = λ o. some-with o old.order (map (without_entry (leaf_entry old).key) (ways_of old.order (ways_brought rules (Some new) ws))) (ways_brought rules (Some new) ws)
      (let e : length (map (without_entry (leaf_entry old).key) (ways_of old.order (ways_brought rules (Some new) ws))) ≡ length (ways_of old.order (ways_brought rules (Some new) ws)) = length-map (ways_of old.order (ways_brought rules (Some new) ws)) (without_entry (leaf_entry old).key) in let s = wide old.order in omega arith) (wide o);
  same = λ o p.
      let a = dropped-by (ways_brought rules (Some new) ws) old o p (λ q. adds old.order (λ e. has_key (leaf_entry old).key e && q e) ∙ ap (λ n. one_if n + entries_by old.order ws (λ e. has_key (leaf_entry old).key e && q e)) (not-new q)
      ∙ zero-on (entries_by old.order ws (λ e. has_key (leaf_entry old).key e && q e)) ∙ c.same old.order (λ e. has_key (leaf_entry old).key e && q e) ∙ alone-in row leaves old q m i)
      (let e = adds old.order (has_key (leaf_entry old).key) in let f = c.same old.order (has_key (leaf_entry old).key) in let g = few-in row leaves old.order (leaf_entry old).key m in
      let n : one_if (leaf_by old.order (has_key (leaf_entry old).key) new) ≡ 0 = ap one_if not-key in omega arith) in
      let b = tally-less (leaf_by o p) old leaves m.sorted i in
      let d = c.same o p in
      let e = adds o p in
      let f = tally-with (leaf_by o p) new (without_leaf old.space old.first leaves) (λ z j k. apart z (without-In z old.space old.first leaves j) k) in
      omega arith;
}
  where
    wide : (o : Order) → 0 < length (ways_of o (ways_brought rules (Some new) ws))
    wide = brought-some rules ws new c.some placed

    adds : (o : Order) (p : Entry → Bool) → entries_by o (ways_brought rules (Some new) ws) p ≡ one_if (leaf_by o p new) + entries_by o ws p
    adds o p = brought-adds rules ws new o p (c.some new.order) placed

    zero-on : (n : ℕ) → one_if false + n ≡ n
    zero-on n = omega arith

    not-key : leaf_by old.order (has_key (leaf_entry old).key) new ≡ false
    not-key =
        elim (same_order new.order old.order) as (λ b. same_order new.order old.order ≡ b → (b && ((leaf_entry new).key == (leaf_entry old).key)) ≡ false) [
          | true ↦ λ t. elim ((leaf_entry new).key == (leaf_entry old).key) as (λ b. ((leaf_entry new).key == (leaf_entry old).key) ≡ b → b ≡ false) [
            | true ↦ λ k. absurd (apart old i (sym (keys-apart old new (first-low row old (m.valid old i)) small (m.valid old i).pages_aligned aligned (orders-same new.order old.order t) (grind (arith, nat_tests)))))
            | false ↦ λ k. refl
          ] refl
          | false ↦ λ t. refl
        ] refl

    not-new : (q : Entry → Bool) → leaf_by old.order (λ e. has_key (leaf_entry old).key e && q e) new ≡ false
    not-new q = join (same_order new.order old.order) (has_key (leaf_entry old).key (leaf_entry new)) (q (leaf_entry new)) not-key
      where
        join : (a b d : Bool) → (a && b) ≡ false → (a && (b && d)) ≡ false
        join true true d h = absurd (cc)
        join true false d h = refl
        join false b d h = refl

-- a leaf that a sound insertion or move brings is at a place of its own
insert-apart : (row : Row) (leaves : List Leaf) (leaf z : Leaf) → IsMapping row leaves → IsSound row leaves (Insert leaf) → In z leaves → leaf_key z ≡ leaf_key leaf → ⊥
insert-apart row leaves leaf z m s i e = other-key row leaves leaf.space leaf.first leaf.order z m i (first-small row leaf s.valid) s.apart e

move-apart : (row : Row) (leaves : List Leaf) (space to : ℕ) (o : Order) (old z : Leaf) → IsMapping row leaves → IsNewPlace row leaves space to o → old.space ≡ space
    → In z leaves → leaf_key z ≡ leaf_key (record old { first = to }) → ⊥
move-apart row leaves space to o old z m s same i e =
    other-key row leaves space to o z m i (place-small row leaves space to o s) s.apart (subst (λ n. leaf_key z ≡ n * 2 ^ 52 + to) same e)

move-first : (row : Row) (leaves : List Leaf) (space to : ℕ) (o : Order) → IsNewPlace row leaves space to o → to < 2 ^ 45
move-first row leaves space to o s = go row.mode o s.pages_in
  where
    go : (m : Mode) (q : Order) → to + pages_of q ≤ 2 ^ (9 * levels_of m) → to < 2 ^ 45
    go mode.Sv39 order.K4 h = omega arith
    go mode.Sv39 order.M2 h = omega arith
    go mode.Sv39 order.G1 h = omega arith
    go mode.Sv48 order.K4 h = omega arith
    go mode.Sv48 order.M2 h = omega arith
    go mode.Sv48 order.G1 h = omega arith
    go mode.Sv57 order.K4 h = omega arith
    go mode.Sv57 order.M2 h = omega arith
    go mode.Sv57 order.G1 h = omega arith

-- a change that is made
changed-counted : (row : Row) (c : Change) (rules : CuckooRules) (ws : CuckooWays) (leaves : List Leaf) → IsMapping row leaves → IsSound row leaves c
    → finds_place (brought c leaves) (Cuckoo rules ws) ≡ true → IsCounted leaves ws → IsCounted (changed c leaves) (ways_taken c (old_leaf c leaves) (ways_brought rules (brought c leaves) ws))
unfolding changed
changed-counted row (Insert leaf) rules ws leaves m s placed h = inserted-counted rules ws leaf leaves (λ z i e. insert-apart row leaves leaf z m s i e) placed h
changed-counted row (Remove space first o) rules ws leaves m s placed h =
    go (leaf_named space first o leaves) refl
  where
    go : (old : Option Leaf) → leaf_named space first o leaves ≡ old
        → IsCounted (with_new None (without_old old leaves)) (ways_taken (Remove space first o) old ws)
    go None e = h
    go (Some old) e = removed-counted row ws old leaves m (named-In space first o old leaves e) h
changed-counted row (Protect space first o perm) rules ws leaves m s placed h =
    go (leaf_named space first o leaves) refl
  where
    go : (old : Option Leaf) → leaf_named space first o leaves ≡ old
        → IsCounted (with_new (with_perm perm old) (without_old old leaves)) (ways_taken (Protect space first o perm) old ws)
    go None e = h
    go (Some old) e = protected-counted row ws old perm leaves m (named-In space first o old leaves e) h
changed-counted row (Relocate space first to o) rules ws leaves m s placed h =
    go (leaf_named space first o leaves) refl placed
  where
    go : (old : Option Leaf) → leaf_named space first o leaves ≡ old → finds_place (at_page to old) (Cuckoo rules ws) ≡ true
        → IsCounted (with_new (at_page to old) (without_old old leaves)) (ways_taken (Relocate space first to o) old (ways_brought rules (at_page to old) ws))
    go None e p = h
    go (Some old) e p =
        let is = named-is space first o old leaves e in
        moved-counted row rules ws old (record old { first = to }) leaves m (named-In space first o old leaves e)
        (λ z i k. move-apart row leaves space to o old z m s (named-space space first o old is) i k)
        (move-first row leaves space to o s) (subst (λ (q : Order). (n : ℕ) × (to ≡ n * pages_of q)) (sym (named-order space first o old is)) s.pages_aligned) p h

-- a refused attempt leaves every entry
refused-counted : (rules : CuckooRules) (ws : CuckooWays) (leaf : Leaf) (leaves : List Leaf) → is_placed (placed_leaf rules ws leaf) ≡ false → IsCounted leaves ws
    → IsCounted leaves (ways_brought rules (Some leaf) ws)
refused-counted rules ws leaf leaves caps c = record {
  some = λ o. let e = lists-length (ways_of o (ways_brought rules (Some leaf) ws)) (ways_of o ws) (refused-same rules ws leaf caps o) in let s = c.some o in omega arith;
  same = λ o p. ap (tally p) (entries-same (ways_of o (ways_brought rules (Some leaf) ws)) (ways_of o ws) (refused-same rules ws leaf caps o)) ∙ c.same o p;
}

-- shapes
abbrev ShapeCounted : List Leaf → Shape → Type 0
ShapeCounted leaves (Radix levels spaces nodes) = Unit {0}
ShapeCounted leaves (Chained group buckets entries tags) = Unit {0}
ShapeCounted leaves (Cuckoo rules ws) = IsCounted leaves ws
ShapeCounted leaves (Runs ranges) = Unit {0}

other-radix : (c : Change) (leaves : List Leaf) (levels spaces : ℕ) (nodes : List _) (leaf : Option Leaf) → ShapeCounted (changed c leaves) (narrowed c leaves (widened leaf (Radix levels spaces nodes)))
other-radix c leaves levels spaces nodes None = tt
other-radix c leaves levels spaces nodes (Some leaf) = tt

other-chained : (c : Change) (leaves : List Leaf) (group buckets entries : ℕ) (tags : List ℕ) (leaf : Option Leaf) → ShapeCounted (changed c leaves) (narrowed c leaves (widened leaf (Chained group buckets entries tags)))
other-chained c leaves group buckets entries tags None = tt
other-chained c leaves group buckets entries tags (Some leaf) = tt

other-runs : (c : Change) (leaves : List Leaf) (ranges : ℕ) (leaf : Option Leaf) → ShapeCounted (changed c leaves) (narrowed c leaves (widened leaf (Runs ranges)))
other-runs c leaves ranges None = tt
other-runs c leaves ranges (Some leaf) = tt

made-counted : (row : Row) (c : Change) (leaves : List Leaf) (shape : Shape) → IsMapping row leaves → IsSound row leaves c → finds_place (brought c leaves) shape ≡ true
    → ShapeCounted leaves shape → ShapeCounted (changed c leaves) (shape_after c leaves shape)
unfolding shape_after
made-counted row c leaves (Cuckoo rules ws) m s placed h =
    subst (ShapeCounted (changed c leaves)) (sym (cuckoo-after c leaves rules ws)) (changed-counted row c rules ws leaves m s placed h)
made-counted row c leaves (Radix levels spaces nodes) m s placed h = other-radix c leaves levels spaces nodes (brought c leaves)
made-counted row c leaves (Chained group buckets entries tags) m s placed h = other-chained c leaves group buckets entries tags (brought c leaves)
made-counted row c leaves (Runs ranges) m s placed h = other-runs c leaves ranges (brought c leaves)

caps-counted : (leaf : Option Leaf) (leaves : List Leaf) (shape : Shape) → finds_place leaf shape ≡ false → ShapeCounted leaves shape → ShapeCounted leaves (widened leaf shape)
caps-counted None leaves shape caps h = h
caps-counted (Some leaf) leaves (Radix levels spaces nodes) caps h = tt
caps-counted (Some leaf) leaves (Chained group buckets entries tags) caps h = tt
caps-counted (Some leaf) leaves (Cuckoo rules ws) caps h = refused-counted rules ws leaf leaves caps h
caps-counted (Some leaf) leaves (Runs ranges) caps h = tt

opening-none : (p : Entry → Bool) (start cap number n : ℕ) → tally p (entries_in (opening_ways start cap number n)) ≡ 0
unfolding opening_way
opening-none p start cap number zero = refl
opening-none p start cap number (suc n) = opening-none p start cap (number + 1) n

opening-counted : (levels spaces : ℕ) (t : Table) → is_table levels spaces t ≡ true → ShapeCounted [] (opening_shape levels spaces t)
unfolding opening_shape
opening-counted levels spaces (table.Radix frames caches) h = tt
opening-counted levels spaces (table.Hashed buckets entries) h = tt
opening-counted levels spaces (table.Clustered buckets blocks) h = tt
opening-counted levels spaces (table.Cuckoo ways start cap threshold kick_limit migrate sections_2m sections_1g caches) h = record {
  some = λ o. some-ways o;
  same = λ o p. none-yet o p;
}
  where
    ws : List WayShape
    ws = opening_ways start cap 0 ways

    enough : 0 < ways
    enough = two (nat_le 2 ways) (nat_le ways 4) (is_within 0 18 start && is_within start 18 cap) ((is_within 1 100 threshold && (is_within 1 64 kick_limit && is_within 1 64 migrate))
        && (is_within 1 262144 sections_2m && (is_within 1 4096 sections_1g && list_all is_width caches))) refl h
      where
        two : (a b d e : Bool) → nat_le 2 ways ≡ a → (((a && b) && d) && e) ≡ true → 0 < ways
        two true b d e t k = let l : 2 ≤ ways = grind (arith, nat_tests) in omega arith
        two false b d e t k = absurd (cc)

    some-ways : (o : Order) → 0 < length (ways_of o (record { k4 = opening_ways start cap 0 ways; m2 = opening_ways start cap 0 ways; g1 = opening_ways start cap 0 ways }))
    some-ways order.K4 = let e = opening-length start cap 0 ways in let f = enough in omega arith
    some-ways order.M2 = let e = opening-length start cap 0 ways in let f = enough in omega arith
    some-ways order.G1 = let e = opening-length start cap 0 ways in let f = enough in omega arith

    none-yet : (o : Order) (p : Entry → Bool) → entries_by o (record { k4 = opening_ways start cap 0 ways; m2 = opening_ways start cap 0 ways; g1 = opening_ways start cap 0 ways }) p ≡ 0
    none-yet order.K4 p = opening-none p start cap 0 ways
    none-yet order.M2 p = opening-none p start cap 0 ways
    none-yet order.G1 p = opening-none p start cap 0 ways
opening-counted levels spaces (table.Range ranges tlb) h = tt

-- what the numbers say
abbrev is_entry : Entry → Entry → Bool
is_entry e x = (x.key == e.key) && (x.word == e.word)

entries-one : (e x : Entry) → is_entry e x ≡ true → x ≡ e
entries-one e x t =
    let a : x.key ≡ e.key = grind (arith, nat_tests) in
    let b : x.word ≡ e.word = grind (arith, nat_tests) in
    let X : Entry = record { key = x.key; word = x.word } in
    let E : Entry = record { key = e.key; word = e.word } in
    let k : X ≡ E = rw (a, b) refl in
    k

own-entry : (e : Entry) → is_entry e e ≡ true
own-entry e = rw (eq-eqb e.key e.key refl, eq-eqb e.word e.word refl) refl

counted-entries : (row : Row) (leaves : List Leaf) (ws : CuckooWays) (o : Order) → IsMapping row leaves → IsCounted leaves ws → AreEntriesOf o leaves (ways_of o ws)
counted-entries row leaves ws o m c = record {
  once = λ key. let e = c.same o (has_key key) in let f = few-in row leaves o key m in omega arith;
  there = λ leaf i same.
      let own : leaf_by o (is_entry (leaf_entry leaf)) leaf ≡ true = ap (λ q. same_order q o && is_entry (leaf_entry leaf) (leaf_entry leaf)) same ∙ ap (λ b. b && is_entry (leaf_entry leaf) (leaf_entry leaf)) (order-same o) ∙ own-entry (leaf_entry leaf) in
      let t : list_any (is_entry (leaf_entry leaf)) (entries_in (ways_of o ws)) ≡ true =
      tally-any (is_entry (leaf_entry leaf)) (entries_in (ways_of o ws)) ∙ ap (λ n. not (n == 0)) (c.same o (is_entry (leaf_entry leaf)))
      ∙ sym (tally-any (leaf_by o (is_entry (leaf_entry leaf))) leaves) ∙ In-any (leaf_by o (is_entry (leaf_entry leaf))) leaf leaves i own in
      let found = any-In (is_entry (leaf_entry leaf)) (entries_in (ways_of o ws)) t in
      subst (λ e. In e (entries_in (ways_of o ws))) (entries-one (leaf_entry leaf) found.0 found.2) found.1;
  only = λ e i.
      let t : list_any (leaf_by o (is_entry e)) leaves ≡ true =
      tally-any (leaf_by o (is_entry e)) leaves ∙ ap (λ n. not (n == 0)) (sym (c.same o (is_entry e)))
      ∙ sym (tally-any (is_entry e) (entries_in (ways_of o ws))) ∙ In-any (is_entry e) e (entries_in (ways_of o ws)) i (own-entry e) in
      let found = any-In (leaf_by o (is_entry e)) leaves t in
      let a = first_so (same_order found.0.order o) (is_entry e (leaf_entry found.0)) found.2 in
      let b = second_so (same_order found.0.order o) (is_entry e (leaf_entry found.0)) found.2 in
      (found.0, found.1, orders-same found.0.order o a, sym (entries-one e (leaf_entry found.0) b));
}

shape-entries : (row : Row) (leaves : List Leaf) (shape : Shape) → IsMapping row leaves → ShapeCounted leaves shape → HasEntries leaves shape
shape-entries row leaves (Radix levels spaces nodes) m h = tt
shape-entries row leaves (Chained group buckets entries tags) m h = tt
shape-entries row leaves (Cuckoo rules ws) m h = λ o. counted-entries row leaves ws o m h
shape-entries row leaves (Runs ranges) m h = tt

pub each_leaf_has_its_key : EachLeafHasItsKey
each_leaf_has_its_key row items is =
    let t = run-holds row ShapeCounted (record {
      made = λ c leaves shape m s room placed h. made-counted row c leaves shape m s placed h;
      refused = caps-counted;
    }) (opening-counted (levels_of row.mode) row.spaces row.table is.table_is) items in
    shape-entries row (run row items).table.leaves (run row items).table.shape t.mapping t.holds
