-- A radix table's numbers in every run, and its room.
use Rattle.xl_model_laws.proofs.Common.{◌&&◌, ◌++◌, ◌+◌, ◌-◌, ◌<◌, ◌==◌, ◌||◌, ◌∙◌, ◌∷◌, ◌≡◌, ◌≤◌, ◌⊎◌, [], ap, AreNodesOf, AreNumbered, arith, Bool, brought, Chained, Change, changed, Cuckoo, CuckooRules, CuckooWays, eq-eqb, false, finds_place, free_count, has_room, HasNumbers, In, In-append, In-left, In-right, in_nodes, inl, inr, is_below, is_under, IsNodeOf, Leaf, leaf_nodes_missing, length, length-append, level_of, levels_of, List, list_any, missing, Mode, narrowed, nat_le, nat_lt, nat_tests, Node, None, number_of, Once, one_unless, opening_shape, Option, position_from, Radix, refl, room_for, RoomIsForAllNodes, Row, run, Runs, Shape, shape_after, slice_index_or, Some, subst, suc, sym, Table, TheNodesAreTheMappings, true, up, widened, zero, ℕ}
use Rattle.xl_list_lemmas.proofs.OnceLemmas.{once-append, same-by}
use Rattle.xl_model_laws.proofs.AfterLemmas.{path-room, radix-after}
use Rattle.xl_model_laws.proofs.NodeLawLemmas.{any-at, at-any, below-is, numbered-after, numbered-opening, NumberedOnce}
use Rattle.xl_model_laws.proofs.NumberLemmas.{position-any, position-none}
use Rattle.xl_model_laws.proofs.TableRunLemmas.{run-holds}
use Rattle.xl_model.specs.declared.address.Mode.TheVariants as mode
use Rattle.xl_model.specs.declared.row.Table.TheVariants as table

-- a radix table has levels
abbrev HasLevels : Shape → Type 0
HasLevels (Radix levels spaces nodes) = 0 < levels
HasLevels (Chained group buckets entries tags) = Unit {0}
HasLevels (Cuckoo rules ways) = Unit {0}
HasLevels (Runs ranges) = Unit {0}

abbrev Numbered : List Leaf → Shape → Type 0
Numbered leaves shape = HasLevels shape × HasNumbers leaves shape

-- other shapes have no nodes
other-chained : (c : Change) (leaves : List Leaf) (group buckets entries : ℕ) (tags : List ℕ) (leaf : Option Leaf) → Numbered (changed c leaves) (narrowed c leaves (widened leaf (Chained group buckets entries tags)))
other-chained c leaves group buckets entries tags None = (tt, tt)
other-chained c leaves group buckets entries tags (Some leaf) = (tt, tt)

other-cuckoo : (c : Change) (leaves : List Leaf) (leaf : Option Leaf) (rules : CuckooRules) (ways : CuckooWays) → Numbered (changed c leaves) (narrowed c leaves (widened leaf (Cuckoo rules ways)))
other-cuckoo c leaves None rules ways = (tt, tt)
other-cuckoo c leaves (Some leaf) rules ways = (tt, tt)

other-runs : (c : Change) (leaves : List Leaf) (ranges : ℕ) (leaf : Option Leaf) → Numbered (changed c leaves) (narrowed c leaves (widened leaf (Runs ranges)))
other-runs c leaves ranges None = (tt, tt)
other-runs c leaves ranges (Some leaf) = (tt, tt)

made-numbered : (c : Change) (leaves : List Leaf) (shape : Shape) → has_room c leaves shape ≡ true → Numbered leaves shape → Numbered (changed c leaves) (shape_after c leaves shape)
unfolding shape_after has_room
made-numbered c leaves (Radix levels spaces nodes) room (some, h) =
    subst (Numbered (changed c leaves)) (sym (radix-after c leaves levels spaces nodes))
    (some, numbered-after levels spaces c leaves nodes some h (path-room (brought c leaves) c leaves levels spaces nodes room))
made-numbered c leaves (Chained group buckets entries tags) room h = other-chained c leaves group buckets entries tags (brought c leaves)
made-numbered c leaves (Cuckoo rules ways) room h = other-cuckoo c leaves (brought c leaves) rules ways
made-numbered c leaves (Runs ranges) room h = other-runs c leaves ranges (brought c leaves)

refused-numbered : (leaf : Option Leaf) (leaves : List Leaf) (shape : Shape) → finds_place leaf shape ≡ false → Numbered leaves shape → Numbered leaves (widened leaf shape)
refused-numbered None leaves shape caps h = h
refused-numbered (Some leaf) leaves (Radix levels spaces nodes) caps h = absurd (cc)
refused-numbered (Some leaf) leaves (Chained group buckets entries tags) caps h = (tt, tt)
refused-numbered (Some leaf) leaves (Cuckoo rules ways) caps h = (tt, tt)
refused-numbered (Some leaf) leaves (Runs ranges) caps h = (tt, tt)

opening-numbered : (m : Mode) (spaces : ℕ) (t : Table) → Numbered [] (opening_shape (levels_of m) spaces t)
unfolding opening_shape
opening-numbered m spaces (table.Radix frames caches) = (some m, numbered-opening (levels_of m) spaces frames)
  where
    some : (n : Mode) → 0 < levels_of n
    some mode.Sv39 = omega arith
    some mode.Sv48 = omega arith
    some mode.Sv57 = omega arith
opening-numbered m spaces (table.Hashed buckets entries) = (tt, tt)
opening-numbered m spaces (table.Clustered buckets blocks) = (tt, tt)
opening-numbered m spaces (table.Cuckoo ways start cap threshold kick_limit migrate sections_2m sections_1g caches) = (tt, tt)
opening-numbered m spaces (table.Range ranges tlb) = (tt, tt)

run-numbered : (row : Row) (items : List _) → Numbered (run row items).table.leaves (run row items).table.shape
run-numbered row items =
    (run-holds row Numbered (record {
      made = λ c leaves shape m s room place h. made-numbered c leaves shape room h;
      refused = refused-numbered;
    }) (opening-numbered row.mode row.spaces row.table) items).holds

pub the_nodes_are_the_mappings : TheNodesAreTheMappings
the_nodes_are_the_mappings row items = (run-numbered row items).1

-- the nodes that have numbers
abbrev somes : List (Option Node) → List Node
somes [] = []
somes (None ∷ nodes) = somes nodes
somes (Some x ∷ nodes) = x ∷ somes nodes

somes-count : (nodes : List (Option Node)) → length (somes nodes) + free_count nodes ≡ length nodes
somes-count [] = refl
somes-count (None ∷ nodes) = let e = somes-count nodes in omega arith
somes-count (Some x ∷ nodes) = let e = somes-count nodes in omega arith

somes-In : (x : Node) (nodes : List (Option Node)) → In x (somes nodes) → (n : ℕ) × (slice_index_or nodes n None ≡ Some x)
somes-In x [] i = absurd i
somes-In x (None ∷ nodes) i = let r = somes-In x nodes i in (suc r.0, r.1)
somes-In x (Some y ∷ nodes) (inl e) = (zero, ap Some (sym e))
somes-In x (Some y ∷ nodes) (inr i) = let r = somes-In x nodes i in (suc r.0, r.1)

In-somes : (x : Node) (nodes : List (Option Node)) (n : ℕ) → slice_index_or nodes n None ≡ Some x → In x (somes nodes)
In-somes x [] n h = absurd (cc)
In-somes x (None ∷ nodes) zero h = absurd (cc)
In-somes x (None ∷ nodes) (suc n) h = In-somes x nodes n h
In-somes x (Some y ∷ nodes) zero h = inl (cc)
In-somes x (Some y ∷ nodes) (suc n) h = inr (In-somes x nodes n h)

somes-once : (nodes : List (Option Node)) → NumberedOnce nodes → Once (somes nodes)
somes-once [] o = tt
somes-once (None ∷ nodes) o = somes-once nodes (λ m n x h k. let e : suc m ≡ suc n = o (suc m) (suc n) x h k in omega arith)
somes-once (Some y ∷ nodes) o = (
  λ i. let r = somes-In y nodes i in let e : 0 ≡ suc r.0 = o zero (suc r.0) y refl r.1 in omega arith,
  somes-once nodes (λ m n x h k. let e : suc m ≡ suc n = o (suc m) (suc n) x h k in omega arith),
)

-- the nodes that a leaf lacks
abbrev way_node : ℕ → ℕ → ℕ → Node
way_node space page k = record { space = space; level = k - 1; prefix = up k page }

abbrev put_where : Option ℕ → Node → List Node → List Node
put_where None x xs = x ∷ xs
put_where (Some n) x xs = xs

abbrev lacking : ℕ → ℕ → ℕ → ℕ → List (Option Node) → List Node
lacking space page l zero nodes = []
lacking space page l (suc d) nodes =
    put_where (number_of space (l + suc d) (up (l + suc d) page) nodes) (way_node space page (l + suc d)) (lacking space page l d nodes)

where-In : (o : Option ℕ) (x z : Node) (xs : List Node) → In z (put_where o x xs) → ((z ≡ x) × (o ≡ None)) ⊎ In z xs
where-In None x z xs (inl e) = inl (e, refl)
where-In None x z xs (inr i) = inr i
where-In (Some n) x z xs i = inr i

lacking-count : (space page l d : ℕ) (nodes : List (Option Node)) → length (lacking space page l d nodes) ≡ missing space page l d nodes
lacking-count space page l zero nodes = refl
lacking-count space page l (suc d) nodes =
    count (number_of space (l + suc d) (up (l + suc d) page) nodes) (way_node space page (l + suc d)) (lacking space page l d nodes) (missing space page l d nodes) (lacking-count space page l d nodes)
  where
    count : (o : Option ℕ) (x : Node) (xs : List Node) (n : ℕ) → length xs ≡ n → length (put_where o x xs) ≡ one_unless o + n
    count None x xs n h = omega arith
    count (Some m) x xs n h = omega arith

lacking-In : (space page l d : ℕ) (nodes : List (Option Node)) (x : Node) → In x (lacking space page l d nodes)
    → (k : ℕ) × (l < k) × (k ≤ l + d) × (x ≡ way_node space page k) × (number_of space k (up k page) nodes ≡ None)
lacking-In space page l zero nodes x i = absurd i
lacking-In space page l (suc d) nodes x i =
    elim (where-In (number_of space (l + suc d) (up (l + suc d) page) nodes) (way_node space page (l + suc d)) x (lacking space page l d nodes) i) [
      | inl here ↦ (l + suc d, omega arith, omega arith, here.0, here.1)
      | inr j ↦ let r = lacking-In space page l d nodes x j in (r.0, r.1, omega (arith, r.2), r.3, r.4)
    ]

In-lacking : (space page l d k : ℕ) (nodes : List (Option Node)) → l < k → k ≤ l + d → number_of space k (up k page) nodes ≡ None → In (way_node space page k) (lacking space page l d nodes)
In-lacking space page l zero k nodes low high none = absurd (omega arith)
In-lacking space page l (suc d) k nodes low high none =
    elim (k == l + suc d) as (λ b. (k == l + suc d) ≡ b → In (way_node space page k) (put_where (number_of space (l + suc d) (up (l + suc d) page) nodes) (way_node space page (l + suc d)) (lacking space page l d nodes))) [
      | true ↦ λ t.
          let e : k ≡ l + suc d = grind (arith, nat_tests) in
          here (number_of space (l + suc d) (up (l + suc d) page) nodes) (subst (λ j. number_of space j (up j page) nodes ≡ None) e none) (ap (way_node space page) e)
      | false ↦ λ t. rest (number_of space (l + suc d) (up (l + suc d) page) nodes) (In-lacking space page l d k nodes low (grind (arith, nat_tests)) none)
    ] refl
  where
    here : (o : Option ℕ) → o ≡ None → way_node space page k ≡ way_node space page (l + suc d) → In (way_node space page k) (put_where o (way_node space page (l + suc d)) (lacking space page l d nodes))
    here None e f = inl f
    here (Some n) e f = absurd (cc)

    rest : (o : Option ℕ) → In (way_node space page k) (lacking space page l d nodes) → In (way_node space page k) (put_where o (way_node space page (l + suc d)) (lacking space page l d nodes))
    rest None i = inr i
    rest (Some n) i = i

lacking-once : (space page l d : ℕ) (nodes : List (Option Node)) → Once (lacking space page l d nodes)
lacking-once space page l zero nodes = tt
lacking-once space page l (suc d) nodes =
    go (number_of space (l + suc d) (up (l + suc d) page) nodes) (lacking-once space page l d nodes) (λ i.
    let r = lacking-In space page l d nodes (way_node space page (l + suc d)) i in
    let e : l + suc d - 1 ≡ r.0 - 1 = ap (λ (x : Node). x.level) r.3 in
    omega (arith, r.1, r.2, e))
  where
    go : (o : Option ℕ) → Once (lacking space page l d nodes) → (In (way_node space page (l + suc d)) (lacking space page l d nodes) → ⊥)
        → Once (put_where o (way_node space page (l + suc d)) (lacking space page l d nodes))
    go None once out = (out, once)
    go (Some n) once out = once

-- two nodes are one where their three numbers are
same_node : Node → Node → Bool
same_node x y = (x.space == y.space) && ((x.level == y.level) && (x.prefix == y.prefix))

nodes-one : (x y : Node) → same_node x y ≡ true → x ≡ y
unfolding same_node
nodes-one x y t =
    let a : x.space ≡ y.space = grind (arith, nat_tests) in
    let b : x.level ≡ y.level = grind (arith, nat_tests) in
    let c : x.prefix ≡ y.prefix = grind (arith, nat_tests) in
    let X : Node = record { space = x.space; level = x.level; prefix = x.prefix } in
    let Y : Node = record { space = y.space; level = y.level; prefix = y.prefix } in
    let e : X ≡ Y = rw (a, b, c) refl in
    e

own-node : (x : Node) → same_node x x ≡ true
unfolding same_node
own-node x = rw (eq-eqb x.space x.space refl, eq-eqb x.level x.level refl, eq-eqb x.prefix x.prefix refl) refl

-- the nodes of the mapping with a leaf more: those that have numbers, and those that the leaf lacks
module _ (levels spaces : ℕ) (leaf : Leaf) (leaves : List Leaf) (numbers : List (Option Node)) (some : 0 < levels) (a : AreNumbered levels spaces leaves numbers) where
  abbrev gone : List Node
  gone = lacking leaf.space leaf.first (level_of leaf.order) (levels - 1 - level_of leaf.order) numbers

  more : (x : Node) → IsNodeOf levels spaces leaves x → IsNodeOf levels spaces (leaf ∷ leaves) x
  unfolding in_nodes
  more x (inl r) = inl r
  more x (inr n) = inr (n.0, or-right (is_under x.space (x.level + 1) x.prefix leaf) n.1)
    where
      or-right : (b : Bool) → list_any (is_under x.space (x.level + 1) x.prefix) leaves ≡ true → (b || list_any (is_under x.space (x.level + 1) x.prefix) leaves) ≡ true
      or-right true h = refl
      or-right false h = h

  lacked : (x : Node) → In x gone → IsNodeOf levels spaces (leaf ∷ leaves) x
  unfolding in_nodes
  lacked x i =
      let r = lacking-In leaf.space leaf.first (level_of leaf.order) (levels - 1 - level_of leaf.order) numbers x i in
      let low : level_of leaf.order < r.0 = r.1 in
      let high : r.0 ≤ level_of leaf.order + (levels - 1 - level_of leaf.order) = r.2 in
      let e : r.0 - 1 + 1 ≡ r.0 = omega arith in
      let under : is_under leaf.space (r.0 - 1 + 1) (up r.0 leaf.first) leaf ≡ true = under-by leaf.space (r.0 - 1 + 1) (up r.0 leaf.first) (omega arith) (ap (λ k. up k leaf.first) e) in
      subst (IsNodeOf levels spaces (leaf ∷ leaves)) (sym r.3) (inr (omega arith, rw under refl))
    where
      under-by : (space l block : ℕ) → level_of leaf.order < l → up l leaf.first ≡ block → is_under leaf.space l block leaf ≡ true
      under-by space l block h e = rw (eq-eqb leaf.space leaf.space refl, e, eq-eqb block block refl) (lt-true (level_of leaf.order) l h)
        where
          lt-true : (m n : ℕ) → m < n → (nat_lt m n && true) ≡ true
          lt-true m n less = grind (arith, nat_tests)

  -- a node below the roots under which the new leaf is has a number, or is lacked
  own : (x : Node) → x.level + 1 < levels → is_under x.space (x.level + 1) x.prefix leaf ≡ true → In x (somes numbers ++ gone)
  unfolding number_of
  own x low under =
      let s : leaf.space ≡ x.space = grind (arith, nat_tests) in
      let b : level_of leaf.order < x.level + 1 = grind (arith, nat_tests) in
      let p : up (x.level + 1) leaf.first ≡ x.prefix = grind (arith, nat_tests) in
      let e : x.level + 1 - 1 ≡ x.level = omega arith in
      let same : way_node leaf.space leaf.first (x.level + 1) ≡ x =
      ap (λ z. let n : Node = record { space = z; level = x.level + 1 - 1; prefix = up (x.level + 1) leaf.first } in n) s
      ∙ ap (λ z. let n : Node = record { space = x.space; level = z; prefix = up (x.level + 1) leaf.first } in n) e
      ∙ ap (λ z. let n : Node = record { space = x.space; level = x.level; prefix = z } in n) p in
      subst (λ z. In z (somes numbers ++ gone)) same (go (position_from (is_below leaf.space (x.level + 1) (up (x.level + 1) leaf.first)) 0 numbers) refl b)
    where
      go : (o : Option ℕ) → position_from (is_below leaf.space (x.level + 1) (up (x.level + 1) leaf.first)) 0 numbers ≡ o → level_of leaf.order < x.level + 1
          → In (way_node leaf.space leaf.first (x.level + 1)) (somes numbers ++ gone)
      go None none b =
          In-right (way_node leaf.space leaf.first (x.level + 1)) (somes numbers) gone
          (In-lacking leaf.space leaf.first (level_of leaf.order) (levels - 1 - level_of leaf.order) (x.level + 1) numbers b (omega arith) none)
      go (Some n) found b =
          let r = any-at (is_below leaf.space (x.level + 1) (up (x.level + 1) leaf.first)) numbers (position-any (is_below leaf.space (x.level + 1) (up (x.level + 1) leaf.first)) 0 n numbers found) in
          let y = below-is leaf.space (x.level + 1) (up (x.level + 1) leaf.first) (slice_index_or numbers r.0 None) r.1 in
          In-left (way_node leaf.space leaf.first (x.level + 1)) (somes numbers) gone
          (subst (λ z. In z (somes numbers)) y.2 (In-somes y.0 numbers r.0 y.1))

  all-nodes : AreNodesOf levels spaces (leaf ∷ leaves) (somes numbers ++ gone)
  unfolding in_nodes number_of
  all-nodes = record {
    once = once-append (somes numbers) gone (somes-once numbers a.once) (lacking-once leaf.space leaf.first (level_of leaf.order) (levels - 1 - level_of leaf.order) numbers) (λ x i j.
        let r = lacking-In leaf.space leaf.first (level_of leaf.order) (levels - 1 - level_of leaf.order) numbers x j in
        let n = somes-In x numbers i in
        let low : level_of leaf.order < r.0 = r.1 in
        let t : is_below leaf.space r.0 (up r.0 leaf.first) (Some x) ≡ true = subst (λ z. is_below leaf.space r.0 (up r.0 leaf.first) (Some z) ≡ true) (sym r.3) (new-below leaf.space r.0 (up r.0 leaf.first) (omega arith)) in
        let yes_any : list_any (is_below leaf.space r.0 (up r.0 leaf.first)) numbers ≡ true = at-any (is_below leaf.space r.0 (up r.0 leaf.first)) x numbers n.0 n.1 t in
        let no_any : list_any (is_below leaf.space r.0 (up r.0 leaf.first)) numbers ≡ false = position-none (is_below leaf.space r.0 (up r.0 leaf.first)) 0 numbers r.4 in
        let k : true ≡ false = sym yes_any ∙ no_any in
        absurd (cc));
    there = λ x is. elim is [
      | inl r ↦ In-left x (somes numbers) gone (let n = a.there x (inl r) in In-somes x numbers n.0 n.1)
      | inr n ↦ below x n.0 n.1
    ];
    only = λ x i. elim (In-append x (somes numbers) gone i) [
      | inl j ↦ let n = somes-In x numbers j in more x (a.only n.0 x n.1)
      | inr j ↦ lacked x j
    ];
  }
    where
      new-below : (space l block : ℕ) → 0 < l → is_below space l block (Some (record { space = space; level = l - 1; prefix = block })) ≡ true
      new-below space l block h = grind (arith, nat_tests)

      below : (x : Node) → x.level + 1 < levels → (is_under x.space (x.level + 1) x.prefix leaf || list_any (is_under x.space (x.level + 1) x.prefix) leaves) ≡ true → In x (somes numbers ++ gone)
      below x low need = go (is_under x.space (x.level + 1) x.prefix leaf) refl need
        where
          go : (b : Bool) → is_under x.space (x.level + 1) x.prefix leaf ≡ b → (b || list_any (is_under x.space (x.level + 1) x.prefix) leaves) ≡ true → In x (somes numbers ++ gone)
          go true t h = own x low t
          go false t h = In-left x (somes numbers) gone (let n = a.there x (inr (low, h)) in In-somes x numbers n.0 n.1)

  -- as many as have numbers, and as are missing
  node-count : (nodes : List Node) → AreNodesOf levels spaces (leaf ∷ leaves) nodes → length nodes + free_count numbers ≡ length numbers + leaf_nodes_missing levels leaf numbers
  unfolding leaf_nodes_missing
  node-count nodes are =
      let n : length nodes ≡ length (somes numbers ++ gone) =
      same-by same_node nodes-one own-node nodes (somes numbers ++ gone) are.once all-nodes.once
      (λ x i. all-nodes.there x (are.only x i)) (λ x i. are.there x (all-nodes.only x i)) in
      let m : length (somes numbers ++ gone) ≡ length (somes numbers) + length gone = length-append (somes numbers) gone in
      let k = lacking-count leaf.space leaf.first (level_of leaf.order) (levels - 1 - level_of leaf.order) numbers in
      let s = somes-count numbers in
      omega arith

  room-nodes : (nodes : List Node) → AreNodesOf levels spaces (leaf ∷ leaves) nodes → nat_le (leaf_nodes_missing levels leaf numbers) (free_count numbers) ≡ nat_le (length nodes) (length numbers)
  room-nodes nodes are = same (leaf_nodes_missing levels leaf numbers) (free_count numbers) (length nodes) (length numbers) (node-count nodes are)
    where
      same : (m f n k : ℕ) → n + f ≡ k + m → nat_le m f ≡ nat_le n k
      same m f n k e = elim (nat_le n k) as (λ b. nat_le n k ≡ b → nat_le m f ≡ b) [ true ↦ λ t. grind (arith, nat_tests) | false ↦ λ t. grind (arith, nat_tests) ] refl

pub room_is_for_all_nodes : RoomIsForAllNodes
unfolding has_room
room_is_for_all_nodes row items c leaf levels spaces numbers nodes shape brings are =
    let leaves : List Leaf = (run row items).table.leaves in
    let h : Numbered leaves (Radix levels spaces numbers) = subst (Numbered leaves) shape (run-numbered row items) in
    ap (λ o. room_for o c leaves (Radix levels spaces numbers)) brings ∙ room-nodes levels spaces leaf leaves numbers h.0 h.1 nodes are
