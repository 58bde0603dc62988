-- The leaf of a name, and a row after a leaf came or went.
use Rattle.xl_cuckoo_walk.proofs.Common.{◌&&◌, ◌*◌, ◌+◌, ◌-◌, ◌/◌, ◌<◌, ◌^◌, ◌∙◌, ◌∷◌, ◌≡◌, ◌≤◌, [], ap, arith, Cached, Change, changed, compared, counts_of, Cuckoo, CuckooState, CuckooWays, false, has_room, HoldsLeaves, In, Insert, is_leaf, is_some, IsChange, IsEntered, IsFit, IsLeafFor, IsLeft, IsNamed, IsRow, IsSome, IsTied, keys_moved, Large, Leaf, leaf_entry, leaf_named, leaf_word, leaves_of_ways, length, List, loads_in, MadeWordsReadBack, map, meets_any, Middle, Moves, named-first, named-In, named-is, named-order, named-space, nat_le, new_word, no_moves, None, Ok, Option, Order, order_of, page_key, page_keys, pages_of, refl, Refused, Remove, Result, row_state, RowParts, rules_in, Section, section_count, sections_in, Size, slice_index, Some, subst, sym, table_of, TableState, true, value_of, ways_in, ways_of, with_leaf, with_ways, without_entry, without_leaf, word_list, word_of_key, Work, work_of, ℕ}
use Rattle.xl_cuckoo_walk.proofs.ComparedLemmas.{both_keys, cached-items, compared-row, compared-twice, ComparedRow, WordsStay}
use Rattle.xl_cuckoo_walk.proofs.HoldLemmas.{apart-leaf, entry-key, fit-leaf, free-now}
use Rattle.xl_cuckoo_walk.proofs.RowLemmas.{leaf-value, some-value}
use Rattle.xl_cuckoo_walk.proofs.VerdictLemmas.{made, made_answer, removed, room-both, state_made}
use Rattle.xl_cuckoo_walk.proofs.WordsLemmas.{words-less, words-with}
use Rattle.xl_model.specs.declared.address.Order.TheVariants as order

-- the leaf of a name, and the word that its key has
pub record NamedLeaf (p : RowParts) (space first : ℕ) (o : Order) : Type 0 where
  pub leaf : Leaf
  pub named : leaf_named space first o (leaves_of_ways (ways_in p)) ≡ Some leaf
  pub there : In leaf (leaves_of_ways (ways_in p))
  pub space_is : leaf.space ≡ space
  pub first_is : leaf.first ≡ first
  pub order_is : leaf.order ≡ o
  pub space_in : space < 64
  pub page_in : first < 2 ^ 45
  pub frame_in : leaf.frame < 2 ^ 44
  pub key_is : (leaf_entry leaf).key ≡ space * 2 ^ 45 + first / pages_of o
  pub value : value_of (space * 2 ^ 45 + first / pages_of o) (ways_of o (ways_in p)) ≡ Some (leaf_word leaf.frame leaf.perm)

one-word : (v : Option ℕ) (w : ℕ) → IsSome v → slice_index (word_list v) 0 ≡ w → v ≡ Some w
one-word None w h e = absurd (cc)
one-word (Some n) w h e = ap Some e

pub named-held : MadeWordsReadBack → (p : RowParts) → HoldsLeaves p (leaves_of_ways (ways_in p)) → (space first : ℕ) (o : Order) → IsNamed space first o (leaves_of_ways (ways_in p)) → NamedLeaf p space first o
named-held back p r space first o h = go (leaf_named space first o (leaves_of_ways (ways_in p))) refl h
  where
    go : (q : Option Leaf) → leaf_named space first o (leaves_of_ways (ways_in p)) ≡ q → is_some (leaf_named space first o (leaves_of_ways (ways_in p))) ≡ true → NamedLeaf p space first o
    go None e k = let z : false ≡ true = sym (ap (λ (q : Option Leaf). is_some q) e) ∙ k in absurd (cc)
    go (Some x) e k =
        let is : is_leaf space first o x ≡ true = named-is space first o x (leaves_of_ways (ways_in p)) e in
        let i : In x (leaves_of_ways (ways_in p)) = named-In space first o x (leaves_of_ways (ways_in p)) e in
        let fit = r.held.fit x i in
        let sp : x.space ≡ space = named-space space first o x is in
        let fi : x.first ≡ first = named-first space first o x is in
        let od : x.order ≡ o = named-order space first o x is in
        let key : (leaf_entry x).key ≡ space * 2 ^ 45 + first / pages_of o =
        (let d : (leaf_entry x).key ≡ x.space * 2 ^ 45 + x.first / pages_of x.order = omega arith in d)
        ∙ ap (λ s. s * 2 ^ 45 + x.first / pages_of x.order) sp ∙ ap (λ f. space * 2 ^ 45 + f / pages_of x.order) fi ∙ ap (λ m. space * 2 ^ 45 + first / pages_of m) od in
        let own : value_of (leaf_entry x).key (ways_of x.order (ways_in p)) ≡ Some (leaf_word x.frame x.perm) =
        one-word (value_of (leaf_entry x).key (ways_of x.order (ways_in p))) (leaf_word x.frame x.perm)
        (some-value back (ways_in p) (leaves_of_ways (ways_in p)) r.held r.once x i) (leaf-value back (ways_in p) (leaves_of_ways (ways_in p)) r.held r.once x i) in
        record {
          leaf = x;
          named = e;
          there = i;
          space_is = sp;
          first_is = fi;
          order_is = od;
          space_in = subst (λ n. n < 64) sp fit.aligned.placed.space_in;
          page_in = subst (λ n. n < 2 ^ 45) fi fit.aligned.placed.page_in;
          frame_in = fit.frame_in;
          key_is = key;
          value = ap (λ n. value_of n (ways_of o (ways_in p))) (sym key) ∙ ap (λ m. value_of (leaf_entry x).key (ways_of m (ways_in p))) (sym od) ∙ own;
        }

pub named-leaf : MadeWordsReadBack → (p : RowParts) → IsRow p → (space first : ℕ) (o : Order) → IsNamed space first o (row_state p).leaves → NamedLeaf p space first o
unfolding row_state
named-leaf back p r space first o h = named-held back p r.holds space first o h

-- what holds of the leaf's place holds of the name, and back
pub by-name : (P : ℕ → ℕ → Order → Type 0) (p : RowParts) (space first : ℕ) (o : Order) (n : NamedLeaf p space first o) → P n.leaf.space n.leaf.first n.leaf.order → P space first o
by-name P p space first o n h = subst (λ q. P space first q) n.order_is (subst (λ f. P space f n.leaf.order) n.first_is (subst (λ s. P s n.leaf.first n.leaf.order) n.space_is h))

pub to-name : (P : ℕ → ℕ → Order → Type 0) (p : RowParts) (space first : ℕ) (o : Order) (n : NamedLeaf p space first o) → P space first o → P n.leaf.space n.leaf.first n.leaf.order
to-name P p space first o n h =
    subst (λ q. P n.leaf.space n.leaf.first q) (sym n.order_is) (subst (λ f. P n.leaf.space f o) (sym n.first_is) (subst (λ s. P s first o) (sym n.space_is) h))

-- how many sections are cached
abbrev pub items_of : RowParts → ℕ
items_of p = length p.middle.cache.items + length p.large.cache.items

-- the row after a change, and the result
pub record SteppedRow (c : Change) (p after : RowParts) (m : Moves) : Type 0 where
  pub row : IsRow after
  pub fewer : items_of after ≤ items_of p
  pub changes : IsChange c (row_state p) (Ok (work_of m (items_of p - items_of after))) (row_state after)

-- what the definitions make is what the code made
pub answered : (c : Change) (p after : RowParts) (m : Moves) (t : TableState) → row_state after ≡ t → IsChange c (row_state p) (made_answer (sections_in p.middle.cache) (sections_in p.large.cache) m t) t
    → IsChange c (row_state p) (Ok (work_of m (items_of p - items_of after))) (row_state after)
unfolding row_state
answered c p after m t is change =
    let W : ℕ → ℕ → Result Work Refused = λ a b. Ok (work_of m (a - b)) in
    let N : RowParts → ℕ = λ q. length (sections_in q.middle.cache).items + length (sections_in q.large.cache).items in
    let items : (q : RowParts) → N q ≡ items_of q = λ q.
    ap (λ n. n + length (sections_in q.large.cache).items) (cached-items q.middle.cache) ∙ ap (λ n. length q.middle.cache.items + n) (cached-items q.large.cache) in
    record {
      answer = sym (ap (λ n. W n (N after)) (items p) ∙ ap (W (items_of p)) (items after))
          ∙ ap (λ (u : TableState). made_answer (sections_in p.middle.cache) (sections_in p.large.cache) m u) is ∙ change.answer;
      after = is ∙ change.after;
    }

-- the words of sections that a leaf's going leaves
pub words-left : (p q : RowParts) → HoldsLeaves p (leaves_of_ways (ways_in p)) → (space first : ℕ) (o : Order) → NamedLeaf p space first o → IsLeft space first o p q → WordsStay (page_keys space first) p q
words-left p q h space first o n left z key out =
    let size : Order = order_of z in
    let leaves : List Leaf = leaves_of_ways (ways_in p) in
    let W : ℕ → ℕ → Order → Type 0 = λ s f w. IsTied size (without_leaf s f leaves) (counts_of q z).counts → (In key (page_key size s f ∷ []) → ⊥)
    → new_word size key (counts_of q z).counts (ways_of size (with_ways w (map (without_entry (page_key w s f)) (ways_of w (ways_in p))) (ways_in p))) ≡ word_of_key z p key in
    ap (λ ws. new_word size key (counts_of q z).counts (ways_of size ws)) left.ways
    ∙ by-name W p space first o n (λ t i. words-less size (ways_in p) leaves n.leaf h.held.sorted n.there (counts_of p z).counts (counts_of q z).counts (h.tied z).tied t key i)
    (left.holds.tied z).tied out

-- a leaf went
pub removed-row : MadeWordsReadBack → (p q : RowParts) → IsRow p → (space first : ℕ) (o : Order) → NamedLeaf p space first o → IsLeft space first o p q
    → SteppedRow (Remove space first o) p (compared (page_keys space first) q) no_moves
unfolding row_state
removed-row back p q r space first o n left =
    let leaves : List Leaf = leaves_of_ways (ways_in p) in
    let after : RowParts = compared (page_keys space first) q in
    let now : CuckooWays = with_ways o (map (without_entry (page_key o space first)) (ways_of o (ways_in p))) (ways_in p) in
    let is : ComparedRow p after (without_leaf space first leaves) now =
    compared-row p q r (without_leaf space first leaves) left.holds left.beside (page_keys space first) (words-left p q r.holds space first o n left) back now left.ways in
    let m2 : Cached Section = sections_in p.middle.cache in
    let g1 : Cached Section = sections_in p.large.cache in
    let T : ℕ → ℕ → ℕ → Order → TableState = λ k s f w.
    state_made (rules_in p) leaves (ways_in p) m2 g1 (loads_in p.tables) (without_leaf s f leaves) (with_ways w (map (without_entry k) (ways_of w (ways_in p))) (ways_in p)) in
    let C : TableState → Type 0 = λ t. IsChange (Remove space first o) (row_state p) (made_answer m2 g1 no_moves t) t in
    let own : C (T (leaf_entry n.leaf).key n.leaf.space n.leaf.first n.leaf.order) = removed (rules_in p) space first o leaves (ways_in p) m2 g1 (loads_in p.tables) n.leaf n.named in
    let named : C (T (page_key o space first) space first o) =
    by-name (λ s f w. C (T (page_key w s f) s f w)) p space first o n (subst (λ k. C (T k n.leaf.space n.leaf.first n.leaf.order)) (entry-key n.leaf) own) in
    record { row = is.row; fewer = is.items; changes = answered (Remove space first o) p after no_moves (T (page_key o space first) space first o) is.state named }

-- the keys of the sections that a leaf's coming may change
abbrev pub keys_entered : Leaf → RowParts → Size → List ℕ
keys_entered x q = both_keys (keys_moved x.order q) (page_keys x.space x.first)

-- the words of sections that a leaf's coming leaves
pub words-entered : MadeWordsReadBack → (p q : RowParts) → HoldsLeaves p (leaves_of_ways (ways_in p)) → (x : Leaf) → IsFit x → meets_any x.space x.first x.order (leaves_of_ways (ways_in p)) ≡ false → (m : Moves) → IsEntered x p q m
    → WordsStay (keys_entered x q) p q
words-entered back p q h x fit free m is z key out =
    let t : CuckooState = table_of x.order q in
    ap (λ ws. new_word (order_of z) key (counts_of q z).counts (ways_of (order_of z) ws)) is.ways
    ∙ words-with (rules_in p) (ways_in p) (leaves_of_ways (ways_in p)) x t.ways t.moved m (apart-leaf back p h x fit free) is.placed (order_of z) (counts_of p z).counts (counts_of q z).counts
    (h.tied z).tied (is.holds.tied z).tied key out

-- room for a leaf that came
pub entered-room : (p q : RowParts) (x : Leaf) (m : Moves) → IsEntered x p q m → has_room (Insert x) (leaves_of_ways (ways_in p)) (Cuckoo (rules_in p) (ways_in p)) ≡ true
entered-room p q x m is =
    room-both (rules_in p) (leaves_of_ways (ways_in p)) (ways_in p) x
    ∙ ap (λ b. b && nat_le (section_count order.G1 (with_leaf x (leaves_of_ways (ways_in p)))) p.large.counts.room) (is.room Middle) ∙ is.room Large

-- a leaf came
pub inserted-row : MadeWordsReadBack → (p q : RowParts) → IsRow p → (x : Leaf) → IsFit x → meets_any x.space x.first x.order (leaves_of_ways (ways_in p)) ≡ false → (m : Moves) → IsEntered x p q m
    → SteppedRow (Insert x) p (compared (keys_entered x q) q) m
unfolding row_state changed
inserted-row back p q r x fit free m is =
    let leaves : List Leaf = leaves_of_ways (ways_in p) in
    let after : RowParts = compared (keys_entered x q) q in
    let now : CuckooWays = with_ways x.order (table_of x.order q).ways (ways_in p) in
    let row : ComparedRow p after (with_leaf x leaves) now =
    compared-row p q r (with_leaf x leaves) is.holds is.beside (keys_entered x q) (words-entered back p q r.holds x fit free m is) back now is.ways in
    let m2 : Cached Section = sections_in p.middle.cache in
    let g1 : Cached Section = sections_in p.large.cache in
    record {
      row = row.row;
      fewer = row.items;
      changes = answered (Insert x) p after m (state_made (rules_in p) leaves (ways_in p) m2 g1 (loads_in p.tables) (with_leaf x leaves) now) row.state
          (made (Insert x) (rules_in p) leaves (ways_in p) m2 g1 (loads_in p.tables) x (table_of x.order q).ways (table_of x.order q).moved m refl (entered-room p q x m is) is.placed);
    }

-- what the code counts
pub counted-row : (c : Change) (p after : RowParts) (m : Moves) (before now : ℕ) (w : Work) → SteppedRow c p after m → before ≡ items_of p → now ≡ items_of after → w ≡ work_of m (before - now)
    → IsChange c (row_state p) (Ok w) (row_state after)
counted-row c p after m before now w s b n e =
    subst (λ r. IsChange c (row_state p) r (row_state after)) (sym (ap (λ v. Ok v) e ∙ ap (λ k. Ok (work_of m (k - now))) b ∙ ap (λ k. Ok (work_of m (items_of p - k))) n)) s.changes

pub less-cached : (c : Change) (p after : RowParts) (m : Moves) (before now : ℕ) → SteppedRow c p after m → before ≡ items_of p → now ≡ items_of after → now ≤ before
less-cached c p after m before now s b n = let f = s.fewer in omega arith

pub removed-by : MadeWordsReadBack → (p q after : RowParts) → IsRow p → (space first : ℕ) (o : Order) → IsNamed space first o (row_state p).leaves → IsLeft space first o p q
    → after ≡ compared (page_keys space first) q → SteppedRow (Remove space first o) p after no_moves
removed-by back p q after r space first o named left e =
    subst (λ z. SteppedRow (Remove space first o) p z no_moves) (sym e) (removed-row back p q r space first o (named-leaf back p r space first o named) left)

pub inserted-by : MadeWordsReadBack → (p q mid after : RowParts) → IsRow p → (x : Leaf) → IsLeafFor (row_state p).shape x → meets_any x.space x.first x.order (row_state p).leaves ≡ false → (m : Moves) → IsEntered x p q m
    → mid ≡ compared (keys_moved x.order q) q → after ≡ compared (page_keys x.space x.first) mid → SteppedRow (Insert x) p after m
inserted-by back p q mid after r x valid free m is e f =
    subst (λ z. SteppedRow (Insert x) p z m) (sym (f ∙ ap (compared (page_keys x.space x.first)) e ∙ compared-twice (keys_moved x.order q) (page_keys x.space x.first) q))
    (inserted-row back p q r x (fit-leaf p x valid) (free-now p x free) m is)
