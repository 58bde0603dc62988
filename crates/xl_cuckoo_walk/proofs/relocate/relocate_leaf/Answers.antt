use Rattle.xl_cuckoo_walk.proofs.Common.{◌&&◌, ◌*◌, ◌++◌, ◌+◌, ◌<◌, ◌^◌, ◌∙◌, ◌≡◌, ◌≤◌, ap, at_page, Bool, Cached, Change, changed, compared, covers, covers-meets, Cuckoo, CuckooRules, CuckooWays, Err, false, find, find-None, find-only, first-covered, frame-fits, has_room, HoldsLeaves, In, In-left, In-right, Insert, is_leaf, is_some, IsBlock, IsChange, IsEntered, IsFit, IsLeafFor, IsLeft, IsNamed, IsPage, IsRefused, IsRow, keys_from, keys_if, keys_moved, Leaf, leaf_at_page, leaf_entry, leaf_key, leaf_named, leaf_word, leaves_of_ways, length, List, lit<, loads_in, MadeWordsReadBack, map, meets_any, Moves, named-is, nat_le, None, Option, Order, order_of, page_key, page_keys, refl, Refused, Relocate, room_for, row_state, RowParts, rules_in, same_order, Section, section_count, sections_in, Size, Some, stays-with, StaysBeside, subst, sym, table_of, TableState, true, ways_in, ways_of, ways_taken, with_both, with_leaf, with_new, with_ways, without_entry, without_leaf, without_old, ℕ}
use Rattle.xl_model_lemmas.proofs.SortedLemmas.{with-without}
use Rattle.xl_cuckoo_walk.proofs.ComparedLemmas.{both_keys, compared-row, compared-twice, ComparedRow, WordsStay}
use Rattle.xl_cuckoo_walk.proofs.HoldLemmas.{apart-leaf, few-ways, fit-leaf, free-now}
use Rattle.xl_cuckoo_walk.proofs.LookLemmas.{block-parts}
use Rattle.xl_cuckoo_walk.proofs.RowLemmas.{leaves-known}
use Rattle.xl_cuckoo_walk.proofs.StepLemmas.{answered, by-name, counted-row, entered-room, keys_entered, less-cached, named-held, named-leaf, NamedLeaf, SteppedRow, to-name, words-entered, words-left}
use Rattle.xl_cuckoo_walk.proofs.VerdictLemmas.{made, made_answer, refused-same, room-both, state_made}
use Rattle.xl_cuckoo_walk.proofs.relocate.relocate_leaf.Given.{Over}
use Rattle.xl_model.specs.declared.address.Order.TheVariants as order
use Rattle.xl_cuckoo_walk.proofs.relocate.relocate_leaf.Goals as goal

-- the leaf of a name is the one that its first page finds
named-found : (p : RowParts) → IsRow p → (space first : ℕ) (o : Order) (n : NamedLeaf p space first o) → leaf_at_page space first (row_state p).leaves ≡ Some n.leaf
unfolding leaf_at_page row_state
named-found p r space first o n =
    let x : Leaf = n.leaf in
    let own : covers space first x ≡ true = by-name (λ s f w. covers s f x ≡ true) p space first o n (first-covered x) in
    find-only (covers space first) x (leaves_of_ways (ways_in p)) n.there own (λ y i c. sym (r.holds.held.apart x y n.there i (covers-meets space first x y own c)))

named-page : (p : RowParts) (space first : ℕ) (o : Order) → NamedLeaf p space first o → IsPage (row_state p).shape space first
unfolding row_state
named-page p space first o n = record { space_in = n.space_in; page_in = n.page_in }

-- what its first page finds is the leaf of the name
same-leaf : (p : RowParts) (r : IsRow p) (space first : ℕ) (o : Order) (n : NamedLeaf p space first o) (found : Option Leaf) (old : Leaf) → found ≡ leaf_at_page space first (row_state p).leaves → found ≡ Some old → n.leaf ≡ old
same-leaf p r space first o n found old e f = let s : Some n.leaf ≡ Some old = sym (named-found p r space first o n) ∙ sym e ∙ f in cc

abbrev found-leaf : MadeWordsReadBack → (p : RowParts) (r : IsRow p) (space first : ℕ) (o : Order) → IsNamed space first o (row_state p).leaves → (found : Option Leaf) (old : Leaf)
    → found ≡ leaf_at_page space first (row_state p).leaves → found ≡ Some old → NamedLeaf p space first o
found-leaf back p r space first o named found old e f =
    let n : NamedLeaf p space first o = named-leaf back p r space first o named in
    let s : n.leaf ≡ old = same-leaf p r space first o n found old e f in
    record {
      leaf = old;
      named = subst (λ x. leaf_named space first o (leaves_of_ways (ways_in p)) ≡ Some x) s n.named;
      there = subst (λ x. In x (leaves_of_ways (ways_in p))) s n.there;
      space_is = ap (λ (x : Leaf). x.space) (sym s) ∙ n.space_is;
      first_is = ap (λ (x : Leaf). x.first) (sym s) ∙ n.first_is;
      order_is = ap (λ (x : Leaf). x.order) (sym s) ∙ n.order_is;
      space_in = n.space_in;
      page_in = n.page_in;
      frame_in = subst (λ (x : Leaf). x.frame < 2 ^ 44) s n.frame_in;
      key_is = ap (λ x. (leaf_entry x).key) (sym s) ∙ n.key_is;
      value = n.value ∙ ap (λ (x : Leaf). Some (leaf_word x.frame x.perm)) s;
    }

-- room for a leaf that moves is room for one that comes
room_by : CuckooRules → Option Leaf → List Leaf → Bool
room_by rules None leaves = true
room_by rules (Some x) leaves = nat_le (section_count order.M2 leaves) rules.sections_2m && nat_le (section_count order.G1 leaves) rules.sections_1g

room-is : (rules : CuckooRules) (ws : CuckooWays) (c : Change) (leaves : List Leaf) (q : Option Leaf) → room_for q c leaves (Cuckoo rules ws) ≡ room_by rules q (with_both c leaves)
unfolding room_by
room-is rules ws c leaves None = refl
room-is rules ws c leaves (Some x) = refl

room-moved : (rules : CuckooRules) (ws : CuckooWays) (leaves : List Leaf) (space first to : ℕ) (o : Order) (x : Leaf) → leaf_named space first o leaves ≡ Some x
    → has_room (Relocate space first to o) leaves (Cuckoo rules ws) ≡ has_room (Insert (record x { first = to })) leaves (Cuckoo rules ws)
unfolding has_room with_both room_by
room-moved rules ws leaves space first to o x named =
    room-is rules ws (Relocate space first to o) leaves (at_page to (leaf_named space first o leaves))
    ∙ ap (λ q. room_by rules (at_page to q) (with_new (at_page to q) leaves)) named ∙ sym (room-both rules leaves ws (record x { first = to }))

module _ (back : MadeWordsReadBack) (p : RowParts) (r : IsRow p) (space first to : ℕ) (o : Order) (n : NamedLeaf p space first o)
    (block : IsBlock (row_state p).shape space to o) (free : meets_any space to o (row_state p).leaves ≡ false) where
  abbrev leaves : List Leaf
  leaves = leaves_of_ways (ways_in p)

  abbrev new : Leaf
  new = record n.leaf { first = to }

  abbrev command : Change
  command = Relocate space first to o

  fit-old : IsFit n.leaf
  fit-old = r.holds.held.fit n.leaf n.there

  valid-new : IsLeafFor (row_state p).shape new
  valid-new =
      let frame = frame-fits n.leaf.order n.leaf.frame fit-old.frame_in fit-old.frame_aligned in
      record {
        block = to-name (λ s f w. IsBlock (row_state p).shape s to w) p space first o n block;
        frames_in = frame.0;
        frames_aligned = frame.1;
      }

  free-new : meets_any new.space new.first new.order (row_state p).leaves ≡ false
  free-new = to-name (λ s f w. meets_any s to w (row_state p).leaves ≡ false) p space first o n free

  fit : IsFit new
  fit = fit-leaf p new valid-new

  apart : (z : Leaf) → In z leaves → leaf_key z ≡ leaf_key new → ⊥
  apart = apart-leaf back p r.holds new fit (free-now p new free-new)

  -- it is refused
  moved-refused : (q : RowParts) (w : Refused) → IsRefused new p q w → IsChange command (row_state p) (Err w) (row_state q)
  unfolding row_state
  moved-refused q w is = refused-same command new (row_state p) (row_state q) w (ap (at_page to) n.named) (room-moved (rules_in p) (ways_in p) leaves space first to o n.leaf n.named) is.changes

  module _ (q : RowParts) (m : Moves) (is : IsEntered new p q m) where
    between : leaves_of_ways (ways_in q) ≡ with_leaf new leaves
    between = leaves-known back (ways_in q) (with_leaf new leaves) is.holds.held

    holds-between : HoldsLeaves q (leaves_of_ways (ways_in q))
    holds-between = subst (HoldsLeaves q) (sym between) is.holds

    still : In n.leaf (with_leaf new leaves)
    still = stays-with n.leaf new leaves n.there (apart n.leaf n.there)

    -- the old leaf has its name still
    named-between : is_some (leaf_named space first o (leaves_of_ways (ways_in q))) ≡ true
    unfolding leaf_named
    named-between = ap (λ xs. is_some (find (is_leaf space first o) xs)) between ∙ go (find (is_leaf space first o) (with_leaf new leaves)) refl
      where
        name : is_leaf space first o n.leaf ≡ true
        name = named-is space first o n.leaf leaves n.named

        go : (d : Option Leaf) → find (is_leaf space first o) (with_leaf new leaves) ≡ d → is_some (find (is_leaf space first o) (with_leaf new leaves)) ≡ true
        go (Some y) e = ap (λ (d : Option Leaf). is_some d) e
        go None e = let bad : true ≡ false = sym name ∙ find-None (is_leaf space first o) n.leaf (with_leaf new leaves) e still in absurd (cc)

    module _ (last : RowParts) (left : IsLeft space first o q last) where
      abbrev after : List Leaf
      after = with_leaf new (without_leaf n.leaf.space n.leaf.first leaves)

      abbrev came : CuckooWays
      came = with_ways new.order (table_of new.order q).ways (ways_in p)

      abbrev now : CuckooWays
      now = with_ways n.leaf.order (map (without_entry (leaf_entry n.leaf).key) (ways_of n.leaf.order came)) came

      old-place : leaf_key new ≡ n.leaf.space * 2 ^ 52 + n.leaf.first → ⊥
      old-place e = apart n.leaf n.there (sym e)

      swapped : without_leaf n.leaf.space n.leaf.first (with_leaf new leaves) ≡ after
      swapped = sym (with-without n.leaf.space n.leaf.first new leaves r.holds.held.sorted old-place apart)

      left-leaves : without_leaf space first (leaves_of_ways (ways_in q)) ≡ after
      left-leaves = ap (without_leaf space first) between ∙ by-name (λ s f w. without_leaf s f (with_leaf new leaves) ≡ after) p space first o n swapped

      holds : HoldsLeaves last after
      holds = subst (HoldsLeaves last) left-leaves left.holds

      beside : StaysBeside p last
      beside = record { rules = left.beside.rules ∙ is.beside.rules; loads = left.beside.loads ∙ is.beside.loads; cache = λ z. left.beside.cache z ∙ is.beside.cache z }

      ways : ways_in last ≡ now
      ways =
          let N : ℕ → Order → CuckooWays → CuckooWays = λ k w us. with_ways w (map (without_entry k) (ways_of w us)) us in
          left.ways ∙ ap (N (page_key o space first) o) is.ways ∙ ap (λ k. N k o came) (sym n.key_is) ∙ ap (λ w. N (leaf_entry n.leaf).key w came) (sym n.order_is)

      -- the keys of the sections that the move may change
      abbrev keys_there : Size → List ℕ
      keys_there = both_keys (keys_moved o last) (page_keys space to)

      abbrev keys : Size → List ℕ
      keys = both_keys keys_there (page_keys space first)

      keys-same : (z : Size) → keys_entered new q z ≡ keys_there z
      keys-same z =
          by-name (λ s f w. keys_entered new q z ≡ both_keys (keys_moved w q) (page_keys s to) z) p space first o n refl
          ∙ ap (λ ds. keys_if (same_order (order_of z) o) (keys_from 0 ds) ++ page_keys space to z) (sym (left.moved o))

      words : WordsStay keys p last
      words z key out =
          let named : NamedLeaf q space first o = named-held back q holds-between space first o named-between in
          words-left q last holds-between space first o named left z key (λ i. out (In-right key (keys_there z) (page_keys space first z) i))
          ∙ words-entered back p q r.holds new fit (free-now p new free-new) m is z key
          (λ i. out (In-left key (keys_there z) (page_keys space first z) (subst (In key) (keys-same z) i)))

      moved-row : SteppedRow command p (compared keys last) m
      unfolding row_state changed
      moved-row =
          let c : ComparedRow p (compared keys last) after now = compared-row p last r after holds beside keys words back now ways in
          let m2 : Cached Section = sections_in p.middle.cache in
          let g1 : Cached Section = sections_in p.large.cache in
          let F : Option Leaf → TableState = λ d. state_made (rules_in p) leaves (ways_in p) m2 g1 (loads_in p.tables) (with_new (at_page to d) (without_old d leaves)) (ways_taken command d came) in
          let C : TableState → Type 0 = λ t. IsChange command (row_state p) (made_answer m2 g1 m t) t in
          let whole : C (F (leaf_named space first o leaves)) =
          made command (rules_in p) leaves (ways_in p) m2 g1 (loads_in p.tables) new (table_of new.order q).ways (table_of new.order q).moved m (ap (at_page to) n.named)
          (room-moved (rules_in p) (ways_in p) leaves space first to o n.leaf n.named ∙ entered-room p q new m is) is.placed in
          record {
            row = c.row;
            fewer = c.items;
            changes = answered command p (compared keys last) m (state_made (rules_in p) leaves (ways_in p) m2 g1 (loads_in p.tables) after now) c.state (subst C (ap F n.named) whole);
          }

      -- what the code makes of it
      moved-by : (one two end : RowParts) → one ≡ compared (keys_moved o last) last → two ≡ compared (page_keys space to) one
          → end ≡ compared (page_keys space first) two → SteppedRow command p end m
      moved-by one two end e f h =
          let mid : two ≡ compared keys_there last = f ∙ ap (compared (page_keys space to)) e ∙ compared-twice (keys_moved o last) (page_keys space to) last in
          subst (λ z. SteppedRow command p z m) (sym (h ∙ ap (compared (page_keys space first)) mid ∙ compared-twice keys_there (page_keys space first) last)) moved-row

pub leaf_of_page-requires : goal.leaf_of_page-requires
leaf_of_page-requires g c =
    let a = c.args in
    (lit< tt, (c.requires.whole, named-page a.parts.now a.space a.first a.order (named-leaf c.words_read_back.ensures a.parts.now c.requires.whole a.space a.first a.order c.requires.named)))

pub unreachable-requires : goal.unreachable-requires
unreachable-requires g c =
    let a = c.args in
    let n : NamedLeaf a.parts.now a.space a.first a.order = named-leaf c.words_read_back.ensures a.parts.now c.requires.whole a.space a.first a.order c.requires.named in
    let bad : None ≡ Some n.leaf = sym c.in-None.is ∙ c.leaf_of_page.ensures ∙ named-found a.parts.now c.requires.whole a.space a.first a.order n in
    absurd (cc)

pub enter-requires : goal.enter-requires
enter-requires g c =
    let a = c.args in
    let valid = valid-new c.words_read_back.ensures a.parts.now c.requires.whole a.space a.first a.to a.order
    (found-leaf c.words_read_back.ensures a.parts.now c.requires.whole a.space a.first a.order c.requires.named c.leaf_of_page.result c.in-Some.old c.leaf_of_page.ensures c.in-Some.is)
    c.requires.block c.requires.free in
    let free = free-new c.words_read_back.ensures a.parts.now c.requires.whole a.space a.first a.to a.order
    (found-leaf c.words_read_back.ensures a.parts.now c.requires.whole a.space a.first a.order c.requires.named c.leaf_of_page.result c.in-Some.old c.leaf_of_page.ensures c.in-Some.is)
    c.requires.block c.requires.free in
    (lit< tt, (c.requires.whole, (valid, free)))

pub leave-requires : goal.leave-requires
leave-requires g c =
    let a = c.args in
    let holds = holds-between c.words_read_back.ensures a.parts.now c.requires.whole a.space a.first a.to a.order
    (found-leaf c.words_read_back.ensures a.parts.now c.requires.whole a.space a.first a.order c.requires.named c.leaf_of_page.result c.in-Some.old c.leaf_of_page.ensures c.in-Some.is)
    c.requires.block c.requires.free c.enter.new.parts c.in-Ok.moves c.in-Ok.ensures.made in
    let named = named-between c.words_read_back.ensures a.parts.now c.requires.whole a.space a.first a.to a.order
    (found-leaf c.words_read_back.ensures a.parts.now c.requires.whole a.space a.first a.order c.requires.named c.leaf_of_page.result c.in-Some.old c.leaf_of_page.ensures c.in-Some.is)
    c.requires.block c.requires.free c.enter.new.parts c.in-Ok.moves c.in-Ok.ensures.made in
    (lit< tt, (holds, named))

pub refresh_displaced-requires : goal.refresh_displaced-requires
refresh_displaced-requires g c =
    let holds = c.leave.ensures.holds in
    (lit< tt, (few-ways c.leave.new.parts _ holds order.M2, few-ways c.leave.new.parts _ holds order.G1))

pub refresh_leaf-requires : goal.refresh_leaf-requires
refresh_leaf-requires g c =
    let a = c.args in
    let few : RowParts → Type 0 = λ q. (length q.tables.m2.ways ≤ 4) × (length q.tables.g1.ways ≤ 4) in
    let w = subst few (sym c.refresh_displaced.ensures) (few-ways c.leave.new.parts _ c.leave.ensures.holds order.M2, few-ways c.leave.new.parts _ c.leave.ensures.holds order.G1) in
    (lit< tt, (w.0, (w.1, block-parts a.parts.now a.space a.to a.order c.requires.block)))

pub refresh_leaf-requires-in-Ok : goal.refresh_leaf-requires-in-Ok
refresh_leaf-requires-in-Ok g c =
    let a = c.args in
    let n : NamedLeaf a.parts.now a.space a.first a.order = named-leaf c.words_read_back.ensures a.parts.now c.requires.whole a.space a.first a.order c.requires.named in
    let few : RowParts → Type 0 = λ q. (length q.tables.m2.ways ≤ 4) × (length q.tables.g1.ways ≤ 4) in
    let v = subst few (sym c.refresh_displaced.ensures) (few-ways c.leave.new.parts _ c.leave.ensures.holds order.M2, few-ways c.leave.new.parts _ c.leave.ensures.holds order.G1) in
    let w = subst few (sym c.refresh_leaf.ensures) v in
    (lit< tt, (w.0, (w.1, (n.space_in, n.page_in))))

pub overflow_sub-before : goal.overflow_sub-before
overflow_sub-before g c =
    let a = c.args in
    less-cached (Relocate a.space a.first a.to a.order) a.parts.now c.refresh_leaf-in-Ok.new.parts c.in-Ok.moves c.cached-before.result c.cached.result
    (moved-by c.words_read_back.ensures a.parts.now c.requires.whole a.space a.first a.to a.order
    (found-leaf c.words_read_back.ensures a.parts.now c.requires.whole a.space a.first a.order c.requires.named c.leaf_of_page.result c.in-Some.old c.leaf_of_page.ensures c.in-Some.is)
    c.requires.block c.requires.free c.enter.new.parts c.in-Ok.moves c.in-Ok.ensures.made c.leave.new.parts c.leave.ensures
    c.refresh_displaced.new.parts c.refresh_leaf.new.parts c.refresh_leaf-in-Ok.new.parts c.refresh_displaced.ensures c.refresh_leaf.ensures c.refresh_leaf-in-Ok.ensures)
    c.cached-before.ensures.is c.cached.ensures.is

pub returns-in-Err-clause-changes : goal.returns-in-Err-clause-changes
returns-in-Err-clause-changes g c =
    let a = c.args in
    moved-refused c.words_read_back.ensures a.parts.now c.requires.whole a.space a.first a.to a.order
    (found-leaf c.words_read_back.ensures a.parts.now c.requires.whole a.space a.first a.order c.requires.named c.leaf_of_page.result c.in-Some.old c.leaf_of_page.ensures c.in-Some.is)
    c.requires.block c.requires.free c.enter.new.parts c.in-Err.refused c.in-Err.ensures.refused

stepped : (g : Over) (c : goal.After-work g) → SteppedRow (Relocate c.args.space c.args.first c.args.to c.args.order) c.args.parts.now c.refresh_leaf-in-Ok.new.parts c.in-Ok.moves
stepped g c =
    let a = c.args in
    moved-by c.words_read_back.ensures a.parts.now c.requires.whole a.space a.first a.to a.order
    (found-leaf c.words_read_back.ensures a.parts.now c.requires.whole a.space a.first a.order c.requires.named c.leaf_of_page.result c.in-Some.old c.leaf_of_page.ensures c.in-Some.is)
    c.requires.block c.requires.free c.enter.new.parts c.in-Ok.moves c.in-Ok.ensures.made c.leave.new.parts c.leave.ensures
    c.refresh_displaced.new.parts c.refresh_leaf.new.parts c.refresh_leaf-in-Ok.new.parts c.refresh_displaced.ensures c.refresh_leaf.ensures c.refresh_leaf-in-Ok.ensures

pub returns-in-Ok-clause-whole : goal.returns-in-Ok-clause-whole
returns-in-Ok-clause-whole g c = (stepped g c).row

pub returns-in-Ok-clause-changes : goal.returns-in-Ok-clause-changes
returns-in-Ok-clause-changes g c =
    counted-row (Relocate c.args.space c.args.first c.args.to c.args.order) c.args.parts.now c.refresh_leaf-in-Ok.new.parts c.in-Ok.moves c.cached-before.result c.cached.result c.work.result
    (stepped g c) c.cached-before.ensures.is c.cached.ensures.is c.work.ensures
