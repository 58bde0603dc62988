use Rattle.xl_cuckoo_walk.proofs.Common.{◌%◌, ◌+◌, ◌-◌, ◌/◌, ◌<◌, ◌==◌, ◌^◌, ◌||◌, ◌∙◌, ◌∷◌, ◌≡◌, ◌≤◌, [], ap, AreTied, arith, Bool, Cached, Change, cond, Count, count_of, counts_of, CuckooState, CuckooWays, entries_in, Entry, false, frame-back, given_word, has_key, holder_from, is_held, IsChange, IsRow, IsSome, Leaf, leaf_entry, leaf_word, leaves_of_ways, length, length-map, List, list_any, lit<, loads_in, MadeWordsReadBack, map, nat_tests, no_moves, None, Ok, once-reworded, Order, order_of, page_key, Perm, Protect, refl, reworded, row_state, RowParts, rules_in, rules_of, Section, sections_in, Size, SizeParts, Some, StaysBeside, subst, sym, table_of, tally, tally-same, true, value_of, ways-reworded, ways_in, ways_of, WayShape, with_leaf, with_table, with_ways, with_word, with_word_in, without_leaf, work_of, ℕ}
use Rattle.xl_cuckoo_walk.proofs.ComparedLemmas.{compared-row, ComparedRow, WordsStay}
use Rattle.xl_cuckoo_walk.proofs.CountLemmas.{tied-given}
use Rattle.xl_cuckoo_walk.proofs.HoldLemmas.{beside-now, holds-changed, IsTableFor, low-key}
use Rattle.xl_cuckoo_walk.proofs.IndexLemmas.{each-way, size-stays, ways-table, with-ways-in}
use Rattle.xl_cuckoo_walk.proofs.RowLemmas.{give-leaf}
use Rattle.xl_cuckoo_walk.proofs.StepLemmas.{answered, items_of, named-leaf, NamedLeaf}
use Rattle.xl_model.proofs.CodeLemmas.{word-some}
use Rattle.xl_cuckoo_walk.proofs.ValueLemmas.{tally-In}
use Rattle.xl_cuckoo_walk.proofs.VerdictLemmas.{given, state_made}
use Rattle.xl_cuckoo_walk.proofs.WordsLemmas.{word-same}
use Rattle.xl_cuckoo_walk.proofs.protect.protect_leaf.Given.{Over}
use Rattle.xl_cuckoo_walk.proofs.protect.protect_leaf.Goals as goal

-- another word moves no key
kept-key : (k word : ℕ) (e : Entry) (b : Bool) → has_key k (cond b (record e { word = word }) e) ≡ has_key k e
kept-key k word e true = refl
kept-key k word e false = refl

any-reworded : (k key word : ℕ) (es : List Entry) → list_any (has_key k) (map (reworded key word) es) ≡ list_any (has_key k) es
any-reworded k key word [] = refl
any-reworded k key word (e ∷ es) =
    ap (λ b. b || list_any (has_key k) (map (reworded key word) es)) (kept-key k word e (e.key == key)) ∙ ap (λ b. has_key k e || b) (any-reworded k key word es)

holder-reworded : (i k key word : ℕ) (ways : List WayShape) → holder_from i (map (with_word key word) ways) k ≡ holder_from i ways k
unfolding with_word
holder-reworded i k key word [] = refl
holder-reworded i k key word (w ∷ ways) =
    ap (λ b. cond b (Some i) (holder_from (i + 1) (map (with_word key word) ways) k)) (any-reworded k key word w.entries)
    ∙ ap (λ h. cond (is_held w k) (Some i) h) (holder-reworded (i + 1) k key word ways)

none-left : (m n : ℕ) → n ≡ m → m - n ≡ 0
none-left m n e = omega arith

-- the row after a change that costs nothing
record GivenRow (c : Change) (p after : RowParts) : Type 0 where
  row : IsRow after
  changes : IsChange c (row_state p) (Ok (work_of no_moves 0)) (row_state after)

module _ (back : MadeWordsReadBack) (p : RowParts) (r : IsRow p) (space first : ℕ) (o : Order) (perm : Perm) (n : NamedLeaf p space first o) where
  abbrev x : Leaf
  x = n.leaf

  abbrev ws : CuckooWays
  ws = ways_in p

  abbrev leaves : List Leaf
  leaves = leaves_of_ways ws

  abbrev key : ℕ
  key = (leaf_entry x).key

  abbrev word : ℕ
  word = leaf_word x.frame perm

  abbrev after : List Leaf
  after = with_leaf (record x { perm = perm }) (without_leaf x.space x.first leaves)

  abbrev ways : List WayShape
  ways = map (with_word key word) (ways_of x.order ws)

  abbrev now : CuckooWays
  now = with_ways x.order ways ws

  abbrev table : CuckooState
  table = record (table_of x.order p) { ways = ways }

  abbrev given_parts : RowParts
  given_parts = with_table x.order table p

  rules : rules_of table ≡ rules_of (table_of x.order p)
  rules = ap (λ n. record (rules_of (table_of x.order p)) { width = n }) (length-map (ways_of x.order ws) (with_word key word) ∙ ap length (sym (ways-table x.order p)))

  is-table : IsTableFor p x.order table after
  is-table = record {
    held = give-leaf back ws leaves r.holds.held r.holds.once x perm n.there;
    keys = λ e i.
        let own : has_key e.key e ≡ true = grind (arith, nat_tests) in
        let n : 1 ≤ tally (has_key e.key) (entries_in ways) = tally-In (has_key e.key) e (entries_in ways) i own in
        let same : tally (has_key e.key) (entries_in ways) ≡ tally (has_key e.key) (entries_in (ways_of x.order ws)) =
        ways-reworded (has_key e.key) key word (ways_of x.order ws)
        ∙ tally-same (λ d. has_key e.key (reworded key word d)) (has_key e.key) (entries_in (ways_of x.order ws)) (λ d. kept-key e.key word d (d.key == key)) in
        low-key p r.holds x.order e.key (omega arith);
    once = once-reworded key word (ways_of x.order ws) (r.holds.once x.order);
    rules = rules;
  }

  tied : (z : Size) → AreTied (order_of z) after (counts_of p z)
  tied z =
      let t = r.holds.tied z in
      record { are = t.are; within = t.within; tied = tied-given (order_of z) x perm leaves (counts_of p z).counts r.holds.held.sorted n.there t.tied }

  beside : StaysBeside p given_parts
  beside = beside-now p r.holds x.order table rules refl (counts_of p) (λ z. refl)

  stay : WordsStay (λ z. []) p given_parts
  stay z k out =
      let size : Order = order_of z in
      let counts : RowParts → List Count = λ q. (counts_of q z).counts in
      word-same size k (counts p) (counts given_parts) (ways_of size ws) (ways_of size (ways_in given_parts))
      (ap (λ (s : SizeParts). count_of k s.counts.counts) (size-stays x.order table p z))
      (ap (λ us. holder_from 0 (ways_of size us) k) (with-ways-in x.order table p)
      ∙ each-way (λ q w. holder_from 0 w k ≡ holder_from 0 (ways_of q ws) k) x.order ways ws (holder-reworded 0 k key word (ways_of x.order ws)) (λ q e. refl) size)

  given-row : GivenRow (Protect space first o perm) p given_parts
  unfolding row_state
  given-row =
      let c : Change = Protect space first o perm in
      let is : ComparedRow p given_parts after now =
      compared-row p given_parts r after (holds-changed p r.holds x.order table after is-table (counts_of p) tied) beside (λ z. []) stay back now (with-ways-in x.order table p) in
      let m2 : Cached Section = sections_in p.middle.cache in
      let g1 : Cached Section = sections_in p.large.cache in
      record {
        row = is.row;
        changes = subst (λ m. IsChange c (row_state p) (Ok (work_of no_moves m)) (row_state given_parts)) (none-left (items_of p) (items_of given_parts) refl)
            (answered c p given_parts no_moves (state_made (rules_in p) leaves ws m2 g1 (loads_in p.tables) after now) is.state (given (rules_in p) space first o perm leaves ws m2 g1 (loads_in p.tables) x n.named));
      }

  -- what the code makes of it
  row-given : (k old new : ℕ) → k ≡ page_key o space first → value_of k (ways_of o ws) ≡ Some old → new ≡ given_word perm old → GivenRow (Protect space first o perm) p (with_word_in o k new p)
  row-given k old new e v w =
      let said : old ≡ leaf_word x.frame x.perm = (let s : Some old ≡ Some (leaf_word x.frame x.perm) = sym v ∙ ap (λ m. value_of m (ways_of o ws)) e ∙ n.value in cc) in
      let word_is : word ≡ new = sym (w ∙ ap (given_word perm) said ∙ ap (λ f. leaf_word f perm) (frame-back x.frame x.perm n.frame_in)) in
      let whole : given_parts ≡ with_word_in o k new p =
      ap (λ us. with_table x.order (record (table_of x.order p) { ways = map (with_word key word) us }) p) (sym (ways-table x.order p))
      ∙ ap (λ m. with_word_in m key word p) n.order_is ∙ ap (λ m. with_word_in o m word p) (n.key_is ∙ sym e) ∙ ap (λ m. with_word_in o k m p) word_is in
      subst (λ q. GivenRow (Protect space first o perm) p q) whole given-row

pub section-key-requires : goal.section-key-requires
section-key-requires g c =
    let a = c.args in
    let n = named-leaf c.words_read_back.ensures a.parts.now c.requires.whole a.space a.first a.order c.requires.named in
    record { space_in = n.space_in; page_in = n.page_in }

pub unreachable-requires : goal.unreachable-requires
unreachable-requires g c =
    let a = c.args in
    let n : NamedLeaf a.parts.now a.space a.first a.order = named-leaf c.words_read_back.ensures a.parts.now c.requires.whole a.space a.first a.order c.requires.named in
    let bad : None ≡ Some (leaf_word n.leaf.frame n.leaf.perm) =
    sym c.in-None.is ∙ c.word_in.ensures ∙ ap (λ k. value_of k (ways_of a.order (ways_in a.parts.now))) c.section-key.ensures ∙ n.value in
    absurd (cc)

pub reword-requires : goal.reword-requires
reword-requires g c =
    let a = c.args in
    let v : value_of c.section-key.result (table_of a.order a.parts.now).ways ≡ Some c.in-Some.word =
    ap (value_of c.section-key.result) (ways-table a.order a.parts.now) ∙ sym c.word_in.ensures ∙ c.in-Some.is in
    let some : IsSome (value_of c.section-key.result (table_of a.order a.parts.now).ways) = subst IsSome (sym v) refl in
    let positive : 0 < c.give_perm.result = subst (λ n. 0 < n) (sym c.give_perm.ensures) (word-some (c.in-Some.word / 1024 % 2 ^ 44) a.perm) in
    (lit< tt, (some, positive))

leaf-given : (g : Over) (c : goal.After-none g) → GivenRow (Protect c.args.space c.args.first c.args.order c.args.perm) c.args.parts.now c.reword.new.parts
leaf-given g c =
    let a = c.args in
    let n : NamedLeaf a.parts.now a.space a.first a.order = named-leaf c.words_read_back.ensures a.parts.now c.requires.whole a.space a.first a.order c.requires.named in
    subst (λ q. GivenRow (Protect a.space a.first a.order a.perm) a.parts.now q) (sym c.reword.ensures)
    (row-given c.words_read_back.ensures a.parts.now c.requires.whole a.space a.first a.order a.perm n c.section-key.result c.in-Some.word c.give_perm.result
    c.section-key.ensures (sym c.word_in.ensures ∙ c.in-Some.is) c.give_perm.ensures)

pub returns-clause-whole : goal.returns-clause-whole
returns-clause-whole g c = (leaf-given g c).row

pub returns-clause-changes : goal.returns-clause-changes
returns-clause-changes g c =
    let a = c.args in
    subst (λ w. IsChange (Protect a.space a.first a.order a.perm) (row_state a.parts.now) (Ok w) (row_state c.reword.new.parts)) (sym c.none.ensures) (leaf-given g c).changes
