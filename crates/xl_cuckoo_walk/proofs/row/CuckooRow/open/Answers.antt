use Rattle.xl_cuckoo_walk.proofs.Common.{◌%◌, ◌+◌, ◌/◌, ◌^◌, ◌∙◌, ◌∷◌, ◌≡◌, ◌≤◌, [], ap, AreCounts, AreHeld, AreTied, arith, Count, count_of, counts_of, CountState, CuckooState, CuckooWays, empty_cache, entries_in, find, get_or, has_key, In, inl, IsRow, IsTied, leaves_of_ways, leaves_under, length, List, mapping_of, None, One, opening, opening_ways, Option, Order, order_at, order_of, parts_by, refl, row_state, RowParts, rules, rules_of, sections_in, SectionsFresh, size_in, slice_index, Some, subst, sym, table_of, tags_in, tally, value_of, values_in, ways_at, ways_in, ways_of, WayShape, word_in, word_of as word_kept, word_list, ℕ}
use Rattle.xl_model_lemmas.proofs.WayTallyLemmas.{opening-length}
use Rattle.xl_cuckoo.proofs.TableLemmas.{opening-entries}
use Rattle.xl_sections.specs.Counted.{word_of}
use Rattle.xl_cuckoo_walk.proofs.IndexLemmas.{each, each-size}
use Rattle.xl_cuckoo_walk.proofs.row.CuckooRow.open.Given.{Over}
use Rattle.xl_cuckoo_walk.specs.Openings.{opening_table}
use Rattle.xl_model.specs.declared.address.Order.TheVariants as order
use Rattle.xl_cuckoo_walk.proofs.row.CuckooRow.open.Goals as goal

-- no order holds an entry
abbrev AreEmpty : CuckooWays → Type 0
AreEmpty ws = (o : Order) → entries_in (ways_of o ws) ≡ []

tags-none : (ws : CuckooWays) → AreEmpty ws → tags_in ws ≡ []
unfolding tags_in
tags-none ws none = rw (none order.K4, none order.M2, none order.G1) refl

leaves-none : (ws : CuckooWays) → AreEmpty ws → leaves_of_ways ws ≡ []
unfolding leaves_of_ways leaves_under mapping_of
leaves-none ws none = ap (λ ts. mapping_of (leaves_under One (values_in ws) ts)) (tags-none ws none)

value-none : (key : ℕ) (ways : List WayShape) → entries_in ways ≡ [] → value_of key ways ≡ None
unfolding word_kept
value-none key ways none = ap (λ es. word_in (find (has_key key) es)) none

values-none : (ws : CuckooWays) → AreEmpty ws → (tag : ℕ) → values_in ws tag ≡ []
unfolding values_in
values-none ws none tag = ap word_list (at_level (order_at (tag / 2 ^ 60)))
  where
    at_level : (q : Option Order) → value_of (tag % 2 ^ 60) (ways_at q ws) ≡ None
    at_level None = value-none (tag % 2 ^ 60) [] refl
    at_level (Some o) = value-none (tag % 2 ^ 60) (ways_of o ws) (none o)

nothing-held : (values : ℕ → List ℕ) → ((tag : ℕ) → values tag ≡ []) → AreHeld One values [] []
nothing-held values none = record {
  sorted = tt;
  fit = λ x i. absurd i;
  word = λ x i. absurd i;
  tagged = λ x i. absurd i;
  slot = λ tag i h. inl (ap (λ (vs : List ℕ). slice_index vs (0 + i)) (none tag));
  used = λ tag i. absurd i;
  apart = λ x y i. absurd i;
}

held-none : (ws : CuckooWays) → AreEmpty ws → AreHeld One (values_in ws) (tags_in ws) (leaves_of_ways ws)
held-none ws none =
    let h : AreHeld One (values_in ws) [] [] = nothing-held (values_in ws) (values-none ws none) in
    let k : AreHeld One (values_in ws) (tags_in ws) [] = subst (λ ts. AreHeld One (values_in ws) ts []) (sym (tags-none ws none)) h in
    subst (λ xs. AreHeld One (values_in ws) (tags_in ws) xs) (sym (leaves-none ws none)) k

tied-none : (size : Order) (counts : List Count) → counts ≡ [] → IsTied size [] counts
unfolding count_of word_of
tied-none size counts none key = ap (λ cs. count_of key cs) none

-- the parts of a row that is opened
abbrev opened : CuckooState → CountState → CountState → ℕ → ℕ → RowParts
opened table middle large a b =
    parts_by table table table middle large (empty_cache a) (empty_cache b)

module _ (threshold limit migrate start cap count : ℕ) (middle large : CountState) (a b : ℕ) (no_middle : middle.counts ≡ []) (no_large : large.counts ≡ []) where
  abbrev parts : RowParts
  parts = opened (opening threshold limit migrate (opening_ways start cap 0 count)) middle large a b

  empty : AreEmpty (ways_in parts)
  empty = each (λ o. entries_in (ways_of o (ways_in parts)) ≡ []) (opening-entries start cap 0 count) (opening-entries start cap 0 count) (opening-entries start cap 0 count)

  tied : (size : Order) (c : CountState) → c.counts ≡ [] → AreTied size (leaves_of_ways (ways_in parts)) c
  tied size c none = record {
    are = subst AreCounts (sym none) (record { once = tt; some = λ c i. absurd i });
    within = (let n : length c.counts ≡ 0 = ap (λ (cs : List Count). length cs) none in omega arith);
    tied = subst (λ xs. IsTied size xs c.counts) (sym (leaves-none (ways_in parts) empty)) (tied-none size c.counts none);
  }

  row-opened : count ≤ 4 → IsRow parts
  row-opened few = record {
    holds = record {
      held = held-none (ways_in parts) empty;
      keys = λ o e i. absurd (subst (λ es. In e es) (empty o) i);
      once = λ o key. let n : tally (has_key key) (entries_in (ways_of o (ways_in parts))) ≡ 0 = ap (λ es. tally (has_key key) es) (empty o) in omega arith;
      rules = each (λ o. rules_of (table_of o parts) ≡ rules_of parts.tables.k4) refl refl refl;
      few = (let n = opening-length start cap 0 count in omega arith);
      tied = each-size (λ z. AreTied (order_of z) (leaves_of_ways (ways_in parts)) (counts_of parts z)) (tied order.M2 middle no_middle) (tied order.G1 large no_large);
    };
    fresh = each-size (λ z. SectionsFresh (order_of z) (leaves_of_ways (ways_in parts)) (ways_of (order_of z) (ways_in parts)) (sections_in (size_in z parts).cache)) (λ s i. absurd i) (λ s i. absurd i);
  }

  state-opened : (few many : ℕ) (widths : List ℕ) → middle.room ≡ few → large.room ≡ many → widths ≡ a ∷ b ∷ []
      → row_state parts ≡ opening_table count start cap (record { threshold = threshold; kick_limit = limit; migrate = migrate; sections_2m = few; sections_1g = many }) widths
  unfolding row_state
  state-opened few many widths f g w = rw (leaves-none (ways_in parts) empty, f, g, w) refl

-- two widths
two-widths : (widths : List ℕ) → length widths ≡ 2 → widths ≡ get_or widths 0 0 ∷ get_or widths 1 0 ∷ []
two-widths [] h = absurd (cc)
two-widths (a ∷ []) h = absurd (cc)
two-widths (a ∷ b ∷ []) h = refl
two-widths (a ∷ b ∷ c ∷ widths) h = absurd (omega arith)

parts-opened : (g : Over) (c : goal.In_ok-large_cache g) →
    parts_by c.in_ok-k4.k4 c.in_ok-m2.m2 c.in_ok-g1.g1 c.in_ok-middle.middle c.in_ok-large.large c.in_ok-middle_cache.middle_cache c.in_ok-large_cache.large_cache
    ≡ opened (opening c.args.threshold c.args.kick_limit c.args.migrate (opening_ways c.args.start_bits c.args.cap_bits 0 g.row.D)) c.in_ok-middle.middle c.in_ok-large.large (get_or c.args.caches 0 0) (get_or c.args.caches 1 0)
parts-opened g c = rw (c.in_ok-k4.ensures, c.in_ok-m2.ensures, c.in_ok-g1.ensures, c.in_ok-middle_cache.ensures.empty, c.in_ok-large_cache.ensures.empty) refl

pub invariant_of-result : goal.invariant_of-result
invariant_of-result g c =
    subst IsRow (sym (parts-opened g c))
    (row-opened c.args.threshold c.args.kick_limit c.args.migrate c.args.start_bits c.args.cap_bits g.row.D c.in_ok-middle.middle c.in_ok-large.large (get_or c.args.caches 0 0) (get_or c.args.caches 1 0)
    c.in_ok-middle.ensures.counts c.in_ok-large.ensures.counts c.requires.ways.1)

pub returns : goal.returns
returns g c =
    let e : length c.args.caches ≡ 2 = search rules in
    ap row_state (parts-opened g c)
    ∙ state-opened c.args.threshold c.args.kick_limit c.args.migrate c.args.start_bits c.args.cap_bits g.row.D c.in_ok-middle.middle c.in_ok-large.large (get_or c.args.caches 0 0) (get_or c.args.caches 1 0)
    c.in_ok-middle.ensures.counts c.in_ok-large.ensures.counts c.args.sections_2m c.args.sections_1g c.args.caches c.in_ok-middle.ensures.room c.in_ok-large.ensures.room (two-widths c.args.caches e)
