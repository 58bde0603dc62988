-- Nothing is stale: what every event keeps of arrays and caches.
use Rattle.xl_model_laws.proofs.Common.{◌*◌, ◌+◌, ◌-◌, ◌<◌, ◌∷◌, ◌≡◌, ◌≤◌, [], accessed, after_by, after_event, after_rule, Answer, answer_by, answer_of, arith, Bool, brought, Caches, caches_fenced, caches_purged, CachesFresh, Chained, Change, change_of, changed, changed_by, changed_where, count_look, covers, Cuckoo, CuckooRules, CuckooWays, empty_caches, Event, false, fenced, fills_m2, find, find-In, finds_place, has_room, holds_page, In, in_nodes, is_canonical, is_page_section, is_some, IsFound, IsMapping, IsSound, kept-sound, Kind, Leaf, leaf_at_page, length, level-low, level_of, levels_of, List, looked, looked_by, looked_where, Made, Mode, NoCaches, Node, NodeCaches, None, NoPlace, NoSpace, not, Numbered, old_leaf, only_needed, opening, opening_caches, opening_nodes, opening_shape, Option, Order, page_of, pages_of, purged_at, Radix, Range, range_walk_by, RangeCache, ranges_of, reach_of, reaches_leaf, reaches_range, reaches_space, refl, Refusal, Row, RowState, rule, Runs, same_order, section_caches, section_of_page, SectionCaches, served, Shape, shape_after, Some, sound-of, start_level, subst, suc, sym, Table, table_after, table_answer, table_fenced, table_made, table_walked, TagsFresh, true, Verdict, verdict, walk_filled, walk_made, walked, ways_brought, ways_taken, widened, zero, ℕ}
use Rattle.xl_model.specs.declared.event.Reach.{Reach}
use Rattle.xl_model_lemmas.proofs.CoverLemmas.{found-leaf}
use Rattle.xl_model_lemmas.proofs.FreshArrayLemmas.{changed-fresh, filled-fresh, hit-fresh, opening-fresh, without-fresh}
use Rattle.xl_model_lemmas.proofs.FreshSectionLemmas.{section-after, section-fenced, section-refused, section-some, section-walked}
use Rattle.xl_model_lemmas.specs.Fresh.{ArraysFresh, has_leaves}
use Rattle.xl_model_laws.proofs.AfterLemmas.{chained-after, cuckoo-after, path-room, radix-after, runs-after}
use Rattle.xl_model_laws.proofs.CapLemmas.{refused-same}
use Rattle.xl_model_laws.proofs.FreshNodeLemmas.{full-after, NodesFull, same-length, tags-after, tags-fenced, tags-walked, wide, without-few}
use Rattle.xl_model_laws.proofs.FreshRangeLemmas.{range-after, range-fenced, range-filled, range-touched, ranges-fresh}
use Rattle.xl_model_laws.proofs.LeafLemmas.{opening-mapping}
use Rattle.xl_model_laws.proofs.RunLemmas.{Keeps, run-keeps}
use Rattle.xl_model_laws.proofs.TableRunLemmas.{caps-placed, made-room}
use Rattle.xl_model_laws.specs.Fresh.{NothingIsStale}
use Rattle.xl_model.specs.declared.address.Mode.TheVariants as mode
use Rattle.xl_model.specs.declared.address.Order.TheVariants as order
use Rattle.xl_model.specs.declared.event.Event.TheVariants as event
use Rattle.xl_model.specs.declared.row.Table.TheVariants as table

-- what a table keeps: its caches are fresh; of a radix table every needed node is there, and no cache is the root's
ShapeFull : Shape → Caches → List Leaf → Type 0
ShapeFull (Radix levels spaces nodes) (NodeCaches cs) leaves = NodesFull levels leaves nodes × (length cs < levels)
ShapeFull shape kept leaves = Unit {0}

-- what is known of every leaf
all-known : (row : Row) (leaves : List Leaf) → IsMapping row leaves → (x : Leaf) → In x leaves → In x leaves × ((e : ℕ) × (x.first ≡ e * pages_of x.order))
all-known row leaves m x i = (i, (m.valid x i).pages_aligned)

-- a section that is filled has leaves
middle-some : (space page : ℕ) (leaves : List Leaf) (ways : CuckooWays) (found : Option Leaf) → ((leaf : Leaf) → found ≡ Some leaf → IsFound space page leaves leaf)
    → fills_m2 found ≡ true → has_leaves (section_of_page order.M2 space page leaves ways) ≡ true
middle-some space page leaves ways None is fills = absurd (cc)
middle-some space page leaves ways (Some leaf) is fills = section-some order.M2 space page leaves ways leaf (is leaf refl) (small leaf.order fills)
  where
    small : (o : Order) → not (same_order o order.G1) ≡ true → level_of o ≤ 1
    small order.K4 h = omega arith
    small order.M2 h = omega arith
    small order.G1 h = absurd (cc)

large-some : (space page : ℕ) (leaves : List Leaf) (ways : CuckooWays) (found : Option Leaf) → ((leaf : Leaf) → found ≡ Some leaf → IsFound space page leaves leaf)
    → is_some found ≡ true → has_leaves (section_of_page order.G1 space page leaves ways) ≡ true
large-some space page leaves ways None is fills = absurd (cc)
large-some space page leaves ways (Some leaf) is fills = section-some order.G1 space page leaves ways leaf (is leaf refl) (level-low leaf.order)

-- a walk
walk-fresh : (row : Row) (space page : ℕ) (leaves : List Leaf) (shape : Shape) (kept : Caches) → IsMapping row leaves → CachesFresh shape kept leaves → ShapeFull shape kept leaves
    → CachesFresh shape (walked shape kept leaves space page).caches leaves × ShapeFull shape (walked shape kept leaves space page).caches leaves
unfolding walked ShapeFull
walk-fresh row space page leaves (Radix levels spaces nodes) (NodeCaches cs) m fresh (full, few) =
    let same : length cs + 0 ≡ length cs = omega arith in (
      tags-walked levels 0 (start_level 0 space page cs) (leaf_at_page space page leaves) space page leaves nodes cs full (found-leaf row space page leaves m) (omega arith) fresh,
      (full, let e = same-length levels 0 (start_level 0 space page cs) (leaf_at_page space page leaves) space page nodes cs in omega arith),
    )
walk-fresh row space page leaves (Radix levels spaces nodes) (SectionCaches m2 g1) m fresh full = (tt, tt)
walk-fresh row space page leaves (Radix levels spaces nodes) (RangeCache c) m fresh full = (tt, tt)
walk-fresh row space page leaves (Radix levels spaces nodes) NoCaches m fresh full = (tt, tt)
walk-fresh row space page leaves (Chained group buckets entries tags) kept m fresh full = chained kept
  where
    chained : (c : Caches) → CachesFresh (Chained group buckets entries tags) c leaves × ShapeFull (Chained group buckets entries tags) c leaves
    chained (NodeCaches cs) = (tt, tt)
    chained (SectionCaches m2 g1) = (tt, tt)
    chained (RangeCache c) = (tt, tt)
    chained NoCaches = (tt, tt)
walk-fresh row space page leaves (Cuckoo rules ways) (NodeCaches cs) m fresh full = (tt, tt)
walk-fresh row space page leaves (Cuckoo rules ways) (SectionCaches m2 g1) m (a, b) full = (
  (
    section-walked order.M2 space page leaves ways (fills_m2 (leaf_at_page space page leaves)) (find (is_page_section order.M2 space page) m2.items) m2
        (middle-some space page leaves ways (leaf_at_page space page leaves) (found-leaf row space page leaves m)) a,
    section-walked order.G1 space page leaves ways (is_some (leaf_at_page space page leaves)) (find (is_page_section order.G1 space page) g1.items) g1
        (large-some space page leaves ways (leaf_at_page space page leaves) (found-leaf row space page leaves m)) b,
  ),
  tt,
)
walk-fresh row space page leaves (Cuckoo rules ways) (RangeCache c) m fresh full = (tt, tt)
walk-fresh row space page leaves (Cuckoo rules ways) NoCaches m fresh full = (tt, tt)
walk-fresh row space page leaves (Runs limit) (NodeCaches cs) m fresh full = (tt, tt)
walk-fresh row space page leaves (Runs limit) (SectionCaches m2 g1) m fresh full = (tt, tt)
walk-fresh row space page leaves (Runs limit) (RangeCache c) m fresh full = go (find (holds_page space page) c.items)
  where
    go : (hit : Option Range) → CachesFresh (Runs limit) (range_walk_by hit (ranges_of leaves) c space page).caches leaves
        × ShapeFull (Runs limit) (range_walk_by hit (ranges_of leaves) c space page).caches leaves
    go (Some hit) = (range-touched (holds_page space page) leaves c fresh, tt)
    go None = (
      range-filled leaves (find (holds_page space page) (ranges_of leaves)) c
          (λ r h. ranges-fresh leaves leaves (all-known row leaves m) r (find-In (holds_page space page) r (ranges_of leaves) h)) fresh,
      tt,
    )
walk-fresh row space page leaves (Runs limit) NoCaches m fresh full = (tt, tt)

-- a shape and its caches after a change that is made
AfterFresh : Change → List Leaf → Shape → Caches → Shape → Type 0
AfterFresh c leaves before kept after =
    CachesFresh after (caches_purged c leaves before after kept) (changed c leaves) × ShapeFull after (caches_purged c leaves before after kept) (changed c leaves)

made-radix : (row : Row) (c : Change) (leaves : List Leaf) (levels spaces : ℕ) (nodes : List (Option Node)) (kept : Caches)
    → has_room c leaves (Radix levels spaces nodes) ≡ true → CachesFresh (Radix levels spaces nodes) kept leaves → ShapeFull (Radix levels spaces nodes) kept leaves
    → AfterFresh c leaves (Radix levels spaces nodes) kept (Radix levels spaces (only_needed levels (changed c leaves) (wide levels (brought c leaves) nodes)))
unfolding AfterFresh ShapeFull caches_purged has_room
made-radix row c leaves levels spaces nodes (NodeCaches cs) room fresh (full, few) = (
  tags-after levels 0 c leaves nodes cs fresh,
  (full-after levels c leaves nodes full (path-room (brought c leaves) c leaves levels spaces nodes room), without-few _ cs levels few),
)
made-radix row c leaves levels spaces nodes (SectionCaches m2 g1) room fresh full = (tt, tt)
made-radix row c leaves levels spaces nodes (RangeCache k) room fresh full = (tt, tt)
made-radix row c leaves levels spaces nodes NoCaches room fresh full = (tt, tt)

made-cuckoo : (c : Change) (leaves : List Leaf) (rules : CuckooRules) (ways new_ways : CuckooWays) (kept : Caches) → CachesFresh (Cuckoo rules ways) kept leaves
    → AfterFresh c leaves (Cuckoo rules ways) kept (Cuckoo rules new_ways)
unfolding AfterFresh ShapeFull caches_purged
made-cuckoo c leaves rules ways new_ways (NodeCaches cs) fresh = (tt, tt)
made-cuckoo c leaves rules ways new_ways (SectionCaches m2 g1) (a, b) =
    ((section-after order.M2 leaves ways (changed c leaves) new_ways m2 a, section-after order.G1 leaves ways (changed c leaves) new_ways g1 b), tt)
made-cuckoo c leaves rules ways new_ways (RangeCache k) fresh = (tt, tt)
made-cuckoo c leaves rules ways new_ways NoCaches fresh = (tt, tt)

made-runs : (row : Row) (c : Change) (leaves : List Leaf) (limit : ℕ) (kept : Caches) → IsMapping row leaves → IsSound row leaves c → CachesFresh (Runs limit) kept leaves
    → AfterFresh c leaves (Runs limit) kept (Runs limit)
unfolding AfterFresh ShapeFull caches_purged
made-runs row c leaves limit (NodeCaches cs) m s fresh = (tt, tt)
made-runs row c leaves limit (SectionCaches m2 g1) m s fresh = (tt, tt)
made-runs row c leaves limit (RangeCache k) m s fresh = (range-after row c leaves k m s fresh, tt)
made-runs row c leaves limit NoCaches m s fresh = (tt, tt)

any-chained : (group buckets entries : ℕ) (tags : List ℕ) (kept : Caches) (leaves : List Leaf)
    → CachesFresh (Chained group buckets entries tags) kept leaves × ShapeFull (Chained group buckets entries tags) kept leaves
unfolding ShapeFull
any-chained group buckets entries tags (NodeCaches cs) leaves = (tt, tt)
any-chained group buckets entries tags (SectionCaches m2 g1) leaves = (tt, tt)
any-chained group buckets entries tags (RangeCache c) leaves = (tt, tt)
any-chained group buckets entries tags NoCaches leaves = (tt, tt)

made-shape : (row : Row) (c : Change) (leaves : List Leaf) (shape : Shape) (kept : Caches) → IsMapping row leaves → IsSound row leaves c → has_room c leaves shape ≡ true
    → CachesFresh shape kept leaves → ShapeFull shape kept leaves → AfterFresh c leaves shape kept (shape_after c leaves shape)
unfolding AfterFresh
made-shape row c leaves (Radix levels spaces nodes) kept m s room fresh full =
    subst (λ (z : Shape). AfterFresh c leaves (Radix levels spaces nodes) kept z) (sym (radix-after c leaves levels spaces nodes)) (made-radix row c leaves levels spaces nodes kept room fresh full)
made-shape row c leaves (Chained group buckets entries tags) kept m s room fresh full =
    let new = chained-after c leaves group buckets entries tags in
    subst (λ (z : Shape). AfterFresh c leaves (Chained group buckets entries tags) kept z) (sym new.1) (any-chained group buckets entries new.0 _ (changed c leaves))
made-shape row c leaves (Cuckoo rules ways) kept m s room fresh full =
    let P : Shape → Type 0 = λ z. AfterFresh c leaves (Cuckoo rules ways) kept z in
    subst P (sym (cuckoo-after c leaves rules ways)) (made-cuckoo c leaves rules ways (ways_taken c (old_leaf c leaves) (ways_brought rules (brought c leaves) ways)) kept fresh)
made-shape row c leaves (Runs limit) kept m s room fresh full =
    subst (λ (z : Shape). AfterFresh c leaves (Runs limit) kept z) (sym (runs-after c leaves limit)) (made-runs row c leaves limit kept m s fresh)

-- a refused attempt: the growths alone stay
refused-shape : (leaf : Option Leaf) (leaves : List Leaf) (shape : Shape) (kept : Caches) → finds_place leaf shape ≡ false
    → CachesFresh shape kept leaves → CachesFresh (widened leaf shape) kept leaves × ShapeFull (widened leaf shape) kept leaves
unfolding ShapeFull
refused-shape None leaves shape kept caps fresh = absurd (cc)
refused-shape (Some leaf) leaves (Radix levels spaces nodes) kept caps fresh = absurd (cc)
refused-shape (Some leaf) leaves (Chained group buckets entries tags) kept caps fresh = absurd (cc)
refused-shape (Some leaf) leaves (Runs limit) kept caps fresh = absurd (cc)
refused-shape (Some leaf) leaves (Cuckoo rules ways) (NodeCaches cs) caps fresh = (tt, tt)
refused-shape (Some leaf) leaves (Cuckoo rules ways) (SectionCaches m2 g1) caps (a, b) = (
  (
    section-refused order.M2 leaves ways.m2 (ways_brought rules (Some leaf) ways).m2 m2 (refused-same rules ways leaf caps order.M2) a,
    section-refused order.G1 leaves ways.g1 (ways_brought rules (Some leaf) ways).g1 g1 (refused-same rules ways leaf caps order.G1) b,
  ),
  tt,
)
refused-shape (Some leaf) leaves (Cuckoo rules ways) (RangeCache c) caps fresh = (tt, tt)
refused-shape (Some leaf) leaves (Cuckoo rules ways) NoCaches caps fresh = (tt, tt)

-- a state with all that it keeps
pub record Kept (row : Row) (s : RowState) : Type 0 where
  pub mapping : IsMapping row s.table.leaves
  pub arrays : ArraysFresh s.arrays s.table.leaves
  caches : CachesFresh s.table.shape s.table.caches s.table.leaves
  full : ShapeFull s.table.shape s.table.caches s.table.leaves

change-kept : (row : Row) (c : Change) (s : RowState) (v : Verdict) → verdict c s.table ≡ v → IsSound row s.table.leaves c → Kept row s
    → Kept row (changed_by (answer_by v c s.table) row c s)
unfolding verdict table_after table_made AfterFresh
change-kept row c s Made is sound k =
    let both = made-shape row c s.table.leaves s.table.shape s.table.caches k.mapping sound (made-room _ _ is) k.caches k.full in
    subst (λ (v : Verdict). Kept row (record s { table = after_by v c s.table; arrays = purged_at row c s; counts = (changed_by (answer_by Made c s.table) row c s).counts })) (sym is) (record {
      mapping = kept-sound row s.table.leaves c k.mapping sound;
      arrays = changed-fresh row c s.arrays s.table.leaves k.mapping sound k.arrays;
      caches = both.0;
      full = both.1;
    })
change-kept row c s NoSpace is sound k =
    let P : Verdict → Type 0 = λ v. Kept row (record s { table = after_by v c s.table; counts = (changed_by (answer_by NoSpace c s.table) row c s).counts }) in
    subst P (sym is) (record { mapping = k.mapping; arrays = k.arrays; caches = k.caches; full = k.full })
change-kept row c s NoPlace is sound k =
    let both = refused-shape (brought c s.table.leaves) s.table.leaves s.table.shape s.table.caches (caps-placed _ _ is) k.caches in
    let P : Verdict → Type 0 = λ v. Kept row (record s { table = after_by v c s.table; counts = (changed_by (answer_by NoPlace c s.table) row c s).counts }) in
    subst P (sym is) (record { mapping = k.mapping; arrays = k.arrays; caches = both.0; full = both.1 })

changed-kept : (row : Row) (c : Option Change) (s : RowState) → ((d : Change) → c ≡ Some d → IsSound row s.table.leaves d) → Kept row s → Kept row (changed_where c row s)
unfolding table_answer
changed-kept row None s sound k = k
changed-kept row (Some c) s sound k = change-kept row c s (verdict c s.table) refl (sound c refl) k

-- an access
filled-kept : (row : Row) (kind : Kind) (found : Option Leaf) (s : RowState) → ((leaf : Leaf) → found ≡ Some leaf → In leaf s.table.leaves)
    → Kept row s → Kept row (walk_filled kind found s)
filled-kept row kind None s known k = k
filled-kept row kind (Some leaf) s known k = record {
  mapping = k.mapping;
  arrays = filled-fresh kind s.arrays s.table.leaves leaf k.arrays (known leaf refl);
  caches = k.caches;
  full = k.full;
}

walked-kept : (row : Row) (space page : ℕ) (s : RowState) → Kept row s → Kept row (walk_made space page s)
unfolding table_walked
walked-kept row space page s k =
    let both = walk-fresh row space page s.table.leaves s.table.shape s.table.caches k.mapping k.caches k.full in
    record { mapping = k.mapping; arrays = k.arrays; caches = both.0; full = both.1 }

looked-kept : (row : Row) (kind : Kind) (answer : Option Answer) (page : ℕ) (s : RowState) → answer_of kind s.arrays s.space page ≡ answer
    → Kept row s → Kept row (looked_by kind answer page s)
unfolding table_walked leaf_at_page
looked-kept row kind (Some answer) page s is k = record {
  mapping = k.mapping;
  arrays = hit-fresh kind s.arrays s.table.leaves s.space page answer k.arrays is;
  caches = k.caches;
  full = k.full;
}
looked-kept row kind None page s is k =
    let t : RowState = record s { counts = count_look kind None s.space page s.arrays s.counts } in
    let kt : Kept row t = record { mapping = k.mapping; arrays = k.arrays; caches = k.caches; full = k.full } in
    filled-kept row kind (find (covers s.space page) s.table.leaves) (walk_made s.space page t)
    (λ leaf h. find-In (covers s.space page) leaf s.table.leaves h)
    (walked-kept row s.space page t kt)

where-kept : (row : Row) (canonical : Bool) (kind : Kind) (page : ℕ) (s : RowState) → Kept row s → Kept row (looked_where canonical kind page s)
unfolding looked
where-kept row true kind page s k = looked-kept row kind (answer_of kind s.arrays s.space page) page s refl k
where-kept row false kind page s k = k

accessed-kept : (row : Row) (va : ℕ) (kind : Kind) (s : RowState) → Kept row s → Kept row (accessed row va kind s)
unfolding accessed
accessed-kept row va kind s k =
    let after = where-kept row (is_canonical row.mode va) kind (page_of row.mode va) s k in
    record { mapping = after.mapping; arrays = after.arrays; caches = after.caches; full = after.full }

-- a fence
fence-fresh : (to : Reach) (leaves : List Leaf) (shape : Shape) (kept : Caches) → CachesFresh shape kept leaves → ShapeFull shape kept leaves
    → CachesFresh shape (caches_fenced to kept) leaves × ShapeFull shape (caches_fenced to kept) leaves
unfolding caches_fenced ShapeFull
fence-fresh to leaves (Radix levels spaces nodes) (NodeCaches cs) fresh (full, few) =
    (tags-fenced (λ e. reaches_space to e.node.space) levels 0 leaves nodes cs fresh, (full, without-few (λ (x : Numbered). reaches_space to x.node.space) cs levels few))
fence-fresh to leaves (Radix levels spaces nodes) (SectionCaches m2 g1) fresh full = (tt, tt)
fence-fresh to leaves (Radix levels spaces nodes) (RangeCache c) fresh full = (tt, tt)
fence-fresh to leaves (Radix levels spaces nodes) NoCaches fresh full = (tt, tt)
fence-fresh to leaves (Chained group buckets entries tags) kept fresh full = any-chained group buckets entries tags (caches_fenced to kept) leaves
fence-fresh to leaves (Cuckoo rules ways) (NodeCaches cs) fresh full = (tt, tt)
fence-fresh to leaves (Cuckoo rules ways) (SectionCaches m2 g1) (a, b) full =
    ((section-fenced (λ s. reaches_space to s.space) order.M2 leaves ways.m2 m2 a, section-fenced (λ s. reaches_space to s.space) order.G1 leaves ways.g1 g1 b), tt)
fence-fresh to leaves (Cuckoo rules ways) (RangeCache c) fresh full = (tt, tt)
fence-fresh to leaves (Cuckoo rules ways) NoCaches fresh full = (tt, tt)
fence-fresh to leaves (Runs limit) (NodeCaches cs) fresh full = (tt, tt)
fence-fresh to leaves (Runs limit) (SectionCaches m2 g1) fresh full = (tt, tt)
fence-fresh to leaves (Runs limit) (RangeCache c) fresh full = (range-fenced (reaches_range to) leaves c fresh, tt)
fence-fresh to leaves (Runs limit) NoCaches fresh full = (tt, tt)

fenced-kept : (row : Row) (to : Reach) (s : RowState) → Kept row s → Kept row (fenced to s)
unfolding fenced table_fenced
fenced-kept row to s k =
    let both = fence-fresh to s.table.leaves s.table.shape s.table.caches k.caches k.full in
    record { mapping = k.mapping; arrays = without-fresh (reaches_leaf to) s.arrays s.table.leaves k.arrays; caches = both.0; full = both.1 }

served-kept : (row : Row) (e : Event) (s : RowState) → rule row s.table.leaves e ≡ None → Kept row s → Kept row (served row e s)
unfolding served
served-kept row (event.Access va kind) s ruled k = accessed-kept row va kind s k
served-kept row (event.Map space va o perm) s ruled k = changed-kept row (change_of row s.table.leaves (event.Map space va o perm)) s (λ c known. sound-of row s.table.leaves (event.Map space va o perm) c ruled known) k
served-kept row (event.Unmap space va o) s ruled k = changed-kept row (change_of row s.table.leaves (event.Unmap space va o)) s (λ c known. sound-of row s.table.leaves (event.Unmap space va o) c ruled known) k
served-kept row (event.Protect space va o perm) s ruled k = changed-kept row (change_of row s.table.leaves (event.Protect space va o perm)) s (λ c known. sound-of row s.table.leaves (event.Protect space va o perm) c ruled known) k
served-kept row (event.Move space from to o) s ruled k = changed-kept row (change_of row s.table.leaves (event.Move space from to o)) s (λ c known. sound-of row s.table.leaves (event.Move space from to o) c ruled known) k
served-kept row (event.Space space) s ruled k = record { mapping = k.mapping; arrays = k.arrays; caches = k.caches; full = k.full }
served-kept row (event.Fence to) s ruled k = fenced-kept row (reach_of row to) s k

ruled-kept : (row : Row) (e : Event) (s : RowState) (q : Option Refusal) → rule row s.table.leaves e ≡ q → Kept row s → Kept row (after_rule q row e s)
ruled-kept row e s (Some r) ruled k = record { mapping = k.mapping; arrays = k.arrays; caches = k.caches; full = k.full }
ruled-kept row e s None ruled k = served-kept row e s ruled k

pub event-kept : (row : Row) → Keeps row (Kept row)
unfolding after_event
event-kept row e s k = ruled-kept row e s (rule row s.table.leaves e) refl k

-- the opening state
empty-tags : (levels level n : ℕ) (nodes : List (Option Node)) (widths : List ℕ) → TagsFresh levels level [] nodes (empty_caches n widths)
empty-tags levels level zero nodes widths = tt
empty-tags levels level (suc n) nodes [] = tt
empty-tags levels level (suc n) nodes (w ∷ widths) = (λ e i. absurd i, empty-tags levels (level + 1) n nodes widths)

empty-few : (n : ℕ) (widths : List ℕ) → length (empty_caches {A = Numbered} n widths) ≤ n
empty-few zero widths = omega arith
empty-few (suc n) [] = omega arith
empty-few (suc n) (w ∷ widths) = let e : length (empty_caches {A = Numbered} n widths) ≤ n = empty-few n widths in omega arith

opening-table : (levels spaces : ℕ) (t : Table) → 0 < levels
    → CachesFresh (opening_shape levels spaces t) (opening_caches levels t) [] × ShapeFull (opening_shape levels spaces t) (opening_caches levels t) []
unfolding opening_shape opening_caches ShapeFull in_nodes
opening-table levels spaces (table.Radix frames widths) positive = (
  empty-tags levels 0 (levels - 1) (opening_nodes levels spaces frames) widths,
  (
    record { full = λ space l block need below. absurd (cc) },
    let e : length (empty_caches {A = Numbered} (levels - 1) widths) ≤ levels - 1 = empty-few (levels - 1) widths in omega arith,
  ),
)
opening-table levels spaces (table.Hashed buckets entries) positive = (tt, tt)
opening-table levels spaces (table.Clustered buckets blocks) positive = (tt, tt)
opening-table levels spaces (table.Cuckoo ways start cap threshold kick_limit migrate sections_2m sections_1g widths) positive = sections widths
  where
    shape : Shape
    shape = opening_shape levels spaces (table.Cuckoo ways start cap threshold kick_limit migrate sections_2m sections_1g widths)

    sections : (ws : List ℕ) → CachesFresh shape (section_caches ws) [] × ShapeFull shape (section_caches ws) []
    sections [] = ((λ s i. absurd i, λ s i. absurd i), tt)
    sections (a ∷ []) = ((λ s i. absurd i, λ s i. absurd i), tt)
    sections (a ∷ b ∷ ws) = ((λ s i. absurd i, λ s i. absurd i), tt)
opening-table levels spaces (table.Range ranges width) positive = (λ r i. absurd i, tt)

levels-positive : (m : Mode) → 0 < levels_of m
levels-positive mode.Sv39 = omega arith
levels-positive mode.Sv48 = omega arith
levels-positive mode.Sv57 = omega arith

pub opening-kept : (row : Row) → Kept row (opening row)
unfolding opening
opening-kept row =
    let both = opening-table (levels_of row.mode) row.spaces row.table (levels-positive row.mode) in
    record { mapping = opening-mapping row; arrays = opening-fresh row.tlb []; caches = both.0; full = both.1 }

pub nothing_is_stale : NothingIsStale
nothing_is_stale row items =
    let k = run-keeps row (Kept row) (event-kept row) (opening-kept row) items in
    record { arrays = k.arrays; caches = k.caches }
