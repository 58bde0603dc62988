-- A row with one array and the row's curve go side by side through every run.
use Rattle.xl_curve_laws.proofs.Common.{◌+◌, ◌-◌, ◌<◌, ◌∙◌, ◌∷◌, ◌≡◌, ◌≤◌, [], Answer, answer_of, ap, arith, array_filled, array_hit, array_touched, array_without, arrays_filled, arrays_hit, arrays_without, ArraysFresh, Bool, covered-is, covers, covers_as, curve_accessed, curve_missed, curve_without, false, find, find-In, find-passes, flat, found-leaf, get-In, held_in, HitCurve, hits_at, hits_of, In, inl, is_canonical, is_purged, Leaf, leaf_at_page, List, map, nat_le, nat_tests, None, opening_arrays, opening_curve, opening_point, Option, page_of, Point, point_accessed, point_without, reaches_leaf, refl, Row, same_order, second_so, serves_as, serves_kind, set_at, set_number, slice_get, slice_index_or, Some, spec_of_width, subst, suc, sym, TlbArray, true, zero, ℕ}
use Rattle.std.specs.List.{range_with_len}
use Rattle.xl_curve_model.specs.CurveRun.{Charted, charted_again, charted_demand, charted_event, charted_item, charted_items, curve_after, curve_followed, curve_looked, curve_looked_where, curve_of_run, curve_purged, old_of, unless_refused}
use Rattle.xl_model.specs.Base.{plus}
use Rattle.xl_model.specs.Changes.{Change, changed, old_leaf}
use Rattle.xl_model.specs.Items.{again_where, area_for, area_wanted, areas_after, demanded, map_of, referenced, run, state_after, states_after, wanted}
use Rattle.xl_model.specs.Room.{has_room}
use Rattle.xl_model.specs.RowRun.{accessed, after_event, after_rule, arrays_after, changed_by, changed_outcome, changed_where, fenced, looked, looked_by, looked_where, opening, outcome_after_rule, outcome_by, outcome_of, reach_of, reply_to, RowState, served, served_outcome, walk_filled}
use Rattle.xl_model.specs.Rules.{change_of, rule}
use Rattle.xl_model.specs.Shapes.{brought, Shape, shape_after, widened}
use Rattle.xl_model.specs.Structures.{after_by, answer_by, finds_place, Made, NoPlace, NoSpace, table_after, table_answer, table_fenced, table_made, table_walked, TableState, Verdict, verdict, verdict_by}
use Rattle.xl_model.specs.Tally.{count_accepted, count_fence, count_fills, count_invalidated, count_look, count_refusal, count_reply, count_walk, count_work, no_counts}
use Rattle.xl_model.specs.declared.address.Kind.{Kind}
use Rattle.xl_model.specs.declared.event.Event.{Event}
use Rattle.xl_model.specs.declared.event.Outcome.{Outcome}
use Rattle.xl_model.specs.declared.event.Reach.{Reach}
use Rattle.xl_model.specs.declared.event.Refusal.{Refusal}
use Rattle.xl_model.specs.declared.event.Scope.{Scope}
use Rattle.xl_model.specs.declared.leaf.Reply.{Reply}
use Rattle.xl_model.specs.declared.row.Counts.{Counts}
use Rattle.xl_model.specs.declared.row.Purge.{Purge}
use Rattle.xl_model.specs.declared.row.TlbSpec.{TlbSpec}
use Rattle.xl_model.specs.declared.script.Area.{Area}
use Rattle.xl_model.specs.declared.script.Item.{Item}
use Rattle.xl_model.specs.declared.script.Item.TheVariants.{Command, Declared, Referenced}
use Rattle.xl_model_laws.proofs.FreshLemmas.{event-kept, Kept, opening-kept}
use Rattle.xl_model.proofs.ArrayLemmas.{filled-spec, touched-spec}
use Rattle.xl_curve_laws.proofs.CurveArrayLemmas.{hit-held, hit-own, hit-touched, miss-each, miss-held, takes-all, TakesAll}
use Rattle.xl_curve_laws.specs.CurveLaws.{TheCurveIsThatOfEachWidth, with_array}
use Rattle.xl_model.specs.declared.event.Event.TheVariants as event
use Rattle.xl_model.specs.declared.event.Outcome.TheVariants as outcome
use Rattle.xl_model.specs.declared.event.Scope.TheVariants as scope
use Rattle.xl_model.specs.declared.leaf.Reply.TheVariants as reply

-- Side by side: a state of the row with the one array, a state of the row, and its curve.
record Beside (sets width : ℕ) (single whole : RowState) (curve : HitCurve) : Type 0 where
  point : Point
  others : List ℕ
  leaves : single.table.leaves ≡ whole.table.leaves
  shape : single.table.shape ≡ whole.table.shape
  space : single.space ≡ whole.space
  arrays : single.arrays ≡ point.array ∷ []
  hits : single.counts.hits ≡ point.hits ∷ others
  shown : slice_get curve.points (width - 1) ≡ Some point
  spec : point.array.spec ≡ spec_of_width sets width

shown-map : (f : Point → Point) (ps : List Point) (i : ℕ) (p : Point) → slice_get ps i ≡ Some p → slice_get (map f ps) i ≡ Some (f p)
shown-map f [] i p e = absurd (cc)
shown-map f (x ∷ ps) zero p e = let k : x ≡ p = cc in ap (λ (y : Point). Some (f y)) k
shown-map f (x ∷ ps) (suc i) p e = shown-map f ps i p e

-- ---- a change

verdict-same : (c : Change) (t u : TableState) → t.leaves ≡ u.leaves → t.shape ≡ u.shape → verdict c t ≡ verdict c u
unfolding verdict
verdict-same c t u l s =
    ap (λ (xs : List Leaf). verdict_by (has_room c xs t.shape) (finds_place (brought c xs) t.shape)) l
    ∙ ap (λ (p : Shape). verdict_by (has_room c u.leaves p) (finds_place (brought c u.leaves) p)) s

after-same : (v : Verdict) (c : Change) (t u : TableState) → t.leaves ≡ u.leaves → t.shape ≡ u.shape
    → ((after_by v c t).leaves ≡ (after_by v c u).leaves) × ((after_by v c t).shape ≡ (after_by v c u).shape)
unfolding table_made
after-same Made c t u l s =
    (ap (changed c) l, ap (λ (xs : List Leaf). shape_after c xs t.shape) l ∙ ap (shape_after c u.leaves) s)
after-same NoSpace c t u l s = (l, s)
after-same NoPlace c t u l s =
    (l, ap (λ (xs : List Leaf). widened (brought c xs) t.shape) l ∙ ap (widened (brought c u.leaves)) s)

table-same : (c : Change) (t u : TableState) → t.leaves ≡ u.leaves → t.shape ≡ u.shape
    → ((table_after c t).leaves ≡ (table_after c u).leaves) × ((table_after c t).shape ≡ (table_after c u).shape)
unfolding table_after
table-same c t u l s =
    subst (λ (v : Verdict). ((after_by (verdict c t) c t).leaves ≡ (after_by v c u).leaves) × ((after_by (verdict c t) c t).shape ≡ (after_by v c u).shape))
    (verdict-same c t u l s) (after-same (verdict c t) c t u l s)

-- A point after the purge of a leaf, if there is one.
abbrev point_purged : Purge → Option Leaf → Point → Point
point_purged purge None q = q
point_purged purge (Some old) q = point_without (is_purged purge old) q

purged-array : (purge : Purge) (o : Option Leaf) (q : Point) → arrays_after purge o (q.array ∷ []) ≡ (point_purged purge o q).array ∷ []
unfolding arrays_without
purged-array purge None q = refl
purged-array purge (Some old) q = refl

purged-hits : (purge : Purge) (o : Option Leaf) (q : Point) → (point_purged purge o q).hits ≡ q.hits
purged-hits purge None q = refl
purged-hits purge (Some old) q = refl

purged-spec : (purge : Purge) (o : Option Leaf) (q : Point) → (point_purged purge o q).array.spec ≡ q.array.spec
purged-spec purge None q = refl
purged-spec purge (Some old) q = refl

purged-shown : (purge : Purge) (o : Option Leaf) (c : HitCurve) (i : ℕ) (q : Point) → slice_get c.points i ≡ Some q
    → slice_get (curve_purged purge o c).points i ≡ Some (point_purged purge o q)
unfolding curve_without
purged-shown purge None c i q e = e
purged-shown purge (Some old) c i q e = shown-map (point_without (is_purged purge old)) c.points i q e

module _ (sets width : ℕ) (row : Row) where
  change-beside : (ch : Change) (s u : RowState) (c : HitCurve) (v : Verdict) → Beside sets width s u c
      → Beside sets width (changed_by (answer_by v ch s.table) (with_array sets width row) ch s) (changed_by (answer_by v ch u.table) row ch u)
      (unless_refused (outcome_by (answer_by v ch u.table)) (curve_purged row.purge (old_leaf ch u.table.leaves) c) c)
  unfolding count_accepted count_invalidated count_work count_refusal
  change-beside ch s u c Made b =
      let t = table-same ch s.table u.table b.leaves b.shape in
      let o : Option Leaf = old_leaf ch u.table.leaves in
      record {
        point = point_purged row.purge o b.point;
        others = b.others;
        leaves = t.0;
        shape = t.1;
        space = b.space;
        arrays = ap (λ (xs : List Leaf). arrays_after row.purge (old_leaf ch xs) s.arrays) b.leaves ∙ ap (arrays_after row.purge o) b.arrays ∙ purged-array row.purge o b.point;
        hits = b.hits ∙ ap (λ (n : ℕ). n ∷ b.others) (sym (purged-hits row.purge o b.point));
        shown = purged-shown row.purge o c (width - 1) b.point b.shown;
        spec = purged-spec row.purge o b.point ∙ b.spec;
      }
  change-beside ch s u c NoSpace b =
      let t = table-same ch s.table u.table b.leaves b.shape in
      record { point = b.point; others = b.others; leaves = t.0; shape = t.1; space = b.space; arrays = b.arrays; hits = b.hits; shown = b.shown; spec = b.spec }
  change-beside ch s u c NoPlace b =
      let t = table-same ch s.table u.table b.leaves b.shape in
      record { point = b.point; others = b.others; leaves = t.0; shape = t.1; space = b.space; arrays = b.arrays; hits = b.hits; shown = b.shown; spec = b.spec }

  changed-beside : (ch : Option Change) (s u : RowState) (c : HitCurve) → Beside sets width s u c
      → Beside sets width (changed_where ch (with_array sets width row) s) (changed_where ch row u)
      (unless_refused (changed_outcome ch u) (curve_purged row.purge (old_of ch u.table.leaves) c) c)
  unfolding table_answer
  changed-beside None s u c b = b
  changed-beside (Some ch) s u c b =
      subst (λ (v : Verdict). Beside sets width (changed_by (answer_by v ch s.table) (with_array sets width row) ch s) (changed_by (answer_by (verdict ch u.table) ch u.table) row ch u)
      (unless_refused (outcome_by (answer_by (verdict ch u.table) ch u.table)) (curve_purged row.purge (old_leaf ch u.table.leaves) c) c))
      (sym (verdict-same ch s.table u.table b.leaves b.shape)) (change-beside ch s u c (verdict ch u.table) b)

  -- ---- a fence

  fenced-beside : (to : Reach) (s u : RowState) (c : HitCurve) → Beside sets width s u c
      → Beside sets width (fenced to s) (fenced to u) (curve_without (reaches_leaf to) c)
  unfolding fenced table_fenced curve_without arrays_without count_accepted count_invalidated count_fence
  fenced-beside to s u c b = record {
    point = point_without (reaches_leaf to) b.point;
    others = b.others;
    leaves = b.leaves;
    shape = b.shape;
    space = b.space;
    arrays = ap (map (array_without (reaches_leaf to))) b.arrays;
    hits = b.hits;
    shown = shown-map (point_without (reaches_leaf to)) c.points (width - 1) b.point b.shown;
    spec = b.spec;
  }

-- ---- an access

looked-table : (kind : Kind) (answer : Option Answer) (page : ℕ) (s : RowState)
    → ((looked_by kind answer page s).table.leaves ≡ s.table.leaves) × ((looked_by kind answer page s).table.shape ≡ s.table.shape)
    × ((looked_by kind answer page s).space ≡ s.space)
unfolding table_walked
looked-table kind (Some answer) page s = (refl, refl, refl)
looked-table kind None page s = go (leaf_at_page s.space page s.table.leaves) _ refl refl refl
  where
    go : (found : Option Leaf) (t : RowState) → t.table.leaves ≡ s.table.leaves → t.table.shape ≡ s.table.shape → t.space ≡ s.space
        → ((walk_filled kind found t).table.leaves ≡ s.table.leaves) × ((walk_filled kind found t).table.shape ≡ s.table.shape) × ((walk_filled kind found t).space ≡ s.space)
    go None t l p q = (l, p, q)
    go (Some leaf) t l p q = (l, p, q)

same-level : (n : ℕ) → nat_le n n ≡ true
same-level n = grind (arith, nat_tests)

-- An array alone that is hit.
single-hit : (a : TlbArray) (x : Leaf) (kind : Kind) (page : ℕ) (s : RowState) (h : ℕ) (hs : List ℕ) → serves_kind kind a ≡ true → s.arrays ≡ a ∷ [] → s.counts.hits ≡ h ∷ hs
    → array_hit a s.space page ≡ Some x → ((looked kind page s).arrays ≡ array_touched s.space page x a ∷ []) × ((looked kind page s).counts.hits ≡ plus h 1 ∷ hs)
unfolding looked arrays_hit count_look count_fills
single-hit a x kind page s h hs all one n is = rw (one, n, all, is) (rw (all, is) (refl, rw (same-level a.spec.level) refl))

-- One that is missed.
single-miss : (a : TlbArray) (kind : Kind) (page : ℕ) (s : RowState) (h : ℕ) (hs : List ℕ) → serves_kind kind a ≡ true → s.arrays ≡ a ∷ [] → s.counts.hits ≡ h ∷ hs
    → array_hit a s.space page ≡ None
    → ((leaf_at_page s.space page s.table.leaves ≡ None) → ((looked kind page s).arrays ≡ a ∷ []) × ((looked kind page s).counts.hits ≡ h ∷ hs))
    × ((leaf : Leaf) → (leaf_at_page s.space page s.table.leaves ≡ Some leaf) → ((looked kind page s).arrays ≡ array_filled leaf a ∷ []) × ((looked kind page s).counts.hits ≡ h ∷ hs))
unfolding looked count_look count_fills count_walk arrays_filled
single-miss a kind page s h hs all one n is = (
  λ none. rw (one, n, all, is) (rw none (refl, rw (all, is) refl)),
  λ leaf some. rw (one, n, all, is) (rw (some, all) (refl, rw is refl)),
)

missed-points : (c : HitCurve) → (curve_missed c).points ≡ c.points
unfolding curve_missed
missed-points c = refl

accessed-points : (leaf : Leaf) (c : HitCurve) → (curve_accessed leaf c).points ≡ map (point_accessed leaf) c.points
unfolding curve_accessed
accessed-points leaf c = refl

module _ (sets width : ℕ) (row : Row) where
  abbrev single-row : Row
  single-row = with_array sets width row

  looked-beside : (kind : Kind) (page : ℕ) (s u : RowState) (c : HitCurve) → Kept single-row s → Beside sets width s u c
      → Beside sets width (looked kind page s) (looked kind page u) (curve_looked (leaf_at_page u.space page u.table.leaves) c)
  unfolding looked
  looked-beside kind page s u c k b =
      subst (λ (m : Option Leaf). Beside sets width (looked kind page s) (looked kind page u) (curve_looked m c)) found-same
      (go (array_hit b.point.array s.space page) (leaf_at_page s.space page s.table.leaves) refl refl)
    where
      found-same : leaf_at_page s.space page s.table.leaves ≡ leaf_at_page u.space page u.table.leaves
      found-same = ap (λ (n : ℕ). leaf_at_page n page s.table.leaves) b.space ∙ ap (leaf_at_page u.space page) b.leaves

      fresh : ArraysFresh (b.point.array ∷ []) s.table.leaves
      fresh = subst (λ (xs : List TlbArray). ArraysFresh xs s.table.leaves) b.arrays k.arrays

      all : TakesAll b.point.array
      all = takes-all b.point.array sets width b.spec

      serves : serves_kind kind b.point.array ≡ true
      serves = ap (λ (t : TlbSpec). serves_as t.serves kind) b.spec

      leaves : (looked kind page s).table.leaves ≡ (looked kind page u).table.leaves
      leaves = (looked-table kind (answer_of kind s.arrays s.space page) page s).0 ∙ b.leaves ∙ sym (looked-table kind (answer_of kind u.arrays u.space page) page u).0

      shape : (looked kind page s).table.shape ≡ (looked kind page u).table.shape
      shape = (looked-table kind (answer_of kind s.arrays s.space page) page s).1 ∙ b.shape ∙ sym (looked-table kind (answer_of kind u.arrays u.space page) page u).1

      space : (looked kind page s).space ≡ (looked kind page u).space
      space = (looked-table kind (answer_of kind s.arrays s.space page) page s).2 ∙ b.space ∙ sym (looked-table kind (answer_of kind u.arrays u.space page) page u).2

      hit : (x : Leaf) → array_hit b.point.array s.space page ≡ Some x → Beside sets width (looked kind page s) (looked kind page u) (curve_looked (leaf_at_page s.space page s.table.leaves) c)
      hit x is =
          let own : find (covers_as s.space page x.order) (set_at b.point.array x.order page) ≡ Some x = hit-own b.point.array s.space page x all is in
          let t : covers s.space page x ≡ true = second_so (same_order x.order x.order) (covers s.space page x) (find-passes (covers_as s.space page x.order) x (set_at b.point.array x.order page) own) in
          let i : In x s.table.leaves = fresh x (inl (get-In x b.point.array.sets (set_number b.point.array.spec x.order page) (find-In (covers_as s.space page x.order) x (set_at b.point.array x.order page) own))) in
          let there : leaf_at_page s.space page s.table.leaves ≡ Some x = covered-is single-row s.table.leaves s.space page x k.mapping i t in
          let held : held_in x b.point.array ≡ Some x = hit-held single-row s.table.leaves b.point.array s.space page x k.mapping fresh i t own in
          let after = single-hit b.point.array x kind page s b.point.hits b.others serves b.arrays b.hits is in
          let new : Point = record { array = array_touched s.space page x b.point.array; hits = plus b.point.hits 1 } in
          let is_new : point_accessed x b.point ≡ new =
          rw held (ap (λ (z : TlbArray). let p : Point = record { array = z; hits = plus b.point.hits 1 } in p) (hit-touched single-row s.table.leaves b.point.array s.space page x k.mapping fresh i t)) in
          rw there (record {
            point = new;
            others = b.others;
            leaves = leaves;
            shape = shape;
            space = space;
            arrays = after.0;
            hits = after.1;
            shown = ap (λ (ps : List Point). slice_get ps (width - 1)) (accessed-points x c)
                ∙ shown-map (point_accessed x) c.points (width - 1) b.point b.shown ∙ ap (λ (p : Point). Some p) is_new;
            spec = touched-spec s.space page x b.point.array ∙ b.spec;
          })

      none : array_hit b.point.array s.space page ≡ None → leaf_at_page s.space page s.table.leaves ≡ None
          → Beside sets width (looked kind page s) (looked kind page u) (curve_looked (leaf_at_page s.space page s.table.leaves) c)
      none is absent =
          let after = (single-miss b.point.array kind page s b.point.hits b.others serves b.arrays b.hits is).0 absent in
          rw absent (record {
            point = b.point;
            others = b.others;
            leaves = leaves;
            shape = shape;
            space = space;
            arrays = after.0;
            hits = after.1;
            shown = ap (λ (ps : List Point). slice_get ps (width - 1)) (missed-points c) ∙ b.shown;
            spec = b.spec;
          })

      miss : (x : Leaf) → array_hit b.point.array s.space page ≡ None → leaf_at_page s.space page s.table.leaves ≡ Some x
          → Beside sets width (looked kind page s) (looked kind page u) (curve_looked (leaf_at_page s.space page s.table.leaves) c)
      miss x is there =
          let found = found-leaf single-row s.space page s.table.leaves k.mapping x there in
          let after = (single-miss b.point.array kind page s b.point.hits b.others serves b.arrays b.hits is).1 x there in
          let held : held_in x b.point.array ≡ None = miss-held single-row s.table.leaves b.point.array s.space page x k.mapping fresh found.member found.covers_page (miss-each b.point.array s.space page x.order all is) in
          let new : Point = record { array = array_filled x b.point.array; hits = b.point.hits } in
          let is_new : point_accessed x b.point ≡ new = rw held refl in
          rw there (record {
            point = new;
            others = b.others;
            leaves = leaves;
            shape = shape;
            space = space;
            arrays = after.0;
            hits = after.1;
            shown = ap (λ (ps : List Point). slice_get ps (width - 1)) (accessed-points x c)
                ∙ shown-map (point_accessed x) c.points (width - 1) b.point b.shown ∙ ap (λ (p : Point). Some p) is_new;
            spec = filled-spec x b.point.array ∙ b.spec;
          })

      go : (o m : Option Leaf) → array_hit b.point.array s.space page ≡ o → leaf_at_page s.space page s.table.leaves ≡ m
          → Beside sets width (looked kind page s) (looked kind page u) (curve_looked (leaf_at_page s.space page s.table.leaves) c)
      go (Some x) m is there = hit x is
      go None None is there = none is there
      go None (Some x) is there = miss x is there

reply-hits : (answer : Reply) (va : ℕ) (c : Counts) → (count_reply answer va c).hits ≡ c.hits
unfolding count_reply
reply-hits (reply.Frame frame) va c = refl
reply-hits reply.NotCanonical va c = refl
reply-hits reply.Unmapped va c = refl
reply-hits reply.Denied va c = refl

module _ (sets width : ℕ) (row : Row) where
  abbrev its-row : Row
  its-row = with_array sets width row

  -- the counts of replies don't matter
  replied-beside : (s u : RowState) (n m : Counts) (c : HitCurve) → n.hits ≡ s.counts.hits → Beside sets width s u c
      → Beside sets width (record s { counts = n }) (record u { counts = m }) c
  replied-beside s u n m c e b = record {
    point = b.point;
    others = b.others;
    leaves = b.leaves;
    shape = b.shape;
    space = b.space;
    arrays = b.arrays;
    hits = e ∙ b.hits;
    shown = b.shown;
    spec = b.spec;
  }

  where-beside : (canonical : Bool) (kind : Kind) (page : ℕ) (s u : RowState) (c : HitCurve) → Kept its-row s → Beside sets width s u c
      → Beside sets width (looked_where canonical kind page s) (looked_where canonical kind page u) (curve_looked_where canonical (leaf_at_page u.space page u.table.leaves) c)
  where-beside true kind page s u c k b = looked-beside sets width row kind page s u c k b
  where-beside false kind page s u c k b = b

  accessed-beside : (va : ℕ) (kind : Kind) (s u : RowState) (c : HitCurve) → Kept its-row s → Beside sets width s u c
      → Beside sets width (accessed its-row va kind s) (accessed row va kind u)
      (curve_looked_where (is_canonical row.mode va) (leaf_at_page u.space (page_of row.mode va) u.table.leaves) c)
  unfolding accessed
  accessed-beside va kind s u c k b =
      replied-beside (looked_where (is_canonical row.mode va) kind (page_of row.mode va) s) (looked_where (is_canonical row.mode va) kind (page_of row.mode va) u) _ _ _
      (reply-hits (reply_to its-row s va kind) va (looked_where (is_canonical row.mode va) kind (page_of row.mode va) s).counts)
      (where-beside (is_canonical row.mode va) kind (page_of row.mode va) s u c k b)

  rule-same : (e : Event) (xs ys : List Leaf) → xs ≡ ys → rule its-row xs e ≡ rule row ys e
  unfolding rule
  rule-same (event.Access va kind) xs ys l = refl
  rule-same (event.Map space va o perm) xs ys l = ap (λ (zs : List Leaf). rule row zs (event.Map space va o perm)) l
  rule-same (event.Unmap space va o) xs ys l = ap (λ (zs : List Leaf). rule row zs (event.Unmap space va o)) l
  rule-same (event.Protect space va o perm) xs ys l = ap (λ (zs : List Leaf). rule row zs (event.Protect space va o perm)) l
  rule-same (event.Move space from to o) xs ys l = ap (λ (zs : List Leaf). rule row zs (event.Move space from to o)) l
  rule-same (event.Space space) xs ys l = refl
  rule-same (event.Fence to) xs ys l = fence to
    where
      fence : (k : Scope) → rule its-row xs (event.Fence k) ≡ rule row ys (event.Fence k)
      fence scope.All = refl
      fence (scope.Space space) = refl
      fence (scope.Addr va) = refl
      fence (scope.Page space va) = refl

  change-same : (e : Event) (xs ys : List Leaf) → xs ≡ ys → change_of its-row xs e ≡ change_of row ys e
  unfolding change_of
  change-same (event.Access va kind) xs ys l = refl
  change-same (event.Map space va o perm) xs ys l = ap (λ (zs : List Leaf). change_of row zs (event.Map space va o perm)) l
  change-same (event.Unmap space va o) xs ys l = refl
  change-same (event.Protect space va o perm) xs ys l = refl
  change-same (event.Move space from to o) xs ys l = refl
  change-same (event.Space space) xs ys l = refl
  change-same (event.Fence to) xs ys l = refl

  reach-same : (to : Scope) → reach_of its-row to ≡ reach_of row to
  reach-same scope.All = refl
  reach-same (scope.Space space) = refl
  reach-same (scope.Addr va) = refl
  reach-same (scope.Page space va) = refl

  command-beside : (e : Event) (s u : RowState) (c : HitCurve) → Beside sets width s u c
      → Beside sets width (changed_where (change_of its-row s.table.leaves e) its-row s) (changed_where (change_of row u.table.leaves e) row u)
      (unless_refused (changed_outcome (change_of row u.table.leaves e) u) (curve_purged row.purge (old_of (change_of row u.table.leaves e) u.table.leaves) c) c)
  command-beside e s u c b =
      subst (λ (ch : Option Change). Beside sets width (changed_where ch its-row s) (changed_where (change_of row u.table.leaves e) row u)
      (unless_refused (changed_outcome (change_of row u.table.leaves e) u) (curve_purged row.purge (old_of (change_of row u.table.leaves e) u.table.leaves) c) c))
      (sym (change-same e s.table.leaves u.table.leaves b.leaves)) (changed-beside sets width row (change_of row u.table.leaves e) s u c b)

  served-beside : (e : Event) (s u : RowState) (c : HitCurve) → Kept its-row s → Beside sets width s u c
      → Beside sets width (served its-row e s) (served row e u) (unless_refused (served_outcome row e u) (curve_followed row e u c) c)
  unfolding served count_accepted
  served-beside (event.Access va kind) s u c k b = accessed-beside va kind s u c k b
  served-beside (event.Map space va o perm) s u c k b = command-beside (event.Map space va o perm) s u c b
  served-beside (event.Unmap space va o) s u c k b = command-beside (event.Unmap space va o) s u c b
  served-beside (event.Protect space va o perm) s u c k b = command-beside (event.Protect space va o perm) s u c b
  served-beside (event.Move space from to o) s u c k b = command-beside (event.Move space from to o) s u c b
  served-beside (event.Space space) s u c k b =
      record { point = b.point; others = b.others; leaves = b.leaves; shape = b.shape; space = refl; arrays = b.arrays; hits = b.hits; shown = b.shown; spec = b.spec }
  served-beside (event.Fence to) s u c k b =
      subst (λ (r : Reach). Beside sets width (fenced r s) (fenced (reach_of row to) u) (curve_without (reaches_leaf (reach_of row to)) c))
      (sym (reach-same to)) (fenced-beside sets width row (reach_of row to) s u c b)

  ruled-beside : (q : Option Refusal) (e : Event) (s u : RowState) (c : HitCurve) → Kept its-row s → Beside sets width s u c
      → Beside sets width (after_rule q its-row e s) (after_rule q row e u) (unless_refused (outcome_after_rule q row e u) (curve_followed row e u c) c)
  unfolding count_refusal
  ruled-beside (Some r) e s u c k b =
      record { point = b.point; others = b.others; leaves = b.leaves; shape = b.shape; space = b.space; arrays = b.arrays; hits = b.hits; shown = b.shown; spec = b.spec }
  ruled-beside None e s u c k b = served-beside e s u c k b

  event-beside : (e : Event) (s u : RowState) (c : HitCurve) → Kept its-row s → Beside sets width s u c
      → Beside sets width (after_event its-row e s) (after_event row e u) (curve_after row e u c)
  unfolding after_event curve_after outcome_of
  event-beside e s u c k b =
      subst (λ (q : Option Refusal). Beside sets width (after_rule q its-row e s) (after_rule (rule row u.table.leaves e) row e u)
      (unless_refused (outcome_after_rule (rule row u.table.leaves e) row e u) (curve_followed row e u c) c))
      (sym (rule-same e s.table.leaves u.table.leaves b.leaves)) (ruled-beside (rule row u.table.leaves e) e s u c k b)

  -- ---- the outcome of a demand's map

  answer-same : (v : Verdict) (ch : Change) (t z : TableState) → outcome_by (answer_by v ch t) ≡ outcome_by (answer_by v ch z)
  answer-same Made ch t z = refl
  answer-same NoSpace ch t z = refl
  answer-same NoPlace ch t z = refl

  changed-same : (ch : Option Change) (s u : RowState) → s.table.leaves ≡ u.table.leaves → s.table.shape ≡ u.table.shape → changed_outcome ch s ≡ changed_outcome ch u
  unfolding table_answer
  changed-same None s u l p = refl
  changed-same (Some ch) s u l p =
      ap (λ (v : Verdict). outcome_by (answer_by v ch s.table)) (verdict-same ch s.table u.table l p) ∙ answer-same (verdict ch u.table) ch s.table u.table

  map-same : (area : Area) (va : ℕ) (s u : RowState) (c : HitCurve) → Beside sets width s u c → outcome_of its-row (map_of area va) s ≡ outcome_of row (map_of area va) u
  unfolding outcome_of
  map-same area va s u c b =
      subst (λ (q : Option Refusal). outcome_after_rule q its-row (map_of area va) s ≡ outcome_after_rule (rule row u.table.leaves (map_of area va)) row (map_of area va) u)
      (sym (rule-same (map_of area va) s.table.leaves u.table.leaves b.leaves)) (go (rule row u.table.leaves (map_of area va)))
    where
      go : (q : Option Refusal) → outcome_after_rule q its-row (map_of area va) s ≡ outcome_after_rule q row (map_of area va) u
      go (Some r) = refl
      go None =
          ap (λ (ch : Option Change). changed_outcome ch s) (change-same (map_of area va) s.table.leaves u.table.leaves b.leaves)
          ∙ changed-same (change_of row u.table.leaves (map_of area va)) s u b.leaves b.shape

  wanted-same : (va : ℕ) (kind : Kind) (areas : List Area) (s u : RowState) (c : HitCurve) → Beside sets width s u c
      → area_wanted its-row va kind areas s ≡ area_wanted row va kind areas u
  unfolding reply_to
  wanted-same va kind areas s u c b =
      ap (λ (xs : List Leaf). wanted (flat xs row.mode s.space va kind) (area_for s.space va areas)) b.leaves
      ∙ ap (λ (n : ℕ). wanted (flat u.table.leaves row.mode n va kind) (area_for n va areas)) b.space

  -- ---- items

  -- Both states are kept, side by side.
  abbrev Both : RowState → Charted → Type 0
  Both s p = Kept its-row s × Beside sets width s p.state p.curve

  event-both : (e : Event) (s : RowState) (p : Charted) → Both s p → Both (after_event its-row e s) (charted_event row e p)
  event-both e s p (k, b) = (event-kept its-row e s k, event-beside e s p.state p.curve k b)

  again-both : (o : Outcome) (e : Event) (s : RowState) (p : Charted) → Both s p → Both (again_where o its-row e s) (charted_again o row e p)
  again-both outcome.Done e s p h = event-both e s p h
  again-both (outcome.Replied answer) e s p h = h
  again-both (outcome.Refused r) e s p h = h

  demand-both : (area : Option Area) (va : ℕ) (e : Event) (s : RowState) (p : Charted) → Both s p → Both (demanded area its-row va e s) (charted_demand area row va e p)
  demand-both None va e s p h = h
  demand-both (Some area) va e s p h =
      subst (λ (o : Outcome). Both (again_where o its-row e (after_event its-row (map_of area va) s)) (charted_again (outcome_of row (map_of area va) p.state) row e (charted_event row (map_of area va) p)))
      (sym (map-same area va s p.state p.curve h.1))
      (again-both (outcome_of row (map_of area va) p.state) e (after_event its-row (map_of area va) s) (charted_event row (map_of area va) p) (event-both (map_of area va) s p h))

  item-both : (i : Item) (areas : List Area) (s : RowState) (p : Charted) → Both s p → Both (state_after its-row i areas s) (charted_item row i areas p)
  unfolding state_after referenced charted_item
  item-both (Command e) areas s p h = event-both e s p h
  item-both (Declared area) areas s p h = h
  item-both (Referenced number va kind) areas s p h =
      subst (λ (area : Option Area). Both (demanded area its-row va (event.Access va kind) (after_event its-row (event.Access va kind) s))
      (charted_demand (area_wanted row va kind areas p.state) row va (event.Access va kind) (charted_event row (event.Access va kind) p)))
      (sym (wanted-same va kind areas s p.state p.curve h.1))
      (demand-both (area_wanted row va kind areas p.state) va (event.Access va kind) (after_event its-row (event.Access va kind) s) (charted_event row (event.Access va kind) p)
      (event-both (event.Access va kind) s p h))

  items-both : (items : List Item) (areas : List Area) (s : RowState) (p : Charted) → Both s p → Both (states_after its-row items areas s) (charted_items row items areas p)
  items-both [] areas s p h = h
  items-both (i ∷ items) areas s p h = items-both items (areas_after i areas) (state_after its-row i areas s) (charted_item row i areas p) (item-both i areas s p h)

  shown-first : (a n i : ℕ) → i < n → slice_get (map (opening_point sets) (range_with_len a n)) i ≡ Some (opening_point sets (a + i))
  shown-first a zero i l = absurd (omega arith)
  shown-first a (suc n) zero l = ap (λ (k : ℕ). Some (opening_point sets k)) (omega arith)
  shown-first a (suc n) (suc i) l = shown-first (a + 1) n i (omega arith) ∙ ap (λ (k : ℕ). Some (opening_point sets k)) (omega arith)

  opening-beside : 0 < width → width ≤ 64 → Beside sets width (opening its-row) (opening row) (opening_curve sets)
  unfolding opening opening_curve opening_arrays no_counts
  opening-beside some few = record {
    point = opening_point sets width;
    others = 0 ∷ 0 ∷ 0 ∷ 0 ∷ 0 ∷ [];
    leaves = refl;
    shape = refl;
    space = refl;
    arrays = refl;
    hits = refl;
    shown = shown-first 1 64 (width - 1) (omega arith) ∙ ap (λ (k : ℕ). Some (opening_point sets k)) (omega arith);
    spec = refl;
  }

hits-shown : (ps : List Point) (i : ℕ) (q : Point) → slice_get ps i ≡ Some q → slice_index_or (map hits_of ps) i 0 ≡ q.hits
hits-shown [] i q e = absurd (cc)
hits-shown (p ∷ ps) zero q e = let k : p ≡ q = cc in ap hits_of k
hits-shown (p ∷ ps) (suc i) q e = hits-shown ps i q e

pub the_curve_is_that_of_each_width : TheCurveIsThatOfEachWidth
unfolding hits_at curve_of_run run
the_curve_is_that_of_each_width row sets width items some few =
    let both = items-both sets width row items [] (opening (with_array sets width row)) (record { state = opening row; curve = opening_curve sets })
    (opening-kept (with_array sets width row), opening-beside sets width row some few) in
    hits-shown _ (width - 1) both.1.point both.1.shown ∙ sym (ap (λ (ns : List ℕ). slice_index_or ns 0 0) both.1.hits)
