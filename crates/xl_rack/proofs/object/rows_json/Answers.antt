use Rattle.xl_rack.proofs.Common.{◌++◌, ◌+◌, ◌<◌, ◌∙◌, ◌∷◌, ◌≡◌, [], ap, append-nil, arith, Counts, IfSome, items_of, length, List, map, refl, Row, row_object, row_objects, row_of, Served, slice_get, sym, take, view, ℕ}
use Rattle.serde_json.specs.Data.{Data}
use Rattle.serde_json.specs.Written.{items_have_float}
use Rattle.serde_json.specs.declared.value.Value.{Value}
use Rattle.xl_report.proofs.JsonLemmas.{pushed, rows-plain}
use Rattle.xl_rack.proofs.RowsLemmas.{some-of, take_next, the-row}
use Rattle.xl_rack.proofs.object.rows_json.Goals as goal

-- The objects of the rows, one after another.
last-object : (rows : List Served) (v : Served) → row_objects (rows ++ v ∷ []) ≡ row_objects rows ++ row_object v.row.name v.state.counts ∷ []
last-object [] v = refl
last-object (r ∷ rows) v = ap (λ (rest : List Data). row_object r.row.name r.state.counts ∷ rest) (last-object rows v)

-- the object of one row more was put last
object-pushed : (rows : List Served) (i : ℕ) (row : Row) (counts : Counts) (vs us : List Value) (v : Value) → i < length rows
    → IfSome (slice_get rows i) (λ s. row ≡ s.row) → IfSome (slice_get rows i) (λ s. counts ≡ s.state.counts) → map view vs ≡ row_objects (take i rows)
    → us ≡ vs ++ v ∷ [] → view v ≡ row_object row.name counts → map view us ≡ row_objects (take (i + 1) rows)
object-pushed rows i row counts vs us v h named counted first more is =
    let (s, e) = the-row rows i h in
    let same : row ≡ s.row = some-of _ _ s named e in
    let equal : counts ≡ s.state.counts = some-of _ _ s counted e in
    let here : row_object row.name counts ≡ row_object s.row.name s.state.counts = rw (same, equal) refl in
    sym (append-nil (map view us)) ∙ pushed vs us v (row_object s.row.name s.state.counts) [] more (is ∙ here)
    ∙ ap (λ (ds : List Data). ds ++ row_object s.row.name s.state.counts ∷ []) first ∙ sym (ap row_objects (take_next rows i s e) ∙ last-object (take i rows) s)

pub loop-i-preserved : goal.loop-i-preserved
loop-i-preserved c =
    let size = c.len-i-end.ensures in
    let within = c.loop-i-test.true in
    let h : c.loop-i.i < length c.args.rack.now = omega arith in
    object-pushed c.args.rack.now c.loop-i.i (row_of c.row.result.now) c.counts.result c.loop-i.objects.items c.push.new.list.items c.in_ok-row_value.field-0
    h c.row.ensures c.counts.ensures.counts c.loop-i.invariant c.in_ok-push.ensures.ok c.in_ok-row_value.ensures

pub text-requires : goal.text-requires
text-requires c =
    ap (λ (ds : List Data). items_have_float (items_of ds)) c.loop-i.invariant ∙ rows-plain (take c.loop-i.i c.args.rack.now)
