-- Row after row.
use Rattle.xl_rack.proofs.Common.{◌++◌, ◌+◌, ◌<◌, ◌∙◌, ◌∷◌, ◌≡◌, [], ap, append-nil, append_assoc, Area, areas_after, arith, Bool, Counts, drop, EqualWhere, false, HasServed, IfSome, Item, length, List, None, Option, refl, Row, row_line, row_lines, rows_after, rows_lines, scene_after, scene_of, Served, sink_cut, sink_then, SinkAfter, SinkMeaning, slice_get, Some, subst, suc, sym, take, take-append-drop, true, zero, ℕ}
use Rattle.xl_course.specs.Meanings.{states_after}
use Rattle.xl_serving.specs.Plain.{plain}

-- what is said of the value, if there is one
pub some-of : {A : Type 0} (o : Option A) (P : A → Type 0) (v : A) → IfSome o P → o ≡ Some v → P v
some-of None P v h e = absurd (grind arith)
some-of (Some w) P v h e = let d : w ≡ v = cc in subst P d h

-- there is a row at the place
pub the-row : (rows : List Served) (i : ℕ) → i < length rows → (v : Served) × (slice_get rows i ≡ Some v)
the-row [] i h = absurd (omega arith)
the-row (r ∷ rows) zero h = (r, refl)
the-row (r ∷ rows) (suc i) h = the-row rows i (omega arith)

pub take_next : (rows : List Served) (i : ℕ) (v : Served) → slice_get rows i ≡ Some v → take (i + 1) rows ≡ take i rows ++ v ∷ []
take_next rows i v h = (let e : i + 1 ≡ suc i = omega arith in ap (λ (j : ℕ). take j rows) e) ∙ one rows i h
  where
    one : (rows : List Served) (i : ℕ) → slice_get rows i ≡ Some v → take (suc i) rows ≡ take i rows ++ v ∷ []
    one [] i h = absurd (grind arith)
    one (r ∷ rows) zero h = let e : r ≡ v = cc in ap (λ (w : Served). w ∷ []) e
    one (r ∷ rows) (suc i) h = ap (λ (rest : List Served). r ∷ rest) (one rows i h)

row-lines-append : (xs ys : List Served) → row_lines (xs ++ ys) ≡ row_lines xs ++ row_lines ys
row-lines-append [] ys = refl
row-lines-append (x ∷ xs) ys =
    ap (λ (t : List ℕ). row_line x.row.name x.state.counts ++ t) (row-lines-append xs ys)
    ∙ sym (append_assoc (row_line x.row.name x.state.counts) (row_lines xs) (row_lines ys))

row-lines-next : (rows : List Served) (i : ℕ) (v : Served) → slice_get rows i ≡ Some v → row_lines (take (i + 1) rows) ≡ row_lines (take i rows) ++ row_line v.row.name v.state.counts
row-lines-next rows i v h =
    ap row_lines (take_next rows i v h) ∙ row-lines-append (take i rows) (v ∷ [])
    ∙ ap (λ (t : List ℕ). row_lines (take i rows) ++ t) (append-nil (row_line v.row.name v.state.counts))

scene-item : (whole : Bool) (item : Item) (areas : List Area) (p q : List Served) → EqualWhere whole q (rows_after item areas p) → areas_after item areas ≡ areas
    → EqualWhere whole (scene_of q areas) (states_after plain (item ∷ []) (scene_of p areas))
unfolding scene_after
scene-item true item areas p q is same = rw (is, same) refl
scene-item false item areas p q is same = tt

module _ {K : Type 0} (sink : SinkMeaning K) where
  -- an item that all rows were served
  pub item-served : (item : Item) (areas : List Area) (p q : List Served) (k l : K) (whole : Bool) → areas_after item areas ≡ areas → EqualWhere whole q (rows_after item areas p)
      → SinkAfter sink (rows_lines item areas p) k l whole → HasServed plain sink true (item ∷ []) (scene_of p areas) (scene_of q areas) k l whole
  item-served item areas p q k l whole same is lines = record {
    state_is = scene-item whole item areas p q is same;
    writes = subst (λ (t : List ℕ). SinkAfter sink t k l whole) (sym (append-nil (rows_lines item areas p))) lines;
  }

  -- the lines of the rows, one after another
  pub row-written : (rows : List Served) (i : ℕ) (row : Row) (counts : Counts) (k l m : K) (whole : Bool) → i < length rows
      → IfSome (slice_get rows i) (λ v. row ≡ v.row) → IfSome (slice_get rows i) (λ v. counts ≡ v.state.counts) → SinkAfter sink (row_lines (take i rows)) k l true
      → SinkAfter sink (row_line row.name counts) l m whole → SinkAfter sink (row_lines (take (i + 1) rows)) k m whole
  row-written rows i row counts k l m whole h named counted first next =
      let (v, e) = the-row rows i h in
      let same : row ≡ v.row = some-of _ _ v named e in
      let equal : counts ≡ v.state.counts = some-of _ _ v counted e in
      let second : SinkAfter sink (row_line v.row.name v.state.counts) l m whole = rw (same, equal) at next in
      subst (λ (t : List ℕ). SinkAfter sink t k m whole) (sym (row-lines-next rows i v e)) (sink_then sink (row_lines (take i rows)) (row_line v.row.name v.state.counts) k l m whole first second)

  pub rows-cut : (rows : List Served) (i : ℕ) (k l : K) → SinkAfter sink (row_lines (take i rows)) k l false → SinkAfter sink (row_lines rows) k l false
  rows-cut rows i k l first =
      subst (λ (t : List ℕ). SinkAfter sink t k l false) (sym (row-lines-append (take i rows) (drop i rows)) ∙ ap row_lines (take-append-drop i rows))
      (sink_cut sink (row_lines (take i rows)) (row_lines (drop i rows)) k l first)
