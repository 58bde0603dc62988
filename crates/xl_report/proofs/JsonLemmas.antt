-- Rows as JSON.
use Rattle.xl_report.proofs.Common.{◌%◌, ◌++◌, ◌+◌, ◌-◌, ◌/◌, ◌<◌, ◌||◌, ◌∙◌, ◌∷◌, ◌≡◌, [], add-one, amount, ap, arith, Bool, change_members, Data, drop, drop-cons, false, hex_digits, hex_glyph, inl, inr, IsAscii, IsUtf8, items_of, length, List, map, named_members, no_members, object, objects_of, pair, pairs, refl, row_object, row_objects, slice_index, suc, true, verdict_members, view, walk_members, zero, ℕ}
use Rattle.std.proofs.lemmas.Bool.{cases_lt, le-ltb, lt-ltb}
use Rattle.std.proofs.lemmas.Str.{IsUtf8-append, IsUtf8-from_ascii, IsUtf8-nil}
use Rattle.serde_json.specs.Written.{has_float, items_have_float}
use Rattle.serde_json.specs.declared.value.Value.{Value}
use Rattle.xl_model.specs.Scenes.{Served}
use Rattle.xl_model.specs.declared.row.Counts.{Counts}
use Rattle.xl_model.specs.declared.row.Row.{Row}

-- the members, put one after another, are in order
pub members_in_order : (name : List ℕ) (c : Counts) → object (named_members name c (change_members c (walk_members c (verdict_members c no_members)))) ≡ row_object name c
unfolding row_object verdict_members walk_members change_members named_members
members_in_order name c = refl

-- one value more
pub pushed : (vs us : List Value) (v : Value) (d : Data) (ds : List Data) → us ≡ vs ++ v ∷ [] → view v ≡ d → map view us ++ ds ≡ map view vs ++ d ∷ ds
pushed [] us v d ds h e = rw (h, e) refl
pushed (w ∷ vs) us v d ds h e = rw h (ap (λ (rest : List Data). view w ∷ rest) (pushed vs (vs ++ v ∷ []) v d ds refl e))

-- one array more
pub next_pair : (hits misses : List ℕ) (n i : ℕ) → i < n → i < length hits → i < length misses
    → pairs (n - i) (drop i hits) (drop i misses) ≡ pair (slice_index hits i) (slice_index misses i) ∷ pairs (n - (i + 1)) (drop (i + 1) hits) (drop (i + 1) misses)
next_pair hits misses n i less h m =
    let e : n - i ≡ suc (n - (i + 1)) = omega arith in
    let a : drop i hits ≡ slice_index hits i ∷ drop (i + 1) hits = rw add-one (drop-cons hits i 0 h) in
    let b : drop i misses ≡ slice_index misses i ∷ drop (i + 1) misses = rw add-one (drop-cons misses i 0 m) in
    rw (e, a, b) refl

-- digits are text
glyph-low : (n : ℕ) → n < 16 → hex_glyph n < 128
glyph-low n h = elim (cases_lt n 10) [
  | inl l ↦ rw (lt-ltb n 10 l) (omega arith)
  | inr l ↦ rw (le-ltb n 10 l) (omega arith)
]

one-glyph : (g : ℕ) → g < 128 → IsAscii (g ∷ [])
one-glyph g h zero = h
one-glyph g h (suc i) = omega arith

pub digits-are_text : (k n : ℕ) → IsUtf8 (hex_digits k n)
digits-are_text zero n = IsUtf8-nil
digits-are_text (suc k) n = IsUtf8-append (hex_digits k (n / 16)) (hex_glyph (n % 16) ∷ []) (digits-are_text k (n / 16)) (IsUtf8-from_ascii (hex_glyph (n % 16) ∷ []) (one-glyph (hex_glyph (n % 16)) (glyph-low (n % 16) (omega arith))))

-- no number of a row is a float
amounts-plain : (ns : List ℕ) → items_have_float (items_of (map amount ns)) ≡ false
amounts-plain [] = refl
amounts-plain (n ∷ ns) = amounts-plain ns

pairs-plain : (n : ℕ) (hits misses : List ℕ) → items_have_float (items_of (pairs n hits misses)) ≡ false
pairs-plain zero hits misses = refl
pairs-plain (suc n) [] misses = refl
pairs-plain (suc n) (h ∷ hits) [] = refl
pairs-plain (suc n) (h ∷ hits) (m ∷ misses) = pairs-plain n hits misses

row-plain : (name : List ℕ) (c : Counts) → has_float (row_object name c) ≡ false
unfolding row_object
row-plain name c = rw (amounts-plain c.refused, pairs-plain c.arrays c.hits c.misses) refl

pub rows-plain : (rows : List Served) → items_have_float (items_of (row_objects rows)) ≡ false
rows-plain [] = refl
rows-plain (r ∷ rows) = rw (row-plain r.row.name r.state.counts) (rows-plain rows)

pub objects-plain : (rows : List Row) (counts : List Counts) → items_have_float (items_of (objects_of rows counts)) ≡ false
objects-plain [] counts = refl
objects-plain (r ∷ rows) [] = refl
objects-plain (r ∷ rows) (c ∷ counts) = rw (row-plain r.name.bytes c) (objects-plain rows counts)

front-plain : (xs ys : List Data) → items_have_float (items_of (xs ++ ys)) ≡ false → items_have_float (items_of xs) ≡ false
front-plain [] ys h = refl
front-plain (x ∷ xs) ys h = by_head (has_float x) (items_have_float (items_of (xs ++ ys))) (items_have_float (items_of xs)) h (front-plain xs ys)
  where
    by_head : (here all some : Bool) → (here || all) ≡ false → (all ≡ false → some ≡ false) → (here || some) ≡ false
    by_head true all some h k = h
    by_head false all some h k = k h

pub so_far-plain : (xs ys : List Data) (rows : List Row) (counts : List Counts) → xs ++ ys ≡ objects_of rows counts → items_have_float (items_of xs) ≡ false
so_far-plain xs ys rows counts h = front-plain xs ys (ap (λ (all : List Data). items_have_float (items_of all)) h ∙ objects-plain rows counts)
