-- A walk of a table's own words.
use Rattle.xl_radix_walk.proofs.Common.{if◌then◌else◌, ◌%◌, ◌+◌, ◌-◌, ◌<◌, ◌^◌, ◌∙◌, ◌≡◌, ◌≤◌, ◌⊎◌, [], ap, arith, counted, decode_of, end_at, end_level, end_of, entered, entering, false, inl, inr, is_there, IsPath, Leaf, leaf_at_page, List, loaded_times, Node, None, number_of, Option, place_of, plus, Pte, radix_back, radix_path, reading, refl, slice_index, Some, subst, suc, sym, Table, true, up, walk_end, WordsReadBack, zero, ℕ}
use Rattle.xl_pte.specs.declared.word.Pte.TheVariants as pte
use Rattle.xl_radix.specs.declared.walk_end.WalkEnd.TheVariants as end

-- the loads of a walk
pub loads-are : (n : ℕ) (t : Table) → loaded_times (λ (r : Table). record r { loads = counted r.loads }) (suc n) t ≡ record t { loads = plus t.loads (suc n) }
loads-are zero t = refl
loads-are (suc n) t = ap (λ (r : Table). record r { loads = counted r.loads }) (loads-are n t) ∙ ap (λ (v : ℕ). record t { loads = v }) (more t.loads (suc n))
  where
    more : (a n : ℕ) → ((a + n) % 2 ^ 64 + 1) % 2 ^ 64 ≡ (a + suc n) % 2 ^ 64
    more a n = omega arith

-- the nodes that a walk enters have their numbers
path-step : (words : List ℕ) (top spaces s page l node : ℕ) (leaves : List Leaf) (nodes : List (Option Node)) (w : Pte) → WordsReadBack top spaces leaves nodes words →
    ((next : ℕ) → w ≡ pte.Pointer next → number_of s l (up l page) nodes ≡ Some next) →
    ((next h : ℕ) → number_of s l (up l page) nodes ≡ Some next → end_of (reading words l next page) ≤ h → h + 1 < l → number_of s (suc h) (up (suc h) page) nodes ≡ Some (slice_index (entering words l next page) (l - 1 - 1 - h))) →
    (h : ℕ) → end_of (end_at w l (λ next. reading words l next page)) ≤ h → h < l → number_of s (suc h) (up (suc h) page) nodes ≡ Some (slice_index (entered w (λ next. entering words l next page)) (l - 1 - h))
path-step words top spaces s page l node leaves nodes pte.Invalid back first rest h low high = absurd (omega arith)
path-step words top spaces s page l node leaves nodes (pte.Leaf frame perm) back first rest h low high = absurd (omega arith)
path-step words top spaces s page l node leaves nodes pte.Reserved back first rest h low high = absurd (omega arith)
path-step words top spaces s page l node leaves nodes pte.Misaligned back first rest h low high = absurd (omega arith)
path-step words top spaces s page l node leaves nodes (pte.Pointer next) back first rest h low high =
    elim (cases (h + 1) l (omega arith)) [
      | inl e ↦
          let a : l - 1 - h ≡ 0 = omega arith in
          let b : suc h ≡ l = omega arith in
          rw a (subst (λ (v : ℕ). number_of s v (up v page) nodes ≡ Some next) (sym b) (first next refl))
      | inr e ↦
          let a : l - 1 - h ≡ suc (l - 1 - 1 - h) = omega arith in
          rw a (rest next h (first next refl) low e)
    ]
  where
    cases : (a b : ℕ) → a < suc b → (a ≡ b) ⊎ (a < b)
    cases a b h = grind arith

path-by : (words : List ℕ) (top spaces s page l node : ℕ) (leaves : List Leaf) (nodes : List (Option Node)) → WordsReadBack top spaces leaves nodes words → number_of s (suc l) (up (suc l) page) nodes ≡ Some node →
    ((next h : ℕ) → number_of s l (up l page) nodes ≡ Some next → end_of (reading words l next page) ≤ h → h + 1 < l → number_of s (suc h) (up (suc h) page) nodes ≡ Some (slice_index (entering words l next page) (l - 1 - 1 - h))) →
    (h : ℕ) → end_of (reading words (suc l) node page) ≤ h → h < l → number_of s (suc h) (up (suc h) page) nodes ≡ Some (slice_index (entering words (suc l) node page) (l - 1 - h))
path-by words top spaces s page l node leaves nodes back at below h =
    elim (is_there words (place_of l node page)) as (λ b. end_of (if b then end_at (decode_of (slice_index words (place_of l node page)) l) l (λ next. reading words l next page) else end.OutOfBus l) ≤ h → h < l → number_of s (suc h) (up (suc h) page) nodes ≡ Some (slice_index (if b then entered (decode_of (slice_index words (place_of l node page)) l) (λ next. entering words l next page) else []) (l - 1 - h))) [
      | true ↦ path-step words top spaces s page l node leaves nodes (decode_of (slice_index words (place_of l node page)) l) back (λ next e. back.entered s page l node next at e) below h
      | false ↦ λ low high. absurd (omega arith)
    ]

pub path-is : (words : List ℕ) (top spaces s page l node : ℕ) (leaves : List Leaf) (nodes : List (Option Node)) → WordsReadBack top spaces leaves nodes words → number_of s (suc l) (up (suc l) page) nodes ≡ Some node →
    (h : ℕ) → end_of (reading words (suc l) node page) ≤ h → h < l → number_of s (suc h) (up (suc h) page) nodes ≡ Some (slice_index (entering words (suc l) node page) (l - 1 - h))
path-is words top spaces s page zero node leaves nodes back at h low high = absurd (omega arith)
path-is words top spaces s page (suc k) node leaves nodes back at h low high =
    path-by words top spaces s page (suc k) node leaves nodes back at
    (λ next i e f g.
    let a : suc k - 1 - 1 - i ≡ k - 1 - i = omega arith in
    subst (λ (v : ℕ). number_of s (suc i) (up (suc i) page) nodes ≡ Some (slice_index (entering words (suc k) next page) v)) (sym a) (path-is words top spaces s page k next leaves nodes back e i f (omega arith)))
    h low high

pub end-at-level : (top s page : ℕ) (leaves : List Leaf) (words : List ℕ) (spaces : ℕ) (nodes : List (Option Node)) → WordsReadBack top spaces leaves nodes words → end_of (walk_end (leaf_at_page s page leaves) (end_level (top - 1) 0 s page leaves)) ≡ end_level (top - 1) 0 s page leaves
end-at-level top s page leaves words spaces nodes back =
    elim (leaf_at_page s page leaves) as (λ o. leaf_at_page s page leaves ≡ o → end_of (walk_end o (end_level (top - 1) 0 s page leaves)) ≡ end_level (top - 1) 0 s page leaves) [
      | None ↦ λ e. refl
      | Some x ↦ λ e. sym (back.kept.ends s page x e)
    ] refl

-- the path of a walk of a table's own words
pub walk-path : (words : List ℕ) (top spaces s page l node : ℕ) (leaves : List Leaf) (nodes : List (Option Node)) → WordsReadBack top spaces leaves nodes words → number_of s (suc l) (up (suc l) page) nodes ≡ Some node → IsPath (end_level (top - 1) 0 s page leaves) l s page (radix_path words l node page) nodes
unfolding radix_path radix_back
walk-path words top spaces s page l node leaves nodes back at = record {
  same = λ h low high. path-is words top spaces s page l node leaves nodes back at h (let e = ap end_of (back.back s page l node at) ∙ end-at-level top s page leaves words spaces nodes back in omega (arith, e, low)) high;
}
