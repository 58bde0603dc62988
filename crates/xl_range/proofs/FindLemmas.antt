-- What is found in held ranges: the range of a page and its leaf, and the range of a leaf that is there.
use Rattle.xl_range.proofs.Common.{◌&&◌, ◌*◌, ◌+◌, ◌-◌, ◌/◌, ◌<◌, ◌==◌, ◌^◌, ◌∙◌, ◌∷◌, ◌≡◌, ◌≤◌, [], ap, arith, Bool, cond, covers, end_key, false, find, find-In, find-passes, first_leaf, HasLeaf, holds_page, In, inl, inr, is_some, IsAt, IsFit, IsFresh, IsHeld, IsLeafIn, IsNamed, Leaf, leaf_at_page, leaf_by, leaf_in, leaf_named, List, nat_le, nat_lt, nat_tests, next_leaf, None, Option, Order, pages-some, pages_of, Range, range_key, refl, run_on, Some, spread, subst, suc, sym, true, zero, ℕ}
use Rattle.xl_range.proofs.HoldLemmas.{fit-range}
use Rattle.xl_range.proofs.LeafInLemmas.{holds-first, named-in, sizes}
use Rattle.xl_range.proofs.RunLemmas.{leaves-is}
use Rattle.xl_range.proofs.TouchLemmas.{In-key, In-range, leap}
use Rattle.xl_model.specs.declared.address.Order.TheVariants as order

-- The leaf `skip` pages on.
unfoldable leaf_off : ℕ → Leaf → Leaf
leaf_off skip l = record l { first = l.first + skip; frame = l.frame + skip }

-- The pages of whole leaves among `a`.
unfoldable whole : ℕ → Order → ℕ
whole a o = a / pages_of o * pages_of o

skip-none : (o : Order) (a : ℕ) → a < pages_of o → whole a o ≡ 0
unfolding whole
skip-none order.K4 a h = omega arith
skip-none order.M2 a h = omega arith
skip-none order.G1 a h = omega arith

skip-one : (o : Order) (a : ℕ) → pages_of o ≤ a → whole a o ≡ pages_of o + whole (a - pages_of o) o
unfolding whole
skip-one order.K4 a h = omega arith
skip-one order.M2 a h = omega arith
skip-one order.G1 a h = omega arith

off-none : (l : Leaf) (page : ℕ) → l.first ≤ page → page < l.first + pages_of l.order → leaf_off (whole (page - l.first) l.order) l ≡ l
unfolding leaf_off
off-none l page low high =
    let z : whole (page - l.first) l.order ≡ 0 = skip-none l.order (page - l.first) (omega arith) in
    let a : l.first + 0 ≡ l.first = omega arith in
    let b : l.frame + 0 ≡ l.frame = omega arith in
    rw (z, a, b) refl

off-next : (l : Leaf) (page : ℕ) → l.first + pages_of l.order ≤ page
    → leaf_off (whole (page - l.first) l.order) l ≡ leaf_off (whole (page - (l.first + pages_of l.order)) l.order) (next_leaf l)
unfolding leaf_off
off-next l page low =
    let w : ℕ = whole (page - l.first - pages_of l.order) l.order in
    let z : whole (page - l.first) l.order ≡ pages_of l.order + w = skip-one l.order (page - l.first) (omega arith) in
    let y : page - (l.first + pages_of l.order) ≡ page - l.first - pages_of l.order = omega arith in
    let a : l.first + (pages_of l.order + w) ≡ l.first + pages_of l.order + w = omega arith in
    let b : l.frame + (pages_of l.order + w) ≡ l.frame + pages_of l.order + w = omega arith in
    rw (y, z) (ap (λ (f : ℕ). record l { first = f; frame = l.frame + (pages_of l.order + w) }) a
    ∙ ap (λ (f : ℕ). record l { first = l.first + pages_of l.order + w; frame = f }) b)

find-in : (space page n : ℕ) (l : Leaf) (rest : List Leaf) → l.space ≡ space → l.first ≤ page → page < l.first + n * pages_of l.order
    → find (covers space page) (run_on n l rest) ≡ Some (leaf_off (whole (page - l.first) l.order) l)
find-in space page zero l rest same low high = absurd (omega arith)
find-in space page (suc n) l rest same low high =
    elim (nat_lt page (l.first + pages_of l.order)) as (λ b. nat_lt page (l.first + pages_of l.order) ≡ b → find (covers space page) (run_on (suc n) l rest) ≡ Some (leaf_off (whole (page - l.first) l.order) l)) [
      | true ↦ λ t.
          let here : covers space page l ≡ true = grind (arith, nat_tests) in
          let below : page < l.first + pages_of l.order = grind (arith, nat_tests) in
          rw here (ap Some (sym (off-none l page low below)))
      | false ↦ λ t.
          let not_here : covers space page l ≡ false = grind (arith, nat_tests) in
          let above : l.first + pages_of l.order ≤ page = grind (arith, nat_tests) in
          rw not_here (find-in space page n (next_leaf l) rest same above (omega arith) ∙ ap Some (sym (off-next l page above)))
    ] refl

find-out : (space page n : ℕ) (l : Leaf) (rest : List Leaf) → ((l.space == space) && (nat_le l.first page && nat_lt page (l.first + n * pages_of l.order))) ≡ false
    → find (covers space page) (run_on n l rest) ≡ find (covers space page) rest
find-out space page zero l rest out = refl
find-out space page (suc n) l rest out =
    let p : ℕ = pages_of l.order in
    let some : 0 < p = pages-some l.order in
    let e : l.first + suc n * p ≡ l.first + p + n * p = omega arith in
    let P : ℕ → Type 0 = λ k. ((l.space == space) && (nat_le l.first page && nat_lt page k)) ≡ false in
    let out_at : ((l.space == space) && (nat_le l.first page && nat_lt page (l.first + p + n * p))) ≡ false = subst P e out in
    let not_here : covers space page l ≡ false = clear (l.space == space) l.first page p (n * p) out_at in
    let not_next : ((l.space == space) && (nat_le (l.first + p) page && nat_lt page (l.first + p + n * p))) ≡ false = later (l.space == space) l.first page p (n * p) out_at in
    rw not_here (find-out space page n (next_leaf l) rest not_next)
  where
    clear : (s : Bool) (first page p more : ℕ) → (s && (nat_le first page && nat_lt page (first + p + more))) ≡ false → (s && (nat_le first page && nat_lt page (first + p))) ≡ false
    clear false first page p more h = refl
    clear true first page p more h = grind (arith, nat_tests)

    later : (s : Bool) (first page p more : ℕ) → (s && (nat_le first page && nat_lt page (first + p + more))) ≡ false → (s && (nat_le (first + p) page && nat_lt page (first + p + more))) ≡ false
    later false first page p more h = refl
    later true first page p more h = grind (arith, nat_tests)

off-is : (r : Range) (page : ℕ) → leaf_off (whole (page - r.start) r.order) (first_leaf r) ≡ leaf_in page r
unfolding leaf_off whole
off-is r page = refl

-- a walk's leaf
pub find-spread : (space page low : ℕ) (rs : List Range) → IsHeld low rs → find (covers space page) (spread rs) ≡ leaf_by page (find (holds_page space page) rs)
unfolding spread
find-spread space page low [] h = refl
find-spread space page low (r ∷ rs) (above, is, stops, rest) =
    let n : ℕ = suc is.leaves.0 in
    let pages : r.pages ≡ n * pages_of r.order = is.leaves.1 in
    let tail : find (covers space page) (spread rs) ≡ leaf_by page (find (holds_page space page) rs) = find-spread space page (end_key r) rs rest in
    rw (leaves-is r is) (elim (holds_page space page r) as (λ b. holds_page space page r ≡ b → find (covers space page) (run_on n (first_leaf r) (spread rs)) ≡ leaf_by page (cond b (Some r) (find (holds_page space page) rs))) [
      | true ↦ λ t.
          let same : r.space ≡ space = grind (arith, nat_tests) in
          let from : r.start ≤ page = grind (arith, nat_tests) in
          let to : page < r.start + r.pages = grind (arith, nat_tests) in
          find-in space page n (first_leaf r) (spread rs) same from (omega arith) ∙ ap Some (off-is r page)
      | false ↦ λ t.
          find-out space page n (first_leaf r) (spread rs) (subst (λ (k : ℕ). ((r.space == space) && (nat_le r.start page && nat_lt page (r.start + k))) ≡ false) pages t) ∙ tail
    ] refl)

pub at-page : (space page : ℕ) (r : Range) → IsFit r → holds_page space page r ≡ true → IsAt page r
at-page space page r fit h = record { fit = fit; from = grind (arith, nat_tests); below = grind (arith, nat_tests) }

pub find-held : (space page low : ℕ) (r : Range) (rs : List Range) → IsHeld low rs → In r rs → holds_page space page r ≡ true → find (holds_page space page) rs ≡ Some r
find-held space page low r [] h i t = absurd i
find-held space page low r (x ∷ rs) h (inl e) t =
    let u : holds_page space page x ≡ true = subst (λ (z : Range). holds_page space page z ≡ true) e t in
    rw u (ap Some (sym e))
find-held space page low r (x ∷ rs) (above, is, stops, rest) (inr i) t =
    let after : end_key x ≤ range_key r = In-key (end_key x) r rs rest i in
    let r_in : r.start + r.pages ≤ 2 ^ 52 = (In-range (end_key x) r rs rest i).pages_in in
    let not_x : holds_page space page x ≡ false = grind (arith, nat_tests) in
    rw not_x (find-held space page (end_key x) r rs rest i t)

pub found-at : (space page : ℕ) (rs : List Range) (r : Range) → IsHeld 0 rs → find (holds_page space page) rs ≡ Some r → IsAt page r
found-at space page rs r h e = at-page space page r (fit-range r (In-range 0 r rs h (find-In (holds_page space page) r rs e))) (find-passes (holds_page space page) r rs e)

pub leaf-found : (space page : ℕ) (rs : List Range) → IsHeld 0 rs → leaf_by page (find (holds_page space page) rs) ≡ leaf_at_page space page (spread rs)
unfolding leaf_at_page
leaf-found space page rs h = sym (find-spread space page 0 rs h)

-- a held range is fresh
pub held-fresh : (rs : List Range) (r : Range) → IsHeld 0 rs → In r rs → IsFresh (spread rs) r
held-fresh rs r h i page t = sym (leaf-found r.space page rs h) ∙ ap (leaf_by page) (find-held r.space page 0 r rs h i t)

-- the leaf of the range at its page
whole-is : (o : Order) (a : ℕ) → a * pages_of o / pages_of o * pages_of o ≡ a * pages_of o
whole-is order.K4 a = omega arith
whole-is order.M2 a = omega arith
whole-is order.G1 a = omega arith

pub leaf-in-is : (space first : ℕ) (o : Order) (r : Range) (i : IsLeafIn space first o r) → leaf_in first r ≡ leap i.before (first_leaf r)
unfolding leap
leaf-in-is space first o r i =
    let skip : first - r.start ≡ i.before * pages_of r.order = subst (λ (q : Order). first - r.start ≡ i.before * pages_of q) (sym i.order_same) (sizes space first o r i).before_is in
    rw (skip, whole-is r.order i.before) refl

some-of : {A : Type 0} (o : Option A) → is_some o ≡ true → (x : A) × (o ≡ Some x)
some-of None h = absurd (cc)
some-of (Some x) h = (x, refl)

-- The range that holds a named leaf's first page has the leaf.
pub record IsNamedIn (space first : ℕ) (o : Order) (rs : List Range) : Type 0 where
  pub range : Range
  pub has : HasLeaf space first o rs range
  pub found : find (holds_page space first) rs ≡ Some range
  pub space_in : space < 64
  pub first_in : first < 2 ^ 52

pub named-range : (space first : ℕ) (o : Order) (rs : List Range) → IsHeld 0 rs → IsNamed space first o (spread rs) → IsNamedIn space first o rs
unfolding leaf_named
named-range space first o rs h named =
    let x = some-of (leaf_named space first o (spread rs)) named in
    let i = named-in space first o 0 x.0 rs h x.1 in
    let s = sizes space first o i.0 i.2.0 in
    let to = s.to in
    let some = s.some in
    let limit = (In-range 0 i.0 rs h i.1).pages_in in
    let low = (In-range 0 i.0 rs h i.1).space_in in
    let same = i.2.0.space_same in
    record {
      range = i.0;
      has = record { member = i.1; place = i.2.0; named = x.1 ∙ ap Some (i.2.1 ∙ sym (leaf-in-is space first o i.0 i.2.0)) };
      found = find-held space first 0 i.0 rs h i.1 (holds-first space first o i.0 i.2.0);
      space_in = omega arith;
      first_in = omega arith;
    }

pub found-range : (space first : ℕ) (o : Order) (rs : List Range) (r : Range) → IsHeld 0 rs → IsNamed space first o (spread rs) → Some r ≡ find (holds_page space first) rs → HasLeaf space first o rs r
found-range space first o rs r h named found =
    let n : IsNamedIn space first o rs = named-range space first o rs h named in
    let some : Some n.range ≡ Some r = sym n.found ∙ sym found in
    let same : n.range ≡ r = cc in
    subst (λ (z : Range). HasLeaf space first o rs z) same n.has

pub no-range : (space first : ℕ) (o : Order) (rs : List Range) → IsHeld 0 rs → IsNamed space first o (spread rs) → None ≡ find (holds_page space first) rs → ⊥
no-range space first o rs h named none =
    let n : IsNamedIn space first o rs = named-range space first o rs h named in
    let bad : None ≡ Some n.range = none ∙ n.found in
    absurd (cc)
