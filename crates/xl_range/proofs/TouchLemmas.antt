-- For the table of ranges: what ranges that touch share, and a range put among maximal ranges.
use Rattle.xl_range.proofs.Common.{◌*◌, ◌+◌, ◌<◌, ◌∙◌, ◌∷◌, ◌≡◌, ◌≤◌, ◌⊎◌, [], ap, arith, begins, cond, end_key, false, first_leaf, glue, grown, In, inl, inr, IsClear, IsHeld, IsRange, join, Leaf, List, nat_lt, nat_tests, next_leaf, Order, orders-same, pages-some, pages_of, Range, range_key, range_leaves, refl, run_on, Stops, subst, suc, sym, touches, true, zero, ℕ}
use Rattle.xl_model.proofs.PermLemmas.{perms-same}
use Rattle.xl_range.proofs.RunLemmas.{count-is, leaves-is}

-- What ranges that touch share.
pub record Touch (r q : Range) : Type 0 where
  pub space_same : r.space ≡ q.space
  pub order_same : r.order ≡ q.order
  pub perm_same : r.perm ≡ q.perm
  pub pages_next : r.start + r.pages ≡ q.start
  pub frames_next : r.frame + r.pages ≡ q.frame

pub touch : (r q : Range) → touches r q ≡ true → Touch r q
touch r q h = record {
  space_same = grind (arith, nat_tests);
  order_same = orders-same r.order q.order (grind (arith, nat_tests));
  perm_same = perms-same r.perm q.perm (grind (arith, nat_tests));
  pages_next = grind (arith, nat_tests);
  frames_next = grind (arith, nat_tests);
}

pub touch-key : (r q : Range) → Touch r q → end_key r ≡ range_key q
touch-key r q t =
    let a : r.space ≡ q.space = t.space_same in
    let b : r.start + r.pages ≡ q.start = t.pages_next in
    omega arith

pub same-begins : (x q s : Range) (page frame : ℕ) → x.space ≡ q.space → x.order ≡ q.order → x.perm ≡ q.perm → begins (first_leaf x) page frame s ≡ begins (first_leaf q) page frame s
same-begins x q s page frame a b c = rw (a, b, c) refl

-- only the end of a range counts
pub grown-touches : (x q s : Range) → Touch x q → touches (grown x q) s ≡ touches q s
grown-touches x q s t =
    let a : x.start + (x.pages + q.pages) ≡ q.start + q.pages = let e = t.pages_next in omega arith in
    let b : x.frame + (x.pages + q.pages) ≡ q.frame + q.pages = let e = t.frames_next in omega arith in
    ap (λ (n : ℕ). begins (first_leaf x) n (x.frame + (x.pages + q.pages)) s) a
    ∙ ap (λ (n : ℕ). begins (first_leaf x) (q.start + q.pages) n s) b
    ∙ same-begins x q s (q.start + q.pages) (q.frame + q.pages) t.space_same t.order_same t.perm_same

pub stops-grown : (x q : Range) (rs : List Range) → Touch x q → Stops q rs → Stops (grown x q) rs
stops-grown x q [] t h = tt
stops-grown x q (s ∷ ss) t h = grown-touches x q s t ∙ h

-- The leaf n leaves on.
unfoldable pub leap : ℕ → Leaf → Leaf
leap n l = record l { first = l.first + n * pages_of l.order; frame = l.frame + n * pages_of l.order }

pub leap-none : (l : Leaf) → leap 0 l ≡ l
unfolding leap
leap-none l =
    let a : l.first + 0 * pages_of l.order ≡ l.first = omega arith in
    let b : l.frame + 0 * pages_of l.order ≡ l.frame = omega arith in
    rw (a, b) refl

pub leap-next : (n : ℕ) (l : Leaf) → leap n (next_leaf l) ≡ leap (suc n) l
unfolding leap
leap-next n l =
    let p : ℕ = pages_of l.order in
    let a : l.first + p + n * p ≡ l.first + suc n * p = omega arith in
    let b : l.frame + p + n * p ≡ l.frame + suc n * p = omega arith in
    rw (a, b) refl

pub run-add : (a b : ℕ) (l : Leaf) (rest : List Leaf) → run_on (a + b) l rest ≡ run_on a l (run_on b (leap a l) rest)
run-add zero b l rest = let e : 0 + b ≡ b = omega arith in rw (e, leap-none l) refl
run-add (suc a) b l rest =
    let e : suc a + b ≡ suc (a + b) = omega arith in
    rw e (ap (λ (xs : List Leaf). l ∷ xs) (run-add a b (next_leaf l) rest ∙ ap (λ (k : Leaf). run_on a (next_leaf l) (run_on b k rest)) (leap-next a l)))

next-first : (x q : Range) (n : ℕ) → Touch x q → x.pages ≡ n * pages_of x.order → leap n (first_leaf x) ≡ first_leaf q
unfolding leap
next-first x q n t pages =
    let a : x.start + n * pages_of x.order ≡ q.start = let e = t.pages_next in omega arith in
    let b : x.frame + n * pages_of x.order ≡ q.frame = let e = t.frames_next in omega arith in
    rw (a, b, t.space_same, t.order_same, t.perm_same) refl

-- the pages of both
grown-pages : (x q : Range) (a b : ℕ) → Touch x q → x.pages ≡ suc a * pages_of x.order → q.pages ≡ suc b * pages_of q.order
    → x.pages + q.pages ≡ suc (suc a + b) * pages_of x.order
grown-pages x q a b t h k =
    let l : q.pages ≡ suc b * pages_of x.order = subst (λ (o : Order). q.pages ≡ suc b * pages_of o) (sym t.order_same) k in
    omega arith

pub grown-range : (x q : Range) → Touch x q → IsRange x → IsRange q → IsRange (grown x q)
grown-range x q t is also = record {
  leaves = (suc is.leaves.0 + also.leaves.0, grown-pages x q is.leaves.0 also.leaves.0 t is.leaves.1 also.leaves.1);
  space_in = is.space_in;
  pages_in = let e = t.pages_next in let f = also.pages_in in omega arith;
  frames_in = let e = t.frames_next in let f = also.frames_in in omega arith;
  aligned = is.aligned;
}

-- the leaves of both
pub run-grown : (x q : Range) (rest : List Leaf) → Touch x q → IsRange x → IsRange q
    → run_on (range_leaves (grown x q)) (first_leaf x) rest ≡ run_on (range_leaves x) (first_leaf x) (run_on (range_leaves q) (first_leaf q) rest)
run-grown x q rest t is also =
    let a : ℕ = is.leaves.0 in
    let b : ℕ = also.leaves.0 in
    let e : range_leaves (grown x q) ≡ suc a + suc b = count-is x.order (suc (suc a + b)) (x.pages + q.pages) (grown-pages x q a b t is.leaves.1 also.leaves.1) ∙ (omega arith) in
    rw (e, leaves-is x is, leaves-is q also) (run-add (suc a) (suc b) (first_leaf x) rest
    ∙ ap (λ (k : Leaf). run_on (suc a) (first_leaf x) (run_on (suc b) k rest)) (next-first x q (suc a) t is.leaves.1))

pub some-pages : (r : Range) → IsRange r → 0 < r.pages
some-pages r is =
    let a : r.pages ≡ suc is.leaves.0 * pages_of r.order = is.leaves.1 in
    let b : 0 < pages_of r.order = pages-some r.order in
    let n : ℕ = is.leaves.0 in
    let c : suc n * pages_of r.order ≡ pages_of r.order + n * pages_of r.order = omega arith in
    omega arith

pub not-touching : (r x : Range) → (touches r x ≡ true → ⊥) → touches r x ≡ false
not-touching r x h = elim (touches r x) as (λ b. (b ≡ true → ⊥) → b ≡ false) [ true ↦ λ f. absurd (f refl) | false ↦ λ f. refl ] h

pub In-key : (low : ℕ) (r : Range) (rs : List Range) → IsHeld low rs → In r rs → low ≤ range_key r
In-key low r [] h i = absurd i
In-key low r (x ∷ rs) (above, is, stops, rest) (inl e) = let P : Range → Type 0 = λ z. low ≤ range_key z in subst P (sym e) above
In-key low r (x ∷ rs) (above, is, stops, rest) (inr i) = let a : end_key x ≤ range_key r = In-key (end_key x) r rs rest i in omega arith

pub In-range : (low : ℕ) (r : Range) (rs : List Range) → IsHeld low rs → In r rs → IsRange r
In-range low r [] h i = absurd i
In-range low r (x ∷ rs) (above, is, stops, rest) (inl e) = let P : Range → Type 0 = λ z. IsRange z in subst P (sym e) is
In-range low r (x ∷ rs) (above, is, stops, rest) (inr i) = In-range (end_key x) r rs rest i

pub lower : (low high : ℕ) (rs : List Range) → low ≤ high → IsHeld high rs → IsHeld low rs
lower low high [] le h = tt
lower low high (r ∷ rs) le (above, is, stops, rest) = (omega arith, is, stops, rest)

-- what begins after a range, and lies apart from it, begins after its end
pub held-following : (low : ℕ) (x : Range) (rs : List Range) → IsHeld low rs → IsClear x rs → range_key x ≤ low → IsHeld (end_key x) rs
held-following low x [] h clear le = tt
held-following low x (r ∷ rs) (above, is, stops, rest) (apart, clear) le = (elim apart [ inl a ↦ (let p : 0 < r.pages = some-pages r is in absurd (omega arith)) | inr b ↦ b ], is, stops, rest)

pub held-glue : (low : ℕ) (x : Range) (rs : List Range) → low ≤ range_key x → IsRange x → IsHeld (end_key x) rs → IsHeld low (glue x rs)
held-glue low x [] le is h = (le, is, tt, tt)
held-glue low x (q ∷ qs) le is (above, also, stops, rest) =
    elim (touches x q) as (λ b. touches x q ≡ b → IsHeld low (cond b (grown x q ∷ qs) (x ∷ q ∷ qs))) [
      | true ↦ λ t.
          let k : Touch x q = touch x q t in
          let e : end_key (grown x q) ≡ end_key q = let f : end_key x ≡ range_key q = touch-key x q k in omega arith in
          (le, grown-range x q k is also, stops-grown x q qs k stops, subst (λ (n : ℕ). IsHeld n qs) (sym e) rest)
      | false ↦ λ t. (le, is, t, (above, also, stops, rest))
    ] refl

stops-glue : (r x : Range) (rs : List Range) → touches r x ≡ false → Stops r (glue x rs)
stops-glue r x [] h = h
stops-glue r x (q ∷ qs) h = elim (touches x q) as (λ b. Stops r (cond b (grown x q ∷ qs) (x ∷ q ∷ qs))) [ true ↦ h | false ↦ h ]

stops-grow : (r s x : Range) (rs : List Range) → touches r s ≡ false → Stops r (glue (grown s x) rs)
stops-grow r s x rs h = stops-glue r (grown s x) rs h

stops-join : (r x : Range) (rs : List Range) → Stops r rs → touches r x ≡ false → Stops r (join x rs)
unfolding join
stops-join r x [] h free = free
stops-join r x (s ∷ ss) h free =
    elim (nat_lt (range_key s) (range_key x)) as (λ b. Stops r (cond b (cond (touches s x) (glue (grown s x) ss) (s ∷ join x ss)) (glue x (s ∷ ss)))) [
      | true ↦ elim (touches s x) as (λ b. Stops r (cond b (glue (grown s x) ss) (s ∷ join x ss))) [ true ↦ stops-grow r s x ss h | false ↦ h ]
      | false ↦ stops-glue r x (s ∷ ss) free
    ]

pub clear-ends : (x r : Range) → IsRange x → range_key r < range_key x → ((end_key r ≤ range_key x) ⊎ (end_key x ≤ range_key r)) → end_key r ≤ range_key x
clear-ends x r is less (inl a) = a
clear-ends x r is less (inr b) = absurd (omega arith)

pub held-join : (low : ℕ) (x : Range) (rs : List Range) → IsHeld low rs → low ≤ range_key x → IsRange x → IsClear x rs → IsHeld low (join x rs)
unfolding join
held-join low x [] h le is clear = (le, is, tt, tt)
held-join low x (r ∷ rs) (above, also, stops, rest) le is (apart, clear) =
    elim (nat_lt (range_key r) (range_key x)) as (λ b. nat_lt (range_key r) (range_key x) ≡ b → IsHeld low (cond b (cond (touches r x) (glue (grown r x) rs) (r ∷ join x rs)) (glue x (r ∷ rs)))) [
      | true ↦ λ l.
          let less : range_key r < range_key x = grind (arith, nat_tests) in
          let ends : end_key r ≤ range_key x = clear-ends x r is less apart in
          elim (touches r x) as (λ b. touches r x ≡ b → IsHeld low (cond b (glue (grown r x) rs) (r ∷ join x rs))) [
            | true ↦ λ t.
                let k : Touch r x = touch r x t in
                let f : end_key r ≡ range_key x = touch-key r x k in
                let e : end_key (grown r x) ≡ end_key x = omega arith in
                let following : IsHeld (end_key x) rs = held-following (end_key r) x rs rest clear (omega arith) in
                held-glue low (grown r x) rs above (grown-range r x k also is) (subst (λ (n : ℕ). IsHeld n rs) (sym e) following)
            | false ↦ λ t. (above, also, stops-join r x rs stops t, held-join (end_key r) x rs rest ends is clear)
          ] refl
      | false ↦ λ l.
          let le_r : range_key x ≤ range_key r = grind (arith, nat_tests) in
          held-glue low x (r ∷ rs) le is (held-following (range_key r) x (r ∷ rs) (omega arith, also, stops, rest) (apart, clear) le_r)
    ] refl
