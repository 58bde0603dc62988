-- For the table of ranges: a leaf cut out of maximal ranges leaves maximal ranges, of the other leaves.
use Rattle.xl_range.proofs.Common.{◌*◌, ◌+◌, ◌/◌, ◌<◌, ◌==◌, ◌^◌, ◌∙◌, ◌∷◌, ◌≡◌, ◌≤◌, [], ap, arith, before_on, Bool, cond, cut, end_key, false, filter, first_leaf, following_on, In, inl, inr, IsHeld, IsLeafIn, IsRange, Leaf, leaf_key, List, nat_tests, next_leaf, Order, pages-some, pages_before, pages_following, pages_of, part_following, pieces, Range, range_key, range_leaves, refl, run_on, spread, Stops, subst, suc, sym, touches, true, without_leaf, zero, ℕ}
use Rattle.xl_range.proofs.LeafInLemmas.{leap-key, next-of-leap, Sizes, sizes}
use Rattle.xl_range.proofs.RunLemmas.{count-is, leaves-is}
use Rattle.xl_range.proofs.TouchLemmas.{In-key, leap, lower, not-touching, run-add, some-pages, touch, touch-key}

-- For the table of ranges: what is left of a range without a leaf of it are maximal ranges.
pub stops-far : (low : ℕ) (y : Range) (rs : List Range) → end_key y < low → IsHeld low rs → Stops y rs
stops-far low y [] less h = tt
stops-far low y (s ∷ ss) less (above, is, stops, rest) = not-touching y s (λ u. let e : end_key y ≡ range_key s = touch-key y s (touch y s u) in omega arith)

following-touches : (r x s : Range) (end frame : ℕ) → x.space ≡ r.space → x.order ≡ r.order → x.perm ≡ r.perm → x.start + x.pages ≡ r.start + r.pages → x.frame + x.pages ≡ r.frame + r.pages → touches x s ≡ touches r s
following-touches r x s end frame a b c d e = rw (a, b, c, d, e) refl

stops-same : (x r : Range) (rs : List Range) → ((s : Range) → touches x s ≡ touches r s) → Stops r rs → Stops x rs
stops-same x r [] same h = tt
stops-same x r (s ∷ ss) same h = same s ∙ h

following-held : (m b low : ℕ) (r x : Range) (rs : List Range) → m ≡ b * pages_of x.order → x.pages ≡ m → (0 < m → IsRange x) → (0 < m → Stops x rs) → low ≤ range_key x → range_key x + m ≡ end_key r → IsHeld (end_key r) rs
    → IsHeld low (following_on m x rs)
following-held zero b low r x rs h p is stops le ends rest = lower low (end_key r) rs (omega arith) rest
following-held (suc m) b low r x rs h p is stops le ends rest =
    let e : end_key r ≡ end_key x = omega arith in
    (le, is (omega arith), stops (omega arith), subst (λ (k : ℕ). IsHeld k rs) e rest)

before-held : (n a low top : ℕ) (r : Range) (ys : List Range) → n ≡ a * pages_of r.order → IsRange r → n ≤ r.pages → low ≤ range_key r → range_key r + n < top → IsHeld top ys → IsHeld low (before_on n r ys)
before-held zero a low top r ys h is le above less held = lower low top ys (omega arith) held
before-held (suc n) zero low top r ys h is le above less held = absurd (omega arith)
before-held (suc n) (suc a) low top r ys h is le above less held =
    let y : Range = record r { pages = suc n } in
    let range : IsRange y = record {
      leaves = (a, h);
      space_in = is.space_in;
      pages_in = (let e = is.pages_in in omega arith);
      frames_in = (let e = is.frames_in in omega arith);
      aligned = is.aligned;
    } in
    (above, range, stops-far top y ys (omega arith) held, lower (end_key y) top ys (omega arith) held)

following-range : (space first : ℕ) (o : Order) (r : Range) (i : IsLeafIn space first o r) → IsRange r → 0 < pages_following first o r → IsRange (part_following first o r)
following-range space first o r i is some = by-count i.following s.following_is
  where
    s : Sizes first o r i.before i.following
    s = sizes space first o r i

    by-count : (b : ℕ) → pages_following first o r ≡ b * pages_of o → IsRange (part_following first o r)
    by-count zero e = absurd (omega arith)
    by-count (suc b) e =
        let R : Order → Type 0 = λ q. r.start ≡ is.aligned.0 * pages_of q in
        let start : r.start ≡ is.aligned.0 * pages_of o = subst R i.order_same is.aligned.1 in
        let at : first ≡ r.start + i.before * pages_of o = i.at in
        let next : first + pages_of o ≡ (is.aligned.0 + i.before + 1) * pages_of o = mult is.aligned.0 i.before (pages_of o) r.start first start at in
        record {
          leaves = (b, subst (λ (q : Order). pages_following first o r ≡ suc b * pages_of q) (sym i.order_same) e);
          space_in = is.space_in;
          pages_in = (let u = s.to in let v = is.pages_in in omega arith);
          frames_in = (let u = s.to in let v = is.frames_in in let w = s.from in omega arith);
          aligned = subst (λ (q : Order). (e : ℕ) × (first + pages_of o ≡ e * pages_of q)) (sym i.order_same) (is.aligned.0 + i.before + 1, next);
        }
      where
        mult : (e a p start first : ℕ) → start ≡ e * p → first ≡ start + a * p → first + p ≡ (e + a + 1) * p
        mult e a p start first h k = omega arith

pub head-held : (space first : ℕ) (o : Order) (low : ℕ) (r : Range) (rs : List Range) (i : IsLeafIn space first o r) → low ≤ range_key r → IsRange r → Stops r rs → IsHeld (end_key r) rs
    → IsHeld low (before_on (pages_before first r) r (following_on (pages_following first o r) (part_following first o r) rs))
head-held space first o low r rs i above is stops rest =
    let s : Sizes first o r i.before i.following = sizes space first o r i in
    let from = s.from in
    let to = s.to in
    let some = s.some in
    let x : Range = part_following first o r in
    let P : Order → Type 0 = λ q. pages_before first r ≡ i.before * pages_of q in
    let Q : Order → Type 0 = λ q. pages_following first o r ≡ i.following * pages_of q in
    let ends : x.start + x.pages ≡ r.start + r.pages = omega arith in
    let frames : x.frame + x.pages ≡ r.frame + r.pages = omega arith in
    let following : IsHeld (range_key x) (following_on (pages_following first o r) x rs) =
    following-held (pages_following first o r) i.following (range_key x) r x rs (subst Q (sym i.order_same) s.following_is) refl (following-range space first o r i is)
    (λ m. stops-same x r rs (λ z. following-touches r x z 0 0 refl refl refl ends frames) stops) (omega arith) (omega arith) rest in
    before-held (pages_before first r) i.before low (range_key x) r (following_on (pages_following first o r) x rs) (subst P (sym i.order_same) s.before_is) is (omega arith) above (omega arith) following

-- A leaf has another key.
unfoldable pub stays : ℕ → Leaf → Bool
stays k leaf = cond (leaf_key leaf == k) false true

pub filter-below : (k n : ℕ) (l : Leaf) (rest : List Leaf) → leaf_key l + n * pages_of l.order ≤ k → filter (stays k) (run_on n l rest) ≡ run_on n l (filter (stays k) rest)
unfolding stays
filter-below k zero l rest h = refl
filter-below k (suc n) l rest h =
    let p : 0 < pages_of l.order = pages-some l.order in
    let e : suc n * pages_of l.order ≡ pages_of l.order + n * pages_of l.order = omega arith in
    let other : (leaf_key l == k) ≡ false = grind (arith, nat_tests) in
    rw other (ap (λ (xs : List Leaf). l ∷ xs) (filter-below k n (next_leaf l) rest (omega arith)))

filter-above : (k n : ℕ) (l : Leaf) (rest : List Leaf) → k < leaf_key l → filter (stays k) (run_on n l rest) ≡ run_on n l (filter (stays k) rest)
unfolding stays
filter-above k zero l rest h = refl
filter-above k (suc n) l rest h =
    let other : (leaf_key l == k) ≡ false = grind (arith, nat_tests) in
    rw other (ap (λ (xs : List Leaf). l ∷ xs) (filter-above k n (next_leaf l) rest (omega arith)))

pub filter-rest : (k low : ℕ) (rs : List Range) → IsHeld low rs → k < low → filter (stays k) (spread rs) ≡ spread rs
unfolding spread
filter-rest k low [] h less = refl
filter-rest k low (r ∷ rs) (above, is, stops, rest) less =
    let some : 0 < r.pages = some-pages r is in
    filter-above k (range_leaves r) (first_leaf r) (spread rs) (omega arith) ∙ ap (run_on (range_leaves r) (first_leaf r)) (filter-rest k (end_key r) rs rest (omega arith))

none-of : (a p : ℕ) → 0 < p → 0 ≡ a * p → a ≡ 0
none-of zero p some h = refl
none-of (suc a) p some h = let e : suc a * p ≡ p + a * p = omega arith in absurd (omega arith)

pub spread-before : (n a : ℕ) (r : Range) (rest : List Range) → n ≡ a * pages_of r.order → spread (before_on n r rest) ≡ run_on a (first_leaf r) (spread rest)
unfolding spread
spread-before zero a r rest h = let z : a ≡ 0 = none-of a (pages_of r.order) (pages-some r.order) h in rw z refl
spread-before (suc n) a r rest h = let z : suc n / pages_of r.order ≡ a = count-is r.order a (suc n) h in rw z refl

pub spread-following : (n b : ℕ) (x : Range) (rest : List Range) → n ≡ b * pages_of x.order → x.pages ≡ n → spread (following_on n x rest) ≡ run_on b (first_leaf x) (spread rest)
unfolding spread
spread-following zero b x rest h e = let z : b ≡ 0 = none-of b (pages_of x.order) (pages-some x.order) h in rw z refl
spread-following (suc n) b x rest h e = let z : x.pages / pages_of x.order ≡ b = count-is x.order b x.pages (e ∙ h) in rw z refl

-- the range with the leaf is the first
pub head-spread : (space first : ℕ) (o : Order) (r : Range) (rs : List Range) (i : IsLeafIn space first o r) → IsRange r → IsHeld (end_key r) rs
    → spread (before_on (pages_before first r) r (following_on (pages_following first o r) (part_following first o r) rs)) ≡ filter (stays (space * 2 ^ 52 + first)) (spread (r ∷ rs))
unfolding spread stays
head-spread space first o r rs i is rest =
    let k : ℕ = space * 2 ^ 52 + first in
    let a : ℕ = i.before in
    let b : ℕ = i.following in
    let s : Sizes first o r a b = sizes space first o r i in
    let x : Range = part_following first o r in
    let before : pages_before first r ≡ a * pages_of r.order = subst (λ (q : Order). pages_before first r ≡ a * pages_of q) (sym i.order_same) s.before_is in
    let following : pages_following first o r ≡ b * pages_of r.order = subst (λ (q : Order). pages_following first o r ≡ b * pages_of q) (sym i.order_same) s.following_is in
    let count : range_leaves r ≡ a + suc b = count-is r.order (a + suc b) r.pages (subst (λ (q : Order). r.pages ≡ (a + suc b) * pages_of q) (sym i.order_same) i.count) in
    let m : Leaf = leap a (first_leaf r) in
    let split : run_on (a + suc b) (first_leaf r) (spread rs) ≡ run_on a (first_leaf r) (m ∷ run_on b (next_leaf m) (spread rs)) = run-add a (suc b) (first_leaf r) (spread rs) in
    let same_space : r.space ≡ space = i.space_same in
    let low : leaf_key (first_leaf r) + a * pages_of r.order ≡ k = (let e = s.from in omega arith) in
    let here : (leaf_key m == k) ≡ true = (let e : leaf_key m ≡ k = leap-key space first o r i in grind (arith, nat_tests)) in
    let next : next_leaf m ≡ first_leaf x = next-of-leap space first o r i in
    let above : k < leaf_key (first_leaf x) = (let e = s.some in omega arith) in
    let after : k < end_key r = (let e = s.some in let f = s.to in omega arith) in
    let tail : filter (stays k) (spread rs) ≡ spread rs = filter-rest k (end_key r) rs rest after in
    let mine : spread (before_on (pages_before first r) r (following_on (pages_following first o r) x rs)) ≡ run_on a (first_leaf r) (run_on b (first_leaf x) (spread rs)) =
    spread-before (pages_before first r) a r (following_on (pages_following first o r) x rs) before
    ∙ ap (run_on a (first_leaf r)) (spread-following (pages_following first o r) b x rs following refl) in
    let dropped : filter (stays k) (m ∷ run_on b (next_leaf m) (spread rs)) ≡ run_on b (first_leaf x) (spread rs) =
    rw (here, next) (filter-above k b (first_leaf x) (spread rs) above ∙ ap (run_on b (first_leaf x)) tail) in
    mine ∙ sym (ap (λ (n : ℕ). filter (stays k) (run_on n (first_leaf r) (spread rs))) count ∙ ap (filter (stays k)) split
    ∙ filter-below k a (first_leaf r) (m ∷ run_on b (next_leaf m) (spread rs)) (omega arith) ∙ ap (run_on a (first_leaf r)) dropped)

-- What is known of a range in its place.
pub record AtHead (low : ℕ) (r : Range) (rs : List Range) : Type 0 where
  pub above : low ≤ range_key r
  pub is : IsRange r
  pub stops : Stops r rs
  pub rest : IsHeld (end_key r) rs

pub own-key : (r : Range) → (range_key r == range_key r) ≡ true
own-key r = grind (arith, nat_tests)

pub head-cut : (first : ℕ) (o : Order) (r : Range) (rs : List Range) → cut first o r (r ∷ rs) ≡ pieces first o r rs
unfolding cut
head-cut first o r rs = rw (own-key r) refl

pub next-cut : (first : ℕ) (o : Order) (y r : Range) (rs : List Range) → range_key y < range_key r → cut first o r (y ∷ rs) ≡ y ∷ cut first o r rs
unfolding cut
next-cut first o y r rs less = let a : (range_key y == range_key r) ≡ false = grind (arith, nat_tests) in rw a refl

pub cut-spread : (space first : ℕ) (o : Order) (low : ℕ) (r : Range) (rs : List Range) (i : IsLeafIn space first o r) → IsHeld low rs → In r rs
    → spread (cut first o r rs) ≡ without_leaf space first (spread rs)
unfolding spread stays without_leaf
cut-spread space first o low r [] i h m = absurd m
cut-spread space first o low r (y ∷ rs) i (above, is, stops, rest) (inl e) =
    let at : AtHead low r rs = subst (λ (z : Range). AtHead low z rs) (sym e) (record { above = above; is = is; stops = stops; rest = rest }) in
    let F : Range → Type 0 = λ z. spread (cut first o r (z ∷ rs)) ≡ filter (stays (space * 2 ^ 52 + first)) (spread (z ∷ rs)) in
    subst F e (ap spread (head-cut first o r rs) ∙ head-spread space first o r rs i at.is at.rest)
cut-spread space first o low r (y ∷ rs) i (above, is, stops, rest) (inr m) =
    let k : ℕ = space * 2 ^ 52 + first in
    let some : 0 < y.pages = some-pages y is in
    let key : end_key y ≤ range_key r = In-key (end_key y) r rs rest m in
    let s : Sizes first o r i.before i.following = sizes space first o r i in
    let from = s.from in
    let same : r.space ≡ space = i.space_same in
    let n : ℕ = suc is.leaves.0 in
    let pages : y.pages ≡ n * pages_of y.order = is.leaves.1 in
    let count : range_leaves y ≡ n = leaves-is y is in
    let tail : spread (cut first o r rs) ≡ filter (stays k) (spread rs) = cut-spread space first o (end_key y) r rs i rest m in
    ap spread (next-cut first o y r rs (omega arith))
    ∙ ap (run_on (range_leaves y) (first_leaf y)) tail
    ∙ sym (ap (λ (j : ℕ). filter (stays k) (run_on j (first_leaf y) (spread rs))) count
    ∙ filter-below k n (first_leaf y) (spread rs) (omega arith)
    ∙ ap (λ (j : ℕ). run_on j (first_leaf y) (filter (stays k) (spread rs))) (sym count))

stops-cut : (space first : ℕ) (o : Order) (low : ℕ) (y r : Range) (rs : List Range) (i : IsLeafIn space first o r) → end_key y ≤ low → IsHeld low rs → In r rs → Stops y rs → Stops y (cut first o r rs)
stops-cut space first o low y r [] i le h m stops = absurd m
stops-cut space first o low y r (z ∷ rs) i le (above, is, next, rest) (inl e) stops =
    let at : AtHead low r rs = subst (λ (w : Range). AtHead low w rs) (sym e) (record { above = above; is = is; stops = next; rest = rest }) in
    let apart : touches y r ≡ false = subst (λ (w : Range). touches y w ≡ false) (sym e) stops in
    let F : Range → Type 0 = λ w. Stops y (cut first o r (w ∷ rs)) in
    let s : Sizes first o r i.before i.following = sizes space first o r i in
    let held : IsHeld (range_key r) (before_on (pages_before first r) r (following_on (pages_following first o r) (part_following first o r) rs)) = head-held space first o (range_key r) r rs i (omega arith) at.is at.stops at.rest in
    let some : 0 < r.pages = some-pages r at.is in
    let key : low ≤ range_key r = at.above in
    subst F e (subst (λ (ys : List Range). Stops y ys) (sym (head-cut first o r rs)) (head-stops (pages_before first r) (pages_following first o r) refl apart (omega arith) s at))
  where
    head-stops : (n m : ℕ) → n ≡ pages_before first r → touches y r ≡ false → end_key y ≤ range_key r → Sizes first o r i.before i.following → AtHead low r rs → Stops y (before_on n r (following_on m (part_following first o r) rs))
    head-stops zero zero e apart le s at = let p = some-pages r at.is in stops-far (end_key r) y rs (omega arith) at.rest
    head-stops zero (suc m) e apart le s at =
        let from = s.from in
        let some = s.some in
        not-touching y (part_following first o r) (λ u. let f : end_key y ≡ range_key (part_following first o r) = touch-key y (part_following first o r) (touch y (part_following first o r) u) in omega arith)
    head-stops (suc n) m e apart le s at = apart
stops-cut space first o low y r (z ∷ rs) i le (above, is, next, rest) (inr m) stops =
    let some : 0 < z.pages = some-pages z is in
    let key : end_key z ≤ range_key r = In-key (end_key z) r rs rest m in
    subst (λ (ys : List Range). Stops y ys) (sym (next-cut first o z r rs (omega arith))) stops

pub held-cut : (space first : ℕ) (o : Order) (low : ℕ) (r : Range) (rs : List Range) (i : IsLeafIn space first o r) → IsHeld low rs → In r rs → IsHeld low (cut first o r rs)
held-cut space first o low r [] i h m = absurd m
held-cut space first o low r (y ∷ rs) i (above, is, stops, rest) (inl e) =
    let at : AtHead low r rs = subst (λ (z : Range). AtHead low z rs) (sym e) (record { above = above; is = is; stops = stops; rest = rest }) in
    let H : List Range → Type 0 = λ ys. IsHeld low ys in
    subst (λ (z : Range). IsHeld low (cut first o r (z ∷ rs))) e (subst H (sym (head-cut first o r rs)) (head-held space first o low r rs i at.above at.is at.stops at.rest))
held-cut space first o low r (y ∷ rs) i (above, is, stops, rest) (inr m) =
    let some : 0 < y.pages = some-pages y is in
    let key : end_key y ≤ range_key r = In-key (end_key y) r rs rest m in
    subst (λ (ys : List Range). IsHeld low ys) (sym (next-cut first o y r rs (omega arith)))
    (above, is, stops-cut space first o (end_key y) y r rs i (omega arith) rest m stops, held-cut space first o (end_key y) r rs i rest m)
