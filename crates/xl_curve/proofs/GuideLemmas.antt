-- The guide, and the rank below which there is no hole, as slots move.
use Rattle.xl_curve.proofs.Common.{◌%◌, ◌<◌, ◌==◌, ◌∙◌, ◌≡◌, ◌≢◌, ◌≤◌, ap, AreApart, AreFewer, AreMarks, arith, Bool, false, get_or, get_or-map, get_or-set_other, get_or-set_same, guided, is_vacant, IsGuide, IsSolid, length, length-map, List, map, mark_of, mark_unless, moved, nat_lt, nat_tests, Place, refl, set, sym, true, ℕ}
use Rattle.xl_curve.proofs.KernelLemmas.{mark_read}

-- The front stays in order behind the slot that moves.
moved_order : (rank x y : ℕ) → x ≤ y → y ≢ rank → moved rank x ≤ moved rank y
moved_order rank x y l n = go (x == rank) (nat_lt x rank) (y == rank) (nat_lt y rank) refl refl refl refl
  where
    go : (a b c d : Bool) → (x == rank) ≡ a → nat_lt x rank ≡ b → (y == rank) ≡ c → nat_lt y rank ≡ d → moved rank x ≤ moved rank y
    go a b true d e f g h = absurd (n (grind (arith, nat_tests)))
    go true b false d e f g h = rw e (omega arith)
    go false true false true e f g h = rw (e, f, g, h) (omega arith)
    go false true false false e f g h = rw (e, f, g, h) (grind (arith, nat_tests))
    go false false false true e f g h = absurd (grind (arith, nat_tests))
    go false false false false e f g h = rw (e, f, g, h) l

moved_first : (rank : ℕ) → moved rank rank ≡ 0
moved_first rank = let t : (rank == rank) ≡ true = grind (arith, nat_tests) in rw t refl

moved_past : (rank k x : ℕ) → rank < k → k ≤ x → k ≤ moved rank x
moved_past rank k x l m =
    let e : (x == rank) ≡ false = grind (arith, nat_tests) in
    let f : nat_lt x rank ≡ false = grind (arith, nat_tests) in
    rw (e, f) m

-- No hole comes in front of this rank, where a slot of a lower one moves.
pub solid_moved : (rank k : ℕ) (marks ranks : List ℕ) → length ranks ≡ 64 → rank < k → IsSolid k marks ranks → IsSolid k marks (map (moved rank) ranks)
solid_moved rank k marks ranks same l solid = λ s m e.
    rw (get_or-map (moved rank) ranks s 0 0 (omega arith)) (moved_past rank k (get_or ranks s 0) l (solid s m e))

-- Nor where a slot gets the mark of a leaf.
pub solid_marked : (k slot mark : ℕ) (marks ranks : List ℕ) → length marks ≡ 64 → slot < 64 → mark ≢ 255 → IsSolid k marks ranks → IsSolid k (set marks slot mark) ranks
solid_marked k slot mark marks ranks same l n solid = λ s m e. go s m e (s == slot) refl
  where
    go : (s : ℕ) → s < 64 → get_or (set marks slot mark) s 0 ≡ 255 → (b : Bool) → (s == slot) ≡ b → k ≤ get_or ranks s 0
    go s m e true t =
        let is : s ≡ slot = grind (arith, nat_tests) in
        absurd (n (sym (get_or-set_same marks slot mark 0 (omega arith)) ∙ ap (λ (j : ℕ). get_or (set marks slot mark) j 0) (sym is) ∙ e))
    go s m e false t =
        let other : s ≢ slot = grind (arith, nat_tests) in
        solid s m (sym (get_or-set_other marks slot s mark 0 other) ∙ e)

-- The mark of a leaf is none of a hole.
pub leaf_mark : (p : Place) → is_vacant p ≡ false → mark_of p ≢ 255
leaf_mark p solid e =
    let is : p.tag % 251 ≡ 255 = sym (ap (λ (b : Bool). mark_unless b p.tag) solid) ∙ e in
    omega arith

-- The guide has a slot for a mark.
pub guide_set : (guide : List ℕ) (mark slot : ℕ) → mark < length guide → slot < 64 → guided (set guide mark slot) mark ≡ slot
guide_set guide mark slot l m = ap (λ (k : ℕ). k % 64) (get_or-set_same guide mark slot 0 l) ∙ omega arith

pub guide_others : (guide : List ℕ) (mark slot m : ℕ) → m ≢ mark → guided (set guide mark slot) m ≡ guided guide m
guide_others guide mark slot m n = ap (λ (k : ℕ). k % 64) (get_or-set_other guide mark m slot 0 n)

-- A slot comes to the front, and the guide has it for its mark.
module _ (guide guided_then marks news ranks : List ℕ) (mark slot : ℕ) (r64 : length ranks ≡ 64) (within : slot < 64) (apart : AreApart ranks)
    (own : guided guided_then mark ≡ slot) (others : (m : ℕ) → m ≢ mark → guided guided_then m ≡ guided guide m)
    (marked : get_or news slot 0 ≡ mark) (stays : (s : ℕ) → s ≢ slot → get_or news s 0 ≡ get_or marks s 0) (old : IsGuide guide marks ranks) where
  guide_then : IsGuide guided_then news (map (moved (get_or ranks slot 0)) ranks)
  guide_then = λ s l n. go s l n (get_or news s 0 == mark) refl
    where
      rank : ℕ
      rank = get_or ranks slot 0

      there : (s : ℕ) → s < 64 → get_or (map (moved rank) ranks) s 0 ≡ moved rank (get_or ranks s 0)
      there s l = get_or-map (moved rank) ranks s 0 0 (omega arith)

      go : (s : ℕ) → s < 64 → get_or news s 0 ≢ 255 → (b : Bool) → (get_or news s 0 == mark) ≡ b
          → get_or (map (moved rank) ranks) (guided guided_then (get_or news s 0)) 0 ≤ get_or (map (moved rank) ranks) s 0
      go s l n true e =
          let is : get_or news s 0 ≡ mark = grind (arith, nat_tests) in
          let front : get_or (map (moved rank) ranks) (guided guided_then (get_or news s 0)) 0 ≡ 0 =
          ap (λ (m : ℕ). get_or (map (moved rank) ranks) (guided guided_then m) 0) is
          ∙ ap (λ (k : ℕ). get_or (map (moved rank) ranks) k 0) own
          ∙ there slot within ∙ moved_first rank in
          omega (arith, front)
      go s l n false e =
          let other : get_or news s 0 ≢ mark = grind (arith, nat_tests) in
          let away : s ≢ slot = λ h. other (ap (λ (k : ℕ). get_or news k 0) h ∙ marked) in
          let same : get_or news s 0 ≡ get_or marks s 0 = stays s away in
          let g : ℕ = guided guide (get_or marks s 0) in
          let behind : get_or ranks g 0 ≤ get_or ranks s 0 = old s l (λ h. n (same ∙ h)) in
          let ranked : get_or ranks s 0 ≢ rank = λ h. away (apart s slot l within h) in
          let from : get_or (map (moved rank) ranks) (guided guided_then (get_or news s 0)) 0 ≡ moved rank (get_or ranks g 0) =
          ap (λ (k : ℕ). get_or (map (moved rank) ranks) k 0) (others (get_or news s 0) other ∙ ap (guided guide) same)
          ∙ there g (omega arith) in
          let most : moved rank (get_or ranks g 0) ≤ moved rank (get_or ranks s 0) = moved_order rank (get_or ranks g 0) (get_or ranks s 0) behind ranked in
          rw (from, there s l) most

-- The guide gets the slot for its mark, which may be new.
pub guide_moved : (guide marks news ranks : List ℕ) (mark slot : ℕ) → mark < length guide → length ranks ≡ 64 → slot < 64 → AreApart ranks
    → get_or news slot 0 ≡ mark → ((s : ℕ) → s ≢ slot → get_or news s 0 ≡ get_or marks s 0) → IsGuide guide marks ranks
    → IsGuide (set guide mark slot) news (map (moved (get_or ranks slot 0)) ranks)
guide_moved guide marks news ranks mark slot wide r64 within apart marked stays old =
    guide_then guide (set guide mark slot) marks news ranks mark slot r64 within apart (guide_set guide mark slot wide within) (guide_others guide mark slot) marked stays old

-- The guide has the slot for its mark.
pub guide_kept : (guide marks ranks : List ℕ) (mark slot : ℕ) → length ranks ≡ 64 → slot < 64 → AreApart ranks
    → get_or marks slot 0 ≡ mark → guided guide mark ≡ slot → IsGuide guide marks ranks
    → IsGuide guide marks (map (moved (get_or ranks slot 0)) ranks)
guide_kept guide marks ranks mark slot r64 within apart marked own old =
    guide_then guide guide marks marks ranks mark slot r64 within apart own (λ m n. refl) marked (λ s n. refl) old

-- Where slots become holes, the guide stays right.
pub guide_fewer : (guide marks news ranks : List ℕ) → AreFewer marks news → IsGuide guide marks ranks → IsGuide guide news ranks
guide_fewer guide marks news ranks fewer old = λ s l n.
    let same : get_or news s 0 ≡ get_or marks s 0 = fewer s l n in
    rw same (old s l (λ h. n (same ∙ h)))

pub fewer_hole : (marks : List ℕ) (slot : ℕ) → length marks ≡ 64 → slot < 64 → AreFewer marks (set marks slot 255)
fewer_hole marks slot same l = λ s m n. go s n (s == slot) refl
  where
    go : (s : ℕ) → get_or (set marks slot 255) s 0 ≢ 255 → (b : Bool) → (s == slot) ≡ b → get_or (set marks slot 255) s 0 ≡ get_or marks s 0
    go s n true e =
        let is : s ≡ slot = grind (arith, nat_tests) in
        absurd (n (ap (λ (k : ℕ). get_or (set marks slot 255) k 0) is ∙ get_or-set_same marks slot 255 0 (omega arith)))
    go s n false e = let other : s ≢ slot = grind (arith, nat_tests) in get_or-set_other marks slot s 255 0 other

-- One mark more is that of a slot as it was, or a hole's.
pub fewer_more : (old marks : List ℕ) (slots : List Place) (at mark : ℕ) (place d : Place) → AreMarks marks slots → at < length slots → mark ≡ mark_of place
    → (is_vacant place ≡ false → place ≡ get_or slots at d) → AreFewer old marks → AreFewer old (set marks at mark)
fewer_more old marks slots at mark place d are l is same fewer = λ s m n. go s m n (s == at) refl
  where
    wide : length marks ≡ length slots
    wide = ap (λ (ms : List ℕ). length ms) are ∙ length-map slots mark_of

    leaf : (v : Bool) → is_vacant place ≡ v → mark ≢ 255 → is_vacant place ≡ false
    leaf true e n = absurd (n (is ∙ ap (λ (b : Bool). mark_unless b place.tag) e))
    leaf false e n = e

    go : (s : ℕ) → s < 64 → get_or (set marks at mark) s 0 ≢ 255 → (b : Bool) → (s == at) ≡ b → get_or (set marks at mark) s 0 ≡ get_or old s 0
    go s m n true e =
        let here : s ≡ at = grind (arith, nat_tests) in
        let new : get_or (set marks at mark) s 0 ≡ mark =
        ap (λ (k : ℕ). get_or (set marks at mark) k 0) here ∙ get_or-set_same marks at mark 0 (omega (arith, wide)) in
        let solid : is_vacant place ≡ false = leaf (is_vacant place) refl (λ h. n (new ∙ h)) in
        let kept : mark ≡ get_or marks s 0 =
        is ∙ ap mark_of (same solid) ∙ sym (mark_read marks slots are at d l) ∙ ap (λ (k : ℕ). get_or marks k 0) (sym here) in
        new ∙ kept ∙ fewer s m (λ h. n (new ∙ kept ∙ h))
    go s m n false e =
        let other : s ≢ at = grind (arith, nat_tests) in
        let same_mark : get_or (set marks at mark) s 0 ≡ get_or marks s 0 = get_or-set_other marks at s mark 0 other in
        same_mark ∙ fewer s m (λ h. n (same_mark ∙ h))
