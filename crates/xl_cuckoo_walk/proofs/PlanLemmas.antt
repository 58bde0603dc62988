-- Probes as planned by the cached sections.
use Rattle.xl_cuckoo_walk.proofs.Common.{◌%◌, ◌&&◌, ◌*◌, ◌+◌, ◌/◌, ◌<◌, ◌==◌, ◌^◌, ◌||◌, ◌∙◌, ◌≡◌, ◌≤◌, ◌⊎◌, any-In, ap, AreHeld, arith, Bool, Cached, cond, counts_for, covers, CuckooWays, false, find, find-In, find-passes, found-is, has_leaves, holder_from, holds, holds_order, In, In-any, inl, inr, is_section, is_some, IsIn, Leaf, leaf-some, leaf_said_by, leaf_tag, leaf_word, leaves_possible, length, level-low, level_of, List, loads_by, MadeWordsReadBack, meets_block, nat_le, nat_tests, None, none-any, One, only, Option, Order, order-same, orders-same, own_section, pages-some, pages_of, plan_at, plan_by, plan_of, probes, refl, same_order, Section, section_key, section_of, section_of_page, SectionFresh, SectionsFresh, slice_index, slot_of, Some, subst, sym, tag_of, tags_in, true, value_by, value_of, values_in, way_at, way_found, way_known, way_where, ways_of, WayShape, word_at, word_list, word_of, ℕ}
use Rattle.xl_model.proofs.BoolLemmas.{so-both}
use Rattle.std.specs.Cmp.{first_so, second_so}
use Rattle.xl_cuckoo_walk.proofs.BitLemmas.{counts-covered}
use Rattle.xl_cuckoo_walk.proofs.HolderLemmas.{found-said, holder, IsHolder, word-under}
use Rattle.xl_model.specs.declared.address.Order.TheVariants as order

-- a cached section that is found is that of the page, and has leaves
pub record IsHit (size : Order) (s page : ℕ) (leaves : List Leaf) (ws : CuckooWays) (z : Section) : Type 0 where
  pub is : z ≡ section_of_page size s page leaves ws
  pub some : has_leaves z ≡ true

-- what is found, if anything, is a hit
abbrev pub AreHits : Order → ℕ → ℕ → List Leaf → CuckooWays → Option Section → Type 0
AreHits size s page leaves ws hit = (z : Section) → hit ≡ Some z → IsHit size s page leaves ws z

pub hit-fresh : (size : Order) (s page : ℕ) (leaves : List Leaf) (ws : CuckooWays) (c : Cached Section) → SectionsFresh size leaves (ways_of size ws) c
    → AreHits size s page leaves ws (find (is_section s (page / pages_of size)) c.items)
hit-fresh size s page leaves ws c fresh z e =
    let t = find-passes (is_section s (page / pages_of size)) z c.items e in
    let a : z.space ≡ s = grind (arith, nat_tests) in
    let b : z.block ≡ page / pages_of size = grind (arith, nat_tests) in
    let f : SectionFresh size leaves (ways_of size ws) z = fresh z (find-In (is_section s (page / pages_of size)) z c.items e) in
    record {
      is = f.is ∙ ap (λ n. section_of size n z.block leaves (ways_of size ws)) a ∙ ap (λ n. section_of size s n leaves (ways_of size ws)) b;
      some = f.some;
    }

holds-bit : (size o : Order) (s block : ℕ) (leaves : List Leaf) (ways : List WayShape) → holds (section_of size s block leaves ways) o ≡ holds_order size s block o leaves
unfolding section_of
holds-bit size order.K4 s block leaves ways = refl
holds-bit size order.M2 s block leaves ways = refl
holds-bit size order.G1 s block leaves ways = refl

-- no leaf of 1 GiB counts for a 2 MiB section
no-large : (s block : ℕ) (leaves : List Leaf) → holds_order order.M2 s block order.G1 leaves ≡ false
no-large s block leaves = none-any (λ x. counts_for order.M2 s block x && same_order x.order order.G1) leaves (λ x i. go (x.space == s) x.order (x.first / 512 == block))
  where
    off : (a : Bool) → (a && false) ≡ false
    off true = refl
    off false = refl

    go : (a : Bool) (o : Order) (b : Bool) → ((a && (nat_le (level_of o) 1 && b)) && same_order o order.G1) ≡ false
    go a order.K4 b = off (a && (true && b))
    go a order.M2 b = off (a && (true && b))
    go true order.G1 b = refl
    go false order.G1 b = refl

module _ (back : MadeWordsReadBack) (ws : CuckooWays) (leaves : List Leaf) (held : AreHeld One (values_in ws) (tags_in ws) leaves) (s page : ℕ) (space_in : s < 64) (page_in : page < 2 ^ 45) where
  pub covered-bit : (size : Order) (x : Leaf) → In x leaves → covers s page x ≡ true → level_of x.order ≤ level_of size → holds_order size s (page / pages_of size) x.order leaves ≡ true
  covered-bit size x i c l =
      In-any (λ leaf. counts_for size s (page / pages_of size) leaf && same_order leaf.order x.order) x leaves i
      (so-both (counts_for size s (page / pages_of size) x) (same_order x.order x.order) (counts-covered size s page x (held.fit x i).aligned l c) (order-same x.order))

  possible-large : (hit : Option Section) → AreHits order.G1 s page leaves ws hit → (x : Leaf) → In x leaves → covers s page x ≡ true → leaves_possible hit x.order ≡ true
  possible-large None h x i c = refl
  possible-large (Some z) h x i c =
      ap (λ y. holds y x.order) (h z refl).is ∙ holds-bit order.G1 x.order s (page / 262144) leaves ws.g1 ∙ covered-bit order.G1 x i c (level-low x.order)

  -- a leaf that counts for the page's 2 MiB section overlaps a leaf of 1 GiB that covers the page
  apart-middle : (o : Order) (x y : Leaf) → In x leaves → In y leaves → x.order ≡ order.G1 → covers s page x ≡ true → counts_for order.M2 s (page / 512) y ≡ true → y.order ≡ o → level_of o ≤ 1 → ⊥
  apart-middle o x y i j g c t q l =
      let at = (held.fit x i).aligned.aligned in
      let sx : x.space ≡ s = grind (arith, nat_tests) in
      let f : x.first ≡ at.0 * 262144 = at.1 ∙ ap (λ p. at.0 * pages_of p) g in
      let a : x.first ≤ page = grind (arith, nat_tests) in
      let w : page < x.first + pages_of x.order = grind (arith, nat_tests) in
      let b : page < x.first + 262144 = subst (λ p. page < x.first + pages_of p) g w in
      let sy : y.space ≡ s = grind (arith, nat_tests) in
      let d : y.first / 512 ≡ page / 512 = grind (arith, nat_tests) in
      let p1 : 0 < pages_of y.order = pages-some y.order in
      let u : y.first < x.first + 262144 = omega arith in
      let u2 : y.first < x.first + pages_of x.order = subst (λ p. y.first < x.first + pages_of p) (sym g) u in
      let v : x.first < y.first + pages_of y.order = omega arith in
      let sp : y.space ≡ x.space = sy ∙ sym sx in
      let m : meets_block x.space x.first x.order y ≡ true = grind (arith, nat_tests) in
      let same : x ≡ y = held.apart x y i j m in
      none o (sym q ∙ sym (ap (λ (z : Leaf). z.order) same) ∙ g) l
    where
      none : (p : Order) → p ≡ order.G1 → level_of p ≤ 1 → ⊥
      none order.K4 h k = cc
      none order.M2 h k = cc
      none order.G1 h k = omega arith

  possible-middle : (hit : Option Section) → AreHits order.M2 s page leaves ws hit → (x : Leaf) → In x leaves → covers s page x ≡ true → leaves_possible hit x.order ≡ true
  possible-middle None h x i c = refl
  possible-middle (Some z) h x i c = go x.order refl
    where
      here : (o : Order) → x.order ≡ o → level_of o ≤ 1 → holds z x.order ≡ true
      here o e l =
          let k : level_of x.order ≤ 1 = subst (λ p. level_of p ≤ 1) (sym e) l in
          ap (λ y. holds y x.order) (h z refl).is ∙ holds-bit order.M2 x.order s (page / 512) leaves ws.m2 ∙ covered-bit order.M2 x i c k

      never : (o : Order) → x.order ≡ order.G1 → level_of o ≤ 1 → holds z o ≡ true → ⊥
      never o e l b =
          let q = any-In (λ leaf. counts_for order.M2 s (page / 512) leaf && same_order leaf.order o) leaves (sym (holds-bit order.M2 o s (page / 512) leaves ws.m2) ∙ ap (λ y. holds y o) (sym (h z refl).is) ∙ b) in
          let y : Leaf = q.0 in
          let cy : counts_for order.M2 s (page / 512) y ≡ true = first_so (counts_for order.M2 s (page / 512) y) (same_order y.order o) q.2 in
          let oy : y.order ≡ o = orders-same y.order o (second_so (counts_for order.M2 s (page / 512) y) (same_order y.order o) q.2) in
          apart-middle o x y i q.1 e c cy oy l

      none : z.has_g1 ≡ false
      none = ap (λ y. holds y order.G1) (h z refl).is ∙ holds-bit order.M2 order.G1 s (page / 512) leaves ws.m2 ∙ no-large s (page / 512) leaves

      either : (a b d : Bool) → (a || (b || d)) ≡ true → d ≡ false → (a ≡ true) ⊎ (b ≡ true)
      either true b d u e = inl refl
      either false true d u e = inr refl
      either false false d u e = let w : true ≡ false = sym u ∙ e in absurd (cc)

      go : (o : Order) → x.order ≡ o → holds z x.order ≡ true
      go order.K4 e = here order.K4 e (omega arith)
      go order.M2 e = here order.M2 e (omega arith)
      go order.G1 e = elim (either z.has_k4 z.has_m2 z.has_g1 (h z refl).some none) [
        | inl u ↦ absurd (never order.K4 e (omega arith) u)
        | inr u ↦ absurd (never order.M2 e (omega arith) u)
      ]

  abbrev pub key_at : Order → ℕ
  key_at o = s * 2 ^ 45 + page / pages_of o

  -- the way in a cached section of a leaf
  pub record IsKnown (o : Order) (way : Option ℕ) : Type 0 where
    pub at : ℕ
    pub way_is : way ≡ Some at
    pub in_ways : at < length (ways_of o ws)
    pub value : word_of (key_at o) (way_at (ways_of o ws) at).entries ≡ value_of (key_at o) (ways_of o ws)

  some-value : (size : Order) (y : Leaf) → In y leaves → y.order ≡ size → y.space ≡ s → y.first / pages_of size ≡ page / pages_of size → is_some (value_of (key_at size) (ways_of size ws)) ≡ true
  some-value size y i oy sy d = go (value_of (key_at size) (ways_of size ws)) refl
    where
      tag : leaf_tag 1 y ≡ tag_of 1 s size page
      tag = ap (λ p. tag_of 1 y.space p y.first) oy ∙ ap (λ n. tag_of 1 n size y.first) sy ∙ ap (λ n. level_of size * 2 ^ 60 + (s * 2 ^ 45 + n / 1)) d

      slot : (n m : ℕ) → n % 1 ≡ m % 1
      slot n m = omega arith

      word : word_at One (values_in ws) (tag_of 1 s size page) (slot_of One size page) ≡ leaf_word y.frame y.perm
      word = ap (λ t. word_at One (values_in ws) t (slot_of One size page)) (sym tag)
          ∙ ap (word_at One (values_in ws) (leaf_tag 1 y)) (slot (page / pages_of size) (y.first / pages_of y.order)) ∙ held.word y i

      go : (v : Option ℕ) → value_of (key_at size) (ways_of size ws) ≡ v → is_some v ≡ true
      go (Some n) e = refl
      go None e = absurd (leaf-some back y (held.fit y i) (sym word ∙ word-under size s page ws space_in page_in ∙ ap (λ v. slice_index (word_list v) 0) e))

  known-by : (size : Order) (z : Section) → z ≡ section_of_page size s page leaves ws → holds_order size s (page / pages_of size) size leaves ≡ true
      → IsHolder 0 (ways_of size ws) (key_at size) → IsKnown size z.way
  unfolding section_of
  known-by size z h bit k = record {
    at = k.way;
    way_is = ap (λ (w : Section). w.way) h ∙ ap (λ t. way_where t (holder_from 0 (ways_of size ws) (section_key s (page / pages_of size)))) bit
        ∙ k.is ∙ ap Some (let u : 0 + k.way ≡ k.way = omega arith in u);
    in_ways = k.in_ways;
    value = k.value;
  }

  known-at : (size : Order) (z : Section) → z ≡ section_of_page size s page leaves ws → holds z size ≡ true → IsKnown size z.way
  unfolding section_of
  known-at size z h b =
      let bit : holds_order size s (page / pages_of size) size leaves ≡ true = sym (holds-bit size size s (page / pages_of size) leaves (ways_of size ws)) ∙ ap (λ y. holds y size) (sym h) ∙ b in
      let q = any-In (λ leaf. counts_for size s (page / pages_of size) leaf && same_order leaf.order size) leaves bit in
      let y : Leaf = q.0 in
      let cy : counts_for size s (page / pages_of size) y ≡ true = first_so (counts_for size s (page / pages_of size) y) (same_order y.order size) q.2 in
      let oy : y.order ≡ size = orders-same y.order size (second_so (counts_for size s (page / pages_of size) y) (same_order y.order size) q.2) in
      let sy : y.space ≡ s = grind (arith, nat_tests) in
      let d : y.first / pages_of size ≡ page / pages_of size = grind (arith, nat_tests) in
      known-by size z h bit (holder 0 (ways_of size ws) (key_at size) (some-value size y q.1 oy sy d))

  known-way : (o : Order) (h2 h1 : Option Section) → AreHits order.M2 s page leaves ws h2 → AreHits order.G1 s page leaves ws h1 → way_known o h2 h1 ≡ true → IsKnown o (way_found (own_section o h2 h1))
  known-way order.K4 h2 h1 a b k = absurd (cc)
  known-way order.M2 None h1 a b k = absurd (cc)
  known-way order.M2 (Some z) h1 a b k = known-at order.M2 z (a z refl).is k
  known-way order.G1 h2 None a b k = absurd (cc)
  known-way order.G1 h2 (Some z) a b k = known-at order.G1 z (b z refl).is k

  pub record IsPlanned (o : Order) (h2 h1 : Option Section) : Type 0 where
    pub found : leaf_said_by o s page (value_by (plan_of o h2 h1) (key_at o) (ways_of o ws)) ≡ only o (find (covers s page) leaves)
    pub inside : IsIn (plan_of o h2 h1) (ways_of o ws)
    pub loads : loads_by (plan_of o h2 h1) (length (ways_of o ws)) ≡ probes (length (ways_of o ws)) h2 h1 o

  pub planned : (o : Order) (h2 h1 : Option Section) → AreHits order.M2 s page leaves ws h2 → AreHits order.G1 s page leaves ws h1 → IsPlanned o h2 h1
  unfolding plan_of leaf_said_by
  planned o h2 h1 a b = go (leaves_possible h2 o && leaves_possible h1 o) (way_known o h2 h1) refl refl
    where
      F : Option Leaf
      F = find (covers s page) leaves

      D : ℕ
      D = length (ways_of o ws)

      absent : (q : Option Leaf) → F ≡ q → (leaves_possible h2 o && leaves_possible h1 o) ≡ false → None ≡ only o q
      absent None f p = refl
      absent (Some x) f p =
          elim (same_order x.order o) as (λ u. same_order x.order o ≡ u → None ≡ cond u (Some x) None) [
            | true ↦ λ u.
                let e : x.order ≡ o = orders-same x.order o u in
                let i : In x leaves = find-In (covers s page) x leaves f in
                let c : covers s page x ≡ true = find-passes (covers s page) x leaves f in
                let l = possible-middle h2 a x i c in
                let m = possible-large h1 b x i c in
                let n = so-both (leaves_possible h2 o) (leaves_possible h1 o) (ap (leaves_possible h2) (sym e) ∙ l) (ap (leaves_possible h1) (sym e) ∙ m) in
                let z : true ≡ false = sym n ∙ p in
                absurd (cc)
            | false ↦ λ u. refl
          ] refl

      whole : leaf_said_by o s page (value_of (key_at o) (ways_of o ws)) ≡ only o F
      whole = found-said o s page ws space_in page_in ∙ found-is back One s page (values_in ws) (tags_in ws) leaves space_in page_in held o

      go : (p k : Bool) → (leaves_possible h2 o && leaves_possible h1 o) ≡ p → way_known o h2 h1 ≡ k → IsPlanned o h2 h1
      go false k e f =
          let g : plan_by (leaves_possible h2 o && leaves_possible h1 o) (way_known o h2 h1) (way_found (own_section o h2 h1)) ≡ plan_by false k (way_found (own_section o h2 h1)) = rw e refl in
          record {
            found = ap (λ n. leaf_said_by o s page (value_by n (key_at o) (ways_of o ws))) g ∙ absent F refl e;
            inside = subst (λ n. IsIn n (ways_of o ws)) (sym g) tt;
            loads = ap (λ n. loads_by n D) g ∙ sym (ap (λ v. cond v (cond (way_known o h2 h1) 1 D) 0) e);
          }
      go true false e f =
          let g : plan_by (leaves_possible h2 o && leaves_possible h1 o) (way_known o h2 h1) (way_found (own_section o h2 h1)) ≡ plan_by true false (way_found (own_section o h2 h1)) = rw (e, f) refl in
          record {
            found = ap (λ n. leaf_said_by o s page (value_by n (key_at o) (ways_of o ws))) g ∙ whole;
            inside = subst (λ n. IsIn n (ways_of o ws)) (sym g) tt;
            loads = ap (λ n. loads_by n D) g ∙ sym (ap (λ v. cond v (cond (way_known o h2 h1) 1 D) 0) e ∙ ap (λ v. cond v 1 D) f);
          }
      go true true e f =
          let w : IsKnown o (way_found (own_section o h2 h1)) = known-way o h2 h1 a b f in
          let g : plan_by (leaves_possible h2 o && leaves_possible h1 o) (way_known o h2 h1) (way_found (own_section o h2 h1)) ≡ plan_at (Some w.at) = rw (e, f, w.way_is) refl in
          record {
            found = ap (λ n. leaf_said_by o s page (value_by n (key_at o) (ways_of o ws))) g ∙ ap (leaf_said_by o s page) w.value ∙ whole;
            inside = subst (λ n. IsIn n (ways_of o ws)) (sym g) w.in_ways;
            loads = ap (λ n. loads_by n D) g ∙ sym (ap (λ v. cond v (cond (way_known o h2 h1) 1 D) 0) e ∙ ap (λ v. cond v 1 D) f);
          }
