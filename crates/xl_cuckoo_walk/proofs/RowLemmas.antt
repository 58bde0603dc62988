-- The leaves of the row when a leaf comes, goes, or gets another permission.
use Rattle.xl_cuckoo_walk.proofs.Common.{◌%◌, ◌&&◌, ◌*◌, ◌++◌, ◌+◌, ◌/◌, ◌<◌, ◌==◌, ◌^◌, ◌∙◌, ◌∷◌, ◌≡◌, ◌≤◌, ◌⊎◌, [], AddsEntry, ap, AreHeld, AreKeys, AreOnce, arith, Bool, both, cond, CuckooWays, entries_in, Entry, false, find, find-In, find-passes, has_key, In, In-append, In-left, In-map, In-right, inl, inr, IsFit, IsPlaced, IsSome, IsTagWith, IsTagWithout, IsWritten, known-leaves, Leaf, leaf-some, leaf_entry, leaf_tag, leaf_word, leaves_of_ways, level_of, List, MadeWordsReadBack, map, map-In, meets_block, nat_tests, no-value, None, once-added, once-cleared, once-reworded, One, one_if, Option, Order, order-same, order_at, order_tags, pages_of, Perm, put-held, refl, reworded, same-level, same-tests, same_order, slice_index, slot_of, Some, subst, suc, sym, tags_in, take-held, tally, tally-same, true, value_of, values_in, ways-reworded, ways-without, ways_at, ways_of, WayShape, with-given, with-new, with_leaf, with_ways, with_word, without-old, without_entry, without_leaf, word_at, word_in, word_list, word_of, zero, ℕ}
use Rattle.xl_model_lemmas.proofs.TagLemmas.{tag-meets}
use Rattle.xl_cuckoo_walk.proofs.HolderLemmas.{tag-level, tag_with, values-before}
use Rattle.xl_cuckoo_walk.proofs.IndexLemmas.{each-way, with-same}
use Rattle.xl_cuckoo_walk.proofs.ValueLemmas.{tag-tally, tag_is, tally-tag, value-added, value-kept, value-left, value-other, value-out, value-reworded}
use Rattle.xl_model.specs.declared.address.Order.TheVariants as order

-- What the ways hold under tags when those of one order change.
pub values-own : (o : Order) (key : ℕ) (after : List WayShape) (ws : CuckooWays) → key < 2 ^ 60 → values_in (with_ways o after ws) (tag_with o key) ≡ word_list (value_of key after)
values-own o key after ws low = values-before o key (with_ways o after ws) low ∙ ap (λ us. word_list (value_of key us)) (with-same o after ws)

level-back : (n : ℕ) (o : Order) → order_at n ≡ Some o → n ≡ level_of o
level-back zero o e = let q : order.K4 ≡ o = cc in ap level_of q
level-back (suc zero) o e = let q : order.M2 ≡ o = cc in ap level_of q
level-back (suc (suc zero)) o e = let q : order.G1 ≡ o = cc in ap level_of q
level-back (suc (suc (suc n))) o e = absurd (cc)

at-other : (q : Option Order) (o : Order) (after : List WayShape) (ws : CuckooWays) → (q ≡ Some o → ⊥) → ways_at q (with_ways o after ws) ≡ ways_at q ws
at-other None o after ws h = refl
at-other (Some q) o after ws h =
    each-way (λ s w. (s ≡ o → ⊥) → w ≡ ways_of s ws) o after ws (λ n. absurd (n refl)) (λ s e n. refl) q (λ e. h (ap Some e))

values-other : (t : ℕ) (o : Order) (after : List WayShape) (ws : CuckooWays) → (t / 2 ^ 60 ≡ level_of o → ⊥) → values_in (with_ways o after ws) t ≡ values_in ws t
unfolding values_in
values-other t o after ws h =
    ap (λ us. word_list (value_of (t % 2 ^ 60) us)) (at-other (order_at (t / 2 ^ 60)) o after ws (λ e. h (level-back (t / 2 ^ 60) o e)))

-- where the words of all other keys stay
pub record StaysBut (key : ℕ) (old new : List WayShape) : Type 0 where
  pub others : (k : ℕ) → (k ≡ key → ⊥) → value_of k new ≡ value_of k old

pub written : (o : Order) (key slot word : ℕ) (after : List WayShape) (ws : CuckooWays) → key < 2 ^ 60 → slot ≡ 0 → slice_index (word_list (value_of key after)) 0 ≡ word
    → StaysBut key (ways_of o ws) after → IsWritten One (values_in ws) (values_in (with_ways o after ws)) (tag_with o key) slot word
written o key slot word after ws low zero-slot here stays = record {
  here = ap (λ n. slice_index (values_in (with_ways o after ws) (tag_with o key)) n) (let e : 0 + slot ≡ 0 = omega arith in e)
      ∙ ap (λ vs. slice_index vs 0) (values-own o key after ws low) ∙ here;
  others = λ t i less other. ap (λ vs. slice_index vs (0 + i)) (same t (λ e. other e (omega arith)));
}
  where
    level-or : (a b : ℕ) → (a ≡ b) ⊎ (a ≡ b → ⊥)
    level-or a b = elim (a == b) as (λ t. (a == b) ≡ t → (a ≡ b) ⊎ (a ≡ b → ⊥)) [ true ↦ λ t. inl (grind (arith, nat_tests)) | false ↦ λ t. inr (λ e. grind (arith, nat_tests)) ] refl

    join : (t n : ℕ) → t / 2 ^ 60 ≡ n → t ≡ n * 2 ^ 60 + t % 2 ^ 60
    join t n e = omega arith

    low-rest : (t : ℕ) → t % 2 ^ 60 < 2 ^ 60
    low-rest t = omega arith

    same : (t : ℕ) → (t ≡ tag_with o key → ⊥) → values_in (with_ways o after ws) t ≡ values_in ws t
    same t other = elim (level-or (t / 2 ^ 60) (level_of o)) [
      | inr h ↦ values-other t o after ws h
      | inl e ↦
          let is : t ≡ tag_with o (t % 2 ^ 60) = join t (level_of o) e in
          let k : t % 2 ^ 60 ≡ key → ⊥ = λ f. other (is ∙ ap (tag_with o) f) in
          ap (values_in (with_ways o after ws)) is ∙ values-own o (t % 2 ^ 60) after ws (low-rest t) ∙ ap word_list (stays.others (t % 2 ^ 60) k)
          ∙ sym (values-before o (t % 2 ^ 60) ws (low-rest t)) ∙ ap (values_in ws) (sym is)
    ]

-- tags of all orders
pub tags-to : (o : Order) (t : ℕ) (ws : CuckooWays) → In t (order_tags o (ways_of o ws)) → In t (tags_in ws)
unfolding tags_in
tags-to order.K4 t ws i = In-left t (order_tags order.K4 ws.k4) (order_tags order.M2 ws.m2 ++ order_tags order.G1 ws.g1) i
tags-to order.M2 t ws i =
    In-right t (order_tags order.K4 ws.k4) (order_tags order.M2 ws.m2 ++ order_tags order.G1 ws.g1) (In-left t (order_tags order.M2 ws.m2) (order_tags order.G1 ws.g1) i)
tags-to order.G1 t ws i =
    In-right t (order_tags order.K4 ws.k4) (order_tags order.M2 ws.m2 ++ order_tags order.G1 ws.g1) (In-right t (order_tags order.M2 ws.m2) (order_tags order.G1 ws.g1) i)

pub tags-from : (t : ℕ) (ws : CuckooWays) → In t (tags_in ws) → (o : Order) × In t (order_tags o (ways_of o ws))
unfolding tags_in
tags-from t ws i = elim (In-append t (order_tags order.K4 ws.k4) (order_tags order.M2 ws.m2 ++ order_tags order.G1 ws.g1) i) [
  | inl j ↦ (order.K4, j)
  | inr j ↦ elim (In-append t (order_tags order.M2 ws.m2) (order_tags order.G1 ws.g1) j) [ inl k ↦ (order.M2, k) | inr k ↦ (order.G1, k) ]
]

-- tags of ways that change
tags-by : (t : ℕ) (o : Order) (after : List WayShape) (ws : CuckooWays) → In t (tags_in (with_ways o after ws)) → In t (order_tags o after) ⊎ ((q : Order) × (same_order q o ≡ false) × In t (order_tags q (ways_of q ws)))
tags-by t o after ws i =
    let found = tags-from t (with_ways o after ws) i in
    each-way (λ q w. In t (order_tags q w) → In t (order_tags o after) ⊎ ((s : Order) × (same_order s o ≡ false) × In t (order_tags s (ways_of s ws)))) o after ws
    (λ j. inl j) (λ q e j. inr (q, e, j)) found.0 found.1

tags-own : (t : ℕ) (o : Order) (after : List WayShape) (ws : CuckooWays) → In t (order_tags o after) → In t (tags_in (with_ways o after ws))
tags-own t o after ws i = tags-to o t (with_ways o after ws) (subst (λ us. In t (order_tags o us)) (sym (with-same o after ws)) i)

-- an order's tags stay or not, and all others stay
tags-map : (t : ℕ) (o : Order) (after : List WayShape) (ws : CuckooWays) → (In t (order_tags o (ways_of o ws)) → In t (order_tags o after)) → In t (tags_in ws) → In t (tags_in (with_ways o after ws))
tags-map t o after ws f i =
    let found = tags-from t ws i in
    tags-to found.0 t (with_ways o after ws) (each-way (λ q w. In t (order_tags q (ways_of q ws)) → In t (order_tags q w)) o after ws f (λ q e j. j) found.0 found.1)

-- an entry comes
pub tag-with : (o : Order) (x : Entry) (after : List WayShape) (ws : CuckooWays) → AddsEntry x (ways_of o ws) after → IsTagWith (tag_with o x.key) (tags_in ws) (tags_in (with_ways o after ws))
tag-with o x after ws adds = record {
  split = λ t i. elim (tags-by t o after ws i) [
    | inl j ↦ come t (tag-tally o t after j) (tag_is o t x) refl
    | inr j ↦ inr (tags-to j.0 t ws j.2)
  ];
  here = tags-own (tag_with o x.key) o after ws (tally-tag o (tag_with o x.key) after (own (tag_is o (tag_with o x.key) x) refl));
  stays = λ t i. tags-map t o after ws (λ j. tally-tag o t after (let n = tag-tally o t (ways_of o ws) j in let a = adds (tag_is o t) in omega arith)) i;
}
  where
    come : (t : ℕ) → 1 ≤ tally (tag_is o t) (entries_in after) → (b : Bool) → tag_is o t x ≡ b → (t ≡ tag_with o x.key) ⊎ In t (tags_in ws)
    come t n true e = inl (let s : tag_with o x.key ≡ t = grind (arith, nat_tests) in sym s)
    come t n false e = inr (tags-to o t ws (tally-tag o t (ways_of o ws) (let a = adds (tag_is o t) in let z : one_if (tag_is o t x) ≡ 0 = ap one_if e in omega arith)))

    own : (b : Bool) → tag_is o (tag_with o x.key) x ≡ b → 1 ≤ tally (tag_is o (tag_with o x.key)) (entries_in after)
    own true e = let a = adds (tag_is o (tag_with o x.key)) in let z : one_if (tag_is o (tag_with o x.key) x) ≡ 1 = ap one_if e in omega arith
    own false e = absurd (grind (arith, nat_tests))

-- a key goes
pub tag-without : (o : Order) (key : ℕ) (ws : CuckooWays) → key < 2 ^ 60 → AreKeys ws → AreOnce (ways_of o ws)
    → IsTagWithout One (values_in (with_ways o (map (without_entry key) (ways_of o ws)) ws)) (tag_with o key) (tags_in ws) (tags_in (with_ways o (map (without_entry key) (ways_of o ws)) ws))
tag-without o key ws low keys once = record {
  out = λ t i. elim (tags-by t o after ws i) [
    | inl j ↦ tags-to o t ws (tally-tag o t (ways_of o ws) (let n = tag-tally o t after j in let w = ways-without (tag_is o t) key (ways_of o ws) (once key) in omega arith))
    | inr j ↦ tags-to j.0 t ws j.2
  ];
  stays = λ t i other. tags-map t o after ws (λ j. tally-tag o t after
      (let n = tag-tally o t (ways_of o ws) j in let w = ways-without (tag_is o t) key (ways_of o ws) (once key) in
      let z : tally (λ e. has_key key e && tag_is o t e) (entries_in (ways_of o ws)) ≡ 0 = none t (entries_in (ways_of o ws)) other in omega arith)) i;
  used = λ i. absurd (gone i);
  kept = λ i less full there. absurd (full (empty i));
}
  where
    after : List WayShape
    after = map (without_entry key) (ways_of o ws)

    none : (t : ℕ) (es : List Entry) → (t ≡ tag_with o key → ⊥) → tally (λ e. has_key key e && tag_is o t e) es ≡ 0
    none t [] h = refl
    none t (e ∷ es) h =
        let on : tally (λ e. has_key key e && tag_is o t e) es ≡ 0 = none t es h in
        let first : (has_key key e && tag_is o t e) ≡ false =
        elim (e.key == key) as (λ b. (e.key == key) ≡ b → (b && tag_is o t e) ≡ false) [
          | true ↦ λ u. elim (tag_is o t e) as (λ b. tag_is o t e ≡ b → b ≡ false) [
            | true ↦ λ v. absurd (h (let a : e.key ≡ key = grind (arith, nat_tests) in let c : level_of o * 2 ^ 60 + e.key ≡ t = grind (arith, nat_tests) in omega arith))
            | false ↦ λ v. refl
          ] refl
          | false ↦ λ u. refl
        ] refl in
        let i : one_if (has_key key e && tag_is o t e) ≡ 0 = ap one_if first in
        omega arith

    own-gone : In (tag_with o key) (order_tags o after) → ⊥
    own-gone j =
        let n : 1 ≤ tally (tag_is o (tag_with o key)) (entries_in after) = tag-tally o (tag_with o key) after j in
        let s : tally (tag_is o (tag_with o key)) (entries_in after) ≡ tally (has_key key) (entries_in after) = tally-same (tag_is o (tag_with o key)) (has_key key) (entries_in after) (λ e. same-tests (tag_is o (tag_with o key) e) (has_key key e) (λ t. grind (arith, nat_tests)) (λ t. grind (arith, nat_tests))) in
        let z : tally (has_key key) (entries_in after) ≡ 0 = no-value key after (value-out key (ways_of o ws) once) in
        omega arith

    apart : (q : Order) (k : ℕ) → same_order q o ≡ false → k < 2 ^ 60 → tag_with q k ≡ tag_with o key → ⊥
    apart q k e h f =
        let a : level_of q ≡ level_of o = sym (tag-level q k h) ∙ ap (λ n. n / 2 ^ 60) f ∙ tag-level o key low in
        let b : q ≡ o = same-level q o a in
        let c : true ≡ false = sym (order-same o) ∙ ap (λ p. same_order p o) (sym b) ∙ e in
        absurd (cc)

    gone : In (tag_with o key) (tags_in (with_ways o after ws)) → ⊥
    gone i = elim (tags-by (tag_with o key) o after ws i) [
      | inl j ↦ own-gone j
      | inr j ↦
          let found = map-In (λ (e : Entry). level_of j.0 * 2 ^ 60 + e.key) (tag_with o key) (entries_in (ways_of j.0 ws)) j.2 in
          apart j.0 found.0.key j.1 (keys j.0 found.0 found.1) (sym found.2)
    ]

    empty : (i : ℕ) → word_at One (values_in (with_ways o after ws)) (tag_with o key) i ≡ 0
    empty i = ap (λ vs. slice_index vs (0 + i)) (values-own o key after ws low ∙ ap word_list (value-out key (ways_of o ws) once))

-- a key gets another word
pub tag-reworded : (o : Order) (key word : ℕ) (ws : CuckooWays) → In (tag_with o key) (tags_in ws)
    → IsTagWith (tag_with o key) (tags_in ws) (tags_in (with_ways o (map (with_word key word) (ways_of o ws)) ws))
tag-reworded o key word ws there = record {
  split = λ t i. inr (elim (tags-by t o after ws i) [
    | inl j ↦ tags-to o t ws (tally-tag o t (ways_of o ws) (let n = tag-tally o t after j in let s = same t in omega arith))
    | inr j ↦ tags-to j.0 t ws j.2
  ]);
  here = stay (tag_with o key) there;
  stays = λ t i. stay t i;
}
  where
    after : List WayShape
    after = map (with_word key word) (ways_of o ws)

    kept : (t : ℕ) (e : Entry) (b : Bool) → tag_is o t (cond b (record e { word = word }) e) ≡ tag_is o t e
    kept t e true = refl
    kept t e false = refl

    same : (t : ℕ) → tally (tag_is o t) (entries_in after) ≡ tally (tag_is o t) (entries_in (ways_of o ws))
    same t = ways-reworded (tag_is o t) key word (ways_of o ws) ∙ tally-same (λ e. tag_is o t (reworded key word e)) (tag_is o t) (entries_in (ways_of o ws)) (λ e. kept t e (e.key == key))

    stay : (t : ℕ) → In t (tags_in ws) → In t (tags_in (with_ways o after ws))
    stay t i = tags-map t o after ws (λ j. tally-tag o t after (let n = tag-tally o t (ways_of o ws) j in let s = same t in omega arith)) i

-- a leaf's key
pub key-low : (x : Leaf) → IsPlaced x → (leaf_entry x).key < 2 ^ 60
key-low x at = go x.order
  where
    a : x.space < 64
    a = at.space_in

    b : x.first < 2 ^ 45
    b = at.page_in

    go : (o : Order) → x.space * 2 ^ 45 + x.first / pages_of o / 1 < 2 ^ 60
    go order.K4 = omega arith
    go order.M2 = omega arith
    go order.G1 = omega arith

slot-none : (n : ℕ) → n % 1 ≡ 0
slot-none n = omega arith

module _ (back : MadeWordsReadBack) (ws : CuckooWays) (leaves : List Leaf) (held : AreHeld One (values_in ws) (tags_in ws) leaves) (once : (o : Order) → AreOnce (ways_of o ws)) where
  -- the key of a leaf that overlaps none isn't held
  pub free-value : (x : Leaf) → IsPlaced x → ((y : Leaf) → In y leaves → meets_block x.space x.first x.order y ≡ false) → value_of (leaf_entry x).key (ways_of x.order ws) ≡ None
  unfolding word_of
  free-value x at free = go (find (has_key (leaf_entry x).key) (entries_in (ways_of x.order ws))) refl
    where
      go : (o : Option Entry) → find (has_key (leaf_entry x).key) (entries_in (ways_of x.order ws)) ≡ o → word_in o ≡ None
      go None f = refl
      go (Some e) f =
          let t = find-passes (has_key (leaf_entry x).key) e (entries_in (ways_of x.order ws)) f in
          let k : e.key ≡ (leaf_entry x).key = grind (arith, nat_tests) in
          let i : In (tag_with x.order e.key) (order_tags x.order (ways_of x.order ws)) =
          In-map (λ (z : Entry). level_of x.order * 2 ^ 60 + z.key) e (entries_in (ways_of x.order ws)) (find-In (has_key (leaf_entry x).key) e (entries_in (ways_of x.order ws)) f) in
          let j : In (leaf_tag 1 x) (tags_in ws) = subst (λ n. In (tag_with x.order n) (tags_in ws)) k (tags-to x.order (tag_with x.order e.key) ws i) in
          let y = held.used (leaf_tag 1 x) j in
          absurd (both (meets_block x.space x.first x.order y.0) (tag-meets x y.0 at (held.fit y.0 y.1).aligned.placed (sym y.2)) (free y.0 y.1))

  -- the key of a leaf is held, under its word
  pub leaf-value : (x : Leaf) → In x leaves → slice_index (word_list (value_of (leaf_entry x).key (ways_of x.order ws))) 0 ≡ leaf_word x.frame x.perm
  leaf-value x i =
      sym (ap (λ vs. slice_index vs 0) (values-before x.order (leaf_entry x).key ws (key-low x (held.fit x i).aligned.placed)))
      ∙ ap (λ n. slice_index (values_in ws (leaf_tag 1 x)) n) (let e : 0 ≡ 0 + x.first / pages_of x.order % 1 = omega arith in e)
      ∙ held.word x i

  pub some-value : (x : Leaf) → In x leaves → IsSome (value_of (leaf_entry x).key (ways_of x.order ws))
  some-value x i = go (value_of (leaf_entry x).key (ways_of x.order ws)) refl
    where
      go : (v : Option ℕ) → value_of (leaf_entry x).key (ways_of x.order ws) ≡ v → IsSome v
      go (Some n) e = refl
      go None e = absurd (leaf-some back x (held.fit x i) (sym (leaf-value x i) ∙ ap (λ v. slice_index (word_list v) 0) e))

  -- a leaf comes
  pub put-leaf : (x : Leaf) (after : List WayShape) → IsFit x → ((y : Leaf) → In y leaves → meets_block x.space x.first x.order y ≡ false) → AddsEntry (leaf_entry x) (ways_of x.order ws) after
      → AreHeld One (values_in (with_ways x.order after ws)) (tags_in (with_ways x.order after ws)) (with_leaf x leaves)
  put-leaf x after fit free adds =
      let at : IsPlaced x = fit.aligned.placed in
      let now : AreOnce after = once-added (leaf_entry x) (ways_of x.order ws) after (once x.order) adds (free-value x at free) in
      put-held One (values_in ws) (values_in (with_ways x.order after ws)) (tags_in ws) (tags_in (with_ways x.order after ws)) x leaves (with_leaf x leaves) held fit
      (written x.order (leaf_entry x).key (slot_of One x.order x.first) (leaf_word x.frame x.perm) after ws (key-low x at) (slot-none (x.first / pages_of x.order))
      (ap (λ v. slice_index (word_list v) 0) (value-added (leaf_entry x) (ways_of x.order ws) after adds now))
      (record { others = λ k other. value-kept k (leaf_entry x) (ways_of x.order ws) after adds (once x.order) now (λ e. other (sym e)) }))
      (tag-with x.order (leaf_entry x) after ws adds)
      (with-new One (values_in ws) (tags_in ws) x leaves held fit free)

  -- a leaf goes
  pub take-leaf : (x : Leaf) → In x leaves → AreKeys ws
      → AreHeld One (values_in (with_ways x.order (map (without_entry (leaf_entry x).key) (ways_of x.order ws)) ws)) (tags_in (with_ways x.order (map (without_entry (leaf_entry x).key) (ways_of x.order ws)) ws)) (without_leaf x.space x.first leaves)
  take-leaf x i keys =
      let key : ℕ = (leaf_entry x).key in
      let after : List WayShape = map (without_entry key) (ways_of x.order ws) in
      let low : key < 2 ^ 60 = key-low x (held.fit x i).aligned.placed in
      take-held One (values_in ws) (values_in (with_ways x.order after ws)) (tags_in ws) (tags_in (with_ways x.order after ws)) (leaf_tag 1 x) (slot_of One x.order x.first) leaves (without_leaf x.space x.first leaves) held
      (λ y j e. leaf-some back y (held.fit y j) e)
      (written x.order key (slot_of One x.order x.first) 0 after ws low (slot-none (x.first / pages_of x.order))
      (ap (λ v. slice_index (word_list v) 0) (value-out key (ways_of x.order ws) (once x.order)))
      (record { others = λ k other. value-left key k (ways_of x.order ws) (once x.order) (once-cleared key (ways_of x.order ws) (once x.order)) other }))
      (tag-without x.order key ws low keys (once x.order))
      (without-old One (values_in ws) (tags_in ws) x leaves held i)

  -- a leaf gets another permission
  pub give-leaf : (x : Leaf) (perm : Perm) → In x leaves
      → AreHeld One (values_in (with_ways x.order (map (with_word (leaf_entry x).key (leaf_word x.frame perm)) (ways_of x.order ws)) ws))
      (tags_in (with_ways x.order (map (with_word (leaf_entry x).key (leaf_word x.frame perm)) (ways_of x.order ws)) ws))
      (with_leaf (record x { perm = perm }) (without_leaf x.space x.first leaves))
  give-leaf x perm i =
      let key : ℕ = (leaf_entry x).key in
      let word : ℕ = leaf_word x.frame perm in
      let after : List WayShape = map (with_word key word) (ways_of x.order ws) in
      let y : Leaf = record x { perm = perm } in
      let fit : IsFit x = held.fit x i in
      let now : AreOnce after = once-reworded key word (ways_of x.order ws) (once x.order) in
      put-held One (values_in ws) (values_in (with_ways x.order after ws)) (tags_in ws) (tags_in (with_ways x.order after ws)) y leaves (with_leaf y (without_leaf x.space x.first leaves)) held
      (record {
        aligned = record { placed = record { space_in = fit.aligned.placed.space_in; page_in = fit.aligned.placed.page_in }; aligned = fit.aligned.aligned };
        frame_in = fit.frame_in;
        frame_aligned = fit.frame_aligned;
      })
      (written x.order key (slot_of One x.order x.first) word after ws (key-low x fit.aligned.placed) (slot-none (x.first / pages_of x.order))
      (ap (λ v. slice_index (word_list v) 0) (value-reworded key word (ways_of x.order ws) now (some-value x i)))
      (record { others = λ k other. value-other key word k (ways_of x.order ws) (once x.order) now other }))
      (tag-reworded x.order key word ws (held.tagged x i))
      (with-given One (values_in ws) (tags_in ws) perm x leaves held i)

-- what the ways hold then are those leaves
pub leaves-known : MadeWordsReadBack → (ws : CuckooWays) (leaves : List Leaf) → AreHeld One (values_in ws) (tags_in ws) leaves → leaves_of_ways ws ≡ leaves
unfolding leaves_of_ways
leaves-known back ws leaves held = known-leaves back One (values_in ws) (tags_in ws) leaves held
