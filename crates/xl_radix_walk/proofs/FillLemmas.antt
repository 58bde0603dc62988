-- Fills of walk caches.
use Rattle.xl_radix_walk.proofs.Common.{if◌then◌else◌, ◌%◌, ◌&&◌, ◌*◌, ◌+◌, ◌-◌, ◌/◌, ◌<◌, ◌==◌, ◌^◌, ◌∷◌, ◌≡◌, ◌≤◌, [], ap, AreNumbered, arith, Bool, cache_in, Cached, caches_in, false, filled_caches, filled_one, In, inl, inr, IsPath, Item, item_at, Leaf, length, level_of, List, map, nat_le, nat_lt, nat_tests, Node, node_cache_after, node_caches_after, None, number_of, Numbered, numbered, numbered_in, Option, refl, slice_index, Some, suc, tag_at, take, take-In, true, up, up-le, with_fill, zero, ℕ}

map-take : (f : Item → Numbered) (n : ℕ) (xs : List Item) → map f (take n xs) ≡ take n (map f xs)
map-take f zero xs = refl
map-take f (suc n) [] = refl
map-take f (suc n) (x ∷ xs) = ap (λ (l : List Numbered). f x ∷ l) (map-take f n xs)

tag-out : (space level page : ℕ) → page < 2 ^ 45 → (tag_at space level page / 281474976710656 ≡ space) × (tag_at space level page % 281474976710656 ≡ up (suc level) page)
tag-out space level page h =
    let low = up-le (suc level) page in
    parts space (up (suc level) page) (omega arith)
  where
    parts : (s p : ℕ) → p < 281474976710656 → ((s * 281474976710656 + p) / 281474976710656 ≡ s) × ((s * 281474976710656 + p) % 281474976710656 ≡ p)
    parts s p h = (omega arith, omega arith)

item-out : (space level page n : ℕ) (nodes : List (Option Node)) → page < 2 ^ 45 → number_of space (suc level) (up (suc level) page) nodes ≡ Some n → numbered_in level (item_at (tag_at space level page) n) ≡ numbered level space page nodes
item-out space level page n nodes h e = let t = tag-out space level page h in rw (t.0, t.1, e) refl

-- the cache of one level
one-filled : (level start : ℕ) (x : Leaf) (space page : ℕ) (path : List ℕ) (nodes : List (Option Node)) (c : Cached Item) (o : Cached Numbered) → page < 2 ^ 45 → IsPath (level_of x.order) start space page path nodes →
    cache_in level c ≡ node_cache_after level start None space page [] o →
    cache_in level (filled_one (nat_lt level start && nat_le (level_of x.order) level) (tag_at space level page) (slice_index path (start - 1 - level)) c) ≡ node_cache_after level start (Some x) space page nodes o
one-filled level start x space page path nodes c o h p e =
    elim (level == start) as (λ b. (level == start) ≡ b → cache_in level (filled_one (nat_lt level start && nat_le (level_of x.order) level) (tag_at space level page) (slice_index path (start - 1 - level)) c) ≡ node_cache_after level start (Some x) space page nodes o) [
      | true ↦ λ t.
          let f : (nat_lt level start && nat_le (level_of x.order) level) ≡ false = grind (arith, nat_tests) in
          let g = rw t at e in
          rw (f, t) g
      | false ↦ λ t. let g = rw t at e in rw t (fills g (nat_lt level start && nat_le (level_of x.order) level) refl)
    ] refl
  where
    fills : cache_in level c ≡ o → (b : Bool) → (nat_lt level start && nat_le (level_of x.order) level) ≡ b → cache_in level (filled_one b (tag_at space level page) (slice_index path (start - 1 - level)) c) ≡ (if b then with_fill (numbered level space page nodes) o else o)
    fills g false t = g
    fills g true t =
        let low : level_of x.order ≤ level = grind (arith, nat_tests) in
        let high : level < start = grind (arith, nat_tests) in
        let i = item-out space level page (slice_index path (start - 1 - level)) nodes h (p.same level low high) in
        rw (← g, map-take (numbered_in level) c.width (item_at (tag_at space level page) (slice_index path (start - 1 - level)) ∷ c.items), i) refl

pub filled : (level start : ℕ) (x : Leaf) (space page : ℕ) (path : List ℕ) (nodes : List (Option Node)) (cs : List (Cached Item)) (os : List (Cached Numbered)) → page < 2 ^ 45 → IsPath (level_of x.order) start space page path nodes →
    caches_in level cs ≡ node_caches_after level start None space page [] os →
    caches_in level (filled_caches level start (level_of x.order) space page path cs) ≡ node_caches_after level start (Some x) space page nodes os
filled level start x space page path nodes [] [] h p e = refl
filled level start x space page path nodes [] (o ∷ os) h p e = cc
filled level start x space page path nodes (c ∷ cs) [] h p e = cc
filled level start x space page path nodes (c ∷ cs) (o ∷ os) h p e =
    let first : cache_in level c ≡ node_cache_after level start None space page [] o = cc in
    let rest : caches_in (level + 1) cs ≡ node_caches_after (level + 1) start None space page [] os = cc in
    rw (one-filled level start x space page path nodes c o h p first, filled (level + 1) start x space page path nodes cs os h p rest) refl

one-numbered : (level start least space page : ℕ) (path : List ℕ) (nodes : List (Option Node)) (c : Cached Item) (i : Item) → page < 2 ^ 45 → IsPath least start space page path nodes → (b : Bool) → (nat_lt level start && nat_le least level) ≡ b → In i (filled_one b (tag_at space level page) (slice_index path (start - 1 - level)) c).items → (In i c.items → number_of (i.tag / 281474976710656) (suc level) (i.tag % 281474976710656) nodes ≡ Some i.word) → number_of (i.tag / 281474976710656) (suc level) (i.tag % 281474976710656) nodes ≡ Some i.word
one-numbered level start least space page path nodes c i h p false t j old = old j
one-numbered level start least space page path nodes c i h p true t j old =
    let low : least ≤ level = grind (arith, nat_tests) in
    let high : level < start = grind (arith, nat_tests) in
    elim (take-In c.width i (item_at (tag_at space level page) (slice_index path (start - 1 - level)) ∷ c.items) j) [
      | inl e ↦ let t = tag-out space level page h in rw e (rw (t.0, t.1) (p.same level low high))
      | inr k ↦ old k
    ]

pub numbered-filled : (level start least space page : ℕ) (path : List ℕ) (nodes : List (Option Node)) (cs : List (Cached Item)) → page < 2 ^ 45 → IsPath least start space page path nodes → AreNumbered level nodes cs → AreNumbered level nodes (filled_caches level start least space page path cs)
numbered-filled level start least space page path nodes [] h p all = all
numbered-filled level start least space page path nodes (c ∷ cs) h p all =
    (λ i j. one-numbered level start least space page path nodes c i h p (nat_lt level start && nat_le least level) refl j (all.0 i), numbered-filled (level + 1) start least space page path nodes cs h p all.1)

pub filled-length : (level start least space page : ℕ) (path : List ℕ) (cs : List (Cached Item)) → length (filled_caches level start least space page path cs) ≡ length cs
filled-length level start least space page path [] = refl
filled-length level start least space page path (c ∷ cs) = ap suc (filled-length (level + 1) start least space page path cs)
