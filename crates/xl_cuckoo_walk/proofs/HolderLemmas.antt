-- The way that holds a key, and the word under a tag.
use Rattle.xl_cuckoo_walk.proofs.Common.{◌%◌, ◌*◌, ◌+◌, ◌/◌, ◌<◌, ◌^◌, ◌∙◌, ◌∷◌, ◌≡◌, [], ap, arith, Bool, cond, CuckooWays, false, found_in, holder_from, is_held, is_some, leaf_read, leaf_said_by, length, level_of, List, None, none-read, One, Option, Order, order_at, pages_of, refl, slice_index, slot_of, Some, suc, sym, tag_of, true, value_of, values_in, way_at, ways_at, ways_of, WayShape, word_at, word_list, word_of, ℕ}
use Rattle.std.specs.Option.{option_or}
use Rattle.xl_cuckoo.proofs.LoopLemmas.{value-first}
use Rattle.xl_way.proofs.WayLemmas.{held_by}
use Rattle.xl_cuckoo_walk.proofs.IndexLemmas.{level-order}
use Rattle.xl_model.specs.declared.address.Order.TheVariants as order

-- the way that holds a key
pub record IsHolder (i : ℕ) (ways : List WayShape) (key : ℕ) : Type 0 where
  pub way : ℕ
  pub is : holder_from i ways key ≡ Some (i + way)
  pub in_ways : way < length ways
  pub value : word_of key (way_at ways way).entries ≡ value_of key ways

pub holder : (i : ℕ) (ways : List WayShape) (key : ℕ) → is_some (value_of key ways) ≡ true → IsHolder i ways key
unfolding word_of
holder i [] key h = absurd (cc)
holder i (w ∷ ways) key h = go (is_held w key) (word_of key w.entries) refl refl (held_by w key) (λ t. holder (i + 1) ways key t)
  where
    go : (b : Bool) (o : Option ℕ) → is_held w key ≡ b → word_of key w.entries ≡ o → is_held w key ≡ is_some (word_of key w.entries)
        → (is_some (value_of key ways) ≡ true → IsHolder (i + 1) ways key) → IsHolder i (w ∷ ways) key
    go true None t u e rest = let z : true ≡ false = sym t ∙ e ∙ ap (λ (q : Option ℕ). is_some q) u in absurd (cc)
    go true (Some n) t u e rest = record {
      way = 0;
      is = ap (λ b. cond b (Some i) (holder_from (i + 1) ways key)) t ∙ ap Some (let z : i ≡ i + 0 = omega arith in z);
      in_ways = omega arith;
      value = u ∙ sym (value-first key w ways ∙ ap (λ q. option_or q (value_of key ways)) u);
    }
    go false None t u e rest =
        let first : value_of key (w ∷ ways) ≡ value_of key ways = value-first key w ways ∙ ap (λ q. option_or q (value_of key ways)) u in
        let r = rest (ap (λ (q : Option ℕ). is_some q) (sym first) ∙ h) in
        record {
          way = suc r.way;
          is = ap (λ b. cond b (Some i) (holder_from (i + 1) ways key)) t ∙ r.is ∙ ap Some (let z : i + 1 + r.way ≡ i + suc r.way = omega arith in z);
          in_ways = (let l = r.in_ways in omega arith);
          value = r.value ∙ sym first;
        }
    go false (Some n) t u e rest = let z : false ≡ true = sym t ∙ e ∙ ap (λ (q : Option ℕ). is_some q) u in absurd (cc)

-- the tag of an order's key
abbrev pub tag_with : Order → ℕ → ℕ
tag_with o key = level_of o * 2 ^ 60 + key

pub tag-level : (o : Order) (key : ℕ) → key < 2 ^ 60 → tag_with o key / 2 ^ 60 ≡ level_of o
tag-level o key h = omega arith

tag-key : (o : Order) (key : ℕ) → key < 2 ^ 60 → tag_with o key % 2 ^ 60 ≡ key
tag-key o key h = omega arith

pub values-before : (o : Order) (key : ℕ) (ws : CuckooWays) → key < 2 ^ 60 → values_in ws (tag_with o key) ≡ word_list (value_of key (ways_of o ws))
unfolding values_in
values-before o key ws low =
    ap (λ n. word_list (value_of n (ways_at (order_at (tag_with o key / 2 ^ 60)) ws))) (tag-key o key low)
    ∙ ap (λ n. word_list (value_of key (ways_at (order_at n) ws))) (tag-level o key low)
    ∙ ap (λ q. word_list (value_of key (ways_at q ws))) (level-order o)

-- the word under the tag of a page
page-low : (o : Order) (s page : ℕ) → s < 64 → page < 2 ^ 45 → s * 2 ^ 45 + page / pages_of o < 2 ^ 60
page-low order.K4 s page a b = omega arith
page-low order.M2 s page a b = omega arith
page-low order.G1 s page a b = omega arith

pub values-at : (o : Order) (s page : ℕ) (ws : CuckooWays) → s < 64 → page < 2 ^ 45 → values_in ws (tag_of 1 s o page) ≡ word_list (value_of (s * 2 ^ 45 + page / pages_of o) (ways_of o ws))
values-at o s page ws a b =
    ap (λ n. values_in ws (tag_with o (s * 2 ^ 45 + n))) (let e : page / pages_of o / 1 ≡ page / pages_of o = omega arith in e)
    ∙ values-before o (s * 2 ^ 45 + page / pages_of o) ws (page-low o s page a b)

slot-zero : (n : ℕ) → 0 + n % 1 ≡ 0
slot-zero n = omega arith

pub word-under : (o : Order) (s page : ℕ) (ws : CuckooWays) → s < 64 → page < 2 ^ 45
    → word_at One (values_in ws) (tag_of 1 s o page) (slot_of One o page) ≡ slice_index (word_list (value_of (s * 2 ^ 45 + page / pages_of o) (ways_of o ws))) 0
word-under o s page ws a b =
    ap (λ vs. slice_index vs (0 + page / pages_of o % 1)) (values-at o s page ws a b)
    ∙ ap (λ n. slice_index (word_list (value_of (s * 2 ^ 45 + page / pages_of o) (ways_of o ws))) n) (slot-zero (page / pages_of o))

pub found-said : (o : Order) (s page : ℕ) (ws : CuckooWays) → s < 64 → page < 2 ^ 45
    → leaf_said_by o s page (value_of (s * 2 ^ 45 + page / pages_of o) (ways_of o ws)) ≡ found_in One s page (values_in ws) o
unfolding leaf_said_by
found-said o s page ws a b =
    go (value_of (s * 2 ^ 45 + page / pages_of o) (ways_of o ws)) ∙ ap (leaf_read s o (page / pages_of o)) (sym (word-under o s page ws a b))
  where
    go : (v : Option ℕ) → leaf_said_by o s page v ≡ leaf_read s o (page / pages_of o) (slice_index (word_list v) 0)
    go None = sym (none-read s o (page / pages_of o))
    go (Some w) = refl
