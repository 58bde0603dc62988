-- A walk of a page of which the sections in front leave one order alone.
use Rattle.xl_cuckoo_walk.proofs.Common.{◌%◌, ◌-◌, ◌/◌, ◌<◌, ◌==◌, ◌^◌, ◌∙◌, ◌≡◌, ap, ArePlans, arith, Bool, by_size, Cached, CuckooState, false, filled, find, first_from, has_tag, hit_of, IsFrontIf, IsIn, IsRow, Item, Large, Leaf, leaf_said_by, List, MadeWordsReadBack, Middle, nat_tests, None, Option, or_leaf, Order, order_of, page_key, parts_by, Plan, plan_of, plans_by, probed, refl, RowParts, Size, size_in, Some, subst, suc, sym, Tables, touched_in, true, value_by, way_by, ways_in, ways_of, WayShape, with_table, word_of_item, ℕ}
use Rattle.xl_cuckoo_walk.proofs.IndexLemmas.{each, each-size}
use Rattle.xl_cuckoo_walk.proofs.WalkLemmas.{cache_walked, fills_size, IsWalked, plan-inside, said_in, steps-walked}
use Rattle.xl_model.specs.declared.address.Order.TheVariants as order
use Rattle.xl_cuckoo_walk.specs.declared.plan.Plan.TheVariants as plan

-- how the orders are probed
pub small-plans : (middle large : ℕ) → middle % 8 ≡ 1 → large % 2 ≡ 1 → ArePlans (by_size middle large) (plans_by plan.Every plan.Skip plan.Skip)
unfolding plan_of
small-plans middle large a b =
    let t : (middle % 2 == 1) ≡ true = grind (arith, nat_tests) in
    let u : (large % 2 == 1) ≡ true = grind (arith, nat_tests) in
    let v : (middle / 2 % 2 == 1) ≡ false = grind (arith, nat_tests) in
    let w : (middle / 4 % 2 == 1) ≡ false = grind (arith, nat_tests) in
    record {
      some = each-size (λ z. 0 < by_size middle large z) (omega arith) (omega arith);
      are = each (λ o. (m l : ℕ) → plans_by plan.Every plan.Skip plan.Skip o ≡ plan_of o (hit_of m (Some middle)) (hit_of l (Some large)))
          (λ m l. rw (t, u) refl) (λ m l. rw v refl) (λ m l. rw w refl);
    }

pub middle-plans : (middle large : ℕ) → middle % 8 ≡ 2 → large / 2 % 2 ≡ 1 → (middle / 8 ≡ 0 → ⊥)
    → ArePlans (by_size middle large) (plans_by plan.Skip (plan.At (middle / 8 - 1)) plan.Skip)
unfolding plan_of
middle-plans middle large a b some =
    let t : (middle % 2 == 1) ≡ false = grind (arith, nat_tests) in
    let u : (large / 2 % 2 == 1) ≡ true = grind (arith, nat_tests) in
    let v : (middle / 2 % 2 == 1) ≡ true = grind (arith, nat_tests) in
    let w : (middle / 4 % 2 == 1) ≡ false = grind (arith, nat_tests) in
    let known : way_by (middle / 8) ≡ Some (middle / 8 - 1) = ap way_by {x = middle / 8} {y = suc (middle / 8 - 1)} (omega arith) in
    record {
      some = each-size (λ z. 0 < by_size middle large z) (omega arith) (omega arith);
      are = each (λ o. (m l : ℕ) → plans_by plan.Skip (plan.At (middle / 8 - 1)) plan.Skip o ≡ plan_of o (hit_of m (Some middle)) (hit_of l (Some large)))
          (λ m l. rw t refl) (λ m l. rw (v, u, known) refl) (λ m l. rw w refl);
    }

-- what is in front is found, and stays
fronted : (tag w : ℕ) (c : Cached Item) → 0 < w → IsFrontIf tag w c.items → (Some w ≡ word_of_item (find (has_tag tag) c.items)) × (touched_in tag c ≡ c)
fronted tag w c some f = ((f some).found, ap (λ items. record c { items = items }) (sym (f some).stays))

not-filled : (fills : Bool) (w tag word : ℕ) (c : Cached Item) → filled fills (Some w) tag word c ≡ c
not-filled false w tag word c = refl
not-filled true w tag word c = refl

or-none : (o : Option Leaf) → o ≡ or_leaf o None
or-none None = refl
or-none (Some x) = refl

-- what the code knows of both sections
pub both-fronts : (p : RowParts) (s page k2 k1 w2 w1 : ℕ) → k2 ≡ page_key order.M2 s page → k1 ≡ page_key order.G1 s page → IsFrontIf k2 w2 p.middle.cache.items → IsFrontIf k1 w1 p.large.cache.items
    → (z : Size) → IsFrontIf (page_key (order_of z) s page) (by_size w2 w1 z) (size_in z p).cache.items
both-fronts p s page k2 k1 w2 w1 e f a b =
    each-size (λ z. IsFrontIf (page_key (order_of z) s page) (by_size w2 w1 z) (size_in z p).cache.items)
    (subst (λ k. IsFrontIf k w2 p.middle.cache.items) e a) (subst (λ k. IsFrontIf k w1 p.large.cache.items) f b)

module _ (back : MadeWordsReadBack) (p : RowParts) (r : IsRow p) (s page : ℕ) (space_in : s < 64) (page_in : page < 2 ^ 45) (words : Size → ℕ)
    (front : (z : Size) → IsFrontIf (page_key (order_of z) s page) (words z) (size_in z p).cache.items) where
  in-front : (plans : Order → Plan) → ArePlans words plans → (z : Size)
      → (Some (words z) ≡ word_of_item (find (has_tag (page_key (order_of z) s page)) (size_in z p).cache.items)) × (touched_in (page_key (order_of z) s page) (size_in z p).cache ≡ (size_in z p).cache)
  in-front plans are z = fronted (page_key (order_of z) s page) (words z) (size_in z p).cache (are.some z) (front z)

  -- probes by what is in front are a walk
  probed-walked : (plans : Order → Plan) → ArePlans words plans → (found : Option Leaf) → found ≡ first_from order.K4 (said_in p s page plans)
      → IsWalked p s page found 2 (record p { tables = record { k4 = probed (plans order.K4) p.tables.k4; m2 = probed (plans order.M2) p.tables.m2; g1 = probed (plans order.G1) p.tables.g1 } })
  probed-walked plans are found is =
      let ts : Tables = record { k4 = probed (plans order.K4) p.tables.k4; m2 = probed (plans order.M2) p.tables.m2; g1 = probed (plans order.G1) p.tables.g1 } in
      let hits : Size → Option ℕ = λ z. Some (words z) in
      let stays : (z : Size) (ways : List WayShape) → cache_walked p s page found hits z ways ≡ (size_in z p).cache =
      λ z ways. not-filled (fills_size z found) (words z) (page_key (order_of z) s page) _ (touched_in (page_key (order_of z) s page) (size_in z p).cache) ∙ (in-front plans are z).1 in
      let T : Cached Item → Cached Item → RowParts = λ u v. parts_by ts.k4 ts.m2 ts.g1 p.middle.counts p.large.counts u v in
      steps-walked back p r s page space_in page_in found 2 (record p { tables = ts })
      (record {
        words = hits;
        plans = plans;
        words_are = λ z. (in-front plans are z).0;
        plans_are = λ o. are.are o (page_key order.M2 s page) (page_key order.G1 s page);
        found_is = is;
        hits_are = refl;
        after_is = sym (ap (λ u. T u (cache_walked p s page found hits Large ts.g1.ways)) (stays Middle ts.m2.ways) ∙ ap (T p.middle.cache) (stays Large ts.g1.ways));
      })

  -- of a page of 4 KiB
  pub small-walked : ArePlans words (plans_by plan.Every plan.Skip plan.Skip) → (leaf : Option Leaf) (t : CuckooState)
      → leaf ≡ leaf_said_by order.K4 s page (value_by plan.Every (page_key order.K4 s page) p.tables.k4.ways) → t ≡ probed plan.Every p.tables.k4
      → IsWalked p s page leaf 2 (with_table order.K4 t p)
  unfolding leaf_said_by
  small-walked are leaf t is after =
      subst (λ u. IsWalked p s page leaf 2 (with_table order.K4 u p)) (sym after) (probed-walked (plans_by plan.Every plan.Skip plan.Skip) are leaf (or-none leaf ∙ ap (λ o. or_leaf o None) is))

  -- of a leaf of 2 MiB
  pub middle-walked : (way : ℕ) → ArePlans words (plans_by plan.Skip (plan.At way) plan.Skip) → (leaf : Option Leaf) (t : CuckooState)
      → leaf ≡ leaf_said_by order.M2 s page (value_by (plan.At way) (page_key order.M2 s page) p.tables.m2.ways) → t ≡ probed (plan.At way) p.tables.m2
      → IsWalked p s page leaf 2 (with_table order.M2 t p)
  unfolding leaf_said_by
  middle-walked way are leaf t is after =
      subst (λ u. IsWalked p s page leaf 2 (with_table order.M2 u p)) (sym after) (probed-walked (plans_by plan.Skip (plan.At way) plan.Skip) are leaf (or-none leaf ∙ ap (λ o. or_leaf o None) is))

  -- the way of a leaf of 2 MiB is there
  pub middle-inside : (way : ℕ) → ArePlans words (plans_by plan.Skip (plan.At way) plan.Skip) → IsIn (plan.At way) (ways_of order.M2 (ways_in p))
  middle-inside way are =
      plan-inside back p r s page space_in page_in order.M2 (plan.At way) (λ z. Some (words z)) (λ z. (in-front (plans_by plan.Skip (plan.At way) plan.Skip) are z).0)
      (are.are order.M2 (page_key order.M2 s page) (page_key order.G1 s page))

-- where the words of both sections are found, and leave 4 KiB alone
module _ (back : MadeWordsReadBack) (p : RowParts) (r : IsRow p) (s page : ℕ) (space_in : s < 64) (page_in : page < 2 ^ 45) (words : Size → ℕ)
    (hit : (z : Size) → Some (words z) ≡ word_of_item (find (has_tag (page_key (order_of z) s page)) (size_in z p).cache.items)) where
  pub touched-walked : ArePlans words (plans_by plan.Every plan.Skip plan.Skip) → (leaf : Option Leaf) (t : CuckooState) (u v : Cached Item)
      → leaf ≡ leaf_said_by order.K4 s page (value_by plan.Every (page_key order.K4 s page) p.tables.k4.ways) → t ≡ probed plan.Every p.tables.k4
      → u ≡ touched_in (page_key order.M2 s page) p.middle.cache → v ≡ touched_in (page_key order.G1 s page) p.large.cache
      → IsWalked p s page leaf 2 (parts_by t p.tables.m2 p.tables.g1 p.middle.counts p.large.counts u v)
  unfolding leaf_said_by
  touched-walked are leaf t u v is after middle large =
      let hits : Size → Option ℕ = λ z. Some (words z) in
      let stays : (z : Size) (ways : List WayShape) → cache_walked p s page leaf hits z ways ≡ touched_in (page_key (order_of z) s page) (size_in z p).cache =
      λ z ways. not-filled (fills_size z leaf) (words z) (page_key (order_of z) s page) _ (touched_in (page_key (order_of z) s page) (size_in z p).cache) in
      let T : CuckooState → Cached Item → Cached Item → RowParts = λ x a b. parts_by x p.tables.m2 p.tables.g1 p.middle.counts p.large.counts a b in
      steps-walked back p r s page space_in page_in leaf 2 (T t u v)
      (record {
        words = hits;
        plans = plans_by plan.Every plan.Skip plan.Skip;
        words_are = hit;
        plans_are = λ o. are.are o (page_key order.M2 s page) (page_key order.G1 s page);
        found_is = or-none leaf ∙ ap (λ o. or_leaf o None) is;
        hits_are = refl;
        after_is = ap (λ x. T x u v) after
            ∙ ap (λ a. T (probed plan.Every p.tables.k4) a v) (middle ∙ sym (stays Middle p.tables.m2.ways))
            ∙ ap (λ b. T (probed plan.Every p.tables.k4) (cache_walked p s page leaf hits Middle p.tables.m2.ways) b) (large ∙ sym (stays Large p.tables.g1.ways));
      })
