-- Two levels of arrays: a look in the two arrays of a kind, as a look at all.
use Rattle.xl_tlb.proofs.Common.{◌++◌, ◌+◌, ◌<◌, ◌^◌, ◌∙◌, ◌∷◌, ◌≡◌, ◌≤◌, [], alone_at, answered_as, ap, ArePaired, AreThree, AreTwo, arith, array_filled, array_found, array_hit, AtAll, AtData, AtFetch, AtPair, Bool, false, first_in, FirstLacks, firsts_in, front_touch, get_or, HasEights, hit_front, IsFill, IsFront, IsFrontHit, IsKept, IsKnownAnswer, IsKnownWord, IsOfPair, IsPageTouch, IsPairFill, IsPairLook, IsRising, IsTlb, IsTouch, IsWord, Kind, LacksSmall, length, List, Lookup, map, None, one_more_at, plus, refl, Replied, Seen, seen_in, Serves, serves_as, serves_kind, set, set_number, small_leaf, Some, spec_of, subst, sym, tlb_of, TlbArray, true, ℕ}
use Rattle.xl_tlb.proofs.StayLemmas.{fill_others, kept_at, OtherSets, touch_others}
use Rattle.xl_tlb.proofs.StepLemmas.{above_beyond, filled_past, filled_replied, IsLookAt, IsSeen, IsUnder, large_word, last_filled, look_hit, look_next, look_none, look_passed, other_beyond, pair_specs, seen_hit, seen_none, seen_passed, seen_word, two_first, two_nowhere, two_second}
use Rattle.xl_tlb.proofs.TlbLemmas.{filled_first, kept_state, serves_all}
use Rattle.xl_model.specs.declared.address.Kind.TheVariants as kind
use Rattle.xl_model.specs.declared.address.Order.TheVariants as order
use Rattle.xl_model.specs.declared.row.Serves.TheVariants as serves
use Rattle.xl_tlb.specs.declared.pair.Seen.TheVariants as seen

-- counts have three places and more
two : (ns : List ℕ) → 3 ≤ length ns → (a : ℕ) × (b : ℕ) × (rest : List ℕ) × (ns ≡ a ∷ b ∷ rest)
two [] e = absurd (omega (arith, e))
two (a ∷ []) e = absurd (omega (arith, e))
two (a ∷ b ∷ rest) e = (a, b, rest, refl)

three : (ns : List ℕ) → 3 ≤ length ns → (a : ℕ) × (b : ℕ) × (c : ℕ) × (rest : List ℕ) × (ns ≡ a ∷ b ∷ c ∷ rest)
three [] e = absurd (omega (arith, e))
three (a ∷ []) e = absurd (omega (arith, e))
three (a ∷ b ∷ []) e = absurd (omega (arith, e))
three (a ∷ b ∷ c ∷ rest) e = (a, b, c, rest, refl)

-- the one first array serves all accesses, and the second one does
are_under : (k : Kind) (a s : TlbArray) → AreTwo a.spec s.spec → IsUnder k a s
are_under k a s is = record { served = serves_all k a is.all; all = serves_all k s is.second.all; below = is.one.below; takes = is.one.pair.takes }

-- an access of data passes the array for fetches
data_serves : (k : Kind) → first_in true k ≡ 1 → (serves_as serves.Fetch k ≡ false) × (serves_as serves.Data k ≡ true)
data_serves kind.Fetch e = absurd (omega (arith, e))
data_serves kind.Load e = (refl, refl)
data_serves kind.Store e = (refl, refl)

-- the specs of the three arrays say which pass and which serve
module _ (f d s : TlbArray) (is : AreThree f.spec d.spec s.spec) where
  fetch_serves : (serves_kind kind.Fetch f ≡ true) × (serves_kind kind.Fetch d ≡ false)
  fetch_serves = (ap (λ (x : Serves). serves_as x kind.Fetch) is.fetches, ap (λ (x : Serves). serves_as x kind.Fetch) is.data_is)

  module _ (k : Kind) (data_is : first_in true k ≡ 1) where
    passed : serves_kind k f ≡ false
    passed = ap (λ (x : Serves). serves_as x k) is.fetches ∙ (data_serves k data_is).0

    served : serves_kind k d ≡ true
    served = ap (λ (x : Serves). serves_as x k) is.data_is ∙ (data_serves k data_is).1

    under : IsUnder k d s
    under = record { served = served; all = serves_all k s is.second.all; below = is.other.below; takes = is.other.pair.takes }

-- what is known of the first array of a kind
module _ (k : Kind) (space page word : ℕ) where
  all_kept : (a s new after : TlbArray) → IsFrontHit space page word new → OtherSets (set_number a.spec order.K4 page) a new → IsKept false k space page word (a ∷ s ∷ []) (new ∷ after ∷ [])
  all_kept a s new after hit o = kept_at false k space page word a new (a ∷ s ∷ []) (new ∷ after ∷ []) refl refl (λ j n. absurd (n refl)) hit o

  data_kept : first_in true k ≡ 1 → (f d s new after : TlbArray) → IsFrontHit space page word new → OtherSets (set_number d.spec order.K4 page) d new → IsKept true k space page word (f ∷ d ∷ s ∷ []) (f ∷ new ∷ after ∷ [])
  data_kept e f d s new after hit o =
      kept_at true k space page word d new (f ∷ d ∷ s ∷ []) (f ∷ new ∷ after ∷ []) (ap (λ (i : ℕ). alone_at i (f ∷ d ∷ s ∷ [])) e) (ap (λ (i : ℕ). alone_at i (f ∷ new ∷ after ∷ [])) e) others hit o
    where
      others : (j : Kind) → (first_in true j ≡ first_in true k → ⊥) → alone_at (first_in true j) (f ∷ new ∷ after ∷ []) ≡ alone_at (first_in true j) (f ∷ d ∷ s ∷ [])
      others kind.Fetch n = refl
      others kind.Load n = absurd (n (sym e))
      others kind.Store n = absurd (n (sym e))

fetch_kept : (space page word : ℕ) (f d s new after : TlbArray) → IsFrontHit space page word new → OtherSets (set_number f.spec order.K4 page) f new → IsKept true kind.Fetch space page word (f ∷ d ∷ s ∷ []) (new ∷ d ∷ after ∷ [])
fetch_kept space page word f d s new after hit o = kept_at true kind.Fetch space page word f new (f ∷ d ∷ s ∷ []) (new ∷ d ∷ after ∷ []) refl refl others hit o
  where
    others : (j : Kind) → (first_in true j ≡ 0 → ⊥) → alone_at (first_in true j) (new ∷ d ∷ after ∷ []) ≡ alone_at (first_in true j) (f ∷ d ∷ s ∷ [])
    others kind.Fetch n = absurd (n refl)
    others kind.Load n = refl
    others kind.Store n = refl

-- A look at three arrays: the first for fetches, the one for data, the second.
module _ (space page : ℕ) (f d s : TlbArray) (is : AreThree f.spec d.spec s.spec) (rising : IsRising (f.spec ∷ d.spec ∷ s.spec ∷ [])) where
  module _ (h0 h1 h2 : ℕ) (hs : List ℕ) (m0 m1 m2 : ℕ) (ms : List ℕ) (fills word : ℕ) where
    -- for a fetch
    fetch_first : (new : TlbArray) → IsTouch space page word f new → fills < 2 ^ 64
        → IsSeen kind.Fetch space page word fills fills (f ∷ d ∷ s ∷ []) (new ∷ d ∷ s ∷ []) (h0 ∷ h1 ∷ h2 ∷ hs) (plus h0 1 ∷ h1 ∷ h2 ∷ hs) (m0 ∷ m1 ∷ m2 ∷ ms) (m0 ∷ m1 ∷ m2 ∷ ms)
    fetch_first new t small =
        seen_hit kind.Fetch space page word fills f new (d ∷ s ∷ []) h0 (h1 ∷ h2 ∷ hs) m0 (m1 ∷ m2 ∷ ms) (fetch_serves f d s is).0 t rising.0
        (other_beyond kind.Fetch f.spec.level d (fetch_serves f d s is).1, (above_beyond kind.Fetch f.spec.level s is.one.below, tt)) small

    fetch_second : (new after : TlbArray) → None ≡ array_hit f space page → IsTouch space page word s after → new ≡ array_filled (small_leaf space page word) f
        → IsSeen kind.Fetch space page word fills (plus fills 1) (f ∷ d ∷ s ∷ []) (new ∷ d ∷ after ∷ []) (h0 ∷ h1 ∷ h2 ∷ hs) (h0 ∷ h1 ∷ plus h2 1 ∷ hs) (m0 ∷ m1 ∷ m2 ∷ ms) (plus m0 1 ∷ m1 ∷ m2 ∷ ms)
    fetch_second new after missed t e =
        let k = kind.Fetch in
        let x : Replied = record { leaf = small_leaf space page word; level = s.spec.level; fills = 0 } in
        let g = filled_replied k space page f s.spec.level word (fetch_serves f d s is).0 is.one.below is.one.pair.takes in
        let last = look_hit k space page (small_leaf space page word) s after [] h2 hs m2 ms (serves_all k s is.second.all) (array_found s space page (small_leaf space page word) t.found) t.moved tt tt in
        let mid = look_passed k space page (Some x) d (s ∷ []) (after ∷ []) h1 (h2 ∷ hs) (plus h2 1 ∷ hs) m1 (m2 ∷ ms) (m2 ∷ ms) (fetch_serves f d s is).1 rising.1.0 last in
        let all = look_next k space page (Some x) f new (d ∷ s ∷ []) (d ∷ after ∷ []) h0 (h1 ∷ h2 ∷ hs) (h1 ∷ plus h2 1 ∷ hs) m0 (m1 ∷ m2 ∷ ms) (m1 ∷ m2 ∷ ms) (fetch_serves f d s is).0 missed rising.0 (e ∙ sym g.1) mid in
        record { found = record { leaf = small_leaf space page word; level = s.spec.level; fills = 1 }; leaf = refl; look = rw g.0 at all; filled = refl }

    fetch_nowhere : None ≡ array_hit f space page → None ≡ array_hit s space page
        → IsLookAt kind.Fetch space page None (f ∷ d ∷ s ∷ []) (f ∷ d ∷ s ∷ []) (h0 ∷ h1 ∷ h2 ∷ hs) (h0 ∷ h1 ∷ h2 ∷ hs) (m0 ∷ m1 ∷ m2 ∷ ms) (plus m0 1 ∷ m1 ∷ plus m2 1 ∷ ms)
    fetch_nowhere missed none =
        let k = kind.Fetch in
        let last = look_next k space page None s s [] [] h2 hs hs m2 ms ms (serves_all k s is.second.all) none tt refl (look_none k space page hs ms) in
        let mid = look_passed k space page None d (s ∷ []) (s ∷ []) h1 (h2 ∷ hs) (h2 ∷ hs) m1 (m2 ∷ ms) (plus m2 1 ∷ ms) (fetch_serves f d s is).1 rising.1.0 last in
        look_next k space page None f f (d ∷ s ∷ []) (d ∷ s ∷ []) h0 (h1 ∷ h2 ∷ hs) (h1 ∷ h2 ∷ hs) m0 (m1 ∷ m2 ∷ ms) (m1 ∷ plus m2 1 ∷ ms) (fetch_serves f d s is).0 missed rising.0 refl mid

    fetch_large : (new : TlbArray) → IsPageTouch space page word f new → fills < 2 ^ 64
        → IsWord kind.Fetch space page word (tlb_of (f ∷ d ∷ s ∷ []) (h0 ∷ h1 ∷ h2 ∷ hs) (m0 ∷ m1 ∷ m2 ∷ ms) fills) (tlb_of (new ∷ d ∷ s ∷ []) (plus h0 1 ∷ h1 ∷ h2 ∷ hs) (m0 ∷ m1 ∷ m2 ∷ ms) fills)
    fetch_large new t small =
        large_word kind.Fetch space page word fills (record { leaf = t.leaf; level = f.spec.level; fills = 0 }) (f ∷ d ∷ s ∷ []) (new ∷ d ∷ s ∷ []) (h0 ∷ h1 ∷ h2 ∷ hs) (plus h0 1 ∷ h1 ∷ h2 ∷ hs) (m0 ∷ m1 ∷ m2 ∷ ms) (m0 ∷ m1 ∷ m2 ∷ ms)
        (look_hit kind.Fetch space page t.leaf f new (d ∷ s ∷ []) h0 (h1 ∷ h2 ∷ hs) m0 (m1 ∷ m2 ∷ ms) (fetch_serves f d s is).0 t.found t.moved rising.0
        (other_beyond kind.Fetch f.spec.level d (fetch_serves f d s is).1, (above_beyond kind.Fetch f.spec.level s is.one.below, tt))) refl t.says small

    -- for data
    module _ (k : Kind) (data_is : first_in true k ≡ 1) where
      data_first : (new : TlbArray) → IsTouch space page word d new → fills < 2 ^ 64
          → IsSeen k space page word fills fills (f ∷ d ∷ s ∷ []) (f ∷ new ∷ s ∷ []) (h0 ∷ h1 ∷ h2 ∷ hs) (h0 ∷ plus h1 1 ∷ h2 ∷ hs) (m0 ∷ m1 ∷ m2 ∷ ms) (m0 ∷ m1 ∷ m2 ∷ ms)
      data_first new t small =
          seen_passed k space page word fills fills f (d ∷ s ∷ []) (new ∷ s ∷ []) h0 (h1 ∷ h2 ∷ hs) (plus h1 1 ∷ h2 ∷ hs) m0 (m1 ∷ m2 ∷ ms) (m1 ∷ m2 ∷ ms) (passed f d s is k data_is) rising.0
          (two_first k space page word fills d s (under f d s is k data_is) rising.1.0 h1 h2 hs m1 m2 ms new t small)

      data_second : (new after : TlbArray) → None ≡ array_hit d space page → IsTouch space page word s after → new ≡ array_filled (small_leaf space page word) d
          → IsSeen k space page word fills (plus fills 1) (f ∷ d ∷ s ∷ []) (f ∷ new ∷ after ∷ []) (h0 ∷ h1 ∷ h2 ∷ hs) (h0 ∷ h1 ∷ plus h2 1 ∷ hs) (m0 ∷ m1 ∷ m2 ∷ ms) (m0 ∷ plus m1 1 ∷ m2 ∷ ms)
      data_second new after missed t e =
          seen_passed k space page word fills (plus fills 1) f (d ∷ s ∷ []) (new ∷ after ∷ []) h0 (h1 ∷ h2 ∷ hs) (h1 ∷ plus h2 1 ∷ hs) m0 (m1 ∷ m2 ∷ ms) (plus m1 1 ∷ m2 ∷ ms) (passed f d s is k data_is) rising.0
          (two_second k space page word fills d s (under f d s is k data_is) rising.1.0 h1 h2 hs m1 m2 ms new after missed t e)

      data_nowhere : None ≡ array_hit d space page → None ≡ array_hit s space page
          → IsLookAt k space page None (f ∷ d ∷ s ∷ []) (f ∷ d ∷ s ∷ []) (h0 ∷ h1 ∷ h2 ∷ hs) (h0 ∷ h1 ∷ h2 ∷ hs) (m0 ∷ m1 ∷ m2 ∷ ms) (m0 ∷ plus m1 1 ∷ plus m2 1 ∷ ms)
      data_nowhere missed none =
          look_passed k space page None f (d ∷ s ∷ []) (d ∷ s ∷ []) h0 (h1 ∷ h2 ∷ hs) (h1 ∷ h2 ∷ hs) m0 (m1 ∷ m2 ∷ ms) (plus m1 1 ∷ plus m2 1 ∷ ms) (passed f d s is k data_is) rising.0
          (two_nowhere k space page word fills d s (under f d s is k data_is) rising.1.0 h1 h2 hs m1 m2 ms missed none)

      data_large : (new : TlbArray) → IsPageTouch space page word d new → fills < 2 ^ 64
          → IsWord k space page word (tlb_of (f ∷ d ∷ s ∷ []) (h0 ∷ h1 ∷ h2 ∷ hs) (m0 ∷ m1 ∷ m2 ∷ ms) fills) (tlb_of (f ∷ new ∷ s ∷ []) (h0 ∷ plus h1 1 ∷ h2 ∷ hs) (m0 ∷ m1 ∷ m2 ∷ ms) fills)
      data_large new t small =
          let x : Replied = record { leaf = t.leaf; level = d.spec.level; fills = 0 } in
          let l = look_hit k space page t.leaf d new (s ∷ []) h1 (h2 ∷ hs) m1 (m2 ∷ ms) (served f d s is k data_is) t.found t.moved rising.1.0 (above_beyond k d.spec.level s is.other.below, tt) in
          large_word k space page word fills x (f ∷ d ∷ s ∷ []) (f ∷ new ∷ s ∷ []) (h0 ∷ h1 ∷ h2 ∷ hs) (h0 ∷ plus h1 1 ∷ h2 ∷ hs) (m0 ∷ m1 ∷ m2 ∷ ms) (m0 ∷ m1 ∷ m2 ∷ ms)
          (look_passed k space page (Some x) f (d ∷ s ∷ []) (new ∷ s ∷ []) h0 (h1 ∷ h2 ∷ hs) (plus h1 1 ∷ h2 ∷ hs) m0 (m1 ∷ m2 ∷ ms) (m1 ∷ m2 ∷ ms) (passed f d s is k data_is) rising.0 l) refl t.says small

-- The same for the arrays as they are, and what is known of those in front.
module _ (space page word : ℕ) (hits misses : List ℕ) (fills : ℕ) (few : 3 ≤ length hits) (fewer : 3 ≤ length misses) where
  pair_first : (split : Bool) (k : Kind) (arrays new : List TlbArray) → AtPair (IsPairLook space page (seen.First word)) split k arrays new → ArePaired split (map spec_of arrays) → IsRising (map spec_of arrays) → fills < 2 ^ 64
      → IsSeen k space page word fills fills arrays new hits (one_more_at (first_in split k) hits) misses misses × IsKept split k space page word arrays new
  pair_first _ _ _ _ (AtAll k a s new after is) paired rising small =
      let x = two hits few in
      let y = two misses fewer in
      rw (is.1, x.3, y.3) (two_first k space page word fills a s (are_under k a s paired) rising.0 x.0 x.1 x.2 y.0 y.1 y.2 new is.0 small, all_kept k space page word a s new s (hit_front space page word a new is.0) (touch_others space page word a new is.0))
  pair_first _ _ _ _ (AtFetch f d s new after is) paired rising small =
      let a = three hits few in
      let b = three misses fewer in
      rw (is.1, a.4, b.4) (fetch_first space page f d s paired rising a.0 a.1 a.2 a.3 b.0 b.1 b.2 b.3 fills word new is.0 small, fetch_kept space page word f d s new s (hit_front space page word f new is.0) (touch_others space page word f new is.0))
  pair_first _ _ _ _ (AtData k e f d s new after is) paired rising small =
      let a = three hits few in
      let b = three misses fewer in
      rw (is.1, a.4, b.4, e) (data_first space page f d s paired rising a.0 a.1 a.2 a.3 b.0 b.1 b.2 b.3 fills word k e new is.0 small, data_kept k space page word e f d s new s (hit_front space page word d new is.0) (touch_others space page word d new is.0))

  pair_second : (split : Bool) (k : Kind) (arrays new : List TlbArray) → AtPair (IsPairLook space page (seen.Second word)) split k arrays new → ArePaired split (map spec_of arrays) → IsRising (map spec_of arrays)
      → IsSeen k space page word fills (plus fills 1) arrays new hits (one_more_at (firsts_in split) hits) misses (one_more_at (first_in split k) misses) × IsKept split k space page word arrays new
  pair_second _ _ _ _ (AtAll k a s new after is) paired rising =
      let x = two hits few in
      let y = two misses fewer in
      rw (x.3, y.3) (two_second k space page word fills a s (are_under k a s paired) rising.0 x.0 x.1 x.2 y.0 y.1 y.2 new after is.0.0.0 is.0.0.1 is.0.1, all_kept k space page word a s new after is.1 (fill_others space page word a new is.0.1))
  pair_second _ _ _ _ (AtFetch f d s new after is) paired rising =
      let a = three hits few in
      let b = three misses fewer in
      rw (a.4, b.4) (fetch_second space page f d s paired rising a.0 a.1 a.2 a.3 b.0 b.1 b.2 b.3 fills word new after is.0.0.0 is.0.0.1 is.0.1, fetch_kept space page word f d s new after is.1 (fill_others space page word f new is.0.1))
  pair_second _ _ _ _ (AtData k e f d s new after is) paired rising =
      let a = three hits few in
      let b = three misses fewer in
      rw (a.4, b.4, e) (data_second space page f d s paired rising a.0 a.1 a.2 a.3 b.0 b.1 b.2 b.3 fills word k e new after is.0.0.0 is.0.0.1 is.0.1, data_kept k space page word e f d s new after is.1 (fill_others space page word d new is.0.1))

  pair_large : (split : Bool) (k : Kind) (arrays new : List TlbArray) → AtPair (IsPairLook space page (seen.Large word)) split k arrays new → ArePaired split (map spec_of arrays) → IsRising (map spec_of arrays) → fills < 2 ^ 64
      → IsWord k space page word (tlb_of arrays hits misses fills) (tlb_of new (one_more_at (first_in split k) hits) misses fills)
  pair_large _ _ _ _ (AtAll k a s new after is) paired rising small =
      let x = two hits few in
      let y = two misses fewer in
      let u = are_under k a s paired in
      rw (is.1, x.3, y.3) (large_word k space page word fills (record { leaf = is.0.leaf; level = a.spec.level; fills = 0 }) (a ∷ s ∷ []) (new ∷ s ∷ []) (x.0 ∷ x.1 ∷ x.2) (plus x.0 1 ∷ x.1 ∷ x.2) (y.0 ∷ y.1 ∷ y.2) (y.0 ∷ y.1 ∷ y.2)
      (look_hit k space page is.0.leaf a new (s ∷ []) x.0 (x.1 ∷ x.2) y.0 (y.1 ∷ y.2) u.served is.0.found is.0.moved rising.0 (above_beyond k a.spec.level s u.below, tt)) refl is.0.says small)
  pair_large _ _ _ _ (AtFetch f d s new after is) paired rising small =
      let a = three hits few in
      let b = three misses fewer in
      rw (is.1, a.4, b.4) (fetch_large space page f d s paired rising a.0 a.1 a.2 a.3 b.0 b.1 b.2 b.3 fills word new is.0 small)
  pair_large _ _ _ _ (AtData k e f d s new after is) paired rising small =
      let a = three hits few in
      let b = three misses fewer in
      rw (is.1, a.4, b.4, e) (data_large space page f d s paired rising a.0 a.1 a.2 a.3 b.0 b.1 b.2 b.3 fills word k e new is.0 small)

  pair_nowhere : (split : Bool) (k : Kind) (arrays new : List TlbArray) → AtPair (IsPairLook space page seen.Nowhere) split k arrays new → ArePaired split (map spec_of arrays) → IsRising (map spec_of arrays)
      → IsLookAt k space page None arrays new hits hits misses (one_more_at (firsts_in split) (one_more_at (first_in split k) misses))
  pair_nowhere _ _ _ _ (AtAll k a s new after is) paired rising =
      let x = two hits few in
      let y = two misses fewer in
      rw (is.1.0, is.1.1, x.3, y.3) (two_nowhere k space page word fills a s (are_under k a s paired) rising.0 x.0 x.1 x.2 y.0 y.1 y.2 is.0.0 is.0.1)
  pair_nowhere _ _ _ _ (AtFetch f d s new after is) paired rising =
      let a = three hits few in
      let b = three misses fewer in
      rw (is.1.0, is.1.1, a.4, b.4) (fetch_nowhere space page f d s paired rising a.0 a.1 a.2 a.3 b.0 b.1 b.2 b.3 fills word is.0.0 is.0.1)
  pair_nowhere _ _ _ _ (AtData k e f d s new after is) paired rising =
      let a = three hits few in
      let b = three misses fewer in
      rw (is.1.0, is.1.1, a.4, b.4, e) (data_nowhere space page f d s paired rising a.0 a.1 a.2 a.3 b.0 b.1 b.2 b.3 fills word k e is.0.0 is.0.1)

pair_unknown : (split : Bool) (k : Kind) (space page : ℕ) (arrays new : List TlbArray) → AtPair (IsPairLook space page seen.Unknown) split k arrays new → FirstLacks space page (alone_at (first_in split k) arrays) × (new ≡ arrays)
pair_unknown _ _ space page _ _ (AtAll k a s new after is) = (is.0, rw (is.1.0, is.1.1) refl)
pair_unknown _ _ space page _ _ (AtFetch f d s new after is) = (is.0, rw (is.1.0, is.1.1) refl)
pair_unknown _ _ space page _ _ (AtData k e f d s new after is) = rw (e, is.1.0, is.1.1) (is.0, refl)

pub pair_answer : (saw : Seen) (split : Bool) (k : Kind) (space page : ℕ) (arrays new : List TlbArray) (hits misses : List ℕ) (fills : ℕ) → 3 ≤ length hits → 3 ≤ length misses → fills < 2 ^ 64
    → ArePaired split (map spec_of arrays) → IsRising (map spec_of arrays) → AtPair (IsPairLook space page saw) split k arrays new
    → IsKnownAnswer split k space page (answered_as saw) (tlb_of arrays hits misses fills) (seen_in (first_in split k) (firsts_in split) saw (tlb_of new hits misses fills))
pair_answer (seen.First word) split k space page arrays new hits misses fills few fewer small paired rising is =
    let s = pair_first space page word hits misses fills few fewer split k arrays new is paired rising small in
    seen_word split k space page word fills fills arrays new hits (one_more_at (first_in split k) hits) misses misses s.0 s.1
pair_answer (seen.Second word) split k space page arrays new hits misses fills few fewer small paired rising is =
    let s = pair_second space page word hits misses fills few fewer split k arrays new is paired rising in
    seen_word split k space page word fills (plus fills 1) arrays new hits (one_more_at (firsts_in split) hits) misses (one_more_at (first_in split k) misses) s.0 s.1
pair_answer (seen.Large word) split k space page arrays new hits misses fills few fewer small paired rising is = pair_large space page word hits misses fills few fewer split k arrays new is paired rising small
pair_answer seen.Nowhere split k space page arrays new hits misses fills few fewer small paired rising is =
    seen_none k space page fills arrays new hits hits misses (one_more_at (firsts_in split) (one_more_at (first_in split k) misses)) (pair_nowhere space page 0 hits misses fills few fewer split k arrays new is paired rising)
pair_answer seen.Unknown split k space page arrays new hits misses fills few fewer small paired rising is =
    let u = pair_unknown split k space page arrays new is in
    (u.0, ap (λ (z : List TlbArray). tlb_of z hits misses fills) u.1)

-- a fill of both
pub pair_filled : (q : Lookup) (word : ℕ) (split : Bool) (k : Kind) (arrays new : List TlbArray) → AtPair (IsPairFill q.space q.page word) split k arrays new → ArePaired split (map spec_of arrays) → IsFill k q word 2 arrays new × IsKept split k q.space q.page word arrays new
pair_filled q word _ _ _ _ (AtAll k a s new after is) paired = (
  filled_first k q word 1 a new (s ∷ []) (after ∷ []) (serves_all k a paired.all) paired.one.pair.takes is.first (last_filled q word k s after (serves_all k s paired.second.all) paired.second.pair.takes is.second),
  all_kept k q.space q.page word a s new after is.front (fill_others q.space q.page word a new is.first),
)
pair_filled q word _ _ _ _ (AtFetch f d s new after is) paired =
    let k = kind.Fetch in
    let serves = fetch_serves f d s paired in (
      filled_first k q word 1 f new (d ∷ s ∷ []) (d ∷ after ∷ []) serves.0 paired.one.pair.takes is.first (filled_past k q word 1 d (s ∷ []) (after ∷ []) serves.1 (last_filled q word k s after (serves_all k s paired.second.all) paired.second.pair.takes is.second)),
      fetch_kept q.space q.page word f d s new after is.front (fill_others q.space q.page word f new is.first),
    )
pair_filled q word _ _ _ _ (AtData k e f d s new after is) paired = (
  filled_past k q word 2 f (d ∷ s ∷ []) (new ∷ after ∷ []) (passed f d s paired k e)
      (filled_first k q word 1 d new (s ∷ []) (after ∷ []) (served f d s paired k e) paired.other.pair.takes is.first (last_filled q word k s after (serves_all k s paired.second.all) paired.second.pair.takes is.second)),
  data_kept k q.space q.page word e f d s new after is.front (fill_others q.space q.page word d new is.first),
)

-- a leaf in front of the first array of a kind is touched, and nothing moves
front_look : (split : Bool) (k : Kind) (space page word : ℕ) (arrays : List TlbArray) → ArePaired split (map spec_of arrays) → IsFront space page word (alone_at (first_in split k) arrays) → AtPair (IsPairLook space page (seen.First word)) split k arrays arrays
front_look false k space page word [] paired front = absurd paired
front_look false k space page word (a ∷ []) paired front = absurd paired
front_look false k space page word (a ∷ s ∷ []) paired front = AtAll k a s a s (front_touch space page word a front, refl)
front_look false k space page word (a ∷ s ∷ t ∷ rest) paired front = absurd paired
front_look true k space page word [] paired front = absurd paired
front_look true k space page word (f ∷ []) paired front = absurd paired
front_look true k space page word (f ∷ d ∷ []) paired front = absurd paired
front_look true kind.Fetch space page word (f ∷ d ∷ s ∷ []) paired front = AtFetch f d s f s (front_touch space page word f front, refl)
front_look true kind.Load space page word (f ∷ d ∷ s ∷ []) paired front = AtData kind.Load refl f d s d s (front_touch space page word d front, refl)
front_look true kind.Store space page word (f ∷ d ∷ s ∷ []) paired front = AtData kind.Store refl f d s d s (front_touch space page word d front, refl)
front_look true k space page word (f ∷ d ∷ s ∷ t ∷ rest) paired front = absurd paired

pub pair_front : (split : Bool) (k : Kind) (space page word : ℕ) (arrays : List TlbArray) (hits misses : List ℕ) (fills : ℕ) → 3 ≤ length hits → 3 ≤ length misses → fills < 2 ^ 64
    → ArePaired split (map spec_of arrays) → IsRising (map spec_of arrays) → IsFront space page word (alone_at (first_in split k) arrays)
    → IsKnownWord split k space page word (tlb_of arrays hits misses fills) (tlb_of arrays (one_more_at (first_in split k) hits) misses fills)
pair_front split k space page word arrays hits misses fills few fewer small paired rising front =
    pair_answer (seen.First word) split k space page arrays arrays hits misses fills few fewer small paired rising (front_look split k space page word arrays paired front)

pub pair_eights : (split : Bool) (k : Kind) (arrays : List TlbArray) → ArePaired split (map spec_of arrays) → HasEights (alone_at (first_in split k) arrays)
pair_eights false k [] paired = absurd paired
pair_eights false k (a ∷ []) paired = absurd paired
pair_eights false k (a ∷ s ∷ []) paired = paired.one.eights
pair_eights false k (a ∷ s ∷ t ∷ rest) paired = absurd paired
pair_eights true k [] paired = absurd paired
pair_eights true k (f ∷ []) paired = absurd paired
pair_eights true k (f ∷ d ∷ []) paired = absurd paired
pair_eights true kind.Fetch (f ∷ d ∷ s ∷ []) paired = paired.one.eights
pair_eights true kind.Load (f ∷ d ∷ s ∷ []) paired = paired.other.eights
pair_eights true kind.Store (f ∷ d ∷ s ∷ []) paired = paired.other.eights
pair_eights true k (f ∷ d ∷ s ∷ t ∷ rest) paired = absurd paired

-- The first arrays, and the second one with what is after it: the one of a kind is `a`.
pub record IsParted (split : Bool) (k : Kind) (arrays firsts : List TlbArray) (s : TlbArray) (rest : List TlbArray) (a : TlbArray) : Type 0 where
  pub parts : arrays ≡ firsts ++ s ∷ rest
  pub many : length firsts ≡ firsts_in split
  pub at : a ≡ get_or firsts (first_in split k) a
  pub paired : ArePaired split (map spec_of arrays)

pub parted : (split : Bool) (k : Kind) (arrays firsts others : List TlbArray) (s : TlbArray) (rest : List TlbArray) (a : TlbArray) (n m : ℕ) → arrays ≡ firsts ++ others → others ≡ s ∷ rest → length firsts ≡ n → n ≡ firsts_in split
    → a ≡ get_or firsts m a → m ≡ first_in split k → ArePaired split (map spec_of arrays) → IsParted split k arrays firsts s rest a
parted split k arrays firsts others s rest a n m parts second many count at number paired = record {
  parts = parts ∙ ap (λ (z : List TlbArray). firsts ++ z) second;
  many = many ∙ count;
  at = rw number at at;
  paired = paired;
}

-- both change
pub at_pair : (P : TlbArray → TlbArray → TlbArray → TlbArray → Type 0) (split : Bool) (k : Kind) (arrays firsts : List TlbArray) (s : TlbArray) (rest : List TlbArray) (a new after : TlbArray) → IsParted split k arrays firsts s rest a → P a s new after
    → AtPair P split k arrays (set firsts (first_in split k) new ++ after ∷ rest)
at_pair P false k arrays [] s rest a new after is p = absurd (omega (arith, is.many))
at_pair P false k arrays (f ∷ d ∷ firsts) s rest a new after is p = absurd (omega (arith, is.many))
at_pair P false k arrays (f ∷ []) s (t ∷ rest) a new after is p = absurd (let none : ArePaired false (map spec_of (f ∷ s ∷ t ∷ rest)) = rw is.parts at is.paired in none)
at_pair P false k arrays (f ∷ []) s [] a new after is p = rw is.parts (AtAll k f s new after (subst (λ (z : TlbArray). P z s new after) is.at p))
at_pair P true k arrays [] s rest a new after is p = absurd (omega (arith, is.many))
at_pair P true k arrays (f ∷ []) s rest a new after is p = absurd (omega (arith, is.many))
at_pair P true k arrays (f ∷ d ∷ x ∷ firsts) s rest a new after is p = absurd (omega (arith, is.many))
at_pair P true k arrays (f ∷ d ∷ []) s (t ∷ rest) a new after is p = absurd (let none : ArePaired true (map spec_of (f ∷ d ∷ s ∷ t ∷ rest)) = rw is.parts at is.paired in none)
at_pair P true kind.Fetch arrays (f ∷ d ∷ []) s [] a new after is p = rw is.parts (AtFetch f d s new after (subst (λ (z : TlbArray). P z s new after) is.at p))
at_pair P true kind.Load arrays (f ∷ d ∷ []) s [] a new after is p = rw is.parts (AtData kind.Load refl f d s new after (subst (λ (z : TlbArray). P z s new after) is.at p))
at_pair P true kind.Store arrays (f ∷ d ∷ []) s [] a new after is p = rw is.parts (AtData kind.Store refl f d s new after (subst (λ (z : TlbArray). P z s new after) is.at p))

-- the two arrays of a kind are these
abbrev IsPairOf : TlbArray → TlbArray → TlbArray → TlbArray → TlbArray → TlbArray → Type 0
IsPairOf a s x y new after = (x ≡ a) × (y ≡ s)

these_are : (a s : TlbArray) (split : Bool) (k : Kind) (arrays new : List TlbArray) → AtPair (IsPairOf a s) split k arrays new → ArePaired split (map spec_of arrays) → IsOfPair a.spec × IsOfPair s.spec
these_are a s _ _ _ _ (AtAll k x y new after is) paired = (subst (λ (z : TlbArray). IsOfPair z.spec) is.0 paired.one.pair, subst (λ (z : TlbArray). IsOfPair z.spec) is.1 paired.second.pair)
these_are a s _ _ _ _ (AtFetch x d y new after is) paired = (subst (λ (z : TlbArray). IsOfPair z.spec) is.0 paired.one.pair, subst (λ (z : TlbArray). IsOfPair z.spec) is.1 paired.second.pair)
these_are a s _ _ _ _ (AtData k e f x y new after is) paired = (subst (λ (z : TlbArray). IsOfPair z.spec) is.0 paired.other.pair, subst (λ (z : TlbArray). IsOfPair z.spec) is.1 paired.second.pair)

this_lacks : (space page : ℕ) (a s : TlbArray) (split : Bool) (k : Kind) (arrays new : List TlbArray) → AtPair (IsPairOf a s) split k arrays new → FirstLacks space page (alone_at (first_in split k) arrays) → LacksSmall space page a
this_lacks space page a s _ _ _ _ (AtAll k x y new after is) lacks = subst (LacksSmall space page) is.0 lacks
this_lacks space page a s _ _ _ _ (AtFetch x d y new after is) lacks = subst (LacksSmall space page) is.0 lacks
this_lacks space page a s _ _ _ _ (AtData k e f x y new after is) lacks = subst (LacksSmall space page) is.0 (rw e at lacks)

module _ (split : Bool) (k : Kind) (arrays firsts : List TlbArray) (s : TlbArray) (rest : List TlbArray) (a : TlbArray) (is : IsParted split k arrays firsts s rest a) where
  these : AtPair (IsPairOf a s) split k arrays (set firsts (first_in split k) a ++ s ∷ rest)
  these = at_pair (IsPairOf a s) split k arrays firsts s rest a a s is (refl, refl)

  pub pair_are : IsOfPair a.spec × IsOfPair s.spec
  pair_are = these_are a s split k arrays (set firsts (first_in split k) a ++ s ∷ rest) these is.paired

  pub pair_lacks : (space page : ℕ) → FirstLacks space page (alone_at (first_in split k) arrays) → LacksSmall space page a
  pair_lacks space page lacks = this_lacks space page a s split k arrays (set firsts (first_in split k) a ++ s ∷ rest) these lacks

-- a look leaves the specs
looked_specs : (saw : Seen) (space page : ℕ) (split : Bool) (k : Kind) (arrays new : List TlbArray) → AtPair (IsPairLook space page saw) split k arrays new → map spec_of new ≡ map spec_of arrays
looked_specs saw space page _ _ _ _ (AtAll k a s new after is) = let e = pair_specs saw space page a s new after is in rw (e.0, e.1) refl
looked_specs saw space page _ _ _ _ (AtFetch f d s new after is) = let e = pair_specs saw space page f s new after is in rw (e.0, e.1) refl
looked_specs saw space page _ _ _ _ (AtData k e f d s new after is) = let e = pair_specs saw space page d s new after is in rw (e.0, e.1) refl

pub pair_kept : (saw : Seen) (split : Bool) (k : Kind) (space page : ℕ) (arrays new : List TlbArray) (hits misses : List ℕ) (fills : ℕ) → AtPair (IsPairLook space page saw) split k arrays new → IsTlb (tlb_of arrays hits misses fills) → IsTlb (tlb_of new hits misses fills)
pair_kept saw split k space page arrays new hits misses fills is kept = kept_state arrays new hits hits misses misses fills fills (looked_specs saw space page split k arrays new is) kept
