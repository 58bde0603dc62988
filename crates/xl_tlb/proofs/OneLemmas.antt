-- One array that serves all accesses: a look in it, as a look at all.
use Rattle.xl_tlb.proofs.Common.{◌<◌, ◌^◌, ◌∷◌, ◌≡◌, ◌≤◌, [], Alone, alone_at, alone_in, ap, arith, AtOne, false, FirstLacks, front_touch, HasEights, hit_front, IsAloneFill, IsAloneLook, IsFill, IsFront, IsFrontHit, IsKept, IsKnownAnswer, IsKnownWord, IsOne, IsTlb, IsWord, Kind, length, List, Lookup, map, None, one_more_at, plus, refl, set_number, spec_of, tlb_of, TlbArray, ℕ}
use Rattle.xl_tlb.proofs.StayLemmas.{fill_others, kept_at, OtherSets, touch_others}
use Rattle.xl_tlb.proofs.StepLemmas.{IsLookAt, IsSeen, large_spec, large_word, last_filled, look_hit, look_next, look_none, seen_hit, seen_none, seen_word, touch_spec}
use Rattle.xl_tlb.proofs.TlbLemmas.{kept_state, serves_all}
use Rattle.xl_tlb.specs.declared.levels.Answered.{Answered}
use Rattle.xl_model.specs.declared.address.Order.TheVariants as order
use Rattle.xl_tlb.specs.declared.levels.Answered.TheVariants as answered

some : (ns : List ℕ) → 1 ≤ length ns → (a : ℕ) × (rest : List ℕ) × (ns ≡ a ∷ rest)
some [] e = absurd (omega (arith, e))
some (a ∷ rest) e = (a, rest, refl)

one_kept : (k : Kind) (space page word : ℕ) (a new : TlbArray) → IsFrontHit space page word new → OtherSets (set_number a.spec order.K4 page) a new → IsKept false k space page word (a ∷ []) (new ∷ [])
one_kept k space page word a new hit o = kept_at false k space page word a new (a ∷ []) (new ∷ []) refl refl (λ j n. absurd (n refl)) hit o

module _ (k : Kind) (space page word : ℕ) (hits misses : List ℕ) (fills : ℕ) (few : 1 ≤ length hits) (fewer : 1 ≤ length misses) where
  one_word : (arrays new : List TlbArray) → AtOne (IsAloneLook space page (answered.Word word)) arrays new → IsOne (map spec_of arrays) → fills < 2 ^ 64
      → IsSeen k space page word fills fills arrays new hits (one_more_at 0 hits) misses misses × IsKept false k space page word arrays new
  one_word _ _ (Alone a new is) one small =
      let x = some hits few in
      let y = some misses fewer in
      rw (x.2, y.2) (seen_hit k space page word fills a new [] x.0 x.1 y.0 y.1 (serves_all k a one.0) is tt tt small, one_kept k space page word a new (hit_front space page word a new is) (touch_others space page word a new is))

  one_nowhere : (arrays new : List TlbArray) → AtOne (IsAloneLook space page answered.Nowhere) arrays new → IsOne (map spec_of arrays)
      → IsLookAt k space page None arrays new hits hits misses (one_more_at 0 misses)
  one_nowhere _ _ (Alone a new is) one =
      let x = some hits few in
      let y = some misses fewer in
      rw (is.1, x.2, y.2) (look_next k space page None a a [] [] x.0 x.1 x.1 y.0 y.1 y.1 (serves_all k a one.0) is.0 tt refl (look_none k space page x.1 y.1))

  one_large : (arrays new : List TlbArray) → AtOne (IsAloneLook space page (answered.Large word)) arrays new → IsOne (map spec_of arrays) → fills < 2 ^ 64
      → IsWord k space page word (tlb_of arrays hits misses fills) (tlb_of new (one_more_at 0 hits) misses fills)
  one_large _ _ (Alone a new is) one small =
      let x = some hits few in
      let y = some misses fewer in
      rw (x.2, y.2) (large_word k space page word fills (record { leaf = is.leaf; level = a.spec.level; fills = 0 }) (a ∷ []) (new ∷ []) (x.0 ∷ x.1) (plus x.0 1 ∷ x.1) (y.0 ∷ y.1) (y.0 ∷ y.1)
      (look_hit k space page is.leaf a new [] x.0 x.1 y.0 y.1 (serves_all k a one.0) is.found is.moved tt tt) refl is.says small)

one_unknown : (space page : ℕ) (arrays new : List TlbArray) → AtOne (IsAloneLook space page answered.Unknown) arrays new → FirstLacks space page (alone_at 0 arrays) × (new ≡ arrays)
one_unknown space page _ _ (Alone a new is) = (is.0, rw is.1 refl)

pub one_answer : (answer : Answered) (k : Kind) (space page : ℕ) (arrays new : List TlbArray) (hits misses : List ℕ) (fills : ℕ) → 1 ≤ length hits → 1 ≤ length misses → fills < 2 ^ 64
    → IsOne (map spec_of arrays) → AtOne (IsAloneLook space page answer) arrays new
    → IsKnownAnswer false k space page answer (tlb_of arrays hits misses fills) (alone_in answer (tlb_of new hits misses fills))
one_answer (answered.Word word) k space page arrays new hits misses fills few fewer small one is =
    let s = one_word k space page word hits misses fills few fewer arrays new is one small in
    seen_word false k space page word fills fills arrays new hits (one_more_at 0 hits) misses misses s.0 s.1
one_answer (answered.Large word) k space page arrays new hits misses fills few fewer small one is = one_large k space page word hits misses fills few fewer arrays new is one small
one_answer answered.Nowhere k space page arrays new hits misses fills few fewer small one is =
    seen_none k space page fills arrays new hits hits misses (one_more_at 0 misses) (one_nowhere k space page 0 hits misses fills few fewer arrays new is one)
one_answer answered.Unknown k space page arrays new hits misses fills few fewer small one is =
    let u = one_unknown space page arrays new is in
    (u.0, ap (λ (z : List TlbArray). tlb_of z hits misses fills) u.1)

pub one_filled : (q : Lookup) (word : ℕ) (k : Kind) (arrays new : List TlbArray) → AtOne (IsAloneFill q.space q.page word) arrays new → IsOne (map spec_of arrays)
    → IsFill k q word 1 arrays new × IsKept false k q.space q.page word arrays new
one_filled q word k _ _ (Alone a new is) one = (
  last_filled q word k a new (serves_all k a one.0) one.1 is.first,
  one_kept k q.space q.page word a new is.front (fill_others q.space q.page word a new is.first),
)

-- a leaf in front is touched, and nothing moves
front_look : (space page word : ℕ) (arrays : List TlbArray) → IsOne (map spec_of arrays) → IsFront space page word (alone_at 0 arrays) → AtOne (IsAloneLook space page (answered.Word word)) arrays arrays
front_look space page word [] one front = absurd one
front_look space page word (a ∷ []) one front = Alone a a (front_touch space page word a front)
front_look space page word (a ∷ s ∷ rest) one front = absurd one

pub one_front : (k : Kind) (space page word : ℕ) (arrays : List TlbArray) (hits misses : List ℕ) (fills : ℕ) → 1 ≤ length hits → 1 ≤ length misses → fills < 2 ^ 64
    → IsOne (map spec_of arrays) → IsFront space page word (alone_at 0 arrays)
    → IsKnownWord false k space page word (tlb_of arrays hits misses fills) (tlb_of arrays (one_more_at 0 hits) misses fills)
one_front k space page word arrays hits misses fills few fewer small one front =
    one_answer (answered.Word word) k space page arrays arrays hits misses fills few fewer small one (front_look space page word arrays one front)

pub no_other : (a : TlbArray) (rest : List TlbArray) → IsOne (map spec_of (a ∷ rest)) → rest ≡ []
no_other a [] one = refl
no_other a (t ∷ rest) one = absurd one

-- the sets of the array are what its spec says
pub eights_alone : (arrays : List TlbArray) → HasEights arrays → HasEights (alone_at 0 arrays)
eights_alone [] e = tt
eights_alone (a ∷ rest) e = e

-- a look leaves the spec
pub one_kept_state : (answer : Answered) (space page : ℕ) (arrays new : List TlbArray) (hits misses : List ℕ) (fills : ℕ) → AtOne (IsAloneLook space page answer) arrays new → IsTlb (tlb_of arrays hits misses fills) → IsTlb (tlb_of new hits misses fills)
one_kept_state answer space page arrays new hits misses fills is kept = kept_state arrays new hits hits misses misses fills fills (specs answer arrays new is) kept
  where
    specs : (answer : Answered) (arrays new : List TlbArray) → AtOne (IsAloneLook space page answer) arrays new → map spec_of new ≡ map spec_of arrays
    specs (answered.Word word) _ _ (Alone a new is) = rw (touch_spec space page word a new is) refl
    specs (answered.Large word) _ _ (Alone a new is) = rw (large_spec space page word a new is) refl
    specs answered.Nowhere _ _ (Alone a new is) = rw is.1 refl
    specs answered.Unknown _ _ (Alone a new is) = rw is.1 refl
