use Rattle.xl_cuckoo.proofs.Common.{◌++◌, ◌+◌, ◌-◌, ◌<◌, ◌∙◌, ◌∷◌, ◌≡◌, [], ap, arith, attempt, Displaced, displaced, Entry, Fails, IfSome, key_of, keys_in_hand, length, length-append, List, map, map-append, next_way, None, occupant, Option, put_at, refl, shapes, Some, state_at, subst, sym, undone, WayState, ℕ}
use Rattle.xl_cuckoo.proofs.KickLemmas.{attempt-fails, attempt-free, attempt-step, keys-more, put-length, taken-back}
use Rattle.xl_cuckoo.specs.declared.moved.Moved.{Moved}
use Rattle.xl_cuckoo.proofs.attempt.attempt.Goals as goal

pub kicks-init : goal.kicks-init
unfolding undone keys_in_hand
kicks-init c =
    let a = c.args in
    let all : a.limit - 0 ≡ a.limit = omega arith in
    record {
      rest = ap (λ (n : ℕ). attempt n (shapes a.ways.now) a.start a.entry (map displaced a.moved.now.items)) all
          ∙ ap (λ (ms : List Moved). attempt a.limit (shapes a.ways.now) a.start a.entry (map displaced ms)) c.requires.none;
      back = refl;
      inside = c.requires.start;
      full = c.requires.full;
      known = ap (λ (ms : List Moved). length ms) c.requires.none;
      hands = ap (λ (ms : List Moved). map key_of ms) (sym c.requires.none);
    }

pub returns-in-None-clause-succeeds : goal.returns-in-None-clause-succeeds
returns-in-None-clause-succeeds c t =
    sym c.kicks.invariant.rest
    ∙ attempt-free (c.args.limit - c.kicks._i) c.kicks.ways c.swap_at.new.ways c.kicks.at c.kicks.hand (map displaced c.kicks.moved.items)
    (sym c.swap_at.ensures.left ∙ c.in-None.is) c.swap_at.ensures.ways

pub kicks-preserved : goal.kicks-preserved
kicks-preserved c =
    let ws : List WayState = c.kicks.ways in
    let vs : List WayState = c.swap_at.new.ways in
    let at : ℕ = c.kicks.at in
    let e : Entry = c.in-Some.displaced in
    let ms : List Displaced = map displaced c.kicks.moved.items in
    let n : ℕ = c.args.limit - (c.kicks._i + 1) in
    let more : n + 1 ≡ c.args.limit - c.kicks._i = (let t = c.kicks-test.true in omega arith) in
    let stood : occupant (state_at ws at).shape c.kicks.hand.key ≡ Some e = sym c.swap_at.ensures.left ∙ c.in-Some.is in
    let length-is : length vs ≡ length ws = ap (λ (us : List WayState). length us) c.swap_at.ensures.ways ∙ put-length ws at c.kicks.hand in
    let to : c.next-at.result ≡ next_way (length ws) at = c.next-at.ensures.is ∙ ap (λ (m : ℕ). next_way m at) length-is in
    let last : List Moved = record { key = e.key; way = c.next-at.result } ∷ [] in
    let new-known : map displaced c.push.new.self.items ≡ ms ++ record { key = e.key; way = c.next-at.result } ∷ [] =
    ap (map displaced) c.push.ensures.items ∙ map-append displaced c.kicks.moved.items last in
    let I : Option Entry → Type 0 = λ o. IfSome o (λ d. put_at vs at d ≡ ws) in
    let A : Option Entry → Type 0 = λ o. IfSome o (λ d. occupant (state_at vs at).shape d.key ≡ Some c.kicks.hand) in
    record {
      rest = ap (λ (l : List Displaced). attempt n (shapes vs) c.next-at.result e l) new-known
          ∙ ap (λ (a : ℕ). attempt n (shapes vs) a e (ms ++ record { key = e.key; way = a } ∷ [])) to
          ∙ sym (attempt-step n ws vs at c.kicks.hand e ms stood c.swap_at.ensures.ways)
          ∙ ap (λ (m : ℕ). attempt m (shapes ws) at c.kicks.hand ms) more
          ∙ c.kicks.invariant.rest;
      back = ap (λ (a : ℕ). undone (c.kicks._i + 1) vs a e) to
          ∙ taken-back c.kicks._i ws vs at c.kicks.hand e (let l = c.requires.few in let k = c.kicks.auto.ways in omega arith) c.kicks.invariant.inside c.swap_at.ensures.ways
          (subst I c.in-Some.is c.swap_at.ensures.back) (subst A c.in-Some.is c.swap_at.ensures.again)
          ∙ c.kicks.invariant.back;
      inside = (let i = c.next-at.ensures.inside in omega arith);
      full = subst (λ (o : Option Entry). IfSome o (λ d. 0 < d.word)) c.in-Some.is c.swap_at.ensures.full;
      hands = ap (λ (a : ℕ). keys_in_hand (c.kicks._i + 1) vs a e) to
          ∙ keys-more c.kicks._i ws vs at c.kicks.hand e (let l = c.requires.few in let k = c.kicks.auto.ways in omega arith) c.kicks.invariant.inside c.swap_at.ensures.ways
          (subst I c.in-Some.is c.swap_at.ensures.back) (subst A c.in-Some.is c.swap_at.ensures.again)
          ∙ ap (λ (ks : List ℕ). ks ++ e.key ∷ []) c.kicks.invariant.hands
          ∙ sym (ap (map key_of) c.push.ensures.items ∙ map-append key_of c.kicks.moved.items last);
      known = (let l = ap (λ (l : List Moved). length l) c.push.ensures.items in let k = c.kicks.invariant.known in omega (arith, length-append c.kicks.moved.items last));
    }

pub returns-then-is_free_at-clause-succeeds : goal.returns-then-is_free_at-clause-succeeds
returns-then-is_free_at-clause-succeeds c t =
    sym c.kicks.invariant.rest
    ∙ attempt-free (c.args.limit - c.kicks._i) c.kicks.ways c.swap_at-then-is_free_at.new.ways c.kicks.at c.kicks.hand (map displaced c.kicks.moved.items)
    (c.is_free_at.ensures.0 c.if-is_free_at.true) c.swap_at-then-is_free_at.ensures.ways

pub returns-else-is_free_at-clause-fails : goal.returns-else-is_free_at-clause-fails
returns-else-is_free_at-clause-fails c t =
    let none : c.args.limit - c.kicks._i ≡ 0 = (let e = c.kicks-test.false in omega arith) in
    sym c.kicks.invariant.rest
    ∙ ap (λ (n : ℕ). attempt n (shapes c.kicks.ways) c.kicks.at c.kicks.hand (map displaced c.kicks.moved.items)) none
    ∙ go (occupant (state_at c.kicks.ways c.kicks.at).shape c.kicks.hand.key) refl
  where
    go : (o : Option Entry) → occupant (state_at c.kicks.ways c.kicks.at).shape c.kicks.hand.key ≡ o
        → attempt 0 (shapes c.kicks.ways) c.kicks.at c.kicks.hand (map displaced c.kicks.moved.items) ≡ Fails
    go None is = absurd (let f = c.is_free_at.ensures.1 is in let n = c.if-is_free_at.false in absurd (cc))
    go (Some e) is = attempt-fails c.kicks.ways c.kicks.at c.kicks.hand e (map displaced c.kicks.moved.items) is
