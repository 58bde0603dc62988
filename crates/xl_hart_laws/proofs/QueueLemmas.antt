-- The queues of harts, as parts of one list.
use Rattle.xl_hart_laws.proofs.Common.{◌+◌, ◌-◌, ◌<◌, ◌∙◌, ◌∷◌, ◌≡◌, ◌≤◌, [], after_hart_event, after_hart_events, ap, AreQueues, arith, Bool, Change, change_of, ComesIntoQueue, Event, false, get_or, Hart, hart_asked, hart_at, hart_change, hart_fenced, hart_refusal, hart_served, HartEvent, HartSpec, HartsState, IsHartSpec, IsKept, Kind, length, List, longest, map, mapping_changed, max, max-eq_left, max-eq_right, nat_le, nat_lt, nat_tests, None, oldest, opening_hart, opening_harts, queue_of, refl, request_of, request_taken, set, Some, subst, suc, sym, take, TakesOldest, true, zero, ℕ}
use Rattle.xl_model.specs.declared.event.Scope.{Scope}
use Rattle.xl_hart_laws.proofs.CoherenceLemmas.{events-kept, opening-kept}
use Rattle.xl_hart_laws.proofs.CommandLemmas.{first-none, refused-true, second-none}
use Rattle.xl_hart_laws.proofs.HartLemmas.{below-longest, length-least}
use Rattle.xl_hart_model.specs.declared.hart.HartEvent.TheVariants as step
use Rattle.xl_model.specs.declared.event.Event.TheVariants as event

-- an event that is no change
pub no-access : (s : HartsState) (va : ℕ) (k : Kind) (c : Change) → hart_change s (event.Access va k) ≡ Some c → ⊥
unfolding hart_change change_of
no-access s va k c e = cc

pub no-switch : (s : HartsState) (space : ℕ) (c : Change) → hart_change s (event.Space space) ≡ Some c → ⊥
unfolding hart_change change_of
no-switch s space c e = cc

pub no-fence : (s : HartsState) (to : Scope) (c : Change) → hart_change s (event.Fence to) ≡ Some c → ⊥
unfolding hart_change change_of
no-fence s to c e = cc

-- the state after a command that nothing refuses
pub after-change : (s : HartsState) (e : Event) (c : Change) → hart_refusal s (step.Own e) ≡ None → hart_change s e ≡ Some c → after_hart_event (step.Own e) s ≡ mapping_changed (Some c) s
unfolding after_hart_event hart_served
after-change s (event.Access va k) c r i = absurd (no-access s va k c i)
after-change s (event.Map space va o perm) c r i = rw (r, i) refl
after-change s (event.Unmap space va o) c r i = rw (r, i) refl
after-change s (event.Protect space va o perm) c r i = rw (r, i) refl
after-change s (event.Move space from to o) c r i = rw (r, i) refl
after-change s (event.Space space) c r i = absurd (no-switch s space c i)
after-change s (event.Fence to) c r i = absurd (no-fence s to c i)

-- and after a take
pub after-take : (s : HartsState) (n : ℕ) → hart_refusal s (step.Take n) ≡ None → after_hart_event (step.Take n) s ≡ request_taken n s
unfolding after_hart_event hart_served
after-take s n ruled = rw ruled refl

pub take-some : (s : HartsState) (n : ℕ) → hart_refusal s (step.Take n) ≡ None → 0 < (hart_at n s).waiting
unfolding hart_refusal
take-some s n ruled = let t : nat_lt 0 (hart_at n s).waiting ≡ true = refused-true _ _ (second-none _ _ ruled) in grind (arith, nat_tests)

-- lists
take-take : {A : Type 0} (i k : ℕ) (xs : List A) → i ≤ k → take i (take k xs) ≡ take i xs
take-take zero k xs h = refl
take-take (suc i) zero xs h = absurd (omega arith)
take-take (suc i) (suc k) [] h = refl
take-take {A} (suc i) (suc k) (x ∷ xs) h = ap (λ (ys : List A). x ∷ ys) (take-take i k xs (omega arith))

take-next : {A : Type 0} (w : ℕ) (x : A) (xs : List A) → take (w + 1) (x ∷ xs) ≡ x ∷ take w xs
take-next {A} w x xs = let e : w + 1 ≡ suc w = omega arith in ap (λ (n : ℕ). take n (x ∷ xs)) e

mapped-at : (f : Hart → Hart) (d : Hart) (hs : List Hart) (n : ℕ) → n < length hs → get_or (map f hs) n d ≡ f (get_or hs n d)
mapped-at f d [] n h = absurd (omega arith)
mapped-at f d (x ∷ xs) zero h = refl
mapped-at f d (x ∷ xs) (suc n) h = mapped-at f d xs n (omega arith)

set-here : (d x : Hart) (hs : List Hart) (n : ℕ) → n < length hs → get_or (set hs n x) n d ≡ x
set-here d x [] n h = absurd (omega arith)
set-here d x (y ∷ ys) zero h = refl
set-here d x (y ∷ ys) (suc n) h = set-here d x ys n (omega arith)

set-there : (d x : Hart) (hs : List Hart) (n m : ℕ) → (m ≡ n → ⊥) → get_or (set hs n x) m d ≡ get_or hs m d
set-there d x [] n m h = refl
set-there d x (y ∷ ys) zero zero h = absurd (h refl)
set-there d x (y ∷ ys) zero (suc m) h = refl
set-there d x (y ∷ ys) (suc n) zero h = refl
set-there d x (y ∷ ys) (suc n) (suc m) h = set-there d x ys n m (λ e. h (ap (λ (k : ℕ). suc k) e))

-- the hart with the longest queue
longest-there : (d : Hart) (hs : List Hart) → d.waiting ≡ 0 → (n : ℕ) × ((get_or hs n d).waiting ≡ longest hs)
longest-there d [] e = (0, e)
longest-there d (h ∷ hs) e = go (nat_le (longest hs) h.waiting) refl (longest-there d hs e)
  where
    go : (b : Bool) → nat_le (longest hs) h.waiting ≡ b → (n : ℕ) × ((get_or hs n d).waiting ≡ longest hs) → (n : ℕ) × ((get_or (h ∷ hs) n d).waiting ≡ max h.waiting (longest hs))
    go true t there = let k : longest hs ≤ h.waiting = grind (arith, nat_tests) in (0, sym (max-eq_left k))
    go false t there = let k : h.waiting ≤ longest hs = grind (arith, nat_tests) in (suc there.0, there.1 ∙ sym (max-eq_right k))

pub take-all : {A : Type 0} (n : ℕ) (xs : List A) → length xs ≤ n → take n xs ≡ xs
take-all zero [] h = refl
take-all zero (x ∷ xs) h = absurd (omega arith)
take-all (suc n) [] h = refl
take-all {A} (suc n) (x ∷ xs) h = ap (λ (ys : List A). x ∷ ys) (take-all n xs (omega arith))

module _ (s : HartsState) (kept : IsKept s) where
  comes : (n : ℕ) → n < length s.harts → ComesIntoQueue s n
  comes n below e c ruled known =
      let at : get_or (map hart_asked s.harts) n (opening_hart s.spec) ≡ hart_asked (hart_at n s) = mapped-at hart_asked (opening_hart s.spec) s.harts n below in
      subst (λ (v : HartsState). queue_of (hart_at n v) v ≡ request_of c s.table.leaves ∷ queue_of (hart_at n s) s) (sym (after-change s e c ruled known))
      (ap (λ (h : Hart). take h.waiting (request_of c s.table.leaves ∷ s.requests)) at ∙ take-next (hart_at n s).waiting (request_of c s.table.leaves) s.requests)

  module _ (n : ℕ) (ruled : hart_refusal s (step.Take n) ≡ None) (below : n < length s.harts) where
    abbrev x : Hart
    x = hart_fenced (oldest (hart_at n s) s.requests) (hart_at n s)

    abbrev harts : List Hart
    harts = set s.harts n x

    own : queue_of (hart_at n (request_taken n s)) (request_taken n s) ≡ take (length (queue_of (hart_at n s) s) - 1) (queue_of (hart_at n s) s)
    own =
        let at : get_or harts n (opening_hart s.spec) ≡ x = set-here (opening_hart s.spec) x s.harts n below in
        let few : (get_or harts n (opening_hart s.spec)).waiting ≤ longest harts = below-longest (opening_hart s.spec) harts refl n in
        let w : x.waiting ≤ longest harts = rw at at few in
        let l : length (take (hart_at n s).waiting s.requests) ≡ (hart_at n s).waiting = length-least (hart_at n s).waiting s.requests (kept.each n).waiting_in in
        ap (λ (h : Hart). take h.waiting (take (longest harts) s.requests)) at
        ∙ take-take x.waiting (longest harts) s.requests w
        ∙ sym (ap (λ (k : ℕ). take (k - 1) (take (hart_at n s).waiting s.requests)) l ∙ take-take ((hart_at n s).waiting - 1) (hart_at n s).waiting s.requests (omega arith))

    others : (m : ℕ) → (m ≡ n → ⊥) → queue_of (hart_at m (request_taken n s)) (request_taken n s) ≡ queue_of (hart_at m s) s
    others m other =
        let at : get_or harts m (opening_hart s.spec) ≡ hart_at m s = set-there (opening_hart s.spec) x s.harts n m other in
        let few : (get_or harts m (opening_hart s.spec)).waiting ≤ longest harts = below-longest (opening_hart s.spec) harts refl m in
        let w : (hart_at m s).waiting ≤ longest harts = rw at at few in
        ap (λ (h : Hart). take h.waiting (take (longest harts) s.requests)) at ∙ take-take (hart_at m s).waiting (longest harts) s.requests w

  taken-below : (n : ℕ) → hart_refusal s (step.Take n) ≡ None → n < length s.harts
  unfolding hart_refusal
  taken-below n ruled = let t : nat_lt n (length s.harts) ≡ true = refused-true _ _ (first-none _ _ ruled) in grind (arith, nat_tests)

  takes : (n : ℕ) → hart_refusal s (step.Take n) ≡ None → TakesOldest s n
  takes n ruled =
      let P : HartsState → Type 0 = λ v. queue_of (hart_at n v) v ≡ take (length (queue_of (hart_at n s) s) - 1) (queue_of (hart_at n s) s) in
      let Q : HartsState → Type 0 = λ v. (m : ℕ) → (m ≡ n → ⊥) → queue_of (hart_at m v) v ≡ queue_of (hart_at m s) s in
      let e = sym (after-take s n ruled) in
      record { own = subst P e (own n ruled (taken-below n ruled)); others = subst Q e (others n ruled (taken-below n ruled)) }

  are-queues : AreQueues s
  are-queues = record {
    comes = comes;
    takes = takes;
    longest =
        let there = longest-there (opening_hart s.spec) s.harts refl in
        let a = kept.longest_is in
        let b = there.1 in
        (there.0, take-all (hart_at there.0 s).waiting s.requests (omega arith));
  }

pub one-list : (spec : HartSpec) (events : List HartEvent) → IsHartSpec spec → AreQueues (after_hart_events events (opening_harts spec))
one-list spec events is = are-queues (after_hart_events events (opening_harts spec)) (events-kept events (opening_harts spec) (opening-kept spec is))
