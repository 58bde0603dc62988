-- One event of harts, against the definitions.
use Rattle.xl_harts.proofs.Common.{◌*◌, ◌++◌, ◌+◌, ◌<◌, ◌^◌, ◌∙◌, ◌∷◌, ◌≡◌, ◌≤◌, [], after_hart_event, after_own, ap, arith, change_of, current_hart, drop, false, frames_in, get_or, Hart, hart_asked, hart_at, hart_change, hart_outcome, hart_refusal, hart_reply, hart_rule, hart_served, hart_switched, HartSpec, HartsState, held_leaves, IsKept, Kind, le-max_left, le-max_right, Leaf, length, length-map, List, longest, map, nat_lt, nat_tests, None, Option, Order, outcome_of, Perm, refl, Refusal, refusal_of, refused_by, Request, rule, Some, subst, suc, sym, take, true, unless, waiting_in, with_held, zero, ℕ}
use Rattle.xl_hart_model.specs.declared.hart.HartEvent.{HartEvent}
use Rattle.xl_hart_model.specs.declared.hart.HartRefusal.{HartRefusal}
use Rattle.xl_hart_model.specs.declared.hart.HartEvent.TheVariants as step
use Rattle.xl_hart_model.specs.declared.hart.HartOutcome.TheVariants as outcome
use Rattle.xl_hart_model.specs.declared.hart.HartRefusal.TheVariants as why
use Rattle.xl_model.specs.declared.event.Event.TheVariants as event
use Rattle.xl_model.specs.declared.event.Refusal.TheVariants as refused

-- what refuses a choice of a hart, and a take
pub hart-bad : (s : HartsState) (n : ℕ) → length s.harts ≤ n → hart_refusal s (step.Hart n) ≡ Some why.BadHart
unfolding hart_refusal
hart-bad s n h = let t : nat_lt n (length s.harts) ≡ false = grind (arith, nat_tests) in rw t refl

pub hart-good : (s : HartsState) (n : ℕ) → n < length s.harts → hart_refusal s (step.Hart n) ≡ None
unfolding hart_refusal
hart-good s n h = let t : nat_lt n (length s.harts) ≡ true = grind (arith, nat_tests) in rw t refl

pub take-bad : (s : HartsState) (n : ℕ) → length s.harts ≤ n → hart_refusal s (step.Take n) ≡ Some why.BadHart
unfolding hart_refusal
take-bad s n h = let t : nat_lt n (length s.harts) ≡ false = grind (arith, nat_tests) in rw t refl

pub take-nothing : (s : HartsState) (n : ℕ) → n < length s.harts → (hart_at n s).waiting ≡ 0 → hart_refusal s (step.Take n) ≡ Some why.NothingToTake
unfolding hart_refusal
take-nothing s n h e = let t : nat_lt n (length s.harts) ≡ true = grind (arith, nat_tests) in rw (t, e) refl

pub take-none : (s : HartsState) (n : ℕ) → n < length s.harts → 0 < (hart_at n s).waiting → hart_refusal s (step.Take n) ≡ None
unfolding hart_refusal
take-none s n h w =
    let t : nat_lt n (length s.harts) ≡ true = grind (arith, nat_tests) in
    let u : nat_lt 0 (hart_at n s).waiting ≡ true = grind (arith, nat_tests) in
    rw (t, u) refl

-- a space
pub space-known : (spec : HartSpec) (v : HartsState) (space : ℕ) (p q : Option Refusal) → spec ≡ v.spec → p ≡ unless (nat_lt space spec.spaces) refused.BadSpace → p ≡ q → unless (nat_lt space v.spec.spaces) refused.BadSpace ≡ q
space-known spec v space p q e is known = let R : HartSpec → Type 0 = λ r. unless (nat_lt space r.spaces) refused.BadSpace ≡ q in subst R e (rw (← is) known)

pub space-refused : (s : HartsState) (space : ℕ) (r : Refusal) → unless (nat_lt space s.spec.spaces) refused.BadSpace ≡ Some r → refusal_of (event.Space space) s ≡ Some (why.Mapping r)
unfolding hart_refusal hart_rule rule
space-refused s space r e = rw e refl

pub space-none : (s : HartsState) (space : ℕ) → unless (nat_lt space s.spec.spaces) refused.BadSpace ≡ None → refusal_of (event.Space space) s ≡ None
unfolding hart_refusal hart_rule rule hart_change change_of
space-none s space e = rw e refl

pub space-after : (s : HartsState) (space : ℕ) → refusal_of (event.Space space) s ≡ None → hart_switched space s ≡ after_own (event.Space space) s
unfolding after_hart_event hart_served
space-after s space ruled = rw ruled refl

pub hart-after : (s : HartsState) (n : ℕ) → hart_refusal s (step.Hart n) ≡ None → record s { current = n } ≡ after_hart_event (step.Hart n) s
unfolding after_hart_event hart_served
hart-after s n ruled = rw ruled refl

-- an event that is refused
pub refused-outcome : (e : HartEvent) (s : HartsState) (r : HartRefusal) → hart_refusal s e ≡ Some r → outcome.Refused r ≡ hart_outcome e s
unfolding hart_outcome
refused-outcome e s r ruled = rw ruled refl

pub refused-after : (e : HartEvent) (s : HartsState) (r : HartRefusal) → hart_refusal s e ≡ Some r → refused_by r s ≡ after_hart_event e s
unfolding after_hart_event
refused-after e s r ruled = rw ruled refl

-- one that is done
pub hart-done : (s : HartsState) (n : ℕ) → hart_refusal s (step.Hart n) ≡ None → outcome.Done ≡ hart_outcome (step.Hart n) s
unfolding hart_outcome
hart-done s n ruled = rw ruled refl

pub take-done : (s : HartsState) (n : ℕ) → hart_refusal s (step.Take n) ≡ None → outcome.Done ≡ hart_outcome (step.Take n) s
unfolding hart_outcome
take-done s n ruled = rw ruled refl

pub map-done : (s : HartsState) (space va : ℕ) (o : Order) (perm : Perm) → refusal_of (event.Map space va o perm) s ≡ None → outcome.Done ≡ outcome_of (event.Map space va o perm) s
unfolding hart_outcome
map-done s space va o perm ruled = rw ruled refl

pub unmap-done : (s : HartsState) (space va : ℕ) (o : Order) → refusal_of (event.Unmap space va o) s ≡ None → outcome.Done ≡ outcome_of (event.Unmap space va o) s
unfolding hart_outcome
unmap-done s space va o ruled = rw ruled refl

pub protect-done : (s : HartsState) (space va : ℕ) (o : Order) (perm : Perm) → refusal_of (event.Protect space va o perm) s ≡ None → outcome.Done ≡ outcome_of (event.Protect space va o perm) s
unfolding hart_outcome
protect-done s space va o perm ruled = rw ruled refl

pub move-done : (s : HartsState) (space from to : ℕ) (o : Order) → refusal_of (event.Move space from to o) s ≡ None → outcome.Done ≡ outcome_of (event.Move space from to o) s
unfolding hart_outcome
move-done s space from to o ruled = rw ruled refl

pub space-done : (s : HartsState) (space : ℕ) → refusal_of (event.Space space) s ≡ None → outcome.Done ≡ outcome_of (event.Space space) s
unfolding hart_outcome
space-done s space ruled = rw ruled refl

pub access-done : (s : HartsState) (va : ℕ) (kind : Kind) → outcome.Replied (hart_reply (current_hart s) s.table.leaves va kind) ≡ outcome_of (event.Access va kind) s
unfolding hart_outcome hart_refusal hart_rule rule hart_change change_of
access-done s va kind = refl

-- an element of a list, whatever is after its end
pub same-place : {A : Type 0} (xs : List A) (i : ℕ) (d e : A) → i < length xs → get_or xs i d ≡ get_or xs i e
same-place [] i d e h = absurd (omega arith)
same-place (x ∷ xs) zero d e h = refl
same-place (x ∷ xs) (suc i) d e h = same-place xs i d e (omega arith)

-- a list that was lent whole
whole : {A : Type 0} (xs ys : List A) → length xs ≡ length ys → take (length ys) (xs ++ drop (length xs) ys) ≡ xs
whole [] [] e = refl
whole [] (y ∷ ys) e = absurd (omega arith)
whole (x ∷ xs) [] e = absurd (omega arith)
whole {A} (x ∷ xs) (y ∷ ys) e = ap (λ (zs : List A). x ∷ zs) (whole xs ys (omega arith))

pub written : (len : ℕ) (items now new : List Hart) → now ≡ items → length now ≡ len → new ≡ map hart_asked now → take len (new ++ drop (length new) items) ≡ map hart_asked items
written len items now new e l n =
    let a : new ≡ map hart_asked items = n ∙ ap (λ (hs : List Hart). map hart_asked hs) e in
    let b : length (map hart_asked items) ≡ length items = length-map items hart_asked in
    let c : len ≡ length items = sym l ∙ ap (λ (hs : List Hart). length hs) e in
    rw (a, c) (whole (map hart_asked items) items b)

-- frames that are held back, and requests in queues
frames-held : (before after : Option Leaf) (xs : List Leaf) → frames_in (with_held before after xs) ≡ frames_in (with_held before after []) + frames_in xs
frames-held (Some x) None xs = omega arith
frames-held (Some x) (Some y) xs = omega arith
frames-held None after xs = omega arith

pub held-more : (r : Request) (requests : List Request) → frames_in (held_leaves (r ∷ requests)) ≡ frames_in (with_held r.before r.after []) + frames_in (held_leaves requests)
held-more r requests = frames-held r.before r.after (held_leaves requests)

pub held-append : (xs ys : List Request) → frames_in (held_leaves (xs ++ ys)) ≡ frames_in (held_leaves xs) + frames_in (held_leaves ys)
held-append [] ys = omega arith
held-append (x ∷ xs) ys =
    let a = held-more x (xs ++ ys) in
    let b = held-more x xs in
    let c = held-append xs ys in
    omega arith

waiting-by : (hs : List Hart) (k : ℕ) → longest hs ≤ k → waiting_in hs ≤ length hs * k
waiting-by [] k h = omega arith
waiting-by (h ∷ hs) k few =
    let a = le-max_left h.waiting (longest hs) in
    let b = le-max_right h.waiting (longest hs) in
    let c = waiting-by hs k (omega arith) in
    omega arith

pub waiting-few : (s : HartsState) → IsKept s → waiting_in s.harts < 2 ^ 64
waiting-few s kept =
    let a = kept.longest_is in
    let b = kept.short in
    let c = kept.spec_is.short_queue in
    let d = kept.count in
    let e = kept.spec_is.few_harts in
    let f : waiting_in s.harts ≤ length s.harts * 64 = waiting-by s.harts 64 (omega arith) in
    omega arith
