use Rattle.xl_harts.proofs.Common.{◌++◌, ◌+◌, ◌-◌, ◌<◌, ◌∙◌, ◌∷◌, ◌≡◌, ◌≤◌, [], after-take, after_hart_event, ap, arith, Bool, Buffer, false, first-none, get_or, Hart, hart_at, hart_fenced, hart_refusal, HartsState, held_leaves, IfSome, In, IsFit, IsHarts, IsKept, IsLeafOf, IsPoolOf, kept_leaves, Leaf, length, List, longest, nat_lt, nat_tests, None, older, older-last, older-mapping, oldest, opening_hart, Option, owners, owners-append, owners-oldest, pool-stays, pool-without, refl, refused-true, Request, request-kept, request_taken, row_table, set, shared_row, Some, state_of, subst, suc, sym, take, take-all, take-some, true, undone, with_held, with_new, without_old, ℕ}
use Rattle.xl_hart_laws.proofs.HartLemmas.{longest-less}
use Rattle.xl_model_lemmas.proofs.InsertionLemmas.{In-with}
use Rattle.xl_harts.proofs.RefusalLemmas.{leaf-fit}
use Rattle.xl_harts.proofs.StepLemmas.{same-place}
use Rattle.xl_harts.specs.Pools.{Fits, given_back, last_of, LeafFits, nothing, pool_after, released, settled_by}
use Rattle.xl_hart_model.specs.declared.hart.HartEvent.TheVariants as step
use Rattle.xl_harts.proofs.harts.Harts.take_request.Goals as goal

-- a take that nothing refuses
take-hart : (s : HartsState) (n : ℕ) → hart_refusal s (step.Take n) ≡ None → n < length s.harts
unfolding hart_refusal
take-hart s n ruled = let t : nat_lt n (length s.harts) ≡ true = refused-true _ _ (first-none _ _ ruled) in grind (arith, nat_tests)

-- the leaf before a request was in a mapping
before-valid : (s : HartsState) → IsKept s → (i : ℕ) → i < length s.requests → (x : Leaf) → (get_or s.requests i nothing).before ≡ Some x → IsLeafOf (shared_row s.spec) x
before-valid s kept i below x e =
    let r : Request = get_or s.requests i nothing in
    let last = older-last i s.requests s.table.leaves nothing below in
    let P : Option Leaf → Type 0 = λ o. In x (with_new o (without_old r.after (older i s.requests s.table.leaves))) in
    let there : In x (undone r (older i s.requests s.table.leaves)) = subst P (sym e) (In-with x (without_old r.after (older i s.requests s.table.leaves))) in
    (older-mapping (shared_row s.spec) (suc i) s.requests s.table.leaves kept.history).valid x (subst (λ (xs : List Leaf). In x xs) (sym last) there)

before-fits : (s : HartsState) → IsKept s → (pool : List Bool) → IsPoolOf s.spec.frames (kept_leaves s) pool → Fits (last_of s.requests) pool
before-fits s kept pool tie = go s.requests refl
  where
    leaf-fits : (r : Request) → ((x : Leaf) → r.before ≡ Some x → IsLeafOf (shared_row s.spec) x) → (o : Option Leaf) → r.before ≡ o → LeafFits o pool
    leaf-fits r valid None e = tt
    leaf-fits r valid (Some x) e = let a = (valid x e).frames_in in let b = tie.size in omega arith

    go : (requests : List Request) → s.requests ≡ requests → Fits (last_of s.requests) pool
    go [] e = rw e tt
    go (r ∷ requests) e =
        let some : 0 < length s.requests = rw e (omega arith) in
        leaf-fits (last_of s.requests) (before-valid s kept (length s.requests - 1) (omega arith)) (last_of s.requests).before refl

module _ (s : HartsState) (kept : IsKept s) (n : ℕ) (x : Hart) (less : (hart_at n s).waiting ≤ x.waiting + 1) (no_more : x.waiting ≤ (hart_at n s).waiting) where
  -- all requests but at most the oldest stay
  near : length s.requests ≤ longest (set s.harts n x) + 1
  near = let a = longest-less (opening_hart s.spec) x s.harts n less in let b = kept.longest_is in omega arith

-- the pool after a request is dropped
given : (frames : ℕ) (before after : Option Leaf) (leaves rest all : List Leaf) (pool : List Bool) → ((f : ℕ) → owners f all ≡ owners f (with_held before after []) + owners f rest)
    → ((f : ℕ) → owners f all ≤ 1) → LeafFits before pool → length pool ≡ frames → IsPoolOf frames all pool → IsPoolOf frames rest (given_back before after pool)
given frames (Some x) None leaves rest all pool count alone fits size tie =
    pool-without frames x all rest pool (omega arith) tie (λ f. let a = count f in omega arith) alone
given frames (Some x) (Some y) leaves rest all pool count alone fits size tie = pool-stays frames all rest pool (λ f. let a = count f in omega arith) tie
given frames None after leaves rest all pool count alone fits size tie = pool-stays frames all rest pool (λ f. let a = count f in omega arith) tie

pool-released : (s : HartsState) → IsKept s → (pool : List Bool) → IsPoolOf s.spec.frames (kept_leaves s) pool → (k : ℕ) → length s.requests ≤ k + 1
    → IsPoolOf s.spec.frames (s.table.leaves ++ held_leaves (take k s.requests)) (released k s.requests pool)
pool-released s kept pool tie k near = go (nat_lt k (length s.requests)) refl
  where
    go : (b : Bool) → nat_lt k (length s.requests) ≡ b → IsPoolOf s.spec.frames (s.table.leaves ++ held_leaves (take k s.requests)) (settled_by b s.requests pool)
    go true t =
        let below : k < length s.requests = grind (arith, nat_tests) in
        let e : length s.requests ≡ suc k = omega arith in
        let last : last_of s.requests ≡ get_or s.requests k nothing = ap (λ (i : ℕ). get_or s.requests i nothing) (let f : length s.requests - 1 ≡ k = omega arith in f) in
        let P : Request → Type 0 = λ r. IsPoolOf s.spec.frames (s.table.leaves ++ held_leaves (take k s.requests)) (pool_after r pool) in
        subst P (sym last) (given s.spec.frames (get_or s.requests k nothing).before (get_or s.requests k nothing).after s.table.leaves (s.table.leaves ++ held_leaves (take k s.requests)) (kept_leaves s) pool
        (λ f.
        let a = owners-append f s.table.leaves (held_leaves s.requests) in
        let b = owners-append f s.table.leaves (held_leaves (take k s.requests)) in
        let c = owners-oldest f k s.requests nothing e in
        omega arith)
        kept.alone (subst (λ (r : Request). Fits r pool) last (before-fits s kept pool tie)) tie.size tie)
    go false t =
        let above : length s.requests ≤ k = grind (arith, nat_tests) in
        subst (λ (rs : List Request). IsPoolOf s.spec.frames (s.table.leaves ++ held_leaves rs) pool) (sym (take-all k s.requests above)) tie

-- the requests that stay are at most one less
take-near : (s : HartsState) → IsKept s → (n : ℕ) → hart_refusal s (step.Take n) ≡ None → length s.requests ≤ longest (set s.harts n (hart_fenced (oldest (hart_at n s) s.requests) (hart_at n s))) + 1
take-near s kept n ruled = near s kept n (hart_fenced (oldest (hart_at n s) s.requests) (hart_at n s)) (let w = take-some s n ruled in omega arith) (omega arith)

-- the leaf before the oldest request is one that an array can keep
oldest-fit : (s : HartsState) → IsKept s → (n : ℕ) → hart_refusal s (step.Take n) ≡ None → IfSome (oldest (hart_at n s) s.requests).before IsFit
oldest-fit s kept n ruled = go (oldest (hart_at n s) s.requests).before refl
  where
    go : (o : Option Leaf) → (oldest (hart_at n s) s.requests).before ≡ o → IfSome o IsFit
    go None e = tt
    go (Some x) e =
        let w = take-some s n ruled in
        let k = (kept.each n).waiting_in in
        leaf-fit s.spec x kept.spec_is (before-valid s kept ((hart_at n s).waiting - 1) (omega arith) x e)

module _ (s : HartsState) (kept : IsKept s) (n : ℕ) (ruled : hart_refusal s (step.Take n) ≡ None) (x : Hart) (is : x ≡ hart_fenced (oldest (hart_at n s) s.requests) (hart_at n s))
    (requests : List Request) (are : requests ≡ take (longest (set s.harts n x)) s.requests) where
  taken-is : record s { harts = set s.harts n x; requests = requests } ≡ request_taken n s
  taken-is = rw (are, is) refl

  taken-after : record s { harts = set s.harts n x; requests = requests } ≡ after_hart_event (step.Take n) s
  taken-after = taken-is ∙ sym (after-take s n ruled)

  taken-harts : (capacity : ℕ) → capacity ≡ s.spec.queue → (pool after : List Bool) → IsPoolOf s.spec.frames (kept_leaves s) pool → after ≡ released (longest (set s.harts n x)) s.requests pool
      → IsHarts (record s { harts = set s.harts n x; requests = requests }) capacity after
  taken-harts capacity room pool after tie settles =
      let far : length s.requests ≤ longest (set s.harts n x) + 1 = rw is (take-near s kept n ruled) in
      record {
        kept = subst (λ (v : HartsState). IsKept v) (sym taken-is) (request-kept s kept n (take-some s n ruled));
        pool_is = rw (are, settles) (pool-released s kept pool tie (longest (set s.harts n x)) far);
        room = room;
      }

pub index-requires : goal.index-requires
index-requires c =
    let i = c.self.inside in
    let s : HartsState = state_of i.spec (row_table 3 i.table) i.requests.items i.harts.items i.current i.accepted i.refused in
    let kept = c.self.invariant.kept in
    let ruled : hart_refusal s (step.Take c.args.hart) ≡ None = rw (← c.self.view_is) at c.requires in
    let below : c.args.hart < length i.harts.items = take-hart s c.args.hart ruled in
    omega arith

pub oldest_of-request-requires : goal.oldest_of-request-requires
oldest_of-request-requires c =
    let i = c.self.inside in
    let s : HartsState = state_of i.spec (row_table 3 i.table) i.requests.items i.harts.items i.current i.accepted i.refused in
    let kept = c.self.invariant.kept in
    let ruled : hart_refusal s (step.Take c.args.hart) ≡ None = rw (← c.self.view_is) at c.requires in
    let below : c.args.hart < length i.harts.items = take-hart s c.args.hart ruled in
    let first = c.index.ensures ∙ same-place i.harts.items c.args.hart c.index.result.now (opening_hart i.spec) below in
    record {
      some = rw first (take-some s c.args.hart ruled);
      there = rw first (kept.each c.args.hart).waiting_in;
    }

pub index_mut-requires : goal.index_mut-requires
index_mut-requires c =
    let i = c.self.inside in
    let s : HartsState = state_of i.spec (row_table 3 i.table) i.requests.items i.harts.items i.current i.accepted i.refused in
    let kept = c.self.invariant.kept in
    let ruled : hart_refusal s (step.Take c.args.hart) ≡ None = rw (← c.self.view_is) at c.requires in
    let below : c.args.hart < length i.harts.items = take-hart s c.args.hart ruled in
    omega arith

pub fence-requires : goal.fence-requires
fence-requires c =
    let i = c.self.inside in
    let s : HartsState = state_of i.spec (row_table 3 i.table) i.requests.items i.harts.items i.current i.accepted i.refused in
    let kept = c.self.invariant.kept in
    let ruled : hart_refusal s (step.Take c.args.hart) ≡ None = rw (← c.self.view_is) at c.requires in
    let below : c.args.hart < length i.harts.items = take-hart s c.args.hart ruled in
    let at = c.index_mut.ensures.value ∙ same-place i.harts.items c.args.hart c.index_mut.result.now (opening_hart i.spec) below in
    let first = c.index.ensures ∙ same-place i.harts.items c.args.hart c.index.result.now (opening_hart i.spec) below in
    let request : c.oldest_of-request.result ≡ oldest (hart_at c.args.hart s) i.requests.items = c.oldest_of-request.ensures ∙ ap (λ (h : Hart). oldest h i.requests.items) first in
    record {
      some = rw at (take-some s c.args.hart ruled);
      fit = rw request (oldest-fit s kept c.args.hart ruled);
    }

pub release_oldest-requires : goal.release_oldest-requires
release_oldest-requires c =
    let i = c.self.inside in
    let s : HartsState = state_of i.spec (row_table 3 i.table) i.requests.items i.harts.items i.current i.accepted i.refused in
    let kept = c.self.invariant.kept in
    let ruled : hart_refusal s (step.Take c.args.hart) ≡ None = rw (← c.self.view_is) at c.requires in
    let below : c.args.hart < length i.harts.items = take-hart s c.args.hart ruled in
    let at = c.index_mut.ensures.value ∙ same-place i.harts.items c.args.hart c.index_mut.result.now (opening_hart i.spec) below in
    let first = c.index.ensures ∙ same-place i.harts.items c.args.hart c.index.result.now (opening_hart i.spec) below in
    let request : c.oldest_of-request.result ≡ oldest (hart_at c.args.hart s) i.requests.items = c.oldest_of-request.ensures ∙ ap (λ (h : Hart). oldest h i.requests.items) first in
    let new : c.fence.new.self ≡ hart_fenced (oldest (hart_at c.args.hart s) i.requests.items) (hart_at c.args.hart s) =
    c.fence.ensures ∙ ap (λ (h : Hart). hart_fenced c.oldest_of-request.result h) at ∙ ap (λ (r : Request). hart_fenced r (hart_at c.args.hart s)) request in
    let far : c.longest_of.result ≡ longest (set i.harts.items c.args.hart c.fence.new.self) = c.longest_of.ensures ∙ ap (λ (hs : List Hart). longest hs) c.deref.ensures.value in
    rw (far, new) (record { near = take-near s kept c.args.hart ruled; fits = before-fits s kept i.frames c.self.invariant.pool_is })

pub invariant_of-self : goal.invariant_of-self
invariant_of-self c =
    let i = c.self.inside in
    let s : HartsState = state_of i.spec (row_table 3 i.table) i.requests.items i.harts.items i.current i.accepted i.refused in
    let kept = c.self.invariant.kept in
    let ruled : hart_refusal s (step.Take c.args.hart) ≡ None = rw (← c.self.view_is) at c.requires in
    let below : c.args.hart < length i.harts.items = take-hart s c.args.hart ruled in
    let at = c.index_mut.ensures.value ∙ same-place i.harts.items c.args.hart c.index_mut.result.now (opening_hart i.spec) below in
    let first = c.index.ensures ∙ same-place i.harts.items c.args.hart c.index.result.now (opening_hart i.spec) below in
    let request : c.oldest_of-request.result ≡ oldest (hart_at c.args.hart s) i.requests.items = c.oldest_of-request.ensures ∙ ap (λ (h : Hart). oldest h i.requests.items) first in
    let new : c.fence.new.self ≡ hart_fenced (oldest (hart_at c.args.hart s) i.requests.items) (hart_at c.args.hart s) =
    c.fence.ensures ∙ ap (λ (h : Hart). hart_fenced c.oldest_of-request.result h) at ∙ ap (λ (r : Request). hart_fenced r (hart_at c.args.hart s)) request in
    let far : c.longest_of.result ≡ longest (set i.harts.items c.args.hart c.fence.new.self) = c.longest_of.ensures ∙ ap (λ (hs : List Hart). longest hs) c.deref.ensures.value in
    taken-harts s kept c.args.hart ruled c.fence.new.self new c.release_oldest.new.requests.items (ap (λ (b : Buffer Request). b.items) c.release_oldest.ensures.requests ∙ ap (λ (n : ℕ). take n i.requests.items) far)
    c.release_oldest.new.requests.capacity (ap (λ (b : Buffer Request). b.capacity) c.release_oldest.ensures.requests ∙ c.self.invariant.room) i.frames c.release_oldest.new.frames c.self.invariant.pool_is
    (rw far at c.release_oldest.ensures.frames)

pub returns : goal.returns
returns c =
    let i = c.self.inside in
    let s : HartsState = state_of i.spec (row_table 3 i.table) i.requests.items i.harts.items i.current i.accepted i.refused in
    let kept = c.self.invariant.kept in
    let ruled : hart_refusal s (step.Take c.args.hart) ≡ None = rw (← c.self.view_is) at c.requires in
    let below : c.args.hart < length i.harts.items = take-hart s c.args.hart ruled in
    let at = c.index_mut.ensures.value ∙ same-place i.harts.items c.args.hart c.index_mut.result.now (opening_hart i.spec) below in
    let first = c.index.ensures ∙ same-place i.harts.items c.args.hart c.index.result.now (opening_hart i.spec) below in
    let request : c.oldest_of-request.result ≡ oldest (hart_at c.args.hart s) i.requests.items = c.oldest_of-request.ensures ∙ ap (λ (h : Hart). oldest h i.requests.items) first in
    let new : c.fence.new.self ≡ hart_fenced (oldest (hart_at c.args.hart s) i.requests.items) (hart_at c.args.hart s) =
    c.fence.ensures ∙ ap (λ (h : Hart). hart_fenced c.oldest_of-request.result h) at ∙ ap (λ (r : Request). hart_fenced r (hart_at c.args.hart s)) request in
    let far : c.longest_of.result ≡ longest (set i.harts.items c.args.hart c.fence.new.self) = c.longest_of.ensures ∙ ap (λ (hs : List Hart). longest hs) c.deref.ensures.value in
    rw (← c.self.view_is) (taken-after s kept c.args.hart ruled c.fence.new.self new c.release_oldest.new.requests.items (ap (λ (b : Buffer Request). b.items) c.release_oldest.ensures.requests ∙ ap (λ (n : ℕ). take n i.requests.items) far))
