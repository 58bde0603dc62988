-- A command that changes the mapping, where nothing refuses it: the state after it, and what harts keep.
use Rattle.xl_harts.proofs.Common.{◌++◌, ◌+◌, ◌<◌, ◌^◌, ◌∙◌, ◌∷◌, ◌≡◌, ◌≤◌, [], after_hart_event, after_own, AllShort, answer_by, ap, arith, Bool, brought, Change, change-made, change-none, changed, changed-kept, covers, Err, Event, false, find-In, finds_place, full-none, Hart, hart_asked, hart_change, hart_rule, hart_served, HartSpec, HartsState, has_room, held_leaves, In, Insert, inserted, is_leaf, is_some, IsAllowed, IsBlock, IsHarts, IsKept, IsMapping, IsNamed, IsNewLeaf, IsNewPlace, IsPoolOf, IsTable, kept_leaves, le-max_left, le-max_right, Leaf, leaf_at, leaf_at_page, leaf_named, length, List, longest, lowest-none, lowest-some, Made, made-leaves, map, mapping_changed, named_rule, no-access, no-fence, no-switch, Node, None, not-full, older-mapping, Option, or-first, or-second, Order, owners, owners-after, owners_by, page_of, pages_of, Perm, plus, pool-stays, pool-with, Protect, Radix, refl, refusal_of, Remove, Request, request_of, room-none, rule, rule-allows, rule-none, Shape, shared_row, Some, state_of, subst, sym, table_after, table_answer, TableState, there_rule, true, unless-true, verdict, ℕ}
use Rattle.xl_frames.specs.Pool.{HasNone, IsLowest, marked}
use Rattle.xl_model.specs.declared.work.Refused.{Refused}
use Rattle.xl_model_lemmas.proofs.CoverLemmas.{named-by}
use Rattle.xl_harts.proofs.RefusalLemmas.{map-at, map-change, table-limits}
use Rattle.xl_model.specs.declared.address.Mode.TheVariants as mode
use Rattle.xl_model.specs.declared.event.Event.TheVariants as event

-- a radix table never refuses a change for which it has room
pub never-refused : (c : Change) (t : TableState) (r : Refused) (levels spaces : ℕ) (nodes : List (Option Node)) → t.shape ≡ Radix levels spaces nodes → has_room c t.leaves t.shape ≡ true → Err r ≡ table_answer c t → ⊥
unfolding table_answer verdict
never-refused c t r levels spaces nodes is room e = go (finds_place (brought c t.leaves) t.shape) refl
  where
    placed : (o : Option Leaf) → finds_place o (Radix levels spaces nodes) ≡ true
    placed None = refl
    placed (Some leaf) = refl

    go : (b : Bool) → finds_place (brought c t.leaves) t.shape ≡ b → ⊥
    go true f = let k : Err r ≡ answer_by Made c t = rw (room, f) at e in cc
    go false f = let k : finds_place (brought c t.leaves) t.shape ≡ true = rw is (placed (brought c t.leaves)) in cc

pub removed-room : (space first : ℕ) (o : Order) (leaves : List Leaf) (levels spaces : ℕ) (nodes : List (Option Node)) → has_room (Remove space first o) leaves (Radix levels spaces nodes) ≡ true
unfolding has_room
removed-room space first o leaves levels spaces nodes = refl

pub protected-room : (space first : ℕ) (o : Order) (perm : Perm) (leaves : List Leaf) (levels spaces : ℕ) (nodes : List (Option Node)) → has_room (Protect space first o perm) leaves (Radix levels spaces nodes) ≡ true
unfolding has_room
protected-room space first o perm leaves levels spaces nodes = refl

-- the mapping of a state
pub mapping-of : (s : HartsState) → IsKept s → IsMapping (shared_row s.spec) s.table.leaves
mapping-of s kept = older-mapping (shared_row s.spec) 0 s.requests s.table.leaves kept.history

-- the leaf that a command names
module _ (s : HartsState) (kept : IsKept s) (space va : ℕ) (o : Order) (old : Leaf) (there : there_rule (shared_row s.spec) s.table.leaves space va o ≡ None)
    (found : leaf_at_page space (page_of mode.Sv39 va) s.table.leaves ≡ Some old) where
  member : In old s.table.leaves
  unfolding leaf_at_page
  member = find-In (covers space (page_of mode.Sv39 va)) old s.table.leaves found

  is-it : is_leaf space (page_of mode.Sv39 va) o old ≡ true
  is-it = let k : named_rule (Some old) space (page_of mode.Sv39 va) o ≡ None = rw found at there in unless-true _ _ k

  pub old-named : leaf_named space (page_of mode.Sv39 va) o s.table.leaves ≡ Some old
  old-named = named-by (shared_row s.spec) s.table.leaves space (page_of mode.Sv39 va) o old (mapping-of s kept) member is-it

-- exactly the leaf that a command names is there
pub named-there : (s : HartsState) → IsKept s → (space va : ℕ) (o : Order) → there_rule (shared_row s.spec) s.table.leaves space va o ≡ None → IsNamed space (page_of mode.Sv39 va) o s.table.leaves
named-there s kept space va o there = go (leaf_at_page space (page_of mode.Sv39 va) s.table.leaves) refl
  where
    go : (found : Option Leaf) → leaf_at_page space (page_of mode.Sv39 va) s.table.leaves ≡ found → IsNamed space (page_of mode.Sv39 va) o s.table.leaves
    go None e = let k : named_rule None space (page_of mode.Sv39 va) o ≡ None = rw e at there in absurd (cc)
    go (Some old) e = ap is_some (old-named s kept space va o old there e)

pub there-unmap : (s : HartsState) (space va : ℕ) (o : Order) → hart_rule s (event.Unmap space va o) ≡ None → there_rule (shared_row s.spec) s.table.leaves space va o ≡ None
unfolding hart_rule rule
there-unmap s space va o r = or-second _ _ r

pub there-protect : (s : HartsState) (space va : ℕ) (o : Order) (perm : Perm) → hart_rule s (event.Protect space va o perm) ≡ None → there_rule (shared_row s.spec) s.table.leaves space va o ≡ None
unfolding hart_rule rule
there-protect s space va o perm r = or-second _ _ r

pub there-move : (s : HartsState) (space from to : ℕ) (o : Order) → hart_rule s (event.Move space from to o) ≡ None → there_rule (shared_row s.spec) s.table.leaves space from o ≡ None
unfolding hart_rule rule
there-move s space from to o r = or-first _ _ (or-second _ _ r)

-- the state after a command that nothing refuses
pub after-change : (s : HartsState) (e : Event) (c : Change) → refusal_of e s ≡ None → hart_change s e ≡ Some c → after_own e s ≡ mapping_changed (Some c) s
unfolding after_hart_event hart_served
after-change s (event.Access va k) c r i = absurd (no-access s va k c i)
after-change s (event.Map space va o perm) c r i = rw (r, i) refl
after-change s (event.Unmap space va o) c r i = rw (r, i) refl
after-change s (event.Protect space va o perm) c r i = rw (r, i) refl
after-change s (event.Move space from to o) c r i = rw (r, i) refl
after-change s (event.Space space) c r i = absurd (no-switch s space c i)
after-change s (event.Fence to) c r i = absurd (no-fence s to c i)

-- no queue is near its end
short-by : (hs : List Hart) (k : ℕ) → longest hs ≤ k → k < 2 ^ 63 → AllShort hs
short-by [] k few small = tt
short-by (h ∷ hs) k few small =
    let a = le-max_left h.waiting (longest hs) in
    let b = le-max_right h.waiting (longest hs) in
    (omega arith, short-by hs k (omega arith) small)

pub all-short : (s : HartsState) → IsKept s → AllShort s.harts
all-short s kept =
    let a = kept.longest_is in
    let b = kept.short in
    let c = kept.spec_is.short_queue in
    short-by s.harts 64 (omega arith) (omega arith)

module _ (s : HartsState) (kept : IsKept s) (e : Event) (c : Change) (ruled : refusal_of e s ≡ None) (known : hart_change s e ≡ Some c) where
  pub change-allowed : IsAllowed s c
  change-allowed = rule-allows s e c (rule-none s e ruled) known

  pub change-room : has_room c s.table.leaves s.table.shape ≡ true
  change-room = room-none s c (change-none s e c ruled known)

  pub queue-room : length s.requests < s.spec.queue
  queue-room = not-full s kept (full-none s c (change-none s e c ruled known))

  pub change-kept : IsKept (mapping_changed (Some c) s)
  change-kept = changed-kept s kept c change-allowed (change-none s e c ruled known)

  leaves-after : (table_after c s.table).leaves ≡ changed c s.table.leaves
  leaves-after = ap (λ (t : TableState). t.leaves) (change-made s.spec c s.table kept.table_is change-room) ∙ made-leaves c s.table

  pub owners-change : (f : ℕ) → owners f (kept_leaves (mapping_changed (Some c) s)) ≡ owners_by f (inserted c) + owners f (kept_leaves s)
  owners-change f =
      let P : List Leaf → Type 0 = λ xs. owners f (xs ++ held_leaves (request_of c s.table.leaves ∷ s.requests)) ≡ owners_by f (inserted c) + owners f (kept_leaves s) in
      subst P (sym leaves-after) (owners-after (shared_row s.spec) f s.requests s.table.leaves c (mapping-of s kept) change-allowed.sound)

  pub pool-changed : (pool : List Bool) → ((f : ℕ) → owners_by f (inserted c) ≡ 0) → IsPoolOf s.spec.frames (kept_leaves s) pool → IsPoolOf s.spec.frames (kept_leaves (mapping_changed (Some c) s)) pool
  pool-changed pool none tie =
      pool-stays s.spec.frames (kept_leaves s) (kept_leaves (mapping_changed (Some c) s)) pool (λ f. let a = owners-change f in let b = none f in omega arith) tie

  -- the parts after the command
  module _ (t : TableState) (r : Request) (requests : List Request) (harts : List Hart) (is_table : t ≡ table_after c s.table) (is_request : r ≡ request_of c s.table.leaves)
      (are_requests : requests ≡ r ∷ s.requests) (are_harts : harts ≡ map hart_asked s.harts) where
    changed-is : state_of s.spec t requests harts s.current (plus s.accepted 1) s.refused ≡ mapping_changed (Some c) s
    changed-is = rw (is_table, are_requests, is_request, are_harts) refl

    pub state-after : state_of s.spec t requests harts s.current (plus s.accepted 1) s.refused ≡ after_own e s
    state-after = changed-is ∙ sym (after-change s e c ruled known)

    pub harts-after : (capacity : ℕ) (pool : List Bool) → capacity ≡ s.spec.queue → IsPoolOf s.spec.frames (kept_leaves (mapping_changed (Some c) s)) pool
        → IsHarts (state_of s.spec t requests harts s.current (plus s.accepted 1) s.refused) capacity pool
    harts-after capacity pool room tie =
        subst (λ (v : HartsState). IsHarts v capacity pool) (sym changed-is) (record { kept = change-kept; pool_is = tie; room = room })

-- a map that nothing refuses
module _ (s : HartsState) (kept : IsKept s) (space va : ℕ) (o : Order) (perm : Perm) (ruled : refusal_of (event.Map space va o perm) s ≡ None) (pool : List Bool)
    (tie : IsPoolOf s.spec.frames (kept_leaves s) pool) where
  pub map-finds : HasNone pool (pages_of o) → ⊥
  map-finds none =
      let low = map-at s space va o perm (rule-none s (event.Map space va o perm) ruled) in
      let k : Some low.0 ≡ None = sym low.1 ∙ lowest-none s.spec.frames o (kept_leaves s) pool tie none in
      cc

  pub map-known : (at : ℕ) → IsLowest pool (pages_of o) at → hart_change s (event.Map space va o perm) ≡ Some (Insert (leaf_at space va o at perm))
  map-known at low = map-change s space va o perm at (lowest-some s.spec.frames o (kept_leaves s) pool at tie low)

  module _ (at : ℕ) (low : IsLowest pool (pages_of o) at) where
    pub map-new : IsNewLeaf (shared_row s.spec) s.table.leaves (leaf_at space va o at perm)
    map-new = (change-allowed s kept (event.Map space va o perm) (Insert (leaf_at space va o at perm)) ruled (map-known at low)).sound

    pub pool-mapped : IsPoolOf s.spec.frames (kept_leaves (mapping_changed (Some (Insert (leaf_at space va o at perm))) s)) (marked pool at (pages_of o) false)
    pool-mapped =
        pool-with s.spec.frames (leaf_at space va o at perm) (kept_leaves s) (kept_leaves (mapping_changed (Some (Insert (leaf_at space va o at perm))) s)) pool map-new.valid.frames_in tie
        (owners-change s kept (event.Map space va o perm) (Insert (leaf_at space va o at perm)) ruled (map-known at low))

-- a new place is a block of the table
pub block-for : (spec : HartSpec) (shape : Shape) (leaves : List Leaf) (space to : ℕ) (o : Order) → IsTable spec shape → IsNewPlace (shared_row spec) leaves space to o → IsBlock shape space to o
block-for spec shape leaves space to o is new =
    let l = table-limits spec shape is in
    let a = l.0 in
    let b = l.1 in
    let c = new.space_in in
    let d = new.pages_in in
    record { space_in = omega arith; pages_in = omega arith; aligned = new.pages_aligned }
