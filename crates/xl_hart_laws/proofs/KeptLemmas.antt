-- What harts keep, after each event.
use Rattle.xl_hart_laws.proofs.Common.{◌++◌, ◌+◌, ◌-◌, ◌<◌, ◌∙◌, ◌∷◌, ◌≡◌, ◌≤◌, accessed_by, after_hart_event, after_hart_refusal, ap, arith, array_fenced, array_walked, Bool, Change, change_rule, changed, current_hart, Event, false, get_or, Hart, hart_accessed, hart_asked, hart_at, hart_change, hart_fenced, hart_hit, hart_refusal, hart_replied, hart_rule, hart_served, hart_switched, hart_walked, HartEvent, HartRefusal, HartSpec, HartsState, held_leaves, holds-meets, holds_frames, In, inl, inr, Insert, InSets, is_equal, is_full, IsFree, IsHart, IsHartSpec, IsHistory, IsKept, IsOfOlder, kept_leaves, Kind, Leaf, leaf_at_page, length, length-set, level_of, List, list_any, longest, mapping_changed, nat_lt, nat_tests, None, not, older, oldest, opening_hart, Option, own_served, owners, pages_of, Protect, refl, Relocate, Remove, Request, request_of, request_taken, rule, set, shared_row, Some, subst, suc, sym, table_made, table_walked, TableState, take, TlbArray, true, undone, unless-true, with_taken, ℕ}
use Rattle.std.proofs.lemmas.List.{length-map}
use Rattle.xl_list_lemmas.proofs.OnceLemmas.{own-number}
use Rattle.xl_model.specs.declared.leaf.Reply.{Reply}
use Rattle.xl_model.proofs.ArrayLemmas.{filled-spec, touched-spec}
use Rattle.xl_model_lemmas.proofs.FreshArrayLemmas.{filled-sets, opening-sets, purged-sets, touched-sets}
use Rattle.xl_model_lemmas.proofs.MappingLemmas.{found-In}
use Rattle.xl_model_lemmas.proofs.PermLemmas.{perm-same}
use Rattle.xl_model_lemmas.proofs.PoolLemmas.{no-leaf}
use Rattle.xl_hart_laws.proofs.CommandLemmas.{change-made, change-none, full-none, IsAllowed, made-table, refused-true, room-none, rule-allows, rule-none, second-none}
use Rattle.xl_hart_laws.proofs.HartLemmas.{below-full, below-longest, each-map, each-set, length-least, longest-asked, longest-same, longest-set}
use Rattle.xl_hart_laws.proofs.HistoryLemmas.{history-changed, history-taken, older-changed, older-last, older-mapping, older-taken, undone-In}
use Rattle.xl_hart_laws.proofs.OwnerLemmas.{inserted, none-owned, owners-after, owners-append, owners-taken, owners_by}
use Rattle.xl_hart_model.specs.declared.hart.HartEvent.TheVariants as step
use Rattle.xl_model.specs.declared.event.Event.TheVariants as event

pub walked-spec : (found : Option Leaf) (a : TlbArray) → (array_walked found a).spec ≡ a.spec
walked-spec None a = refl
walked-spec (Some leaf) a = filled-spec leaf a

fenced-spec : (before : Option Leaf) (a : TlbArray) → (array_fenced before a).spec ≡ a.spec
fenced-spec None a = refl
fenced-spec (Some old) a = refl

module _ {spec : HartSpec} {requests : List Request} {leaves : List Leaf} (h : Hart) (kept : IsHart spec requests leaves h) where
  replied-hart : (reply : Reply) (va : ℕ) → IsHart spec requests leaves (hart_replied reply va h)
  replied-hart reply va = record { space_in = kept.space_in; array_is = kept.array_is; waiting_in = kept.waiting_in; fresh = kept.fresh }

  hit-hart : (leaf : Leaf) (page : ℕ) (reply : Reply) (va : ℕ) → IsHart spec requests leaves (hart_replied reply va (hart_hit leaf page h))
  hit-hart leaf page reply va = record {
    space_in = kept.space_in;
    array_is = touched-spec h.space page leaf h.array ∙ kept.array_is;
    waiting_in = kept.waiting_in;
    fresh = λ x i. kept.fresh x (touched-sets h.space page leaf x h.array i);
  }

  walked-fresh : (found : Option Leaf) → ((y : Leaf) → found ≡ Some y → In y leaves) → (x : Leaf) → InSets x (array_walked found h.array).sets → IsOfOlder h.waiting requests leaves x
  walked-fresh None there x i = kept.fresh x i
  walked-fresh (Some y) there x i =
      elim (filled-sets y x h.array i) [
        | inl e ↦ let P : Leaf → Type 0 = λ z. In z leaves in (0, omega arith, subst P (sym e) (there y refl))
        | inr j ↦ kept.fresh x j
      ]

  walked-hart : (found : Option Leaf) → ((y : Leaf) → found ≡ Some y → In y leaves) → (other : Hart) → other.space ≡ h.space → other.waiting ≡ h.waiting → other.array ≡ array_walked found h.array
      → IsHart spec requests leaves other
  walked-hart found there other s w a =
      let R : ℕ → TlbArray → Type 0 = λ n b. (x : Leaf) → InSets x b.sets → IsOfOlder n requests leaves x in
      record {
        space_in = subst (λ (n : ℕ). n < spec.spaces) (sym s) kept.space_in;
        array_is = ap (λ (b : TlbArray). b.spec) a ∙ walked-spec found h.array ∙ kept.array_is;
        waiting_in = subst (λ (n : ℕ). n ≤ length requests) (sym w) kept.waiting_in;
        fresh = subst (λ (n : ℕ). R n other.array) (sym w) (subst (λ (b : TlbArray). R h.waiting b) (sym a) (walked-fresh found there));
      }

  asked-fresh : (n : ℕ) (r : Request) (next : List Leaf) → ((i : ℕ) → older (suc i) (r ∷ requests) next ≡ older i requests leaves) → (x : Leaf) → IsOfOlder n requests leaves x
      → IsOfOlder (n + 1) (r ∷ requests) next x
  asked-fresh n r next same x (i, below, is) = let P : List Leaf → Type 0 = λ xs. In x xs in (suc i, omega arith, subst P (sym (same i)) is)

  asked-hart : (r : Request) (next : List Leaf) → ((i : ℕ) → older (suc i) (r ∷ requests) next ≡ older i requests leaves) → IsHart spec (r ∷ requests) next (hart_asked h)
  asked-hart r next same = record {
    space_in = kept.space_in;
    array_is = kept.array_is;
    waiting_in = let a = kept.waiting_in in omega arith;
    fresh = λ x i. asked-fresh h.waiting r next same x (kept.fresh x i);
  }

  switched-hart : (space : ℕ) → space < spec.spaces → IsHart spec requests leaves (record h { space = space })
  switched-hart space below = record { space_in = below; array_is = kept.array_is; waiting_in = kept.waiting_in; fresh = kept.fresh }

  -- of n of the newest requests, its queue among them
  least-hart : (n : ℕ) → n ≤ length requests → h.waiting ≤ n → IsHart spec (take n requests) leaves h
  least-hart n few below = record {
    space_in = kept.space_in;
    array_is = kept.array_is;
    waiting_in = let e : length (take n requests) ≡ n = length-least n requests few in omega arith;
    fresh = λ x i. least x (kept.fresh x i);
  }
    where
      least : (x : Leaf) → IsOfOlder h.waiting requests leaves x → IsOfOlder h.waiting (take n requests) leaves x
      least x (i, at, is) = let P : List Leaf → Type 0 = λ xs. In x xs in (i, at, subst P (sym (older-taken i n requests leaves (omega arith))) is)

pub opening-hart : (spec : HartSpec) (requests : List Request) (leaves : List Leaf) → IsHartSpec spec → IsHart spec requests leaves (opening_hart spec)
opening-hart spec requests leaves is = record {
  space_in = let a = is.some_spaces in omega arith;
  array_is = refl;
  waiting_in = omega arith;
  fresh = λ x i. absurd (opening-sets x spec.sets i);
}

pub equal-self : (x : Leaf) → is_equal x x ≡ true
equal-self x = rw (own-number x.space, own-number x.first, own-number (level_of x.order), own-number x.frame, perm-same x.perm) refl

-- what a hart's array holds after it took a request
fenced-sets : (before : Option Leaf) (a : TlbArray) (x : Leaf) → InSets x (array_fenced before a).sets → InSets x a.sets × (before ≡ Some x → ⊥)
fenced-sets None a x i = (i, λ e. cc)
fenced-sets (Some old) a x i =
    let k = purged-sets (is_equal old) x a.sets i in (
      k.0,
      λ e.
          let same : old ≡ x = (cc) in
          let t : is_equal old x ≡ true = subst (λ (y : Leaf). is_equal y x ≡ true) (sym same) (equal-self x) in
          let f : false ≡ true = sym k.1 ∙ t in
          cc,
    )

module _ {spec : HartSpec} {requests : List Request} {leaves : List Leaf} (h : Hart) (kept : IsHart spec requests leaves h) (some : 0 < h.waiting) where
  fenced-fresh : (x : Leaf) → ((oldest h requests).before ≡ Some x → ⊥) → IsOfOlder h.waiting requests leaves x → IsOfOlder (h.waiting - 1) requests leaves x
  fenced-fresh x other (i, at, is) = go (nat_lt i h.waiting) refl
    where
      go : (b : Bool) → nat_lt i h.waiting ≡ b → IsOfOlder (h.waiting - 1) requests leaves x
      go true t = let k : i < h.waiting = grind (arith, nat_tests) in (i, omega arith, is)
      go false t =
          let k : h.waiting ≤ i = grind (arith, nat_tests) in
          let e : i ≡ suc (h.waiting - 1) = omega arith in
          let last = older-last (h.waiting - 1) requests leaves (record { before = None; after = None }) (let w = kept.waiting_in in omega arith) in
          let m : In x (undone (oldest h requests) (older (h.waiting - 1) requests leaves)) = subst (λ (xs : List Leaf). In x xs) last (subst (λ (n : ℕ). In x (older n requests leaves)) e is) in
          elim (undone-In (oldest h requests).before (oldest h requests).after (older (h.waiting - 1) requests leaves) x m) [
            | inl f ↦ absurd (other f)
            | inr j ↦ (h.waiting - 1, omega arith, j)
          ]

  fenced-hart : IsHart spec requests leaves (hart_fenced (oldest h requests) h)
  fenced-hart = record {
    space_in = kept.space_in;
    array_is = fenced-spec (oldest h requests).before h.array ∙ kept.array_is;
    waiting_in = let a = kept.waiting_in in omega arith;
    fresh = λ x i. let k = fenced-sets (oldest h requests).before h.array x i in fenced-fresh x k.1 (kept.fresh x k.0);
  }

-- no frame is held twice after a change
free-none : (frame : ℕ) (x : Leaf) (xs : List Leaf) → IsFree (pages_of x.order) x.frame xs → holds_frames frame 1 x ≡ true → owners frame xs ≡ 0
free-none frame x xs free t = none-owned frame xs (no-leaf frame xs (λ y i. go y i (holds_frames frame 1 y) refl))
  where
    go : (y : Leaf) → In y xs → (b : Bool) → holds_frames frame 1 y ≡ b → b ≡ false
    go y i true u = let k : false ≡ true = sym (free y i) ∙ holds-meets frame x y t u in cc
    go y i false u = refl

module _ (s : HartsState) (kept : IsKept s) (c : Change) (allowed : IsAllowed s c) (frame : ℕ) where
  alone-by : (d : Change) → c ≡ d → (n : ℕ) → n ≡ owners_by frame (inserted d) + owners frame (kept_leaves s) → n ≤ 1
  alone-by (Insert x) e n is = go (holds_frames frame 1 x) refl
    where
      go : (b : Bool) → holds_frames frame 1 x ≡ b → n ≤ 1
      go true t =
          let none : owners frame (kept_leaves s) ≡ 0 = free-none frame x (kept_leaves s) (allowed.free x e) t in
          let k : n ≡ 1 + owners frame (kept_leaves s) = rw t at is in
          omega arith
      go false t = let k : n ≡ 0 + owners frame (kept_leaves s) = rw t at is in let a = kept.alone frame in omega arith
  alone-by (Remove space first o) e n is = let a = kept.alone frame in omega arith
  alone-by (Protect space first o perm) e n is = let a = kept.alone frame in omega arith
  alone-by (Relocate space first to o) e n is = let a = kept.alone frame in omega arith

  alone-changed : owners frame (changed c s.table.leaves ++ held_leaves (request_of c s.table.leaves ∷ s.requests)) ≤ 1
  alone-changed =
      let m = older-mapping (shared_row s.spec) 0 s.requests s.table.leaves kept.history in
      alone-by c refl _ (owners-after (shared_row s.spec) frame s.requests s.table.leaves c m allowed.sound)

-- where no queue is full, the requests are fewer than a queue holds
pub not-full : (s : HartsState) → IsKept s → not (list_any (is_full s.spec) s.harts) ≡ true → length s.requests < s.spec.queue
not-full s kept none =
    let a = kept.longest_is in
    let b = kept.short in
    let c = kept.spec_is.some_queue in
    let d = below-full s.spec s.harts none (omega arith) (omega arith) in
    omega arith

-- the events
module _ (s : HartsState) (kept : IsKept s) where
  each-with : (x : Hart) (i : ℕ) → IsHart s.spec s.requests s.table.leaves x → (n : ℕ) → IsHart s.spec s.requests s.table.leaves (get_or (set s.harts i x) n (opening_hart s.spec))
  each-with x i k = each-set (λ h. IsHart s.spec s.requests s.table.leaves h) (opening_hart s.spec) x s.harts i kept.each k

  -- another hart in place of one, with the same queue
  same-queue : (x : Hart) (i : ℕ) (t : TableState) → IsHart s.spec s.requests s.table.leaves x → x.waiting ≡ (hart_at i s).waiting → t.leaves ≡ s.table.leaves → t.shape ≡ s.table.shape
      → (accepted : ℕ) → IsKept (record s { table = t; harts = set s.harts i x; accepted = accepted })
  same-queue x i t k w l p accepted =
      record {
        spec_is = kept.spec_is;
        table_is = rw p kept.table_is;
        history = subst (λ (xs : List Leaf). IsHistory (shared_row s.spec) s.requests xs) (sym l) kept.history;
        each = subst (λ (xs : List Leaf). (n : ℕ) → IsHart s.spec s.requests xs (get_or (set s.harts i x) n (opening_hart s.spec))) (sym l) (each-with x i k);
        longest_is = longest-same (opening_hart s.spec) x s.harts i w ∙ kept.longest_is;
        short = kept.short;
        count = length-set s.harts i x ∙ kept.count;
        current_in = let a = kept.current_in in let b = length-set s.harts i x in omega arith;
        alone = subst (λ (xs : List Leaf). (frame : ℕ) → owners frame (xs ++ held_leaves s.requests) ≤ 1) (sym l) kept.alone;
      }

  accessed-by : (canonical : Bool) (hit : Option Leaf) (page : ℕ) (reply : Reply) (va : ℕ) → IsKept (accessed_by canonical hit page reply va s)
  unfolding table_walked
  accessed-by false hit page reply va = same-queue (hart_replied reply va (current_hart s)) s.current s.table (replied-hart (current_hart s) (kept.each s.current) reply va) refl refl refl s.accepted
  accessed-by true (Some leaf) page reply va =
      same-queue (hart_replied reply va (hart_hit leaf page (current_hart s))) s.current s.table (hit-hart (current_hart s) (kept.each s.current) leaf page reply va) refl refl refl s.accepted
  accessed-by true None page reply va =
      same-queue (hart_replied reply va (hart_walked page s.table (current_hart s))) s.current (table_walked (current_hart s).space page s.table)
      (walked-hart (current_hart s) (kept.each s.current) (leaf_at_page (current_hart s).space page s.table.leaves) (found-In (current_hart s).space page s.table.leaves)
      (hart_replied reply va (hart_walked page s.table (current_hart s))) refl refl refl)
      refl refl refl s.accepted

  pub accessed-kept : (va : ℕ) (kind : Kind) → IsKept (hart_accessed va kind s)
  unfolding hart_accessed
  accessed-kept va kind = accessed-by _ _ _ _ _

  pub switched-kept : (space : ℕ) → space < s.spec.spaces → IsKept (hart_switched space s)
  switched-kept space below = same-queue (record (current_hart s) { space = space }) s.current s.table (switched-hart (current_hart s) (kept.each s.current) space below) refl refl refl _

  pub changed-kept : (c : Change) → IsAllowed s c → change_rule (Some c) s ≡ None → IsKept (mapping_changed (Some c) s)
  unfolding table_made
  changed-kept c allowed ruled =
      let room = room-none s c ruled in
      let row = shared_row s.spec in
      let m = older-mapping row 0 s.requests s.table.leaves kept.history in
      let some : 0 < length s.harts = let a = kept.current_in in omega arith in
      subst (λ (t : TableState). IsKept (record (mapping_changed (Some c) s) { table = t })) (sym (change-made s.spec c s.table kept.table_is room)) (record {
        spec_is = kept.spec_is;
        table_is = made-table s.spec c s.table kept.table_is;
        history = history-changed row s.requests s.table.leaves c m allowed.sound kept.history;
        each = each-map (λ h. IsHart s.spec s.requests s.table.leaves h) (λ h. IsHart s.spec (request_of c s.table.leaves ∷ s.requests) (changed c s.table.leaves) h) hart_asked (opening_hart s.spec) s.harts kept.each
            (opening-hart s.spec (request_of c s.table.leaves ∷ s.requests) (changed c s.table.leaves) kept.spec_is)
            (λ h k. asked-hart h k (request_of c s.table.leaves) (changed c s.table.leaves) (λ i. older-changed row s.requests s.table.leaves c i m allowed.sound));
        longest_is = let a = longest-asked s.harts some in let b = kept.longest_is in omega arith;
        short = let a = not-full s kept (full-none s c ruled) in omega arith;
        count = length-map s.harts hart_asked ∙ kept.count;
        current_in = let a = kept.current_in in let b = length-map s.harts hart_asked in omega arith;
        alone = λ frame. alone-changed s kept c allowed frame;
      })

  -- the requests that every hart has taken go
  taken-kept : (x : Hart) (n : ℕ) → IsHart s.spec s.requests s.table.leaves x → x.waiting ≤ (hart_at n s).waiting → IsKept (with_taken (set s.harts n x) s)
  taken-kept x n k w =
      let harts = set s.harts n x in
      let few : longest harts ≤ length s.requests = let a = longest-set (opening_hart s.spec) x s.harts n w in let b = kept.longest_is in omega arith in
      record {
        spec_is = kept.spec_is;
        table_is = kept.table_is;
        history = history-taken (shared_row s.spec) (longest harts) s.requests s.table.leaves kept.history;
        each = λ m. least-hart (get_or harts m (opening_hart s.spec)) (each-with x n k m) (longest harts) few (below-longest (opening_hart s.spec) harts refl m);
        longest_is = sym (length-least (longest harts) s.requests few);
        short = let a = length-least (longest harts) s.requests few in let b = kept.short in omega arith;
        count = length-set s.harts n x ∙ kept.count;
        current_in = let a = kept.current_in in let b = length-set s.harts n x in omega arith;
        alone = λ frame.
            let a = kept.alone frame in
            let b = owners-append frame s.table.leaves (held_leaves s.requests) in
            let c = owners-append frame s.table.leaves (held_leaves (take (longest harts) s.requests)) in
            let d = owners-taken frame (longest harts) s.requests in
            omega arith;
      }

  pub request-kept : (n : ℕ) → 0 < (hart_at n s).waiting → IsKept (request_taken n s)
  request-kept n some = taken-kept (hart_fenced (oldest (hart_at n s) s.requests) (hart_at n s)) n (fenced-hart (hart_at n s) (kept.each n) some) (omega arith)

  pub hart-kept : (n : ℕ) → n < length s.harts → IsKept (record s { current = n })
  hart-kept n below = record {
    spec_is = kept.spec_is;
    table_is = kept.table_is;
    history = kept.history;
    each = kept.each;
    longest_is = kept.longest_is;
    short = kept.short;
    count = kept.count;
    current_in = below;
    alone = kept.alone;
  }

  pub refused-kept : (refused : List ℕ) → IsKept (record s { refused = refused })
  refused-kept refused = record {
    spec_is = kept.spec_is;
    table_is = kept.table_is;
    history = kept.history;
    each = kept.each;
    longest_is = kept.longest_is;
    short = kept.short;
    count = kept.count;
    current_in = kept.current_in;
    alone = kept.alone;
  }

  change-kept : (e : Event) (o : Option Change) → hart_change s e ≡ o → hart_refusal s (step.Own e) ≡ None → IsKept (mapping_changed o s)
  change-kept e None known ruled = kept
  change-kept e (Some c) known ruled = changed-kept c (rule-allows s e c (rule-none s e ruled) known) (change-none s e c ruled known)

  space-in : (space : ℕ) → hart_rule s (event.Space space) ≡ None → space < s.spec.spaces
  unfolding hart_rule rule
  space-in space h = let t : nat_lt space s.spec.spaces ≡ true = unless-true _ _ h in grind (arith, nat_tests)

  own-kept : (e : Event) → hart_refusal s (step.Own e) ≡ None → IsKept (own_served e s)
  own-kept (event.Access va kind) ruled = accessed-kept va kind
  own-kept (event.Map space va o perm) ruled = change-kept (event.Map space va o perm) _ refl ruled
  own-kept (event.Unmap space va o) ruled = change-kept (event.Unmap space va o) _ refl ruled
  own-kept (event.Protect space va o perm) ruled = change-kept (event.Protect space va o perm) _ refl ruled
  own-kept (event.Move space from to o) ruled = change-kept (event.Move space from to o) _ refl ruled
  own-kept (event.Space space) ruled = switched-kept space (space-in space (rule-none s (event.Space space) ruled))
  own-kept (event.Fence to) ruled = kept

  served-kept : (e : HartEvent) → hart_refusal s e ≡ None → IsKept (hart_served e s)
  unfolding hart_served hart_refusal
  served-kept (step.Hart n) ruled = hart-kept n (let t : nat_lt n (length s.harts) ≡ true = refused-true _ _ ruled in grind (arith, nat_tests))
  served-kept (step.Take n) ruled =
      request-kept n (let t : nat_lt 0 (hart_at n s).waiting ≡ true = refused-true _ _ (second-none _ _ ruled) in grind (arith, nat_tests))
  served-kept (step.Own e) ruled = own-kept e ruled

  -- every event
  pub kept-after : (e : HartEvent) → IsKept (after_hart_event e s)
  unfolding after_hart_event
  kept-after e = go (hart_refusal s e) refl
    where
      go : (o : Option HartRefusal) → hart_refusal s e ≡ o → IsKept (after_hart_refusal o e s)
      go (Some r) h = refused-kept _
      go None h = served-kept e h
