-- What is promised of harts, by what they keep.
use Rattle.xl_hart_laws.proofs.Common.{◌+◌, ◌-◌, ◌∙◌, ◌∷◌, ◌≡◌, ◌≤◌, [], after_hart_event, after_hart_events, allows, ap, arith, array_hit, Bool, covers, false, find-In, find-passes, first_found, flat, frame-shared, get_or, Hart, hart_at, hart_reply, HartEvent, HartSpec, HartsState, holds-meets, holds_frames, In, In-any, InSets, is_canonical, IsAnswer, IsCoherent, IsFrameKept, IsHart, IsHartSpec, IsKept, IsLowest, IsOlderReply, IsOutOfReach, IsOwned, kept_leaves, Kind, Leaf, leaf_at_page, leaf_seen, length, length-replicate, List, longest, lowest, lowest-is-lowest, nat_tests, None, older, opening_hart, opening_harts, opening_shape, Option, page_of, pages_of, queue_of, refl, replicate, reply_by, reply_where, shared_row, Some, subst, suc, sym, true, zero, ℕ}
use Rattle.xl_model.specs.RowRun.{opening}
use Rattle.xl_model_lemmas.proofs.CoverLemmas.{covered-is}
use Rattle.xl_model_lemmas.proofs.HitLemmas.{hit-is}
use Rattle.xl_hart_laws.proofs.HartLemmas.{length-least}
use Rattle.xl_hart_laws.proofs.HistoryLemmas.{older-mapping, older-owned, older-taken}
use Rattle.xl_hart_laws.proofs.KeptLemmas.{kept-after, opening-hart}
use Rattle.xl_model.specs.declared.address.Mode.TheVariants as mode
use Rattle.xl_model.specs.declared.leaf.Reply.TheVariants as reply

-- a hart's reply, by the leaf that it sees
reply-is : (h : Hart) (leaves others : List Leaf) (va : ℕ) (kind : Kind) → leaf_seen h (page_of mode.Sv39 va) leaves ≡ leaf_at_page h.space (page_of mode.Sv39 va) others
    → hart_reply h leaves va kind ≡ flat others mode.Sv39 h.space va kind
unfolding hart_reply flat
reply-is h leaves others va kind e =
    ap (λ (found : Option Leaf). reply_where (is_canonical mode.Sv39 va) (reply_by found (page_of mode.Sv39 va) kind)) e

module _ (s : HartsState) (kept : IsKept s) (n : ℕ) where
  abbrev h : Hart
  h = hart_at n s

  queue-length : length (queue_of h s) ≡ h.waiting
  queue-length = length-least h.waiting s.requests (kept.each n).waiting_in

  older-of : (i : ℕ) → i ≤ h.waiting → older i (queue_of h s) s.table.leaves ≡ older i s.requests s.table.leaves
  older-of i below = older-taken i h.waiting s.requests s.table.leaves below

  -- the leaf that a hart sees is that of a mapping that its queue leads back to
  seen : (page : ℕ) → (i : ℕ) × (i ≤ h.waiting) × (leaf_seen h page s.table.leaves ≡ leaf_at_page h.space page (older i s.requests s.table.leaves))
  seen page = go (array_hit h.array h.space page) refl
    where
      go : (o : Option Leaf) → array_hit h.array h.space page ≡ o
          → (i : ℕ) × (i ≤ h.waiting) × (first_found o (leaf_at_page h.space page s.table.leaves) ≡ leaf_at_page h.space page (older i s.requests s.table.leaves))
      go None e = (0, omega arith, refl)
      go (Some x) e =
          let hit = hit-is h.array h.space page x e in
          let old = (kept.each n).fresh x hit.held in (
            old.0,
            old.1,
            sym (covered-is (shared_row s.spec) (older old.0 s.requests s.table.leaves) h.space page x
                (older-mapping (shared_row s.spec) old.0 s.requests s.table.leaves kept.history) old.2 hit.covering),
          )

  pub older-reply : (va : ℕ) (kind : Kind) → IsOlderReply h s va kind
  older-reply va kind =
      let see = seen (page_of mode.Sv39 va) in
      let e = older-of see.0 see.1 in
      let P : List Leaf → Type 0 = λ xs. hart_reply h s.table.leaves va kind ≡ flat xs mode.Sv39 h.space va kind in
      record {
        undone = see.0;
        in_queue = let l = queue-length in let b = see.1 in omega arith;
        reply_is = subst P (sym e) (reply-is h s.table.leaves (older see.0 s.requests s.table.leaves) va kind see.2);
      }

  -- each frame that the array reaches is in the mapping or held back
  reached : (x : Leaf) (frame : ℕ) → InSets x h.array.sets → holds_frames frame 1 x ≡ true → IsOwned frame (kept_leaves s)
  reached x frame i t = let old = (kept.each n).fresh x i in older-owned (shared_row s.spec) frame old.0 s.requests s.table.leaves x kept.history old.2 t

-- the block that a map takes
out-of-reach : (s : HartsState) → IsKept s → IsOutOfReach s
out-of-reach s kept o at low n x i = go (holds_frames at (pages_of o) x) refl
  where
    lowest-there : (m : Option ℕ) → IsAnswer s.spec.frames (pages_of o) (kept_leaves s) m → m ≡ Some at → IsLowest s.spec.frames (pages_of o) (kept_leaves s) at
    lowest-there None is e = absurd (cc)
    lowest-there (Some b) is e = let same : b ≡ at = (cc) in let P : ℕ → Type 0 = λ k. IsLowest s.spec.frames (pages_of o) (kept_leaves s) k in subst P same is

    go : (b : Bool) → holds_frames at (pages_of o) x ≡ b → b ≡ false
    go false t = refl
    go true t =
        let block : Leaf = record x { frame = at; order = o } in
        let shared = frame-shared block x t in
        let own = reached s kept n x shared.0 i shared.2 in
        let free = (lowest-there (lowest s.spec.frames o (kept_leaves s)) (lowest-is-lowest s.spec.frames o (kept_leaves s)) low).is_free in
        let k : true ≡ false = sym (holds-meets shared.0 block own.leaf shared.1 own.holds) ∙ free own.leaf own.member in
        absurd (cc)

-- a frame that a reply has
framed : (found : Option Leaf) (canonical : Bool) (page frame : ℕ) (kind : Kind) (xs : List Leaf)
    → ((x : Leaf) → found ≡ Some x → covers x.space page x ≡ true × ((f : ℕ) → holds_frames f 1 x ≡ true → IsOwned f xs))
    → reply_where canonical (reply_by found page kind) ≡ reply.Frame frame → IsOwned frame xs
framed found false page frame kind xs own e = absurd (cc)
framed None true page frame kind xs own e = absurd (cc)
framed (Some x) true page frame kind xs own e = go (allows x.perm kind) refl
  where
    go : (b : Bool) → allows x.perm kind ≡ b → IsOwned frame xs
    go true t =
        let k : reply.Frame (x.frame + (page - x.first)) ≡ reply.Frame frame = rw t at e in
        let f : x.frame + (page - x.first) ≡ frame = (cc) in
        let c : covers x.space page x ≡ true = (own x refl).0 in
        let holds : holds_frames frame 1 x ≡ true = grind (arith, nat_tests) in
        (own x refl).1 frame holds
    go false t = let k : reply.Denied ≡ reply.Frame frame = rw t at e in absurd (cc)

own-space : (x : Leaf) (space page : ℕ) → covers space page x ≡ true → covers x.space page x ≡ true
own-space x space page t = grind (arith, nat_tests)

walk-leaf : (space page : ℕ) (leaves : List Leaf) (x : Leaf) → leaf_at_page space page leaves ≡ Some x → covers space page x ≡ true × In x leaves
unfolding leaf_at_page
walk-leaf space page leaves x h = (find-passes (covers space page) x leaves h, find-In (covers space page) x leaves h)

module _ (s : HartsState) (kept : IsKept s) (n : ℕ) where
  seen-owned : (page : ℕ) (x : Leaf) → leaf_seen (hart_at n s) page s.table.leaves ≡ Some x → covers (hart_at n s).space page x ≡ true × ((f : ℕ) → holds_frames f 1 x ≡ true → IsOwned f (kept_leaves s))
  seen-owned page x e = go (array_hit (hart_at n s).array (hart_at n s).space page) refl e
    where
      of-walk : leaf_at_page (hart_at n s).space page s.table.leaves ≡ Some x → covers (hart_at n s).space page x ≡ true × In x s.table.leaves
      of-walk f = walk-leaf (hart_at n s).space page s.table.leaves x f

      go : (o : Option Leaf) → array_hit (hart_at n s).array (hart_at n s).space page ≡ o → first_found o (leaf_at_page (hart_at n s).space page s.table.leaves) ≡ Some x
          → covers (hart_at n s).space page x ≡ true × ((f : ℕ) → holds_frames f 1 x ≡ true → IsOwned f (kept_leaves s))
      go None is f =
          let w = of-walk f in
          (w.0, λ frame t. older-owned (shared_row s.spec) frame 0 s.requests s.table.leaves x kept.history w.1 t)
      go (Some y) is f =
          let same : y ≡ x = (cc) in
          let hit = hit-is (hart_at n s).array (hart_at n s).space page x (subst (λ (z : Leaf). array_hit (hart_at n s).array (hart_at n s).space page ≡ Some z) same is) in
          (hit.covering, λ frame t. reached s kept n x frame hit.held t)

  frame-kept : IsFrameKept (hart_at n s) s
  unfolding hart_reply
  frame-kept va kind frame e =
      let own = framed (leaf_seen (hart_at n s) (page_of mode.Sv39 va) s.table.leaves) (is_canonical mode.Sv39 va) (page_of mode.Sv39 va) frame kind (kept_leaves s)
      (λ x f. let k = seen-owned (page_of mode.Sv39 va) x f in (own-space x (hart_at n s).space (page_of mode.Sv39 va) k.0, k.1)) e in
      In-any (holds_frames frame 1) own.leaf (kept_leaves s) own.member own.holds

-- harts that keep what they keep are coherent
pub coherent : (s : HartsState) → IsKept s → IsCoherent s
coherent s kept = record {
  older_replies = λ n va kind. older-reply s kept n va kind;
  out_of_reach = out-of-reach s kept;
  frames_kept = λ n. frame-kept s kept n;
}

-- at the opening
opening-each : (spec : HartSpec) (k : ℕ) → IsHartSpec spec → (n : ℕ) → IsHart spec [] [] (get_or (replicate k (opening_hart spec)) n (opening_hart spec))
opening-each spec zero is n = opening-hart spec [] [] is
opening-each spec (suc k) is zero = opening-hart spec [] [] is
opening-each spec (suc k) is (suc n) = opening-each spec k is n

opening-longest : (spec : HartSpec) (k : ℕ) → longest (replicate k (opening_hart spec)) ≡ 0
opening-longest spec zero = refl
opening-longest spec (suc k) = rw (opening-longest spec k) refl

pub opening-kept : (spec : HartSpec) → IsHartSpec spec → IsKept (opening_harts spec)
unfolding opening_harts opening opening_shape
opening-kept spec is = record {
  spec_is = is;
  table_is = (refl, refl);
  history = record { sorted = tt; valid = λ x i. absurd i; pages = λ x y page i. absurd i; frames = λ x y frame i. absurd i };
  each = opening-each spec spec.harts is;
  longest_is = opening-longest spec spec.harts;
  short = omega arith;
  count = length-replicate spec.harts (opening_hart spec);
  current_in = let a = is.some_harts in let b = length-replicate spec.harts (opening_hart spec) in omega arith;
  alone = λ frame. omega arith;
}

-- after every list of events
pub events-kept : (events : List HartEvent) (s : HartsState) → IsKept s → IsKept (after_hart_events events s)
events-kept [] s kept = kept
events-kept (e ∷ es) s kept = events-kept es (after_hart_event e s) (kept-after s kept e)

pub harts-coherent : (spec : HartSpec) (events : List HartEvent) → IsHartSpec spec → IsCoherent (after_hart_events events (opening_harts spec))
harts-coherent spec events is = coherent (after_hart_events events (opening_harts spec)) (events-kept events (opening_harts spec) (opening-kept spec is))
