-- A walk through both stages, step by step.
use Rattle.xl_nested.proofs.Common.{if◌then◌else◌, ◌+◌, ◌-◌, ◌<◌, ◌^◌, ◌∙◌, ◌∷◌, ◌≡◌, ◌≤◌, after_nest_event, along, ap, arith, Bool, covers_guest, false, find, flat, frame_of, frame_said, Guest, guest_frame, guest_path, guest_reply, Host, in_nodes, is_canonical, is_loadable, IsAt, IsEntry, Kind, last_level, Leaf, leaf_at_page, List, list_all, nest_accessed, nest_outcome, nest_rule, nest_served, nested, NestEvent, NestReply, NestState, nodes_in, None, number_of, Option, page_of, path_down, path_from, refl, reply_by, reply_from, reply_if_canonical, reply_if_loadable, small_leaf, Some, Stage, stage2, subst, suc, sym, translated, translated_by, true, up, walked_from, walked_if, with_last, with_loads, ℕ}
use Rattle.xl_nested_model.specs.Tally.{count_nest_reply}
use Rattle.xl_nested_model.specs.declared.nest.NestCounts.{NestCounts}
use Rattle.xl_nested.proofs.CacheLemmas.{small-frame}
use Rattle.xl_model.specs.declared.address.Kind.TheVariants as kinds
use Rattle.xl_model.specs.declared.address.Mode.TheVariants as mode
use Rattle.xl_nested_model.specs.declared.nest.NestEvent.TheVariants as event
use Rattle.xl_nested_model.specs.declared.nest.NestOutcome.TheVariants as outcome
use Rattle.xl_nested_model.specs.declared.nest.NestReply.TheVariants as nest
use Rattle.xl_nested.specs.declared.stage.Entry.TheVariants as entry

-- the guest's node is translated and loaded
abbrev pub stepped : ℕ → NestState → NestState
stepped g s = record s {
  guest = record s.guest { stage = with_loads 1 s.guest.stage };
  host = translated g s.host;
}

-- a translation leaves the host's leaves
pub translated-leaves : (g : ℕ) (host : Host) → (translated g host).stage.leaves ≡ host.stage.leaves
unfolding translated
translated-leaves g host = go (find (covers_guest g) host.cache.items)
  where
    go : (o : Option Leaf) → (translated_by o g host).stage.leaves ≡ host.stage.leaves
    go None = refl
    go (Some hit) = refl

-- the page's path from a level on begins with the node's guest page
path-first : (level node page : ℕ) (guest : Guest) → IsAt level node page guest
    → path_down level page guest ≡ (guest.base + node) ∷ path_from guest.base (level - 1) page (level - last_level page guest.stage) (nodes_in guest.stage.shape)
path-first level node page guest at =
    let h = at.last in
    let n : suc level - last_level page guest.stage ≡ suc (level - last_level page guest.stage) = omega arith in
    rw (n, at.at) refl

module _ (level node page : ℕ) (kind : Kind) (s : NestState) (at : IsAt level node page s.guest) where
  -- the host has no frame for the node
  pub missing-after : stage2 s.host.stage.leaves (s.guest.base + node) kinds.Load ≡ None → record s { host = translated (s.guest.base + node) s.host } ≡ walked_from level page kind s
  unfolding walked_from
  missing-after e = rw (path-first level node page s.guest at, e) refl

  pub missing-reply : stage2 s.host.stage.leaves (s.guest.base + node) kinds.Load ≡ None → nest.GuestFault ≡ reply_from level page kind s
  unfolding reply_from
  missing-reply e = rw (path-first level node page s.guest at, e) refl

  -- the host has one
  module _ (frame : ℕ) (there : stage2 s.host.stage.leaves (s.guest.base + node) kinds.Load ≡ Some frame) where
    pub on-after : walked_from level page kind s
        ≡ along (path_from s.guest.base (level - 1) page (level - last_level page s.guest.stage) (nodes_in s.guest.stage.shape)) (with_last (guest_frame page kind s.guest)) (stepped (s.guest.base + node) s)
    unfolding walked_from
    on-after = rw (path-first level node page s.guest at, there) refl

    pub on-reply : reply_from level page kind s
        ≡ reply_if_loadable (list_all (is_loadable s.host.stage.leaves) (path_from s.guest.base (level - 1) page (level - last_level page s.guest.stage) (nodes_in s.guest.stage.shape)))
        (guest_reply (guest_frame page kind s.guest) s.host.stage.leaves kind)
    unfolding reply_from
    on-reply = rw (path-first level node page s.guest at, there) refl

    -- the walk continues
    pub next-after : (next : ℕ) → IsEntry level page (entry.Node next) s.guest.stage → walked_from (level - 1) page kind (stepped (s.guest.base + node) s) ≡ walked_from level page kind s
    unfolding walked_from
    next-after next is =
        let h = is.0 in
        let n : level - last_level page s.guest.stage ≡ suc (level - 1) - last_level page s.guest.stage = omega arith in
        sym (on-after ∙ ap (λ (k : ℕ). along (path_from s.guest.base (level - 1) page k (nodes_in s.guest.stage.shape)) (with_last (guest_frame page kind s.guest)) (stepped (s.guest.base + node) s)) n)

    pub next-reply : (next : ℕ) → IsEntry level page (entry.Node next) s.guest.stage → reply_from (level - 1) page kind (stepped (s.guest.base + node) s) ≡ reply_from level page kind s
    unfolding reply_from
    next-reply next is =
        let h = is.0 in
        let n : level - last_level page s.guest.stage ≡ suc (level - 1) - last_level page s.guest.stage = omega arith in
        let P : List Leaf → ℕ → Type 0 = λ leaves k. reply_if_loadable (list_all (is_loadable leaves) (path_from s.guest.base (level - 1) page k (nodes_in s.guest.stage.shape))) (guest_reply (guest_frame page kind s.guest) leaves kind) ≡ reply_from level page kind s in
        let Q : ℕ → Type 0 = λ k. P s.host.stage.leaves k in
        subst (λ (leaves : List Leaf). P leaves (suc (level - 1) - last_level page s.guest.stage)) (sym (translated-leaves (s.guest.base + node) s.host)) (subst Q n (sym on-reply))

    pub next-at : (next : ℕ) → IsEntry level page (entry.Node next) s.guest.stage → IsAt (level - 1) next page (record s.guest { stage = with_loads 1 s.guest.stage })
    next-at next is =
        let h = is.0 in let k = is.1 in let l = at.level_in in
        let n : level ≡ suc (level - 1) = omega arith in
        record {
          level_in = omega arith;
          page_in = at.page_in;
          at = subst (λ (l : ℕ). number_of 0 l (up l page) (nodes_in s.guest.stage.shape) ≡ Some next) n is.2;
          last = omega arith;
        }

    -- the walk ends
    pub end-after : last_level page s.guest.stage ≡ level → with_last (guest_frame page kind s.guest) (stepped (s.guest.base + node) s) ≡ walked_from level page kind s
    end-after e =
        let n : level - last_level page s.guest.stage ≡ 0 = omega arith in
        sym (on-after ∙ ap (λ (k : ℕ). along (path_from s.guest.base (level - 1) page k (nodes_in s.guest.stage.shape)) (with_last (guest_frame page kind s.guest)) (stepped (s.guest.base + node) s)) n)

    pub end-reply : last_level page s.guest.stage ≡ level → guest_reply (guest_frame page kind s.guest) s.host.stage.leaves kind ≡ reply_from level page kind s
    end-reply e =
        let n : level - last_level page s.guest.stage ≡ 0 = omega arith in
        sym (on-reply ∙ ap (λ (k : ℕ). reply_if_loadable (list_all (is_loadable s.host.stage.leaves) (path_from s.guest.base (level - 1) page k (nodes_in s.guest.stage.shape)))
        (guest_reply (guest_frame page kind s.guest) s.host.stage.leaves kind)) n)

    pub leaf-reply : (leaf : Leaf) → IsEntry level page (entry.Leaf leaf) s.guest.stage
        → guest_reply (frame_of (reply_by (Some leaf) page kind)) (translated (s.guest.base + node) s.host).stage.leaves kind ≡ reply_from level page kind s
    leaf-reply leaf (last, found) =
        let P : Option Leaf → Type 0 = λ o. guest_reply (frame_of (reply_by o page kind)) s.host.stage.leaves kind ≡ reply_from level page kind s in
        rw (translated-leaves (s.guest.base + node) s.host) (subst P found (end-reply last))

    pub leaf-after : (leaf : Leaf) → IsEntry level page (entry.Leaf leaf) s.guest.stage
        → with_last (frame_of (reply_by (Some leaf) page kind)) (stepped (s.guest.base + node) s) ≡ walked_from level page kind s
    leaf-after leaf (last, found) =
        subst (λ (o : Option Leaf). with_last (frame_of (reply_by o page kind)) (stepped (s.guest.base + node) s) ≡ walked_from level page kind s) found (end-after last)

    pub small-reply : (word : ℕ) (to : Option ℕ) → to ≡ frame_said kind word → IsEntry level page (entry.Small word) s.guest.stage
        → guest_reply to (translated (s.guest.base + node) s.host).stage.leaves kind ≡ reply_from level page kind s
    small-reply word to e is =
        let P : Option ℕ → Type 0 = λ o. guest_reply o (translated (s.guest.base + node) s.host).stage.leaves kind ≡ reply_from level page kind s in
        subst P (sym (e ∙ small-frame page word kind)) (leaf-reply (small_leaf 0 page word) is)

    pub small-after : (word : ℕ) (to : Option ℕ) → to ≡ frame_said kind word → IsEntry level page (entry.Small word) s.guest.stage → with_last to (stepped (s.guest.base + node) s) ≡ walked_from level page kind s
    small-after word to e is =
        subst (λ (o : Option ℕ). with_last o (stepped (s.guest.base + node) s) ≡ walked_from level page kind s) (sym (e ∙ small-frame page word kind)) (leaf-after (small_leaf 0 page word) is)

    pub nothing-reply : IsEntry level page entry.Nothing s.guest.stage → nest.PageFault ≡ reply_from level page kind s
    nothing-reply (last, found) =
        subst (λ (o : Option Leaf). guest_reply (frame_of (reply_by o page kind)) s.host.stage.leaves kind ≡ reply_from level page kind s) found (end-reply last)

    pub nothing-after : IsEntry level page entry.Nothing s.guest.stage → stepped (s.guest.base + node) s ≡ walked_from level page kind s
    nothing-after (last, found) =
        subst (λ (o : Option Leaf). with_last (frame_of (reply_by o page kind)) (stepped (s.guest.base + node) s) ≡ walked_from level page kind s) found (end-after last)

-- the page's nodes end at level 2 or below
pub last-low : (page : ℕ) (stage : Stage) → last_level page stage ≤ 2
last-low page stage = go (in_nodes 0 1 (up 1 page) stage.leaves) (in_nodes 0 2 (up 2 page) stage.leaves)
  where
    go : (a b : Bool) → (if a then 0 else (if b then 1 else 2)) ≤ 2
    go true b = omega arith
    go false true = omega arith
    go false false = omega arith

-- a walk begins at the root
pub at-root : (node page base : ℕ) (stage : Stage) → page < 2 ^ 27 → number_of 0 3 (up 3 page) (nodes_in stage.shape) ≡ Some node → IsAt 2 node page (record { base = base; stage = stage })
at-root node page base stage low root = record { level_in = omega arith; page_in = low; at = root; last = last-low page stage }

-- the page of an address is low
pub page-low : (va page : ℕ) → page ≡ page_of mode.Sv39 va → page < 2 ^ 27
unfolding page_of
page-low va page e = omega arith

-- the reply of the guest's mapping to an address that is canonical
flat-is : (leaves : List Leaf) (va : ℕ) (kind : Kind) → is_canonical mode.Sv39 va ≡ true → flat leaves mode.Sv39 0 va kind ≡ reply_by (leaf_at_page 0 (page_of mode.Sv39 va) leaves) (page_of mode.Sv39 va) kind
unfolding flat
flat-is leaves va kind canonical = rw canonical refl

-- an access whose address is canonical, and one whose isn't
module _ (va page : ℕ) (kind : Kind) (s : NestState) where
  walked-is : is_canonical mode.Sv39 va ≡ true → page ≡ page_of mode.Sv39 va → walked_from 2 page kind s ≡ walked_if true va kind s
  unfolding walked_from guest_path
  walked-is canonical e = rw (flat-is s.guest.stage.leaves va kind canonical, e) refl

  pub whole-after : is_canonical mode.Sv39 va ≡ true → page ≡ page_of mode.Sv39 va → walked_from 2 page kind s ≡ walked_if (is_canonical mode.Sv39 va) va kind s
  whole-after canonical e = walked-is canonical e ∙ ap (λ (b : Bool). walked_if b va kind s) (sym canonical)

  replied-is : is_canonical mode.Sv39 va ≡ true → page ≡ page_of mode.Sv39 va → reply_from 2 page kind s
      ≡ reply_if_canonical true (reply_if_loadable (list_all (is_loadable s.host.stage.leaves) (guest_path s.guest (page_of mode.Sv39 va))) (guest_reply (frame_of (flat s.guest.stage.leaves mode.Sv39 0 va kind)) s.host.stage.leaves kind))
  unfolding reply_from guest_path
  replied-is canonical e = rw (flat-is s.guest.stage.leaves va kind canonical, e) refl

  pub whole-reply : is_canonical mode.Sv39 va ≡ true → page ≡ page_of mode.Sv39 va → reply_from 2 page kind s ≡ nested s.guest s.host.stage.leaves va kind
  unfolding nested
  whole-reply canonical e =
      replied-is canonical e
      ∙ ap (λ (b : Bool). reply_if_canonical b (reply_if_loadable (list_all (is_loadable s.host.stage.leaves) (guest_path s.guest (page_of mode.Sv39 va))) (guest_reply (frame_of (flat s.guest.stage.leaves mode.Sv39 0 va kind)) s.host.stage.leaves kind))) (sym canonical)

  pub bad-reply : is_canonical mode.Sv39 va ≡ false → nest.PageFault ≡ nested s.guest s.host.stage.leaves va kind
  unfolding nested
  bad-reply canonical = rw canonical refl

-- an access, and an event that is one
pub accessed-is : (va : ℕ) (kind : Kind) (s after : NestState) (counts : NestCounts) (reply : NestReply) → after ≡ walked_if (is_canonical mode.Sv39 va) va kind s → reply ≡ nested s.guest s.host.stage.leaves va kind
    → counts ≡ count_nest_reply reply va after.counts → record { guest = after.guest; host = after.host; counts = counts } ≡ nest_accessed va kind s
unfolding nest_accessed
accessed-is va kind s after counts reply walked replied counted = rw (counted, replied, walked) refl

pub access-outcome : (e : NestEvent) (va : ℕ) (kind : Kind) (s : NestState) (reply : NestReply) → e ≡ event.Access va kind → reply ≡ nested s.guest s.host.stage.leaves va kind → outcome.Replied reply ≡ nest_outcome e s
unfolding nest_outcome nest_rule
access-outcome e va kind s reply is replied = rw (is, replied) refl

pub access-after : (e : NestEvent) (va : ℕ) (kind : Kind) (s new : NestState) → e ≡ event.Access va kind → new ≡ nest_accessed va kind s → new ≡ after_nest_event e s
unfolding after_nest_event nest_rule nest_served
access-after e va kind s new is accessed = rw (is, accessed) refl
