-- The laws of a reply.
use Rattle.xl_nested.proofs.Common.{if◌then◌else◌, ◌+◌, ◌-◌, ◌<◌, ◌∙◌, ◌∷◌, ◌≡◌, ◌≤◌, [], allows, along, ap, arith, Bool, covers, false, flat, frame_of, Guest, guest_path, guest_reply, host_leaf, host_page, host_reply, host_space, is_canonical, is_loadable, Kind, Leaf, leaf_at_page, List, list_all, loaded_where, nat_tests, nest_accessed, nest_outcome, nest_rule, nested, NestEvent, NestReply, NestState, None, Option, page_of, pages_of, refl, reply_by, reply_if_canonical, reply_if_loadable, reply_where, Shape, Some, stage2, subst, sym, translated, true, walked_if, with_last, ℕ}
use Rattle.xl_model.specs.declared.leaf.Reply.{Reply}
use Rattle.xl_model_lemmas.proofs.MappingLemmas.{found-In}
use Rattle.xl_nested.proofs.GuestLemmas.{found-covers}
use Rattle.xl_nested.proofs.WalkLemmas.{translated-leaves}
use Rattle.xl_nested.specs.Laws.{composed, EventLaws, HaveSameTables, IsFrameOf, IsPlaced, ReplyLaws}
use Rattle.xl_model.specs.declared.address.Kind.TheVariants as kinds
use Rattle.xl_model.specs.declared.address.Mode.TheVariants as mode
use Rattle.xl_model.specs.declared.leaf.Reply.TheVariants as replies
use Rattle.xl_nested_model.specs.declared.nest.NestEvent.TheVariants as event
use Rattle.xl_nested_model.specs.declared.nest.NestOutcome.TheVariants as outcome

-- the composition
composed-by : (b : Bool) (answer : Reply) (host : List Leaf) (kind : Kind) → reply_if_canonical b (guest_reply (frame_of (reply_where b answer)) host kind) ≡ guest_reply (frame_of (reply_where b answer)) host kind
composed-by true answer host kind = refl
composed-by false answer host kind = refl

composes-is : (guest : Guest) (host : List Leaf) (va : ℕ) (kind : Kind) → list_all (is_loadable host) (guest_path guest (page_of mode.Sv39 va)) ≡ true
    → nested guest host va kind ≡ composed guest.stage.leaves host va kind
unfolding nested flat
composes-is guest host va kind loadable =
    ap (λ (b : Bool). reply_if_canonical (is_canonical mode.Sv39 va) (reply_if_loadable b (guest_reply (frame_of (flat guest.stage.leaves mode.Sv39 0 va kind)) host kind))) loadable
    ∙ composed-by (is_canonical mode.Sv39 va) (reply_by (leaf_at_page 0 (page_of mode.Sv39 va) guest.stage.leaves) (page_of mode.Sv39 va) kind) host kind

-- the reply is by the tables alone
module _ (va : ℕ) (kind : Kind) where
  abbrev by-tables : ℕ → List Leaf → Shape → List Leaf → NestReply
  by-tables base leaves shape host = nested (record { base = base; stage = record { leaves = leaves; shape = shape; loads = 0 } }) host va kind

  tables-are : (guest : Guest) (host : List Leaf) → nested guest host va kind ≡ by-tables guest.base guest.stage.leaves guest.stage.shape host
  unfolding nested guest_path
  tables-are guest host = refl

  same-reply : (a b : NestState) → HaveSameTables a b → nested b.guest b.host.stage.leaves va kind ≡ nested a.guest a.host.stage.leaves va kind
  same-reply a b same =
      tables-are b.guest b.host.stage.leaves
      ∙ ap (λ (n : ℕ). by-tables n b.guest.stage.leaves b.guest.stage.shape b.host.stage.leaves) same.base
      ∙ ap (λ (xs : List Leaf). by-tables a.guest.base xs b.guest.stage.shape b.host.stage.leaves) same.guest_leaves
      ∙ ap (λ (s : Shape). by-tables a.guest.base a.guest.stage.leaves s b.host.stage.leaves) same.guest_shape
      ∙ ap (λ (xs : List Leaf). by-tables a.guest.base a.guest.stage.leaves a.guest.stage.shape xs) same.host_leaves
      ∙ sym (tables-are a.guest a.host.stage.leaves)

  same-outcome : (a b : NestState) (result : NestReply) → result ≡ nested a.guest a.host.stage.leaves va kind → HaveSameTables a b → nest_outcome (event.Access va kind) b ≡ outcome.Replied result
  unfolding nest_outcome nest_rule
  same-outcome a b result is same = ap (λ (r : NestReply). outcome.Replied r) (same-reply a b same ∙ sym is)

-- the frame is one of a leaf's
frame-from : (g frame : ℕ) (host : List Leaf) (kind : Kind) (o : Option Leaf) → leaf_at_page (host_space g) (host_page g) host ≡ o → frame_of (reply_by o (host_page g) kind) ≡ Some frame → IsFrameOf frame host
frame-from g frame host kind None e is = absurd (cc)
frame-from g frame host kind (Some x) e is = go (allows x.perm kind) is
  where
    go : (b : Bool) → frame_of (if b then replies.Frame (x.frame + (host_page g - x.first)) else replies.Denied) ≡ Some frame → IsFrameOf frame host
    go false is = absurd (cc)
    go true is =
        let f : x.frame + (host_page g - x.first) ≡ frame = cc in
        let t : covers (host_space g) (host_page g) x ≡ true = found-covers (host_space g) (host_page g) host x e in
        let from : x.first ≤ host_page g = grind (arith, nat_tests) in
        let to : host_page g < x.first + pages_of x.order = grind (arith, nat_tests) in
        record { leaf = x; member = found-In (host_space g) (host_page g) host x e; from = omega arith; to = omega arith }

host-placed : (g : ℕ) (host : List Leaf) (kind : Kind) (o : Option ℕ) → stage2 host g kind ≡ o → IsPlaced (host_reply o) host
unfolding stage2 host_leaf
host-placed g host kind None e = tt
host-placed g host kind (Some frame) e = frame-from g frame host kind (leaf_at_page (host_space g) (host_page g) host) refl e

guest-placed : (host : List Leaf) (kind : Kind) (o : Option ℕ) → IsPlaced (guest_reply o host kind) host
guest-placed host kind None = tt
guest-placed host kind (Some g) = host-placed g host kind (stage2 host g kind) refl

loadable-placed : (b : Bool) (r : NestReply) (host : List Leaf) → IsPlaced r host → IsPlaced (reply_if_loadable b r) host
loadable-placed true r host h = h
loadable-placed false r host h = tt

canonical-placed : (b : Bool) (r : NestReply) (host : List Leaf) → IsPlaced r host → IsPlaced (reply_if_canonical b r) host
canonical-placed true r host h = h
canonical-placed false r host h = tt

nested-placed : (guest : Guest) (host : List Leaf) (va : ℕ) (kind : Kind) → IsPlaced (nested guest host va kind) host
unfolding nested
nested-placed guest host va kind =
    canonical-placed (is_canonical mode.Sv39 va) _ host
    (loadable-placed (list_all (is_loadable host) (guest_path guest (page_of mode.Sv39 va))) _ host (guest-placed host kind (frame_of (flat guest.stage.leaves mode.Sv39 0 va kind))))

-- an access leaves the host's leaves
loaded-leaves : (o : Option ℕ) (on : NestState → NestState) → ((t : NestState) → (on t).host.stage.leaves ≡ t.host.stage.leaves) → (s : NestState) → (loaded_where o on s).host.stage.leaves ≡ s.host.stage.leaves
loaded-leaves None on h s = refl
loaded-leaves (Some frame) on h s = h _

along-leaves : (gs : List ℕ) (last : NestState → NestState) → ((t : NestState) → (last t).host.stage.leaves ≡ t.host.stage.leaves) → (s : NestState) → (along gs last s).host.stage.leaves ≡ s.host.stage.leaves
along-leaves [] last h s = h s
along-leaves (g ∷ gs) last h s =
    loaded-leaves (stage2 s.host.stage.leaves g kinds.Load) (along gs last) (λ t. along-leaves gs last h t) (record s { host = translated g s.host }) ∙ translated-leaves g s.host

last-leaves : (o : Option ℕ) (s : NestState) → (with_last o s).host.stage.leaves ≡ s.host.stage.leaves
last-leaves None s = refl
last-leaves (Some g) s = translated-leaves g s.host

walked-leaves : (b : Bool) (va : ℕ) (kind : Kind) (s : NestState) → (walked_if b va kind s).host.stage.leaves ≡ s.host.stage.leaves
walked-leaves false va kind s = refl
walked-leaves true va kind s =
    along-leaves (guest_path s.guest (page_of mode.Sv39 va)) (with_last (frame_of (flat s.guest.stage.leaves mode.Sv39 0 va kind))) (λ t. last-leaves (frame_of (flat s.guest.stage.leaves mode.Sv39 0 va kind)) t) s

accessed-leaves : (va : ℕ) (kind : Kind) (s : NestState) → (nest_accessed va kind s).host.stage.leaves ≡ s.host.stage.leaves
unfolding nest_accessed
accessed-leaves va kind s = walked-leaves (is_canonical mode.Sv39 va) va kind s

pub reply-laws : (va : ℕ) (kind : Kind) (result : NestReply) (old new : NestState) → result ≡ nested old.guest old.host.stage.leaves va kind → new ≡ nest_accessed va kind old → ReplyLaws va kind result old new
reply-laws va kind result old new is after =
    let Q : NestReply → Type 0 = λ r. IsPlaced r old.host.stage.leaves in
    let leaves : new.host.stage.leaves ≡ old.host.stage.leaves = ap (λ (s : NestState). s.host.stage.leaves) after ∙ accessed-leaves va kind old in
    record {
      composes = λ loadable. is ∙ composes-is old.guest old.host.stage.leaves va kind loadable;
      same = λ other same. same-outcome va kind old other result is same;
      placed = subst (λ (xs : List Leaf). IsPlaced result xs) (sym leaves) (subst Q (sym is) (nested-placed old.guest old.host.stage.leaves va kind));
    }

pub event-laws : (e : NestEvent) (va : ℕ) (kind : Kind) (result : NestReply) (old new : NestState) → e ≡ event.Access va kind → ReplyLaws va kind result old new → EventLaws e (outcome.Replied result) old new
event-laws e va kind result old new is laws =
    subst (λ (x : NestEvent). EventLaws x (outcome.Replied result) old new) (sym is) laws
