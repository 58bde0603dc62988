-- Accesses of the current hart, one after another.
use Rattle.xl_harts.proofs.Common.{◌∙◌, ◌∷◌, ◌≡◌, [], Access, accessed-kept, accesses_served, after_own, ap, AreServed, array_hit, Bool, current_hart, get_or-set_same, Hart, hart_after, hart_reply, HartsState, is_canonical, IsAccess, IsCurrent, IsHarts, IsKept, IsServed, last_reply, List, opening_hart, page_of, refl, Reply, set, set-get_or, set-set, subst, sym, table_looked, TableState, ℕ}
use Rattle.xl_harts.proofs.AccessLemmas.{access-after, access-event, access-harts, hart-served}
use Rattle.xl_model.specs.declared.address.Mode.TheVariants as mode
use Rattle.xl_model.specs.declared.event.Event.TheVariants as event
use Rattle.xl_model.specs.declared.leaf.Reply.TheVariants as reply

-- some accesses are served: those that are left lead from a state to where all of them lead from another
pub record IsOnTheWay (all left : List Access) (s : HartsState) (r : Reply) (table : TableState) (h : Hart) : Type 0 where
  pub at : HartsState
  pub current : IsCurrent at table h
  pub after_is : accesses_served left at ≡ accesses_served all s
  pub reply_is : last_reply r left at ≡ last_reply reply.Unmapped all s

-- the current hart may be served
pub served-now : (s : HartsState) (table : TableState) (h : Hart) → IsCurrent s table h → IsServed s.spec table h
served-now s table h current =
    subst (λ (t : TableState). IsServed s.spec t h) (sym current.table_is) (subst (λ (g : Hart). IsServed s.spec s.table g) (sym current.hart_is) (hart-served s current.kept s.current))

-- an access of the current hart
abbrev placed : HartsState → TableState → Hart → HartsState
placed s t h = record s { table = t; harts = set s.harts s.current h }

one-placed : (s : HartsState) (a : Access) (r : Reply) (t : TableState) (h : Hart) → IsAccess a.va a.kind r s.table t (current_hart s) h → placed s t h ≡ after_own (event.Access a.va a.kind) s
one-placed s a r t h is = access-after s a.va a.kind r t h is ∙ sym (access-event s a.va a.kind)

one-current : (s : HartsState) (a : Access) (r : Reply) (t : TableState) (h : Hart) → IsKept s → IsAccess a.va a.kind r s.table t (current_hart s) h → IsCurrent (after_own (event.Access a.va a.kind) s) t h
one-current s a r t h kept is =
    let e = one-placed s a r t h is in
    record {
      kept = subst (λ (v : HartsState). IsKept v) (sym (access-event s a.va a.kind)) (accessed-kept s kept a.va a.kind);
      table_is = ap (λ (v : HartsState). v.table) e;
      hart_is = sym (get_or-set_same s.harts s.current h (opening_hart s.spec) kept.current_in) ∙ ap (λ (v : HartsState). current_hart v) e;
    }

pub way-goes-on : (all left : List Access) (a : Access) (s : HartsState) (r q : Reply) (t u : TableState) (h g : Hart) → IsOnTheWay all (a ∷ left) s r t h → IsAccess a.va a.kind q t u h g → IsOnTheWay all left s q u g
way-goes-on all left a s r q t u h g way is =
    let v = way.at in
    let Q : Hart → Type 0 = λ x. IsAccess a.va a.kind q v.table u x g in
    let here : IsAccess a.va a.kind q v.table u (current_hart v) g = subst Q way.current.hart_is (subst (λ (x : TableState). IsAccess a.va a.kind q x u h g) way.current.table_is is) in
    record {
      at = after_own (event.Access a.va a.kind) v;
      current = one-current v a q u g way.current.kept here;
      after_is = way.after_is;
      reply_is = ap (λ (p : Reply). last_reply p left (after_own (event.Access a.va a.kind) v)) here.reply_is ∙ way.reply_is;
    }

-- what an access leaves, by the definitions
the-access : (s : HartsState) (va : ℕ) (kind : _) → IsAccess va kind (hart_reply (current_hart s) s.table.leaves va kind) s.table
    (table_looked (is_canonical mode.Sv39 va) (array_hit (current_hart s).array (current_hart s).space (page_of mode.Sv39 va)) (current_hart s).space (page_of mode.Sv39 va) s.table) (current_hart s)
    (hart_after (is_canonical mode.Sv39 va) (array_hit (current_hart s).array (current_hart s).space (page_of mode.Sv39 va)) (page_of mode.Sv39 va) (hart_reply (current_hart s) s.table.leaves va kind) va s.table (current_hart s))
the-access s va kind = record { reply_is = refl; hart_is = refl; table_is = refl }

-- accesses change the table and the current hart alone
all-placed : (all : List Access) (s : HartsState) → accesses_served all s ≡ placed s (accesses_served all s).table (current_hart (accesses_served all s))
all-placed [] s = ap (λ (hs : List Hart). let v : HartsState = record s { harts = hs } in v) (sym (set-get_or s.harts s.current (opening_hart s.spec)))
all-placed (a ∷ all) s =
    let next = after_own (event.Access a.va a.kind) s in
    let end = accesses_served all next in
    let is = the-access s a.va a.kind in
    all-placed all next
    ∙ ap (λ (v : HartsState). placed v end.table (current_hart end)) (sym (one-placed s a _ _ _ is))
    ∙ ap (λ (hs : List Hart). let v : HartsState = record s { table = end.table; harts = hs } in v) (set-set s.harts s.current _ (current_hart end))

pub served-placed : (all : List Access) (s : HartsState) (r : Reply) (t : TableState) (h : Hart) → AreServed all s r t h → record s { table = t; harts = set s.harts s.current h } ≡ accesses_served all s
served-placed all s r t h served =
    ap (λ (u : TableState). placed s u h) served.current.table_is
    ∙ ap (λ (g : Hart). placed s (accesses_served all s).table g) served.current.hart_is
    ∙ sym (all-placed all s)

-- harts after accesses
all-harts : (all : List Access) (s : HartsState) (capacity : ℕ) (pool : List Bool) → IsHarts s capacity pool → IsHarts (accesses_served all s) capacity pool
all-harts [] s capacity pool kept = kept
all-harts (a ∷ all) s capacity pool kept =
    let P : HartsState → Type 0 = λ v. IsHarts v capacity pool in
    let is = the-access s a.va a.kind in
    all-harts all (after_own (event.Access a.va a.kind) s) capacity pool (subst P (one-placed s a _ _ _ is) (access-harts s a.va a.kind _ _ _ is capacity pool kept))

pub served-harts : (all : List Access) (s : HartsState) (r : Reply) (t : TableState) (h : Hart) (capacity : ℕ) (pool : List Bool) → AreServed all s r t h → IsHarts s capacity pool → IsHarts (record s { table = t; harts = set s.harts s.current h }) capacity pool
served-harts all s r t h capacity pool served kept =
    subst (λ (v : HartsState). IsHarts v capacity pool) (sym (served-placed all s r t h served)) (all-harts all s capacity pool kept)
