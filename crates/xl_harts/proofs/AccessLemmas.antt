-- An access of harts, against the definitions.
use Rattle.xl_harts.proofs.Common.{◌%◌, ◌++◌, ◌+◌, ◌-◌, ◌<◌, ◌^◌, ◌∙◌, ◌≡◌, ◌≤◌, accessed-kept, accessed_by, after_hart_event, after_own, allows, ap, arith, array_hit, array_touched, array_walked, Bool, change_of, count_hit, count_miss, covers, current_hart, false, find-In, find-passes, first_found, Hart, hart_accessed, hart_after, hart_at, hart_change, hart_filled, hart_hit, hart_refusal, hart_replied, hart_reply, hart_rule, hart_served, HartSpec, HartsState, HasSmallReplies, held_leaves, IfSome, is_canonical, IsAccess, IsFit, IsHarts, IsHartSpec, IsKept, IsLeafOf, IsMapping, IsPageWord, IsPoolOf, IsReached, IsSeen, IsServed, IsWalk, IsWalked, Kind, Leaf, leaf_at_page, List, nat_tests, None, older-mapping, Option, page_of, pages_of, plus, refl, Reply, reply_by, reply_where, rule, set, shared_row, Some, subst, sym, table_looked, table_walked, TableState, TlbArray, true, Walk, walk_answer, ℕ}
use Rattle.std.specs.Prelude.{if◌then◌else◌}
use Rattle.xl_hart_model.specs.declared.hart.HartCounts.{HartCounts}
use Rattle.xl_model.specs.PageWalks.{IsSameWalk}
use Rattle.xl_model.specs.Tally.{IsSmall}
use Rattle.xl_model.specs.Walks.{walked}
use Rattle.xl_model_lemmas.proofs.HitLemmas.{hit-is}
use Rattle.xl_harts.proofs.RefusalLemmas.{leaf-fit}
use Rattle.xl_model.specs.declared.address.Mode.TheVariants as mode
use Rattle.xl_model.specs.declared.event.Event.TheVariants as event
use Rattle.xl_model.specs.declared.leaf.Reply.TheVariants as reply

-- a leaf of some mapping that covers the page
pub reached : (spec : HartSpec) (space page : ℕ) (x : Leaf) → IsHartSpec spec → IsLeafOf (shared_row spec) x → covers space page x ≡ true → IsReached page x
reached spec space page x is valid t =
    let f : x.first ≤ page = grind (arith, nat_tests) in
    let g : page < x.first + pages_of x.order = grind (arith, nat_tests) in
    let a = valid.frames_in in
    let b = is.few_frames in
    record { from = f; small = omega arith }

-- what a hart's array finds
pub seen-valid : (spec : HartSpec) (table : TableState) (h : Hart) (page : ℕ) (x : Leaf) → IsServed spec table h → array_hit h.array h.space page ≡ Some x → IsReached page x
seen-valid spec table h page x served e =
    let hit = hit-is h.array h.space page x e in
    reached spec h.space page x served.spec_is (served.valid x hit.held) hit.covering

-- what a walk finds
pub found-valid : (spec : HartSpec) (leaves : List Leaf) (space page : ℕ) (x : Leaf) → IsHartSpec spec → IsMapping (shared_row spec) leaves → leaf_at_page space page leaves ≡ Some x
    → IsReached page x × IsFit x
unfolding leaf_at_page
found-valid spec leaves space page x is m e =
    let valid = m.valid x (find-In (covers space page) x leaves e) in
    (reached spec space page x is valid (find-passes (covers space page) x leaves e), leaf-fit spec x is valid)

pub walk-leaf : (w : Walk) (space page : ℕ) (t new : TableState) → IsWalk space page t w new → w.leaf ≡ leaf_at_page space page t.leaves
unfolding walk_answer
walk-leaf w space page t new is = ap (λ (v : Walk). v.leaf) is.answer

pub walk-after : (w : Walk) (space page : ℕ) (t new : TableState) → IsWalk space page t w new → new.loads ≡ plus t.loads (walked t.shape t.caches t.leaves space page).reads
unfolding table_walked
walk-after w space page t new is = ap (λ (v : TableState). v.loads) is.after

-- the loads of a walk are what the table's loads rose by
pub loads-rose : (c before after reads loads : ℕ) → before < 2 ^ 64 → after ≡ plus before reads → loads ≡ (after + (2 ^ 64 - before)) % 2 ^ 64 → plus c loads ≡ plus c reads
loads-rose c before after reads loads small a l = omega arith

pub miss-counted : (loads reads : ℕ) (c : HartCounts) → plus c.reads loads ≡ plus c.reads reads → count_miss loads c ≡ count_miss reads c
unfolding count_miss
miss-counted loads reads c e = rw e refl

-- the reply, by what was found
pub reply-refused : (h : Hart) (leaves : List Leaf) (va : ℕ) (kind : Kind) → is_canonical mode.Sv39 va ≡ false → reply.NotCanonical ≡ hart_reply h leaves va kind
unfolding hart_reply
reply-refused h leaves va kind e = rw e refl

pub reply-found : (h : Hart) (leaves : List Leaf) (va : ℕ) (kind : Kind) (hit : Option Leaf) → is_canonical mode.Sv39 va ≡ true → array_hit h.array h.space (page_of mode.Sv39 va) ≡ hit
    → reply_by (first_found hit (leaf_at_page h.space (page_of mode.Sv39 va) leaves)) (page_of mode.Sv39 va) kind ≡ hart_reply h leaves va kind
unfolding hart_reply
reply-found h leaves va kind hit e f = rw (e, f) refl

-- an access, by its three ways
pub access-refused : (va : ℕ) (kind : Kind) (t : TableState) (old new : Hart) → is_canonical mode.Sv39 va ≡ false → new ≡ hart_replied reply.NotCanonical va old
    → IsAccess va kind reply.NotCanonical t t old new
access-refused va kind t old new e n = record { reply_is = reply-refused old t.leaves va kind e; hart_is = rw e n; table_is = rw e refl }

pub access-seen : (va page : ℕ) (kind : Kind) (r : Reply) (x : Leaf) (t : TableState) (old new : Hart) → page ≡ page_of mode.Sv39 va → is_canonical mode.Sv39 va ≡ true
    → array_hit old.array old.space page ≡ Some x → r ≡ reply_by (Some x) page kind → new ≡ hart_replied r va (hart_hit x page old) → IsAccess va kind r t t old new
access-seen va page kind r x t old new p e f g n =
    let k : array_hit old.array old.space (page_of mode.Sv39 va) ≡ Some x = rw p at f in
    record {
      reply_is = rw p at g ∙ reply-found old t.leaves va kind (Some x) e k;
      hart_is = rw (e, k) (rw p at n);
      table_is = rw (e, k) refl;
    }

pub access-walked : (va page : ℕ) (kind : Kind) (r : Reply) (t after : TableState) (old new : Hart) → page ≡ page_of mode.Sv39 va → is_canonical mode.Sv39 va ≡ true
    → array_hit old.array old.space page ≡ None → IsWalked va page kind r t after old new → IsAccess va kind r t after old new
access-walked va page kind r t after old new p e f w =
    let k : array_hit old.array old.space (page_of mode.Sv39 va) ≡ None = rw p at f in
    record {
      reply_is = rw p at w.reply_is ∙ reply-found old t.leaves va kind None e k;
      hart_is = rw (e, k) (rw p at w.hart_is);
      table_is = rw (e, k) (rw p at w.table_is);
    }

-- the state after an access
accessed-is : (canonical : Bool) (hit : Option Leaf) (page : ℕ) (r : Reply) (va : ℕ) (s : HartsState)
    → accessed_by canonical hit page r va s ≡ record s { table = table_looked canonical hit (current_hart s).space page s.table; harts = set s.harts s.current (hart_after canonical hit page r va s.table (current_hart s)) }
accessed-is false hit page r va s = refl
accessed-is true (Some x) page r va s = refl
accessed-is true None page r va s = refl

pub access-after : (s : HartsState) (va : ℕ) (kind : Kind) (r : Reply) (t : TableState) (new : Hart) → IsAccess va kind r s.table t (current_hart s) new
    → record s { table = t; harts = set s.harts s.current new } ≡ hart_accessed va kind s
unfolding hart_accessed
access-after s va kind r t new is =
    ap (λ (u : TableState). let v : HartsState = record s { table = u; harts = set s.harts s.current new } in v) is.table_is
    ∙ ap (λ (h : Hart). let v : HartsState = record s { table = table_looked (is_canonical mode.Sv39 va) (array_hit (current_hart s).array (current_hart s).space (page_of mode.Sv39 va)) (current_hart s).space (page_of mode.Sv39 va) s.table; harts = set s.harts s.current h } in v) is.hart_is
    ∙ ap (λ (q : Reply). let v : HartsState = record s { table = table_looked (is_canonical mode.Sv39 va) (array_hit (current_hart s).array (current_hart s).space (page_of mode.Sv39 va)) (current_hart s).space (page_of mode.Sv39 va) s.table; harts = set s.harts s.current (hart_after (is_canonical mode.Sv39 va) (array_hit (current_hart s).array (current_hart s).space (page_of mode.Sv39 va)) (page_of mode.Sv39 va) q va s.table (current_hart s)) } in v) is.reply_is
    ∙ sym (accessed-is (is_canonical mode.Sv39 va) (array_hit (current_hart s).array (current_hart s).space (page_of mode.Sv39 va)) (page_of mode.Sv39 va) (hart_reply (current_hart s) s.table.leaves va kind) va s)

-- nothing refuses an access
pub access-event : (s : HartsState) (va : ℕ) (kind : Kind) → after_own (event.Access va kind) s ≡ hart_accessed va kind s
unfolding after_hart_event hart_refusal hart_rule rule hart_change change_of hart_served
access-event s va kind = refl

-- a hart that may be served
pub hart-served : (s : HartsState) → IsKept s → (n : ℕ) → IsServed s.spec s.table (hart_at n s)
hart-served s kept n = record {
  spec_is = kept.spec_is;
  table_is = kept.table_is;
  mapping = older-mapping (shared_row s.spec) 0 s.requests s.table.leaves kept.history;
  space_in = (kept.each n).space_in;
  valid = λ x i. let old = (kept.each n).fresh x i in (older-mapping (shared_row s.spec) old.0 s.requests s.table.leaves kept.history).valid x old.2;
}

-- the leaves whose frames are kept stay at an access
pub access-leaves : (canonical : Bool) (hit : Option Leaf) (space page : ℕ) (t : TableState) → (table_looked canonical hit space page t).leaves ≡ t.leaves
unfolding table_walked
access-leaves false hit space page t = refl
access-leaves true (Some x) space page t = refl
access-leaves true None space page t = refl

-- a look that hits
pub hit-is-seen : (page word : ℕ) (leaf : Leaf) (space : ℕ) (array next : TlbArray) (waiting : ℕ) (counts after : HartCounts) → array_hit array space page ≡ Some leaf → IsPageWord page word leaf
    → next ≡ array_touched space page leaf array → after ≡ count_hit counts
    → IsSeen page word (record { space = space; array = array; waiting = waiting; counts = counts }) (record { space = space; array = next; waiting = waiting; counts = after })
hit-is-seen page word leaf space array next waiting counts after found says touched counted = record { leaf = leaf; found = found; says = says; after = rw (touched, counted) refl }

pub found-fit : (spec : HartSpec) (leaves : List Leaf) (space page : ℕ) (found : Option Leaf) → IsHartSpec spec → IsMapping (shared_row spec) leaves → found ≡ leaf_at_page space page leaves → IfSome found IsFit
found-fit spec leaves space page None is m e = tt
found-fit spec leaves space page (Some x) is m e = (found-valid spec leaves space page x is m (sym e)).1

pub found-reached : (spec : HartSpec) (leaves : List Leaf) (space page : ℕ) (found : Option Leaf) → IsHartSpec spec → IsMapping (shared_row spec) leaves → found ≡ leaf_at_page space page leaves → IfSome found (IsReached page)
found-reached spec leaves space page None is m e = tt
found-reached spec leaves space page (Some x) is m e = (found-valid spec leaves space page x is m (sym e)).0

-- an access that was replied to by a walk, by what the walk found
pub walked-by : (va page : ℕ) (kind : Kind) (r : Reply) (w : Walk) (t after : TableState) (old filled new : Hart) (loads : ℕ) → IsWalk old.space page t w after → t.loads < 2 ^ 64 → loads ≡ (after.loads + (2 ^ 64 - t.loads)) % 2 ^ 64
    → filled ≡ hart_filled w.leaf loads old → r ≡ reply_by w.leaf page kind → new ≡ hart_replied r va filled → IsWalked va page kind r t after old new
walked-by va page kind r w t after old filled new loads walks small is fill reply replied =
    let leaf = walk-leaf w old.space page t after walks in
    let rose = loads-rose old.counts.reads t.loads after.loads (walked t.shape t.caches t.leaves old.space page).reads loads small (walk-after w old.space page t after walks) is in
    let counts = miss-counted loads (walked t.shape t.caches t.leaves old.space page).reads old.counts rose in
    record {
      reply_is = reply ∙ ap (λ (o : Option Leaf). reply_by o page kind) leaf;
      hart_is = replied ∙ ap (λ (h : Hart). hart_replied r va h) (fill ∙ ap (λ (o : Option Leaf). hart_filled o loads old) leaf ∙ ap (λ (c : HartCounts). let h : Hart = record old { array = array_walked (leaf_at_page old.space page t.leaves) old.array; counts = c } in h) counts);
      table_is = walks.after;
    }

-- harts after an access
pub access-harts : (s : HartsState) (va : ℕ) (kind : Kind) (r : Reply) (t : TableState) (new : Hart) → IsAccess va kind r s.table t (current_hart s) new → (capacity : ℕ) (pool : List Bool) → IsHarts s capacity pool
    → IsHarts (record s { table = t; harts = set s.harts s.current new }) capacity pool
access-harts s va kind r t new is capacity pool kept =
    let leaves : t.leaves ≡ s.table.leaves = ap (λ (u : TableState). u.leaves) is.table_is ∙ access-leaves (is_canonical mode.Sv39 va) (array_hit (current_hart s).array (current_hart s).space (page_of mode.Sv39 va)) (current_hart s).space (page_of mode.Sv39 va) s.table in
    record {
      kept = subst (λ (v : HartsState). IsKept v) (sym (access-after s va kind r t new is)) (accessed-kept s kept.kept va kind);
      pool_is = subst (λ (xs : List Leaf). IsPoolOf s.spec.frames (xs ++ held_leaves s.requests) pool) (sym leaves) kept.pool_is;
      room = kept.room;
    }

-- replies are small
by-small : (found : Option Leaf) (page : ℕ) (kind : Kind) → IfSome found (IsReached page) → IsSmall (reply_by found page kind)
by-small None page kind h = tt
by-small (Some x) page kind h =
    elim (allows x.perm kind) as (λ b. IsSmall (if b then reply.Frame (x.frame + (page - x.first)) else reply.Denied)) [ true ↦ h.small | false ↦ tt ]

first-reached : (hit found : Option Leaf) (page : ℕ) → ((x : Leaf) → hit ≡ Some x → IsReached page x) → ((x : Leaf) → found ≡ Some x → IsReached page x)
    → IfSome (first_found hit found) (IsReached page)
first-reached (Some x) found page a b = a x refl
first-reached None (Some x) page a b = b x refl
first-reached None None page a b = tt

where-small : (canonical : Bool) (r : Reply) → IsSmall r → IsSmall (reply_where canonical r)
where-small true r h = h
where-small false r h = tt

reply-small : (spec : HartSpec) (table : TableState) (h : Hart) → IsServed spec table h → (va : ℕ) (kind : Kind) → IsSmall (hart_reply h table.leaves va kind)
unfolding hart_reply
reply-small spec table h served va kind =
    let page = page_of mode.Sv39 va in
    let found = leaf_at_page h.space page table.leaves in
    where-small (is_canonical mode.Sv39 va) (reply_by (first_found (array_hit h.array h.space page) found) page kind)
    (by-small (first_found (array_hit h.array h.space page) found) page kind
    (first-reached (array_hit h.array h.space page) found page (λ x e. seen-valid spec table h page x served e)
    (λ x e. (found-valid spec table.leaves h.space page x served.spec_is served.mapping e).0)))

pub replies-small : (s : HartsState) → IsKept s → HasSmallReplies s
replies-small s kept n va kind = reply-small s.spec s.table (hart_at n s) (hart-served s kept n) va kind

-- a walk that was tried in vain leaves the table as it is for the page
pub same-served : (spec : HartSpec) (t new : TableState) (h : Hart) (space page : ℕ) → IsServed spec t h → IsSameWalk space page t new → IsServed spec new h
same-served spec t new h space page served same = record {
  spec_is = served.spec_is;
  table_is = rw same.shape served.table_is;
  mapping = rw same.leaves served.mapping;
  space_in = served.space_in;
  valid = served.valid;
}

pub walked-same : (va page : ℕ) (kind : Kind) (r : Reply) (t same after : TableState) (old new : Hart) → IsSameWalk old.space page t same → IsWalked va page kind r same after old new
    → IsWalked va page kind r t after old new
unfolding table_walked
walked-same va page kind r t same after old new s walked = record {
  reply_is = rw s.leaves at walked.reply_is;
  hart_is = rw (s.walked_is, s.leaves) at walked.hart_is;
  table_is = walked.table_is ∙ rw (s.walked_is, s.leaves, s.shape, s.loads) refl;
}
