-- What a command comes to, by its parts.
use Rattle.xl_nested.proofs.Common.{◌%◌, ◌/◌, ◌<◌, ◌^◌, ◌||◌, ◌∙◌, ◌≡◌, after_nest_event, ap, arith, Bool, Change, counts_settled, Err, false, gaddr_rule, gmap_rule, gmapped, Guest, guest_map, gunmap_rule, gunmapped, Host, host_map, host_page, host_space, is_aligned, is_beyond, is_canonical, IsPlace, IsServed, IsSettled, map_rule, meets_any, nat_tests, nest_outcome, nest_rule, nest_served, NestRefusal, NestState, None, not, Ok, Option, Order, outcome_settled, page-block, page_of, pair_rule, Perm, refl, refused_if, Remove, Result, room_rule, Some, Stage, stage_after, subst, sym, true, unmap_rule, va_rule, vmap_rule, vmapped, vunmap_rule, vunmapped, ℕ}
use Rattle.xl_model.specs.declared.address.Mode.TheVariants as mode
use Rattle.xl_model.specs.declared.address.Order.TheVariants as order
use Rattle.xl_nested_model.specs.declared.nest.NestEvent.TheVariants as event
use Rattle.xl_nested_model.specs.declared.nest.NestRefusal.TheVariants as refused

-- the first refusals, whatever comes next
two-some : (a b : Bool) (x y r : NestRefusal) (next : Option NestRefusal) → refused_if a x (refused_if b y None) ≡ Some r → refused_if a x (refused_if b y next) ≡ Some r
two-some true b x y r next e = e
two-some false true x y r next e = e
two-some false false x y r next e = absurd (cc)

two-next : (a b : Bool) (x y : NestRefusal) (next : Option NestRefusal) → refused_if a x (refused_if b y None) ≡ None → refused_if a x (refused_if b y next) ≡ next
two-next true b x y next e = absurd (cc)
two-next false true x y next e = absurd (cc)
two-next false false x y next e = refl

two-none : (a b : Bool) (x y : NestRefusal) → refused_if a x (refused_if b y None) ≡ None → (a ≡ false) × (b ≡ false)
two-none true b x y e = absurd (cc)
two-none false true x y e = absurd (cc)
two-none false false x y e = (refl, refl)

pub served-as : {U A : Type 0} (rule other : Option NestRefusal) (q : Result U NestRefusal) (old after new : A) → other ≡ rule → IsServed rule q old after new → IsServed other q old after new
served-as rule other (Ok u) old after new e (is, same) = (e ∙ is, same)
served-as rule other (Err r) old after new e (is, same) = (e ∙ is, same)

-- the same of a whole of which a part was served
pub served-in : {U A B : Type 0} (f : A → B) (rule other : Option NestRefusal) (q : Result U NestRefusal) (old after new : A) (then : B) → other ≡ rule → f after ≡ then
    → IsServed rule q old after new → IsServed other q (f old) then (f new)
served-in f rule other (Ok u) old after new then e g (is, same) = (e ∙ is, ap f same ∙ g)
served-in f rule other (Err r) old after new then e g (is, same) = (e ∙ is, ap f same)

-- what holds before and after a command holds of what is left
pub served-kept : {U A : Type 0} (P : A → Type 0) (rule : Option NestRefusal) (q : Result U NestRefusal) (old after new : A) → IsServed rule q old after new → P old → P after → P new
served-kept P rule (Ok u) old after new (is, same) before following = subst P (sym same) following
served-kept P rule (Err r) old after new (is, same) before following = subst P (sym same) before

not-so : (b : Bool) → not b ≡ false → b ≡ true
not-so true e = refl
not-so false e = absurd (cc)

or-first : (a b : Bool) → (a || b) ≡ false → a ≡ false
or-first true b e = absurd (cc)
or-first false b e = refl

or-second : (a b : Bool) → (a || b) ≡ false → b ≡ false
or-second true b e = absurd (cc)
or-second false b e = e

-- the places of aligned addresses
gaddr-place : (gaddr : ℕ) (o : Order) → is_beyond gaddr ≡ false → is_aligned o gaddr ≡ true → IsPlace (gaddr / 4096) o (2 ^ 29)
gaddr-place gaddr order.K4 low h = let l : gaddr < 2 ^ 41 = grind (arith, nat_tests) in record { within = omega arith; aligned = (gaddr / 4096, omega arith) }
gaddr-place gaddr order.M2 low h =
    let l : gaddr < 2 ^ 41 = grind (arith, nat_tests) in
    let e : gaddr % 2097152 ≡ 0 = grind (arith, nat_tests) in
    record { within = omega arith; aligned = (gaddr / 2097152, omega arith) }
gaddr-place gaddr order.G1 low h =
    let l : gaddr < 2 ^ 41 = grind (arith, nat_tests) in
    let e : gaddr % 1073741824 ≡ 0 = grind (arith, nat_tests) in
    record { within = omega arith; aligned = (gaddr / 1073741824, omega arith) }

va-place : (va : ℕ) (o : Order) → is_aligned o va ≡ true → IsPlace (page_of mode.Sv39 va) o (2 ^ 27)
va-place va o h = let b = page-block mode.Sv39 o va h in record { within = b.0; aligned = b.1 }

module _ (gaddr : ℕ) (o : Order) where
  pub gaddr-some : (r : NestRefusal) (next : Option NestRefusal) → gaddr_rule gaddr o None ≡ Some r → gaddr_rule gaddr o next ≡ Some r
  gaddr-some r next e = two-some (is_beyond gaddr) (not (is_aligned o gaddr)) refused.BadAddress refused.Misaligned r next e

  pub gaddr-next : (next : Option NestRefusal) → gaddr_rule gaddr o None ≡ None → gaddr_rule gaddr o next ≡ next
  gaddr-next next e = two-next (is_beyond gaddr) (not (is_aligned o gaddr)) refused.BadAddress refused.Misaligned next e

  pub gaddr-in : gaddr_rule gaddr o None ≡ None → IsPlace (gaddr / 4096) o (2 ^ 29)
  gaddr-in e =
      let k = two-none (is_beyond gaddr) (not (is_aligned o gaddr)) refused.BadAddress refused.Misaligned e in
      gaddr-place gaddr o k.0 (not-so (is_aligned o gaddr) k.1)

  pub va-some : (r : NestRefusal) (next : Option NestRefusal) → va_rule gaddr o None ≡ Some r → va_rule gaddr o next ≡ Some r
  va-some r next e = two-some (not (is_canonical mode.Sv39 gaddr)) (not (is_aligned o gaddr)) refused.BadAddress refused.Misaligned r next e

  pub va-next : (next : Option NestRefusal) → va_rule gaddr o None ≡ None → va_rule gaddr o next ≡ next
  va-next next e = two-next (not (is_canonical mode.Sv39 gaddr)) (not (is_aligned o gaddr)) refused.BadAddress refused.Misaligned next e

  pub va-in : va_rule gaddr o None ≡ None → IsPlace (page_of mode.Sv39 gaddr) o (2 ^ 27)
  va-in e =
      let k = two-none (not (is_canonical mode.Sv39 gaddr)) (not (is_aligned o gaddr)) refused.BadAddress refused.Misaligned e in
      va-place gaddr o (not-so (is_aligned o gaddr) k.1)

module _ (va gaddr : ℕ) (o : Order) where
  pub pair-some : (r : NestRefusal) (next : Option NestRefusal) → pair_rule va gaddr o None ≡ Some r → pair_rule va gaddr o next ≡ Some r
  pair-some r next e = two-some (not (is_canonical mode.Sv39 va) || is_beyond gaddr) (not (is_aligned o va) || not (is_aligned o gaddr)) refused.BadAddress refused.Misaligned r next e

  pub pair-next : (next : Option NestRefusal) → pair_rule va gaddr o None ≡ None → pair_rule va gaddr o next ≡ next
  pair-next next e = two-next (not (is_canonical mode.Sv39 va) || is_beyond gaddr) (not (is_aligned o va) || not (is_aligned o gaddr)) refused.BadAddress refused.Misaligned next e

  pub pair-in : pair_rule va gaddr o None ≡ None → IsPlace (page_of mode.Sv39 va) o (2 ^ 27) × IsPlace (gaddr / 4096) o (2 ^ 29)
  pair-in e =
      let k = two-none (not (is_canonical mode.Sv39 va) || is_beyond gaddr) (not (is_aligned o va) || not (is_aligned o gaddr)) refused.BadAddress refused.Misaligned e in
      let low = or-second (not (is_canonical mode.Sv39 va)) (is_beyond gaddr) k.0 in
      let a = not-so (is_aligned o va) (or-first (not (is_aligned o va)) (not (is_aligned o gaddr)) k.1) in
      let b = not-so (is_aligned o gaddr) (or-second (not (is_aligned o va)) (not (is_aligned o gaddr)) k.1) in
      (va-place va o a, gaddr-place gaddr o low b)

-- the whole rules
pub gmap-rule-is : (gaddr : ℕ) (o : Order) (perm : Perm) (host : Host)
    → gmap_rule gaddr o perm host ≡ gaddr_rule gaddr o (map_rule (host_space (gaddr / 4096)) (host_page (gaddr / 4096)) o (host_map (gaddr / 4096) o perm host) host.stage)
unfolding gmap_rule
gmap-rule-is gaddr o perm host = refl

pub gunmap-rule-is : (gaddr : ℕ) (o : Order) (host : Host) → gunmap_rule gaddr o host ≡ gaddr_rule gaddr o (unmap_rule (host_space (gaddr / 4096)) (host_page (gaddr / 4096)) o host.stage)
unfolding gunmap_rule
gunmap-rule-is gaddr o host = refl

pub vmap-rule-is : (va : ℕ) (o : Order) (gaddr : ℕ) (perm : Perm) (guest : Guest)
    → vmap_rule va o gaddr perm guest ≡ pair_rule va gaddr o (map_rule 0 (page_of mode.Sv39 va) o (Some (guest_map (page_of mode.Sv39 va) o (gaddr / 4096) perm)) guest.stage)
unfolding vmap_rule
vmap-rule-is va o gaddr perm guest = refl

pub vunmap-rule-is : (va : ℕ) (o : Order) (guest : Guest) → vunmap_rule va o guest ≡ va_rule va o (unmap_rule 0 (page_of mode.Sv39 va) o guest.stage)
unfolding vunmap_rule
vunmap-rule-is va o guest = refl

-- the guest's commands, by its stage
pub guest-mapped-is : (base page : ℕ) (o : Order) (g : ℕ) (perm : Perm) (stage : Stage) → record { base = base; stage = stage_after (Some (guest_map page o g perm)) stage } ≡ vmapped page o g perm (record { base = base; stage = stage })
unfolding vmapped
guest-mapped-is base page o g perm stage = refl

pub guest-unmapped-is : (base page : ℕ) (o : Order) (stage : Stage) → record { base = base; stage = stage_after (Some (Remove 0 page o)) stage } ≡ vunmapped page o (record { base = base; stage = stage })
unfolding vunmapped
guest-unmapped-is base page o stage = refl

pub map-rule-free : (space first : ℕ) (o : Order) (c : Option Change) (stage : Stage) → meets_any space first o stage.leaves ≡ false → map_rule space first o c stage ≡ room_rule c stage
map-rule-free space first o c stage free = rw free refl

-- an event that was served or refused
module _ {U : Type 0} (s : NestState) where
  pub gmap-settled : (gaddr : ℕ) (o : Order) (perm : Perm) (q : Result U NestRefusal) (new : Host) → IsServed (gmap_rule gaddr o perm s.host) q s.host (gmapped (gaddr / 4096) o perm s.host) new
      → IsSettled (event.GMap gaddr o perm) (outcome_settled q) s (record { guest = s.guest; host = new; counts = counts_settled q s.counts })
  unfolding nest_outcome after_nest_event nest_rule nest_served
  gmap-settled gaddr o perm (Ok u) new (is, same) = record { small = tt; laws = tt; outcome_is = rw is refl; after_is = rw (is, same) refl }
  gmap-settled gaddr o perm (Err r) new (is, same) = record { small = tt; laws = tt; outcome_is = rw is refl; after_is = rw (is, same) refl }

  pub gunmap-settled : (gaddr : ℕ) (o : Order) (q : Result U NestRefusal) (new : Host) → IsServed (gunmap_rule gaddr o s.host) q s.host (gunmapped (gaddr / 4096) o s.host) new
      → IsSettled (event.GUnmap gaddr o) (outcome_settled q) s (record { guest = s.guest; host = new; counts = counts_settled q s.counts })
  unfolding nest_outcome after_nest_event nest_rule nest_served
  gunmap-settled gaddr o (Ok u) new (is, same) = record { small = tt; laws = tt; outcome_is = rw is refl; after_is = rw (is, same) refl }
  gunmap-settled gaddr o (Err r) new (is, same) = record { small = tt; laws = tt; outcome_is = rw is refl; after_is = rw (is, same) refl }

  pub vmap-settled : (va : ℕ) (o : Order) (gaddr : ℕ) (perm : Perm) (q : Result U NestRefusal) (new : Guest)
      → IsServed (vmap_rule va o gaddr perm s.guest) q s.guest (vmapped (page_of mode.Sv39 va) o (gaddr / 4096) perm s.guest) new
      → IsSettled (event.VMap va o gaddr perm) (outcome_settled q) s (record { guest = new; host = s.host; counts = counts_settled q s.counts })
  unfolding nest_outcome after_nest_event nest_rule nest_served
  vmap-settled va o gaddr perm (Ok u) new (is, same) = record { small = tt; laws = tt; outcome_is = rw is refl; after_is = rw (is, same) refl }
  vmap-settled va o gaddr perm (Err r) new (is, same) = record { small = tt; laws = tt; outcome_is = rw is refl; after_is = rw (is, same) refl }

  pub vunmap-settled : (va : ℕ) (o : Order) (q : Result U NestRefusal) (new : Guest) → IsServed (vunmap_rule va o s.guest) q s.guest (vunmapped (page_of mode.Sv39 va) o s.guest) new
      → IsSettled (event.VUnmap va o) (outcome_settled q) s (record { guest = new; host = s.host; counts = counts_settled q s.counts })
  unfolding nest_outcome after_nest_event nest_rule nest_served
  vunmap-settled va o (Ok u) new (is, same) = record { small = tt; laws = tt; outcome_is = rw is refl; after_is = rw (is, same) refl }
  vunmap-settled va o (Err r) new (is, same) = record { small = tt; laws = tt; outcome_is = rw is refl; after_is = rw (is, same) refl }
