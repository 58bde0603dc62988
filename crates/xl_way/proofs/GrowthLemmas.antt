-- Slots of keys as a way grows: which key moves when a slot is migrated, and that its new slot is empty.
use Rattle.xl_way.proofs.Common.{◌%◌, ◌&&◌, ◌*◌, ◌+◌, ◌-◌, ◌/◌, ◌<◌, ◌==◌, ◌^◌, ◌∙◌, ◌≡◌, ◌≤◌, ◌⊎◌, ap, AreRegs, arith, begun_regs, Bool, cond, eq-eqb, false, inl, inr, mod-pow-add, nat_lt, nat_tests, pow_mono, pow_pos, reach, refl, regs_after, slot_at, slots_left, slots_of, suc, sym, true, WayRegs, zero, ℕ}

-- the slot by the number that a hash's low bits are, and by that which one bit more gives
abbrev pub slot_by : Bool → ℕ → ℕ → ℕ → ℕ
slot_by growing p low wide = cond (growing && nat_lt low p) wide low

low-below : (h s : ℕ) → h % 2 ^ s < 2 ^ s
low-below h s = omega (arith, pow_pos s)

-- one bit more leaves the number, or adds the slots that there are
pub one-more-bit : (h s : ℕ) → (h % 2 ^ (s + 1) ≡ h % 2 ^ s) ⊎ (h % 2 ^ (s + 1) ≡ h % 2 ^ s + 2 ^ s)
one-more-bit h s =
    let e : h % 2 ^ (1 + s) ≡ (h / 2 ^ s % 2 ^ 1) * 2 ^ s + h % 2 ^ s = mod-pow-add h 1 s in
    let c : 1 + s ≡ s + 1 = omega arith in
    let f : h % 2 ^ (s + 1) ≡ (h / 2 ^ s % 2) * 2 ^ s + h % 2 ^ s = ap (λ (k : ℕ). h % 2 ^ k) (sym c) ∙ e in
    go (h / 2 ^ s % 2) (2 ^ s) f (omega arith)
  where
    go : (b m : ℕ) → h % 2 ^ (s + 1) ≡ b * m + h % 2 ^ s → b < 2 → (h % 2 ^ (s + 1) ≡ h % 2 ^ s) ⊎ (h % 2 ^ (s + 1) ≡ h % 2 ^ s + m)
    go zero m e less = inl (omega arith)
    go (suc zero) m e less = inr (omega arith)
    go (suc (suc b)) m e less = absurd (omega arith)

-- once a slot more is migrated
pub slot-after : (r : WayRegs) (h : ℕ) → r.growing ≡ true → r.p < 2 ^ r.s → slot_at (regs_after 1 r) h ≡ slot_by true (r.p + 1) (h % 2 ^ r.s) (h % 2 ^ (r.s + 1))
slot-after r h growing below = go (1 == slots_left r) refl
  where
    last : (low wide p m : ℕ) → low < m → 1 ≡ m - p → p < m → wide ≡ slot_by true (p + 1) low wide
    last low wide p m l e b = let t : nat_lt low (p + 1) ≡ true = grind (arith, nat_tests) in rw t refl

    go : (b : Bool) → (1 == slots_left r) ≡ b → slot_at (regs_after 1 r) h ≡ slot_by true (r.p + 1) (h % 2 ^ r.s) (h % 2 ^ (r.s + 1))
    go true t =
        let e : 1 ≡ slots_left r = grind (arith, nat_tests) in
        rw t (last (h % 2 ^ r.s) (h % 2 ^ (r.s + 1)) r.p (2 ^ r.s) (low-below h r.s) e below)
    go false t = rw (t, growing) refl

pub slot-now : (r : WayRegs) (h : ℕ) → r.growing ≡ true → slot_at r h ≡ slot_by true r.p (h % 2 ^ r.s) (h % 2 ^ (r.s + 1))
slot-now r h growing = rw growing refl

-- a key of another slot than the migrated one keeps its own
by-stays : (low wide p j : ℕ) → slot_by true p low wide ≡ j → (j ≡ p → ⊥) → slot_by true (p + 1) low wide ≡ j
by-stays low wide p j e o =
    elim (nat_lt low p) as (λ b. nat_lt low p ≡ b → cond b wide low ≡ j → cond (nat_lt low (p + 1)) wide low ≡ j) [
      | true ↦ λ t k. let u : nat_lt low (p + 1) ≡ true = grind (arith, nat_tests) in rw u k
      | false ↦ λ t k. let u : nat_lt low (p + 1) ≡ false = grind (arith, nat_tests) in rw u k
    ] refl e

pub slot-stays : (r : WayRegs) (h j : ℕ) → r.growing ≡ true → r.p < 2 ^ r.s → slot_at r h ≡ j → (j ≡ r.p → ⊥) → slot_at (regs_after 1 r) h ≡ j
slot-stays r h j growing below e o =
    slot-after r h growing below ∙ by-stays (h % 2 ^ r.s) (h % 2 ^ (r.s + 1)) r.p j (sym (slot-now r h growing) ∙ e) o

-- the migrated slot's key has the low bits that name the slot
by-low : (low wide p m : ℕ) → low < m → p < m → (wide ≡ low) ⊎ (wide ≡ low + m) → slot_by true p low wide ≡ p → low ≡ p
by-low low wide p m l b w e =
    elim (nat_lt low p) as (λ t. nat_lt low p ≡ t → cond t wide low ≡ p → low ≡ p) [
      | true ↦ λ t k. let less : low < p = grind (arith, nat_tests) in elim w [ inl q ↦ omega arith | inr q ↦ omega arith ]
      | false ↦ λ t k. k
    ] refl e

-- no key has the slot to which it moves, unless that is the slot where it is
by-empty : (low wide other far p m at : ℕ) → low < m → p < m → (wide ≡ low) ⊎ (wide ≡ low + m) → (far ≡ other) ⊎ (far ≡ other + m) → other < m
    → slot_by true p low wide ≡ p → slot_by true (p + 1) low wide ≡ at → slot_by true p other far ≡ at → at ≡ p
by-empty low wide other far p m at l b w f o here goes is_placed =
    let e : low ≡ p = by-low low wide p m l b w here in
    let t : nat_lt low (p + 1) ≡ true = grind (arith, nat_tests) in
    let g : wide ≡ at = rw t at goes in
    elim (nat_lt other p) as (λ u. nat_lt other p ≡ u → cond u far other ≡ at → at ≡ p) [
      | true ↦ λ u k. let less : other < p = grind (arith, nat_tests) in
          elim w [
            | inl q ↦ omega arith
            | inr q ↦ elim f [ inl z ↦ absurd (omega arith) | inr z ↦ absurd (omega arith) ]
          ]
      | false ↦ λ u k. elim w [ inl q ↦ omega arith | inr q ↦ absurd (omega arith) ]
    ] refl is_placed

pub slot-empty : (r : WayRegs) (h k at : ℕ) → r.growing ≡ true → r.p < 2 ^ r.s → slot_at r h ≡ r.p → slot_at (regs_after 1 r) h ≡ at → slot_at r k ≡ at → at ≡ r.p
slot-empty r h k at growing below here goes is_placed =
    by-empty (h % 2 ^ r.s) (h % 2 ^ (r.s + 1)) (k % 2 ^ r.s) (k % 2 ^ (r.s + 1)) r.p (2 ^ r.s) at
    (low-below h r.s) below (one-more-bit h r.s) (one-more-bit k r.s) (low-below k r.s)
    (sym (slot-now r h growing) ∙ here) (sym (slot-after r h growing below) ∙ goes) (sym (slot-now r k growing) ∙ is_placed)

-- a migrated slot's key stays within the slots that the way grows to
pub slot-within : (r : WayRegs) (h : ℕ) → r.growing ≡ true → r.p < 2 ^ r.s → slot_at (regs_after 1 r) h < 2 ^ (r.s + 1)
slot-within r h growing below =
    let a : 2 ^ r.s ≤ 2 ^ (r.s + 1) = pow_mono (omega arith) in
    let both : slot_by true (r.p + 1) (h % 2 ^ r.s) (h % 2 ^ (r.s + 1)) < 2 ^ (r.s + 1) =
    elim (nat_lt (h % 2 ^ r.s) (r.p + 1)) as (λ b. cond b (h % 2 ^ (r.s + 1)) (h % 2 ^ r.s) < 2 ^ (r.s + 1)) [
      | true ↦ low-below h (r.s + 1)
      | false ↦ omega (arith, low-below h r.s)
    ] in
    rw (slot-after r h growing below) both

pub slot-begun : (r : WayRegs) (h : ℕ) → r.growing ≡ false → slot_at (begun_regs r) h ≡ slot_at r h
slot-begun r h still = rw still (let t : nat_lt (h % 2 ^ r.s) 0 ≡ false = grind (arith, nat_tests) in rw t refl)

pub slot-reach : (r : WayRegs) (h : ℕ) → slot_at r h < reach r
slot-reach r h = go r.growing refl
  where
    a : 2 ^ r.s ≤ 2 ^ (r.s + 1)
    a = pow_mono (omega arith)

    go : (b : Bool) → r.growing ≡ b → slot_by b r.p (h % 2 ^ r.s) (h % 2 ^ (r.s + 1)) < cond b (2 ^ (r.s + 1)) (2 ^ r.s)
    go true t = elim (nat_lt (h % 2 ^ r.s) r.p) as (λ b. cond b (h % 2 ^ (r.s + 1)) (h % 2 ^ r.s) < 2 ^ (r.s + 1)) [
      | true ↦ low-below h (r.s + 1)
      | false ↦ omega (arith, a, low-below h r.s)
    ]
    go false t = low-below h r.s

-- the registers
pub after-regs : (cap : ℕ) (r : WayRegs) → AreRegs cap r → r.growing ≡ true → AreRegs cap (regs_after 1 r)
after-regs cap r a growing =
    elim (1 == slots_left r) as (λ b. (1 == slots_left r) ≡ b → AreRegs cap (cond b (record { s = r.s + 1; p = 0; growing = false }) (record r { p = r.p + 1 }))) [
      | true ↦ λ t. record {
        few = a.few;
        below = pow_pos (r.s + 1);
        still = λ k. refl;
        within = omega (arith, a.room growing);
        room = λ k. absurd (cc);
      }
      | false ↦ λ t. record {
        few = a.few;
        below = more r.p (2 ^ r.s) a.below t;
        still = λ k. absurd (cc);
        within = a.within;
        room = λ k. a.room growing;
      }
    ] refl
  where
    more : (p m : ℕ) → p < m → (1 == m - p) ≡ false → p + 1 < m
    more p m l t = grind (arith, nat_tests)

pub begun-are : (cap : ℕ) (r : WayRegs) → AreRegs cap r → r.s < cap → AreRegs cap (begun_regs r)
begun-are cap r a room = record {
  few = a.few;
  below = pow_pos r.s;
  still = λ k. refl;
  within = a.within;
  room = λ k. room;
}

-- the slots that a key can have are there
pub reach-there : (cap : ℕ) (r : WayRegs) → AreRegs cap r → reach r ≤ slots_of cap
reach-there cap r a =
    elim (cap == 0) as (λ b. (cap == 0) ≡ b → reach r ≤ cond b 2 (2 ^ cap)) [
      | true ↦ λ t. let z : cap ≡ 0 = grind (arith, nat_tests) in let w = a.within in let none : r.s ≤ 0 = omega arith in let k : 2 ^ r.s ≤ 2 ^ 0 = pow_mono none in least r.growing refl k z
      | false ↦ λ t. most r.growing refl
    ] refl
  where
    least : (g : Bool) → r.growing ≡ g → 2 ^ r.s ≤ 2 ^ 0 → cap ≡ 0 → cond g (2 ^ (r.s + 1)) (2 ^ r.s) ≤ 2
    least true t k z = let l : r.s < cap = a.room t in absurd (omega arith)
    least false t k z = omega arith

    most : (g : Bool) → r.growing ≡ g → cond g (2 ^ (r.s + 1)) (2 ^ r.s) ≤ 2 ^ cap
    most true t = let l : r.s < cap = a.room t in pow_mono (omega arith)
    most false t = pow_mono a.within

-- migrating slot by slot: nothing at first, and then one more each time
pub after-none : (r : WayRegs) → r.p < 2 ^ r.s → regs_after 0 r ≡ r
after-none r below =
    let t : (0 == slots_left r) ≡ false = left (2 ^ r.s) r.p below in
    let e : r.p + 0 ≡ r.p = omega arith in
    rw t (ap (λ (p : ℕ). record r { p = p }) e)
  where
    left : (m p : ℕ) → p < m → (0 == m - p) ≡ false
    left m p l = grind (arith, nat_tests)

pub after-more : (r : WayRegs) (n : ℕ) → n < slots_left r → regs_after 1 (regs_after n r) ≡ regs_after (n + 1) r
after-more r n few =
    let t : (n == slots_left r) ≡ false = grind (arith, nat_tests) in
    let e : (1 == slots_left (record r { p = r.p + n })) ≡ (n + 1 == slots_left r) = left (2 ^ r.s) r.p n few in
    let f : r.p + n + 1 ≡ r.p + (n + 1) = omega arith in
    rw t (ap (λ (b : Bool). cond b (record { s = r.s + 1; p = 0; growing = false }) (record r { p = r.p + n + 1 })) e
    ∙ ap (λ (p : ℕ). cond (n + 1 == slots_left r) (record { s = r.s + 1; p = 0; growing = false }) (record r { p = p })) f)
  where
    left : (m p n : ℕ) → n < m - p → (1 == m - (p + n)) ≡ (n + 1 == m - p)
    left m p n l =
        elim (n + 1 == m - p) as (λ b. (n + 1 == m - p) ≡ b → (1 == m - (p + n)) ≡ b) [
          | true ↦ λ t. let q : n + 1 ≡ m - p = grind (arith, nat_tests) in eq-eqb 1 (m - (p + n)) (omega arith)
          | false ↦ λ t. elim (1 == m - (p + n)) as (λ b. (1 == m - (p + n)) ≡ b → b ≡ false) [
            | true ↦ λ u. let q : 1 ≡ m - (p + n) = grind (arith, nat_tests) in absurd (other (omega arith) t)
            | false ↦ λ u. refl
          ] refl
        ] refl
      where
        other : n + 1 ≡ m - p → (n + 1 == m - p) ≡ false → ⊥
        other q t = grind (arith, nat_tests)

-- and the way is growing while slots are left
pub after-growing : (r : WayRegs) (n : ℕ) → r.growing ≡ true → n < slots_left r → (regs_after n r).growing ≡ true
after-growing r n growing few =
    let t : (n == slots_left r) ≡ false = grind (arith, nat_tests) in
    rw t growing
