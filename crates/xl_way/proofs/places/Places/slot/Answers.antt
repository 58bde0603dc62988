use Rattle.xl_way.proofs.Common.{◌%◌, ◌&&◌, ◌*◌, ◌+◌, ◌<◌, ◌^◌, ◌∙◌, ◌≡◌, ◌≤◌, ap, arith, cond, false, IsReady, mix, nat_lt, nat_tests, PlacesState, refl, slot, slot_at, true, way_hash, WayRegs, ℕ}
use Rattle.xl_way.proofs.places.Places.slot.Goals as goal

-- A key's slot by what is kept beside a number and registers.
hash-is : (number key : ℕ) (r : WayRegs) (salt mask wide hash : ℕ) → IsReady number r salt mask wide → hash ≡ mix ((key + salt) % 2 ^ 64) → hash ≡ way_hash number key
unfolding way_hash
hash-is number key r salt mask wide hash k is =
    let salted = k.salted in
    let e : (key + salt) % 2 ^ 64 ≡ (key + (number + 1) * 0x9e3779b97f4a7c15) % 2 ^ 64 = omega arith in
    is ∙ ap mix e

twice-at : (r : WayRegs) (hash : ℕ) → (r.growing ≡ false → r.p ≡ 0) → hash % 2 ^ r.s < r.p → hash % 2 ^ (r.s + 1) ≡ slot_at r hash
twice-at r hash still less =
    let t : nat_lt (hash % 2 ^ r.s) r.p ≡ true = grind (arith, nat_tests) in
    elim r.growing as (λ b. r.growing ≡ b → hash % 2 ^ (r.s + 1) ≡ cond (b && nat_lt (hash % 2 ^ r.s) r.p) (hash % 2 ^ (r.s + 1)) (hash % 2 ^ r.s)) [
      | true ↦ λ g. rw t refl
      | false ↦ λ g. absurd (let z = still g in omega arith)
    ] refl

once-at : (r : WayRegs) (hash : ℕ) → r.p ≤ hash % 2 ^ r.s → hash % 2 ^ r.s ≡ slot_at r hash
once-at r hash less =
    let t : nat_lt (hash % 2 ^ r.s) r.p ≡ false = grind (arith, nat_tests) in
    elim r.growing as (λ b. hash % 2 ^ r.s ≡ cond (b && nat_lt (hash % 2 ^ r.s) r.p) (hash % 2 ^ (r.s + 1)) (hash % 2 ^ r.s)) [
      | true ↦ rw t refl
      | false ↦ refl
    ]

module _ (number key : ℕ) (r : WayRegs) (salt mask wide hash index : ℕ) (k : IsReady number r salt mask wide) (is : hash ≡ mix ((key + salt) % 2 ^ 64)) (at : index ≡ hash % 2 ^ r.s) where
  -- a slot of twice as many
  slot-twice : (wider : ℕ) → wider ≡ hash % 2 ^ (r.s + 1) → index < r.p → wider ≡ slot r number key
  unfolding slot
  slot-twice wider w less = w ∙ twice-at r hash k.still (omega arith) ∙ ap (slot_at r) (hash-is number key r salt mask wide hash k is)

  -- a slot that isn't
  slot-once : r.p ≤ index → index ≡ slot r number key
  unfolding slot
  slot-once less = at ∙ once-at r hash (omega arith) ∙ ap (slot_at r) (hash-is number key r salt mask wide hash k is)

pub returns-then-index-self : goal.returns-then-index-self
returns-then-index-self c =
    let s = c.self.inside in
    record {
      is = slot-twice s.number c.args.key s.regs s.salt s.mask s.wide c.mix-hash.result c.masked-index.result c.self.invariant c.mix-hash.ensures
          (c.masked-index.ensures s.regs.s c.self.invariant.slots) c.masked.result (c.masked.ensures (s.regs.s + 1) c.self.invariant.twice) c.if-index-self.true
          ∙ ap (λ (v : PlacesState). slot v.regs v.number c.args.key) c.self.view_is;
    }

pub returns-else-index-self : goal.returns-else-index-self
returns-else-index-self c =
    let s = c.self.inside in
    record {
      is = slot-once s.number c.args.key s.regs s.salt s.mask s.wide c.mix-hash.result c.masked-index.result c.self.invariant c.mix-hash.ensures
          (c.masked-index.ensures s.regs.s c.self.invariant.slots) c.if-index-self.false
          ∙ ap (λ (v : PlacesState). slot v.regs v.number c.args.key) c.self.view_is;
    }
