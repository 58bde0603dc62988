-- A way's fields after its slots were lent out and changed.
use Rattle.xl_way.proofs.Common.{◌<◌, ◌∙◌, ◌≡◌, ap, entries_of, Entry, IsKept, length, length-set, List, refl, set, slot, subst, swapped, sym, WayShape, WayState, with_items, with_items_is, ℕ}
use Rattle.xl_way.proofs.WayLemmas.{slot-inside, swap-is, way_of}
use Rattle.xl_way.specs.declared.way.Way.TheInside.{Inside}

-- what a way is, by its fields
abbrev pub state_of : Inside → WayState
state_of i = record { shape = way_of i.places.number i.cap i.places.regs (entries_of i.slots.items); loads = i.loads }

abbrev pub IsKeptIn : Inside → Type 0
IsKeptIn i = IsKept i.places.number i.cap i.places.regs i.slots.items i.used

-- a key's slot is there, in the slots as they are lent
pub inside-now : (i : Inside) (lent : List Entry) (key at : ℕ) → IsKeptIn i → lent ≡ i.slots.items → at ≡ slot i.places.regs i.places.number key → at < length lent
inside-now i lent key at k e is =
    subst (λ (xs : List Entry). at < length xs) (sym e) (rw is (slot-inside i.places.number i.cap i.places.regs i.slots.items i.used key k))

-- the slots that come back
pub items-now : (i : Inside) (back now : List Entry) → back ≡ now → length now ≡ length i.slots.items → (with_items i.slots back).items ≡ now
items-now i back now e same = with_items_is i.slots back (ap (λ (xs : List Entry). length xs) e ∙ same ∙ sym i.slots.ok.0) ∙ e

-- with one entry put into a slot
pub items-set : (i : Inside) (lent back : List Entry) (at : ℕ) (x : Entry) → lent ≡ i.slots.items → back ≡ set lent at x → (with_items i.slots back).items ≡ set i.slots.items at x
items-set i lent back at x e f =
    items-now i back (set i.slots.items at x) (f ∙ ap (λ (xs : List Entry). set xs at x) e) (length-set i.slots.items at x)

-- the way with an entry in its slot
pub swapped-now : (i : Inside) (v : WayState) (lent back : List Entry) (at : ℕ) (x : Entry) → IsKeptIn i → state_of i ≡ v → lent ≡ i.slots.items → back ≡ set lent at x
    → at ≡ slot i.places.regs i.places.number x.key → 0 < x.word
    → record { shape = way_of i.places.number i.cap i.places.regs (entries_of (with_items i.slots back).items); loads = i.loads } ≡ record v { shape = swapped v.shape x }
swapped-now i v lent back at x k is e f at-is some =
    ap (λ (xs : List Entry). record { shape = way_of i.places.number i.cap i.places.regs (entries_of xs); loads = i.loads }) (items-set i lent back at x e f)
    ∙ ap (λ (w : WayShape). record { shape = w; loads = i.loads })
    (swap-is i.places.number i.cap i.places.regs i.slots.items at x k.placed (inside-now i i.slots.items x.key at k refl at-is) at-is some)
    ∙ ap (λ (u : WayState). record u { shape = swapped u.shape x }) is
