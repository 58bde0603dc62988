use Rattle.xl_way.proofs.Common.{◌∙◌, ◌≡◌, ap, entries_of, Entry, false, IsKept, List, no_entry, opening_way, PlacesState, replicate, slots_of, subst, sym}
use Rattle.xl_way.proofs.SlotLemmas.{entries-empty}
use Rattle.xl_way.proofs.WayLemmas.{kept-open, way_of}
use Rattle.xl_way.proofs.way.Way.open.Goals as goal

pub invariant_of-result : goal.invariant_of-result
invariant_of-result c =
    let items : c.in_ok-slots.slots.items ≡ replicate (slots_of c.args.cap_bits) no_entry = c.in_ok-slots.ensures.items_if_clones_equal (λ y h. h) ∙ ap (λ n. replicate n no_entry) c.room.ensures in
    let K : PlacesState → Type 0 = λ p. IsKept p.number c.args.cap_bits p.regs c.in_ok-slots.slots.items 0 in
    subst K (sym c.open.ensures) (kept-open c.args.number c.args.start_bits c.args.cap_bits c.in_ok-slots.slots.items c.requires.start c.requires.few items)

pub returns-clause-shape : goal.returns-clause-shape
unfolding opening_way
returns-clause-shape c =
    let items : c.in_ok-slots.slots.items ≡ replicate (slots_of c.args.cap_bits) no_entry = c.in_ok-slots.ensures.items_if_clones_equal (λ y h. h) ∙ ap (λ n. replicate n no_entry) c.room.ensures in
    ap (λ (p : PlacesState). way_of p.number c.args.cap_bits p.regs (entries_of c.in_ok-slots.slots.items)) c.open.ensures
    ∙ ap (λ (es : List Entry). way_of c.args.number c.args.cap_bits (record { s = c.args.start_bits; p = 0; growing = false }) es)
    (ap entries_of items ∙ entries-empty (slots_of c.args.cap_bits))
