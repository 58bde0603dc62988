-- What the slots of a rack hold.
use Rattle.std.specs.Prelude.{◌≡◌, ◌==◌, Bool, List, Some, length, map}
use Rattle.std.specs.List.{All}
use Rattle.xl_model.specs.Scenes.{Served}
use Rattle.xl_rack.specs.declared.slot.Slot.{Slot}
use Rattle.xl_rack.specs.declared.slot.Slot.TheVariants as slot
use Rattle.xl_rack.specs.Forms.{Form, Radix3, Radix4, Radix5, HashedForm, ClusteredForm, CuckooForm2, CuckooForm3, CuckooForm4, RangeForm, form_named}

-- The row and the state of a slot's machine.
abbrev pub served_of : Slot → Served
served_of (slot.Sv39 m) = m
served_of (slot.Sv48 m) = m
served_of (slot.Sv57 m) = m
served_of (slot.Hashed m) = m
served_of (slot.Clustered m) = m
served_of (slot.Cuckoo2 m) = m
served_of (slot.Cuckoo3 m) = m
served_of (slot.Cuckoo4 m) = m
served_of (slot.Range m) = m

-- The form of a slot's machine.
abbrev pub slot_form : Slot → Form
slot_form (slot.Sv39 m) = Radix3
slot_form (slot.Sv48 m) = Radix4
slot_form (slot.Sv57 m) = Radix5
slot_form (slot.Hashed m) = HashedForm
slot_form (slot.Clustered m) = ClusteredForm
slot_form (slot.Cuckoo2 m) = CuckooForm2
slot_form (slot.Cuckoo3 m) = CuckooForm3
slot_form (slot.Cuckoo4 m) = CuckooForm4
slot_form (slot.Range m) = RangeForm

-- A slot's machine is of the form that its row names.
abbrev pub IsNamed : Slot → Type 0
IsNamed s = form_named (served_of s).row ≡ Some (slot_form s)

-- A slot's machine has no arrays.
abbrev pub has_no_arrays : Slot → Bool
has_no_arrays s = length (served_of s).state.arrays == 0

-- Each slot's row is served, as this function says, and each slot stays of the form that its row
-- names.
pub record EachServed (after : Served → Served) (old new : List Slot) : Type 0 where
  pub served : map served_of new ≡ map after (map served_of old)
  pub named : All IsNamed old → All IsNamed new
