-- Slots that stay of the form that their rows name.
use Rattle.xl_rack.proofs.Common.{◌∙◌, ◌≡◌, ap, form_named, IsNamed, served_of, Slot, slot_form, Some, sym}

pub named-row : (s t : Slot) → (served_of t).row ≡ (served_of s).row → slot_form t ≡ slot_form s → IsNamed s → IsNamed t
named-row s t row form named = ap form_named row ∙ named ∙ ap Some (sym form)
