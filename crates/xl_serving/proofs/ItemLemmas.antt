-- What the items of a command are, one by one.
use Rattle.xl_serving.proofs.Common.{◌+◌, ◌<◌, ◌∙◌, ◌≡◌, ap, arith, events_from, length, refl, slice_get, Some, suc, sym, zero, ℕ}
use Rattle.xl_model.specs.declared.event.Event.{Event}
use Rattle.xl_model.specs.declared.script.Item.TheVariants.{Command}

nth_event : (at : ℕ → Event) (from n i : ℕ) → i < n → slice_get (events_from at from n) i ≡ Some (Command (at (from + i)))
nth_event at from zero i h = absurd (omega arith)
nth_event at from (suc n) zero h = let e : from ≡ from + 0 = omega arith in ap (λ (z : ℕ). Some (Command (at z))) e
nth_event at from (suc n) (suc i) h =
    let e : suc from + i ≡ from + suc i = omega arith in
    nth_event at (suc from) n i (omega arith) ∙ ap (λ (z : ℕ). Some (Command (at z))) e

pub the_nth_event : (at : ℕ → Event) (n i : ℕ) (e : Event) → i < n → e ≡ at i → slice_get (events_from at 0 n) i ≡ Some (Command e)
the_nth_event at n i e h k =
    let z : 0 + i ≡ i = omega arith in
    nth_event at 0 n i h ∙ ap (λ (j : ℕ). Some (Command (at j))) z ∙ ap (λ (f : Event). Some (Command f)) (sym k)

pub length-events : (at : ℕ → Event) (from n : ℕ) → length (events_from at from n) ≡ n
length-events at from zero = refl
length-events at from (suc n) = ap suc (length-events at (suc from) n)
