use Rattle.xl_serving.proofs.Common.{◌≡◌, IsFedFrom, left_of, refl, State, subst, sym, trail_of}
use Rattle.xl_serving.proofs.PieceLemmas.{fed_first}
use Rattle.xl_serving.proofs.tape.Tape.open.Goals as goal

pub returns : goal.returns
returns c = λ file.
    let P : State → Type 0 = λ s. IsFedFrom file (record { reader = s; at = 0; number = 1 }) × (left_of file (record { reader = s; at = 0; number = 1 }) ≡ trail_of file) in
    subst P (sym c.in_ok-open.ensures.new) (fed_first file, refl)
