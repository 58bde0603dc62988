use Rattle.xl_tlb.proofs.Common.{◌∷◌, ◌≡◌, Alone, IsOne, map, spec_of}
use Rattle.xl_tlb.proofs.OneLemmas.{no_other}
use Rattle.xl_tlb.proofs.one.look_alone.Goals as goal

pub returns : goal.returns
returns g c =
    let a = c.first_and_rest-first.result.0.now in
    let rest = c.first_and_rest-first.result.1.now in
    let e : c.args.arrays.now ≡ a ∷ rest = c.first_and_rest-first.ensures.parts.0 in
    let one : IsOne (map spec_of (a ∷ rest)) = rw e at c.requires.one in
    rw (e, no_other a rest one) (Alone a c.look_alone.new.first c.look_alone.ensures)
