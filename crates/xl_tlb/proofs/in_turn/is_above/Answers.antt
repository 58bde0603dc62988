use Rattle.xl_tlb.proofs.Common.{◌∷◌, arith, IsRising, map, nat_tests, spec_of}
use Rattle.xl_tlb.proofs.FrontLemmas.{first_above}
use Rattle.xl_tlb.proofs.in_turn.is_above.Goals as goal

pub returns-clause-above : goal.returns-clause-above
returns-clause-above c =
    let rising : IsRising (map spec_of (c.in-Some.first.now ∷ c.in-Some._rest.now)) = rw c.in-Some.ensures.cases.0 at c.requires in
    λ higher.
    let e = rw c.level.ensures at higher in
    rw c.in-Some.ensures.cases.0 (first_above c.args.level c.in-Some.first.now.spec (map spec_of c.in-Some._rest.now) (grind (arith, nat_tests)) rising)
