use Rattle.xl_tlb.proofs.Common.{◌∷◌, ap, arith, IsRising, leaf_hit, length, map, replied_of, spec_of}
use Rattle.xl_tlb.proofs.FoundLemmas.{found_replied}
use Rattle.xl_tlb.proofs.LevelLemmas.{first_arrays, first_replied, hits_joined, misses_joined, more_arrays}
use Rattle.xl_tlb.proofs.in_turn.+look_in.Goals as goal

pub returns-in-Some-look_served-clause-found : goal.returns-in-Some-look_served-clause-found
returns-in-Some-look_served-clause-found t c =
    let rising : IsRising (map spec_of (c.in-Some.first.now ∷ c.in-Some.rest.now)) = rw c.in-Some.ensures.cases.0 at c.requires.rising in
    rw (c.in-Some.ensures.cases.0, c.level-level.ensures) (first_replied c.args.request.kind c.in-Some.first.now c.in-Some.rest.now c.args.request.space c.args.request.page (leaf_hit c.args.request.space c.args.request.page c.in-Some-look_served.hit) c.in-Some-look_served.ensures.found rising.0)

pub returns-in-Some-look_served-clause-arrays : goal.returns-in-Some-look_served-clause-arrays
returns-in-Some-look_served-clause-arrays t c =
    rw c.in-Some.ensures.cases.0 (first_arrays c.args.request.kind c.in-Some.first.now c.in-Some.rest.now c.args.request.space c.args.request.page (leaf_hit c.args.request.space c.args.request.page c.in-Some-look_served.hit) c.look_served.new.array c.in-Some-look_served.ensures.found c.in-Some-look_served.ensures.some)

pub returns-in-Some-look_in-clause-found : goal.returns-in-Some-look_in-clause-found
returns-in-Some-look_in-clause-found t c =
    rw c.in-Some.ensures.cases.0 (found_replied c.args.request.kind c.in-Some.first.now c.in-Some.rest.now c.args.request.space c.args.request.page c.in-Some-look_in.found c.fill_below.result (rw c.in-None.ensures.none at c.fill_below.ensures.found)
    c.in-None.ensures.found c.in-Some-look_in.ensures.found)

pub returns-in-Some-look_in-clause-arrays : goal.returns-in-Some-look_in-clause-arrays
returns-in-Some-look_in-clause-arrays t c =
    rw c.in-Some.ensures.cases.0 (more_arrays c.args.request.kind c.in-Some.first.now c.in-Some.rest.now c.args.request.space c.args.request.page (replied_of c.args.request.space c.args.request.page c.in-Some-look_in.found) c.fill_below.new.array c.look_in.new.arrays c.in-None.ensures.found c.in-Some-look_in.ensures.found
    (rw c.in-None.ensures.none at c.fill_below.ensures.array) c.in-Some-look_in.ensures.arrays)

pub returns-in-Some-look_in-clause-misses : goal.returns-in-Some-look_in-clause-misses
returns-in-Some-look_in-clause-misses t c =
    let first = c.in-Some.first.now in
    let rest = c.in-Some.rest.now in
    let rising : IsRising (map spec_of (first ∷ rest)) = rw c.in-Some.ensures.cases.0 at c.requires.rising in
    rw c.in-Some.ensures.cases.0 (misses_joined c.args.request.kind first rest c.args.request.space c.args.request.page c.in-None.ensures.found rising.0 c.args.misses.now c.bump_where.new.counts c.look_in.new.misses
    (omega (arith, c.requires.misses, ap length c.in-Some.ensures.cases.0)) (rw (c.serves.ensures, c.in-None.ensures.none) at c.bump_where.ensures) c.look_in.ensures.misses)

pub returns-in-Some-look_in-clause-hits : goal.returns-in-Some-look_in-clause-hits
returns-in-Some-look_in-clause-hits t c =
    let first = c.in-Some.first.now in
    let rest = c.in-Some.rest.now in
    let rising : IsRising (map spec_of (first ∷ rest)) = rw c.in-Some.ensures.cases.0 at c.requires.rising in
    rw c.in-Some.ensures.cases.0 (hits_joined c.args.request.kind first rest c.args.request.space c.args.request.page c.in-None.ensures.found rising.0 c.args.hits.now c.look_in.new.hits
    (omega (arith, c.requires.hits, ap length c.in-Some.ensures.cases.0)) c.look_in.ensures.hits)
