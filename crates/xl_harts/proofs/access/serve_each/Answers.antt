use Rattle.xl_harts.proofs.Common.{◌+◌, ◌<◌, ◌∷◌, ◌≡◌, Access, add-one, arith, drop, drop-cons, get_or, length, List, row_table, subst}
use Rattle.xl_harts.proofs.ServeLemmas.{IsOnTheWay, served-now, way-goes-on}
use Rattle.xl_model.specs.declared.address.Kind.TheVariants as kinds
use Rattle.xl_harts.proofs.access.serve_each.Goals as goal

pub serve-last-requires : goal.serve-last-requires
serve-last-requires c =
    let way = c.loop-access.invariant c.requires.0 c.requires.1 in
    (way.at.spec, served-now way.at (row_table 3 c.loop-access.table) c.loop-access.hart way.current)

pub loop-access-preserved : goal.loop-access-preserved
loop-access-preserved c s current =
    let i = c.loop-access.access-index in
    let all = c.args.accesses.now in
    let none : Access = record { va = 0; kind = kinds.Fetch } in
    let inside = c.loop-access-test.true in
    let within : i < length all = omega arith in
    let P : List Access → Type 0 = λ left. IsOnTheWay all left s c.loop-access.last (row_table 3 c.loop-access.table) c.loop-access.hart in
    let e : drop i all ≡ get_or all i none ∷ drop (i + 1) all = rw add-one (drop-cons all i none within) in
    way-goes-on all (drop (i + 1) all) (get_or all i none) s c.loop-access.last c.serve-last.result (row_table 3 c.loop-access.table) (row_table 3 c.serve-last.new.table)
    c.loop-access.hart c.serve-last.new.hart (subst P e (c.loop-access.invariant s current)) c.serve-last.ensures
