use Rattle.xl_cuckoo.proofs.Common.{◌∙◌, ap, begins, begun_if_full, List, map, Moves, one_if, plus, settled, settled_moves, settled_way, shapes, total, WayShape, WayState, ℕ}
use Rattle.xl_cuckoo.proofs.LoopLemmas.{shapes-map}
use Rattle.xl_cuckoo.proofs.settling.settle.Goals as goal

pub returns-clause-ways : goal.returns-clause-ways
unfolding settled
returns-clause-ways c =
    let ws : List WayState = c.args.ways.now in
    let vs : List WayState = c.settle_each-migrated.new.ways in
    ap shapes c.begin_each-growths.ensures.ways
    ∙ shapes-map (begun_if_full c.args.threshold) vs
    ∙ ap (λ (us : List WayState). map (begun_if_full c.args.threshold) (shapes us)) c.settle_each-migrated.ensures.ways
    ∙ ap (map (begun_if_full c.args.threshold)) (shapes-map (settled_way c.args.most) ws)

pub returns-clause-moves : goal.returns-clause-moves
returns-clause-moves c =
    let ws : List WayState = c.args.ways.now in
    let m : Moves = c.args.moves in
    let f : List WayShape → ℕ = total (λ w. one_if (begins c.args.threshold w)) in
    ap (λ (n : ℕ). record m { migrated = n; growths = c.begin_each-growths.result }) c.settle_each-migrated.ensures.count
    ∙ ap (λ (n : ℕ). record (settled_moves c.args.most c.args.threshold (shapes ws) m) { growths = n })
    (c.begin_each-growths.ensures.count
    ∙ ap (λ (us : List WayState). plus m.growths (f (shapes us))) c.settle_each-migrated.ensures.ways
    ∙ ap (λ (us : List WayShape). plus m.growths (f us)) (shapes-map (settled_way c.args.most) ws))
