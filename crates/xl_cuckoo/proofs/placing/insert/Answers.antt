use Rattle.xl_cuckoo.proofs.Common.{◌<◌, ◌∙◌, after_placing, ap, arith, displaced, insertion, insertion-adds, length, List, map, Moves, Placed, Placing, settled_moves, shapes, sym, WayShape, WayState}
use Rattle.xl_cuckoo.proofs.KeyLemmas.{once-added, once-same}
use Rattle.xl_cuckoo.proofs.KickLemmas.{map-length}
use Rattle.xl_cuckoo.proofs.placing.insert.Goals as goal

pub returns-in-Ok-clause-ok : goal.returns-in-Ok-clause-ok
unfolding insertion
returns-in-Ok-clause-ok c =
    let r = c.args.rules in
    let moved = map displaced c.place.new.moved.items in
    ap (λ (p : Placing). after_placing r.migrate r.threshold p) (c.in-Ok.ensures.ok)
    ∙ ap (λ (ws : List WayShape). Placed ws moved (settled_moves r.migrate r.threshold (shapes c.place.new.ways) c.in-Ok.moves)) (sym c.settle.ensures.ways)
    ∙ ap (λ (m : Moves). Placed (shapes c.settle.new.ways) moved m) (sym c.settle.ensures.moves)

pub returns-in-Ok-clause-added : goal.returns-in-Ok-clause-added
returns-in-Ok-clause-added c =
    let r = c.args.rules in
    let ws = shapes c.args.ways.now in
    let some : 0 < length ws = (let n = map-length (λ (w : WayState). w.shape) c.args.ways.now in let s = c.requires.some in omega arith) in
    λ p. insertion-adds p r.kick_limit r.migrate r.threshold ws (shapes c.settle.new.ways) c.args.entry (map displaced c.place.new.moved.items) c.settle.result some (returns-in-Ok-clause-ok c)

pub returns-in-Ok-clause-once : goal.returns-in-Ok-clause-once
returns-in-Ok-clause-once c = once-added c.args.entry (shapes c.args.ways.now) (shapes c.settle.new.ways) c.requires.once (returns-in-Ok-clause-added c) c.requires.free

pub returns-in-Err-clause-err : goal.returns-in-Err-clause-err
unfolding insertion
returns-in-Err-clause-err c = ap (λ (p : Placing). after_placing c.args.rules.migrate c.args.rules.threshold p) c.in-Err.ensures.err

pub returns-in-Err-clause-once : goal.returns-in-Err-clause-once
returns-in-Err-clause-once c = once-same (shapes c.args.ways.now) (shapes c.place.new.ways) c.requires.once c.in-Err.ensures.kept
