use Rattle.xl_radix_walk.proofs.Common.{◌≤◌, arith, Insert, IsMade, length, lit<, sym}
use Rattle.xl_radix_walk.proofs.ChangeLemmas.{added-made, MadeRow, none-left, row-made, row-refused}
use Rattle.xl_radix_walk.proofs.row.insert_leaf.Goals as goal

pub invalidate_freed-requires : goal.invalidate_freed-requires
invalidate_freed-requires g c =
    let a = c.requires.row.caches in
    let b = c.requires.row.low in
    let few : length c.args.caches.now ≤ 4 = omega arith in
    let made : IsMade g.row.LEVELS (Insert c.args.leaf) 0 c.args.radix.now c.add.new.self = added-made g.row.LEVELS c.args.leaf c.args.radix.now c.add.new.self c.in-Ok.ensures.leaves c.in-Ok.ensures.nodes c.in-Ok.ensures.shape c.in-Ok.ensures.spaces c.in-Ok.ensures.loads in
    (lit< tt, (few, λ e. none-left g.row.LEVELS 0 (Insert c.args.leaf) c.args.radix.now c.add.new.self c.args.caches.now made e c.requires.row.numbered))

pub returns-in-Ok : goal.returns-in-Ok
returns-in-Ok g c =
    let made : IsMade g.row.LEVELS (Insert c.args.leaf) 0 c.args.radix.now c.add.new.self = added-made g.row.LEVELS c.args.leaf c.args.radix.now c.add.new.self c.in-Ok.ensures.leaves c.in-Ok.ensures.nodes c.in-Ok.ensures.shape c.in-Ok.ensures.spaces c.in-Ok.ensures.loads in
    let r : MadeRow g.row.LEVELS (Insert c.args.leaf) c.args.radix.now c.add.new.self c.args.caches.now c.invalidate_freed.new.caches c.invalidate_freed.result =
    row-made g.row.LEVELS 0 (Insert c.args.leaf) c.args.radix.now c.add.new.self c.args.caches.now c.invalidate_freed.new.caches c.invalidate_freed.result
    c.requires.row made (sym c.in-Ok.ensures.answer) c.invalidate_freed.ensures.caches c.invalidate_freed.ensures.work in
    record { row = r.row; changes = r.change }

pub returns-in-Err : goal.returns-in-Err
returns-in-Err g c =
    rw (c.in-Err.ensures.refused, c.no_table.ensures) (record {
      row = c.requires.row;
      changes = row-refused g.row.LEVELS (Insert c.args.leaf) c.args.radix.now c.args.caches.now (sym c.in-Err.ensures.answer);
    })
