use Rattle.xl_radix_walk.proofs.Common.{◌≤◌, arith, IsMade, length, lit<, Relocate, sym}
use Rattle.xl_radix_walk.proofs.ChangeLemmas.{MadeRow, none-left, row-made, row-refused}
use Rattle.xl_radix_walk.proofs.row.relocate_leaf.Goals as goal

pub invalidate_freed-requires : goal.invalidate_freed-requires
invalidate_freed-requires g c =
    let a = c.requires.row.caches in
    let b = c.requires.row.low in
    let few : length c.args.caches.now ≤ 4 = omega arith in
    let made : IsMade g.row.LEVELS (Relocate c.args.space c.args.first c.args.to c.args.order) c.in-Ok.given c.args.radix.now c.shift_counted.new.self = c.in-Ok.ensures.made in
    (lit< tt, (few, λ e. none-left g.row.LEVELS c.in-Ok.given (Relocate c.args.space c.args.first c.args.to c.args.order) c.args.radix.now c.shift_counted.new.self c.args.caches.now made e c.requires.row.numbered))

pub returns-in-Ok : goal.returns-in-Ok
returns-in-Ok g c =
    let made : IsMade g.row.LEVELS (Relocate c.args.space c.args.first c.args.to c.args.order) c.in-Ok.given c.args.radix.now c.shift_counted.new.self = c.in-Ok.ensures.made in
    let r : MadeRow g.row.LEVELS (Relocate c.args.space c.args.first c.args.to c.args.order) c.args.radix.now c.shift_counted.new.self c.args.caches.now c.invalidate_freed.new.caches c.invalidate_freed.result =
    row-made g.row.LEVELS c.in-Ok.given (Relocate c.args.space c.args.first c.args.to c.args.order) c.args.radix.now c.shift_counted.new.self c.args.caches.now c.invalidate_freed.new.caches c.invalidate_freed.result
    c.requires.row made (sym c.in-Ok.ensures.answer) c.invalidate_freed.ensures.caches c.invalidate_freed.ensures.work in
    record { row = r.row; changes = r.change }

pub returns-in-Err : goal.returns-in-Err
returns-in-Err g c =
    rw (c.in-Err.ensures.refused, c.no_table.ensures) (record {
      row = c.requires.row;
      changes = row-refused g.row.LEVELS (Relocate c.args.space c.args.first c.args.to c.args.order) c.args.radix.now c.args.caches.now (sym c.in-Err.ensures.answer);
    })
