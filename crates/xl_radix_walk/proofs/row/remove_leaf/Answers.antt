use Rattle.xl_radix_walk.proofs.Common.{◌≤◌, arith, has_room, IsMade, length, lit<, refl, Remove}
use Rattle.xl_radix_walk.proofs.ChangeLemmas.{MadeRow, none-left, row-made}
use Rattle.xl_radix_walk.proofs.row.remove_leaf.Goals as goal

pub invalidate_freed-requires : goal.invalidate_freed-requires
invalidate_freed-requires g c =
    let a = c.requires.row.caches in
    let b = c.requires.row.low in
    let few : length c.args.caches.now ≤ 4 = omega arith in
    let made : IsMade g.row.LEVELS (Remove c.args.space c.args.first c.args.order) c.take_out_counted-given.result c.args.radix.now c.take_out_counted-given.new.self = c.take_out_counted-given.ensures.made in
    (lit< tt, (few, λ e. none-left g.row.LEVELS c.take_out_counted-given.result (Remove c.args.space c.args.first c.args.order) c.args.radix.now c.take_out_counted-given.new.self c.args.caches.now made e c.requires.row.numbered))

pub returns : goal.returns
unfolding has_room
returns g c =
    let made : IsMade g.row.LEVELS (Remove c.args.space c.args.first c.args.order) c.take_out_counted-given.result c.args.radix.now c.take_out_counted-given.new.self = c.take_out_counted-given.ensures.made in
    let r : MadeRow g.row.LEVELS (Remove c.args.space c.args.first c.args.order) c.args.radix.now c.take_out_counted-given.new.self c.args.caches.now c.invalidate_freed.new.caches c.invalidate_freed.result =
    row-made g.row.LEVELS c.take_out_counted-given.result (Remove c.args.space c.args.first c.args.order) c.args.radix.now c.take_out_counted-given.new.self c.args.caches.now c.invalidate_freed.new.caches c.invalidate_freed.result
    c.requires.row made refl c.invalidate_freed.ensures.caches c.invalidate_freed.ensures.work in
    record { row = r.row; changes = r.change }
