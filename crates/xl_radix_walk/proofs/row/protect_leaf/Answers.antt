use Rattle.xl_radix_walk.proofs.Common.{◌≤◌, arith, has_room, IsMade, length, lit<, Protect, refl}
use Rattle.xl_radix_walk.proofs.ChangeLemmas.{MadeRow, none-left, row-made}
use Rattle.xl_radix_walk.proofs.row.protect_leaf.Goals as goal

pub invalidate_freed-requires : goal.invalidate_freed-requires
invalidate_freed-requires g c =
    let a = c.requires.row.caches in
    let b = c.requires.row.low in
    let few : length c.args.caches.now ≤ 4 = omega arith in
    let made : IsMade g.row.LEVELS (Protect c.args.space c.args.first c.args.order c.args.perm) 0 c.args.radix.now c.set_perm.new.self = c.set_perm.ensures.made in
    (lit< tt, (few, λ e. none-left g.row.LEVELS 0 (Protect c.args.space c.args.first c.args.order c.args.perm) c.args.radix.now c.set_perm.new.self c.args.caches.now made e c.requires.row.numbered))

pub returns : goal.returns
unfolding has_room
returns g c =
    let made : IsMade g.row.LEVELS (Protect c.args.space c.args.first c.args.order c.args.perm) 0 c.args.radix.now c.set_perm.new.self = c.set_perm.ensures.made in
    let r : MadeRow g.row.LEVELS (Protect c.args.space c.args.first c.args.order c.args.perm) c.args.radix.now c.set_perm.new.self c.args.caches.now c.invalidate_freed.new.caches c.invalidate_freed.result =
    row-made g.row.LEVELS 0 (Protect c.args.space c.args.first c.args.order c.args.perm) c.args.radix.now c.set_perm.new.self c.args.caches.now c.invalidate_freed.new.caches c.invalidate_freed.result
    c.requires.row made refl c.invalidate_freed.ensures.caches c.invalidate_freed.ensures.work in
    record { row = r.row; changes = r.change }
