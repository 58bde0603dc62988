use Rattle.xl_stamped.proofs.Common.{◌<◌, ◌≡◌, arith, drop, length, length-drop, length-take}
use Rattle.xl_stamped.proofs.TouchLemmas.{free_step}
use Rattle.xl_stamped.proofs.stamped.fill_place.Goals as goal

pub returns : goal.returns
returns c =
    let room = c.make_room.ensures in
    let n : length c.make_room.new.places ≡ c.args.len = omega (arith, c.make_room.auto.places, length-take c.args.len c.args.places.now) in
    let rest : 0 < length (drop c.args.len c.args.places.now) = omega (arith, length-drop c.args.len c.args.places.now) in
    let f = free_step _ c.make_room.new.places (drop c.args.len c.args.places.now) c.args.len c.make_room.new.last (length c.args.places.now) c.args.item
    n rest c.requires.free room.stamps room.same in
    record { filled = record { list = f.0; left = f.1 }; stamps = f.2 }
