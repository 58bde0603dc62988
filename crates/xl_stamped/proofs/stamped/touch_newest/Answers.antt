use Rattle.xl_stamped.proofs.Common.{◌∙◌, ap, arith, find, touched}
use Rattle.xl_stamped.proofs.TouchLemmas.{stamps_set, touch_none, touch_step}
use Rattle.xl_stamped.proofs.stamped.touch_newest.Goals as goal

pub returns-in-Some : goal.returns-in-Some
returns-in-Some g c =
    let room = c.make_room.ensures in
    let at = c.newest_from-at.ensures in
    record {
      touched = λ q test.
          let step = touch_step _ q test c.args.places.now c.make_room.new.places c.newest_from-at.result c.make_room.new.last at.within room.stamps at.newest room.same in
          record { found = step.0; moved = step.1 };
      stamps = stamps_set c.make_room.new.places c.newest_from-at.result c.make_room.new.last _ room.stamps (omega arith);
    }

pub returns-in-None : goal.returns-in-None
returns-in-None g c =
    let room = c.make_room.ensures in
    record {
      touched = λ q test.
          let step = touch_none _ q test c.make_room.new.places c.in-None.ensures.none in
          record { found = step.0 ∙ ap (find q) room.same; moved = step.1 ∙ ap (touched q) room.same };
      stamps = room.stamps;
    }
