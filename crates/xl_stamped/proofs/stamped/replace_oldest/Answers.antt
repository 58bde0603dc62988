use Rattle.xl_stamped.proofs.Common.{arith}
use Rattle.xl_stamped.proofs.TouchLemmas.{full_step, stamps_set}
use Rattle.xl_stamped.proofs.stamped.replace_oldest.Goals as goal

pub returns : goal.returns
returns c =
    let room = c.make_room.ensures in
    let at = c.oldest-at.ensures in
    let f = full_step c.args.places.now c.make_room.new.places c.oldest-at.result c.make_room.new.last c.args.item
    at.within c.make_room.auto.places room.stamps at.least room.same in
    record { filled = record { list = f.0; left = f.1 }; stamps = stamps_set c.make_room.new.places c.oldest-at.result c.make_room.new.last _ room.stamps (omega arith) }
