use Rattle.xl_stamped.proofs.Common.{◌++◌, arith, drop, length-append, length-take}
use Rattle.xl_stamped.proofs.TouchLemmas.{kept_count}
use Rattle.xl_stamped.proofs.stamped.keep_used.Goals as goal

pub returns-clause-count : goal.returns-clause-count
returns-clause-count g c =
    kept_count c.args.len c.keep_places.result c.args.places.now (c.keep_places.new.places ++ drop c.args.len c.args.places.now)
    (omega (arith, c.keep_places.ensures.within, length-take c.args.len c.args.places.now)) c.requires.used
    (omega (arith, c.keep_places.auto.places, length-take c.args.len c.args.places.now, length-append c.keep_places.new.places (drop c.args.len c.args.places.now)))
