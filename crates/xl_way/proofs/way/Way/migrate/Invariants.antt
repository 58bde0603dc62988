use Rattle.xl_way.proofs.Common.{◌≡◌, advanced}
use Rattle.xl_way.proofs.way.Way.migrate.Given as goal

abbrev pub invariant-slots : goal.invariant-slots
invariant-slots l = l.self ≡ record l.initial.self { shape = advanced l._i l.initial.self.shape }
