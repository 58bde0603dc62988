use Rattle.xl_nested.proofs.Common.{◌≡◌, IsAt, reply_from, walked_from}
use Rattle.xl_nested.proofs.nested.Nested.walk_from.Given as goal

abbrev pub invariant-down : goal.invariant-down
invariant-down l = record {
  here : IsAt l.level l.at l.page l.self.guest;
  reply : reply_from l.level l.page l.kind l.self ≡ reply_from l.start l.page l.kind l.fn.self;
  after : walked_from l.level l.page l.kind l.self ≡ walked_from l.start l.page l.kind l.fn.self;
}

abbrev pub decreases-down : goal.decreases-down
decreases-down l = l.level
