use Rattle.xl_range.proofs.Common.{◌+◌, ◌∙◌, ◌≡◌, ◌≤◌, ap, arith, join, keeping, length, List, one_if, put_by, Range, range_of_leaf, sym}
use Rattle.xl_range.proofs.PutLemmas.{few-test, IsReady, ready-beside, test-is}
use Rattle.xl_range.proofs.neighbours.put_within.Goals as goal

pub returns-then-not-has_room-clause-test : goal.returns-then-not-has_room-clause-test
returns-then-not-has_room-clause-test c =
    let k : IsReady (range_of_leaf c.args.leaf) c.args.treap.now.seen.kept c.range_of-range.result c.next_of-next.result c.prev_of-prev.result =
    ready-beside (range_of_leaf c.args.leaf) c.args.treap.now.seen.kept c.range_of-range.result c.next_of-next.result c.prev_of-prev.result c.requires.held c.requires.range c.requires.clear c.range_of-range.ensures c.beside-found.ensures.before c.beside-found.ensures.from c.next_of-next.ensures c.prev_of-prev.ensures in
    sym c.if-not-has_room.true ∙ test-is c.args.ranges (length c.args.treap.now.seen.kept) c.len.result (length (join (range_of_leaf c.args.leaf) c.args.treap.now.seen.kept)) (one_if c.next_of-next.result + one_if c.prev_of-prev.result) c.has_room.result c.has_room.ensures c.len.ensures k.count

pub put-requires : goal.put-requires
put-requires c =
    let k : IsReady (range_of_leaf c.args.leaf) c.args.treap.now.seen.kept c.range_of-range.result c.next_of-next.result c.prev_of-prev.result =
    ready-beside (range_of_leaf c.args.leaf) c.args.treap.now.seen.kept c.range_of-range.result c.next_of-next.result c.prev_of-prev.result c.requires.held c.requires.range c.requires.clear c.range_of-range.ensures c.beside-found.ensures.before c.beside-found.ensures.from c.next_of-next.ensures c.prev_of-prev.ensures in
    let f : length (join (range_of_leaf c.args.leaf) c.args.treap.now.seen.kept) ≤ c.args.ranges = few-test _ _ (sym (test-is c.args.ranges (length c.args.treap.now.seen.kept) c.len.result (length (join (range_of_leaf c.args.leaf) c.args.treap.now.seen.kept)) (one_if c.next_of-next.result + one_if c.prev_of-prev.result) c.has_room.result c.has_room.ensures c.len.ensures k.count) ∙ c.if-not-has_room.false) in
    let e : length (put_by c.next_of-next.result c.prev_of-prev.result c.range_of-range.result c.args.treap.now.seen.kept) ≡ length (join (range_of_leaf c.args.leaf) c.args.treap.now.seen.kept) = ap (λ (xs : List Range). length xs) k.same in
    let n = c.requires.room in
    record {
      next_there = k.can.next_there;
      prev_there = k.can.prev_there;
      next_small = k.can.next_small;
      prev_small = k.can.prev_small;
      apart = k.apart;
      room = omega arith;
    }

pub returns-clause-test : goal.returns-clause-test
returns-clause-test c =
    let k : IsReady (range_of_leaf c.args.leaf) c.args.treap.now.seen.kept c.range_of-range.result c.next_of-next.result c.prev_of-prev.result =
    ready-beside (range_of_leaf c.args.leaf) c.args.treap.now.seen.kept c.range_of-range.result c.next_of-next.result c.prev_of-prev.result c.requires.held c.requires.range c.requires.clear c.range_of-range.ensures c.beside-found.ensures.before c.beside-found.ensures.from c.next_of-next.ensures c.prev_of-prev.ensures in
    sym c.if-not-has_room.false ∙ test-is c.args.ranges (length c.args.treap.now.seen.kept) c.len.result (length (join (range_of_leaf c.args.leaf) c.args.treap.now.seen.kept)) (one_if c.next_of-next.result + one_if c.prev_of-prev.result) c.has_room.result c.has_room.ensures c.len.ensures k.count

pub returns-clause-made : goal.returns-clause-made
returns-clause-made c =
    let k : IsReady (range_of_leaf c.args.leaf) c.args.treap.now.seen.kept c.range_of-range.result c.next_of-next.result c.prev_of-prev.result =
    ready-beside (range_of_leaf c.args.leaf) c.args.treap.now.seen.kept c.range_of-range.result c.next_of-next.result c.prev_of-prev.result c.requires.held c.requires.range c.requires.clear c.range_of-range.ensures c.beside-found.ensures.before c.beside-found.ensures.from c.next_of-next.ensures c.prev_of-prev.ensures in
    λ t. c.put.ensures ∙ ap (keeping c.args.treap.now.seen) k.same
