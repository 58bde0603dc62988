use Rattle.xl_nested.proofs.Common.{sym}
use Rattle.xl_nested.proofs.CodingLemmas.{block-found, found-covers, found-in, found-leaf, found-nothing, found-small, no-block, touched-leaves, touched-small}
use Rattle.xl_nested.proofs.HeldLemmas.{held-touched}
use Rattle.xl_nested.proofs.g_cache.touch_held.Goals as goal

pub block_of-requires-clause-small : goal.block_of-requires-clause-small
block_of-requires-clause-small c = found-small c.args.guest_page c.args.list.now.items c.in-Some.item c.requires.kept.small c.in-Some.ensures.touched.found

pub block_of-requires-clause-order : goal.block_of-requires-clause-order
block_of-requires-clause-order c = c.order_in.ensures c.args.list.now c.requires.kept.orders (found-in c.args.guest_page c.args.list.now.items c.in-Some.item c.in-Some.ensures.touched.found)

pub block_of-requires-clause-covers : goal.block_of-requires-clause-covers
block_of-requires-clause-covers c = found-covers c.args.guest_page c.args.list.now.items c.in-Some.item c.in-Some.ensures.touched.found

pub returns-clause-touched : goal.returns-clause-touched
returns-clause-touched c = record {
  found = block-found c.block_of.result _ _ (sym (found-leaf c.args.guest_page c.args.list.now.items c.in-Some.item c.in-Some.ensures.touched.found)) c.block_of.ensures.block;
  moved = touched-leaves c.args.guest_page c.args.list.now.items c.touch_page.new.list.items c.touch_page.ensures.touched.moved;
  width = c.touch_page.ensures.width;
  small = c.block_of.ensures.small;
}

pub returns-clause-kept : goal.returns-clause-kept
returns-clause-kept c = record {
  small = touched-small _ c.args.list.now.items c.touch_page.new.list.items c.requires.kept.small c.touch_page.ensures.touched.moved;
  orders = held-touched c.args.held c.args.list.now c.touch_page.new.list _ c.requires.kept.orders c.touch_page.ensures.width c.touch_page.ensures.touched.moved;
}

pub returns-in_default-clause-touched : goal.returns-in_default-clause-touched
returns-in_default-clause-touched c = record {
  found = no-block _ (sym (found-nothing c.args.guest_page c.args.list.now.items c.in_default.ensures.touched.found));
  moved = touched-leaves c.args.guest_page c.args.list.now.items c.touch_page.new.list.items c.touch_page.ensures.touched.moved;
  width = c.touch_page.ensures.width;
  small = tt;
}

pub returns-in_default-clause-kept : goal.returns-in_default-clause-kept
returns-in_default-clause-kept c = record {
  small = touched-small _ c.args.list.now.items c.touch_page.new.list.items c.requires.kept.small c.touch_page.ensures.touched.moved;
  orders = held-touched c.args.held c.args.list.now c.touch_page.new.list _ c.requires.kept.orders c.touch_page.ensures.width c.touch_page.ensures.touched.moved;
}
