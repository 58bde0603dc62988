use Rattle.xl_nested.proofs.Common.{sym}
use Rattle.xl_nested.proofs.FrontLemmas.{found-page, hit, missed, pushed-fronts}
use Rattle.xl_nested.proofs.front_cache.touch_next.Goals as goal

pub word_at-requires-clause-within : goal.word_at-requires-clause-within
word_at-requires-clause-within c = found-page c.args.guest_page c.in-Some.block c.put_in_order.new.cache.items c.in-Some.ensures.found

pub returns-in_default-clause-touched : goal.returns-in_default-clause-touched
returns-in_default-clause-touched c =
    missed c.args.guest_page c.args.fronts.now c.put_in_order.new.fronts c.args.cache.now.items c.put_in_order.new.cache.items c.touch.new.self.items (sym c.put_in_order.ensures.items) c.put_in_order.ensures.straight c.touch.ensures.moved
    c.put_in_order.ensures.fronts c.in_default.ensures.found

pub returns-clause-touched : goal.returns-clause-touched
returns-clause-touched c =
    hit c.args.guest_page c.args.fronts.now c.following.result c.args.cache.now.items c.put_in_order.new.cache.items c.touch.new.self.items (sym c.put_in_order.ensures.items) c.following.ensures.straight c.touch.ensures.moved
    c.in-Some.block c.word_at.result c.in-Some.ensures.found c.word_at.ensures.word c.word_at.ensures.small
    (pushed-fronts c.args.guest_page c.in-Some.block c.put_in_order.new.fronts c.following.result c.put_in_order.new.cache.items c.touch.new.self.items c.put_in_order.ensures.fronts c.in-Some.ensures.small c.in-Some.ensures.found
    c.touch.ensures.moved c.following.ensures)
