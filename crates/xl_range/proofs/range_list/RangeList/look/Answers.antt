use Rattle.xl_range.proofs.Common.{◌∙◌, ◌≡◌, ap, Cached, find, holds_page, item_at, None, Range, Some, sym, with_touch}
use Rattle.xl_range.proofs.RangeLemmas.{key_found, key_touched, range_found, range_touched, touched_within}
use Rattle.xl_range.proofs.range_list.RangeList.look.Goals as goal

pub returns-in_default-clause-found : goal.returns-in_default-clause-found
returns-in_default-clause-found c =
    let p = holds_page c.args.space c.args.page in
    let is : c.touch_holding.result ≡ None = cc in
    range_found p c.self.inside.cache None (sym is ∙ c.touch_holding.ensures.found
    ∙ key_found c.args.space c.args.page c.key_of.result c.self.inside.cache.items c.requires.space_in c.requires.page_in c.key_of.ensures c.self.invariant) ∙ ap (λ (t : Cached Range). find p t.items) c.self.view_is

pub returns-in_default-clause-after : goal.returns-in_default-clause-after
returns-in_default-clause-after c =
    let p = holds_page c.args.space c.args.page in
    range_touched p c.self.inside.cache c.touch_holding.new.cache (c.touch_holding.ensures.moved
    ∙ key_touched c.args.space c.args.page c.key_of.result c.self.inside.cache.items c.requires.space_in c.requires.page_in c.key_of.ensures c.self.invariant) c.touch_holding.ensures.width ∙ ap (with_touch p) c.self.view_is

pub returns-clause-found : goal.returns-clause-found
returns-clause-found c =
    let p = holds_page c.args.space c.args.page in
    ap Some c.range_of.ensures
    ∙ range_found p c.self.inside.cache (Some c.in-Some.item) (sym c.in-Some.is ∙ c.touch_holding.ensures.found
    ∙ key_found c.args.space c.args.page c.key_of.result c.self.inside.cache.items c.requires.space_in c.requires.page_in c.key_of.ensures c.self.invariant) ∙ ap (λ (t : Cached Range). find p t.items) c.self.view_is

pub returns-clause-after : goal.returns-clause-after
returns-clause-after c =
    let p = holds_page c.args.space c.args.page in
    range_touched p c.self.inside.cache c.touch_holding.new.cache (c.touch_holding.ensures.moved
    ∙ key_touched c.args.space c.args.page c.key_of.result c.self.inside.cache.items c.requires.space_in c.requires.page_in c.key_of.ensures c.self.invariant) c.touch_holding.ensures.width ∙ ap (with_touch p) c.self.view_is

pub invariant_of-self : goal.invariant_of-self
invariant_of-self c = touched_within (item_at c.key_of.result) c.self.inside.cache.items c.touch_holding.new.cache.items c.self.invariant c.touch_holding.ensures.moved

pub invariant_of-self-2 : goal.invariant_of-self-2
invariant_of-self-2 c = touched_within (item_at c.key_of.result) c.self.inside.cache.items c.touch_holding.new.cache.items c.self.invariant c.touch_holding.ensures.moved
