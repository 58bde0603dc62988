use Rattle.xl_nested.proofs.Common.{◌∙◌, ◌≡◌, ap, Bool, false, in_order}
use Rattle.xl_nested.proofs.FrontLemmas.{found-page, hit, kept-fronts, missed, unknown-straight}
use Rattle.xl_nested.proofs.front_cache.touch_list.Goals as goal

pub word_at-requires-clause-within : goal.word_at-requires-clause-within
word_at-requires-clause-within c = found-page c.args.guest_page c.in-Some.block c.args.cache.now.items c.in-Some.ensures.found

pub returns-in_default-clause-touched : goal.returns-in_default-clause-touched
returns-in_default-clause-touched c =
    let straight : c.args.fronts.now.swapped ≡ false = unknown-straight c.args.fronts.now c.args.cache.now.items c.requires.fronts c.requires.none in
    missed c.args.guest_page c.args.fronts.now c.args.fronts.now c.args.cache.now.items c.args.cache.now.items c.touch.new.self.items (ap (λ (s : Bool). in_order s c.args.cache.now.items) straight) straight c.touch.ensures.moved
    c.requires.fronts c.in_default.ensures.found

pub returns-clause-touched : goal.returns-clause-touched
returns-clause-touched c =
    let straight : c.args.fronts.now.swapped ≡ false = unknown-straight c.args.fronts.now c.args.cache.now.items c.requires.fronts c.requires.none in
    hit c.args.guest_page c.args.fronts.now c.keep_large.new.fronts c.args.cache.now.items c.args.cache.now.items c.touch.new.self.items (ap (λ (s : Bool). in_order s c.args.cache.now.items) straight)
    (c.keep_large.ensures.swapped_is ∙ straight) c.touch.ensures.moved c.in-Some.block c.word_at.result c.in-Some.ensures.found c.word_at.ensures.word c.word_at.ensures.small
    (kept-fronts c.args.guest_page c.in-Some.block c.args.fronts.now c.keep_large.new.fronts c.args.cache.now.items c.touch.new.self.items c.requires.fronts c.in-Some.ensures.small c.in-Some.ensures.found c.touch.ensures.moved
    c.requires.none c.keep_large.ensures)
