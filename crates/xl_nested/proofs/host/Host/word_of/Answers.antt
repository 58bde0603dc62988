use Rattle.xl_nested.proofs.Common.{◌∙◌, ◌≡◌, ap, Cached, covers_guest, find, host_of, host_page, Leaf, None, touched-none, translated}
use Rattle.xl_nested.proofs.CacheLemmas.{found-none, hit-after, untouched-as}
use Rattle.xl_nested.proofs.HostLemmas.{cached-word, touched-kept}
use Rattle.xl_nested.proofs.host.Host.word_of.Goals as goal

pub invariant_of-self : goal.invariant_of-self
invariant_of-self c = touched-kept c.self.invariant (covers_guest c.args.guest_page) c.touch.new.self c.touch.ensures.moved

pub invariant_of-self-in-None : goal.invariant_of-self-in-None
invariant_of-self-in-None c = touched-kept c.self.invariant (covers_guest c.args.guest_page) c.touch.new.self c.touch.ensures.moved

pub walk-requires-clause-missed : goal.walk-requires-clause-missed
walk-requires-clause-missed c =
    let none : find (covers_guest c.args.guest_page) c.self.inside.cache.items ≡ None = found-none (host_page c.args.guest_page) _ c.in-None.ensures.found in
    rw (c.touch.ensures.moved ∙ touched-none (covers_guest c.args.guest_page) c.self.inside.cache.items none) none

pub returns-in-Some-clause-word : goal.returns-in-Some-clause-word
returns-in-Some-clause-word c = rw (← c.self.view_is) (cached-word c.self.invariant c.args.guest_page c.in-Some.word c.in-Some.ensures.found)

pub returns-in-Some-clause-after : goal.returns-in-Some-clause-after
returns-in-Some-clause-after c =
    rw (← c.self.view_is) (hit-after c.args.guest_page c.in-Some.word c.count_hit.new.hits c.self.inside.hits c.self.inside.stage c.self.inside.frames c.touch.new.self c.self.inside.cache c.in-Some.ensures.found
    c.touch.ensures.width c.touch.ensures.moved c.count_hit.ensures)

pub returns-in-None-clause-after : goal.returns-in-None-clause-after
returns-in-None-clause-after c =
    let none : find (covers_guest c.args.guest_page) c.self.inside.cache.items ≡ None = found-none (host_page c.args.guest_page) _ c.in-None.ensures.found in
    let same : c.touch.new.self ≡ c.self.inside.cache = untouched-as (covers_guest c.args.guest_page) c.touch.new.self c.self.inside.cache c.touch.ensures.width c.touch.ensures.moved none in
    rw (← c.self.view_is) (c.walk.ensures.after ∙ ap (λ (k : Cached Leaf). translated c.args.guest_page (host_of c.self.inside.stage c.self.inside.frames k c.self.inside.hits)) same)
