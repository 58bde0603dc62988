use Rattle.xl_radix_walk.proofs.Common.{◌∙◌, ◌∷◌, ◌≡◌, above_off, ap, arith, Cached, has_tag, Item, length, None, Some, sym, tag_at, Touches, with_items, with_items_is}
use Rattle.xl_radix_walk.proofs.LowestLemmas.{looked-lowest, not-lowest}
use Rattle.xl_radix_walk.proofs.walk_caches.WalkCaches.look_lowest.Goals as goal

pub returns-in_err-item-clause-none : goal.returns-in_err-item-clause-none
returns-in_err-item-clause-none c =
    let first : Cached Item = c.in-Some.first.now in
    let new : Cached Item = c.touch_lowest.new.cache in
    let items : c.self.inside.kept.items ≡ first ∷ c.in-Some._others.now = sym c.deref_mut.ensures.value ∙ c.in-Some.ensures.cases.0 in
    let t : Touches (has_tag (tag_at c.args.space 0 c.args.page)) first.items new.items None = rw (← c.in_err-item.was) c.touch_lowest.ensures.touched in
    let w : (with_items c.self.inside.kept (new ∷ c.in-Some._others.now)).items ≡ new ∷ c.in-Some._others.now = with_items_is c.self.inside.kept (new ∷ c.in-Some._others.now) (ap length (sym items) ∙ sym c.self.inside.kept.ok.0) in
    rw (c.from_residual.ensures, w, not-lowest c.args.space c.args.page first new t c.touch_lowest.ensures.width, ← items) c.self.view_is

pub returns-clause-some : goal.returns-clause-some
returns-clause-some c =
    let first : Cached Item = c.in-Some.first.now in
    let new : Cached Item = c.touch_lowest.new.cache in
    let zero : c.self.inside.lowest ≡ 0 = omega (arith, c.if-self-gt0.false) in
    let items : c.self.inside.kept.items ≡ first ∷ c.in-Some._others.now = sym c.deref_mut.ensures.value ∙ c.in-Some.ensures.cases.0 in
    let t : Touches (has_tag (tag_at c.args.space 0 c.args.page)) first.items new.items (Some c.in_ok-item.item) = rw (← c.in_ok-item.was) c.touch_lowest.ensures.touched in
    let w : (with_items c.self.inside.kept (new ∷ c.in-Some._others.now)).items ≡ new ∷ c.in-Some._others.now = with_items_is c.self.inside.kept (new ∷ c.in-Some._others.now) (ap length (sym items) ∙ sym c.self.inside.kept.ok.0) in
    let v : above_off c.self.inside.lowest (first ∷ c.in-Some._others.now) ≡ c.args.self.now = rw (← items) c.self.view_is in
    rw (← v, w, zero) (looked-lowest c.args.space c.args.page first new c.in-Some._others.now c.in_ok-item.item c.requires.page t c.touch_lowest.ensures.width)
