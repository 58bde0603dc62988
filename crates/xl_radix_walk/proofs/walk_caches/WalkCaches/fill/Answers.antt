use Rattle.xl_radix_walk.proofs.Common.{◌+◌, ◌∙◌, ◌≡◌, above_off, ap, arith, length, sym, with_items, with_items_is}
use Rattle.xl_radix_walk.proofs.AboveLemmas.{filled-above, length-above}
use Rattle.xl_radix_walk.proofs.walk_caches.WalkCaches.fill.Goals as goal

pub fill-requires-clause-levels : goal.fill-requires-clause-levels
fill-requires-clause-levels c =
    let v : above_off c.self.inside.lowest c.deref_mut.result.now ≡ c.args.self.now = rw c.deref_mut.ensures.value c.self.view_is in
    let s : length c.args.self.now ≡ c.self.inside.lowest + length c.deref_mut.result.now = sym (ap length v) ∙ length-above c.self.inside.lowest c.deref_mut.result.now in
    let h = c.requires.levels in
    omega arith

pub returns : goal.returns
returns c =
    let n = c.self.inside.lowest in
    let ds = c.deref_mut.result.now in
    let v : above_off n ds ≡ c.args.self.now = rw c.deref_mut.ensures.value c.self.view_is in
    let w : (with_items c.self.inside.kept c.fill.new.caches).items ≡ c.fill.new.caches = with_items_is c.self.inside.kept c.fill.new.caches (c.fill.auto.caches ∙ ap length c.deref_mut.ensures.value ∙ sym c.self.inside.kept.ok.0) in
    rw (← v, w) (ap (above_off n) c.fill.ensures ∙ sym (filled-above n n 0 c.args.start c.args.least c.args.space c.args.page c.args.path.now ds (omega arith)))
