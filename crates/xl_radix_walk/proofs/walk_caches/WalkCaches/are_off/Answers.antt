use Rattle.xl_radix_walk.proofs.Common.{◌∙◌, ◌≡◌, [], above_off, sym}
use Rattle.xl_radix_walk.proofs.AboveLemmas.{are-off, none-kept}
use Rattle.xl_radix_walk.proofs.walk_caches.WalkCaches.are_off.Goals as goal

pub returns : goal.returns
returns c t =
    let none = none-kept c.self.inside.kept.len c.self.inside.kept.items c.self.inside.kept.ok.0 (sym c.is_empty.ensures ∙ t) in
    let v : above_off c.self.inside.lowest [] ≡ c.args.self.now = rw (← none) c.self.view_is in
    rw (← v) (are-off c.self.inside.lowest)
