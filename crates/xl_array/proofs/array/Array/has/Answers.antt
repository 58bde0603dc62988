use Rattle.xl_array.proofs.Common.{◌∙◌, ◌≡◌, ap, is_some, sym, takes_order, true}
use Rattle.xl_array.proofs.LookLemmas.{look_found, look_none}
use Rattle.xl_array.proofs.array.Array.has.Goals as goal

pub returns-in_default : goal.returns-in_default
returns-in_default g c =
    let takes : takes_order c.self.inside.spec c.args.order ≡ true = rw (← c.self.view_is) at (sym c.takes.ensures ∙ c.if-not-takes.false) in
    rw (← c.self.view_is) (ap is_some (look_none c.self.inside.spec c.self.inside.sets c.args.space c.args.page c.args.order c.requires.space takes
    (rw (c.set_of-set.ensures.value, c.tag_of-tag.ensures) at c.in_default.ensures)))

pub returns : goal.returns
returns g c =
    let takes : takes_order c.self.inside.spec c.args.order ≡ true = rw (← c.self.view_is) at (sym c.takes.ensures ∙ c.if-not-takes.false) in
    rw (← c.self.view_is) (ap is_some (look_found c.self.inside.spec c.self.inside.sets c.args.space c.args.page c.args.order c.requires.space _ takes
    (rw (c.set_of-set.ensures.value, c.tag_of-tag.ensures) at c.in-Some.ensures)))
