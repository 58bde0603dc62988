use Rattle.xl_array.proofs.Common.{◌∙◌, ◌≡◌, sym, takes_order, true}
use Rattle.xl_array.proofs.LookLemmas.{look_found, look_moved, look_none, look_stays, same_array, touch_kept}
use Rattle.xl_array.proofs.array.Array.touch.Goals as goal

pub invariant_of-self : goal.invariant_of-self
invariant_of-self g c =
    touch_kept c.self.inside.spec c.self.inside.sets c.touch_near.new.self g.row.W _ c.args.space c.args.page c.args.order c.requires.space
    c.self.invariant c.set_of-set.ensures.within (rw c.tag_of.ensures at c.in_default.ensures.moved)

pub invariant_of-self-2 : goal.invariant_of-self-2
invariant_of-self-2 g c =
    touch_kept c.self.inside.spec c.self.inside.sets c.touch_near.new.self g.row.W _ c.args.space c.args.page c.args.order c.requires.space
    c.self.invariant c.set_of-set.ensures.within (rw c.tag_of.ensures at c.in-Some.ensures.moved)

pub returns-in_default-clause-found : goal.returns-in_default-clause-found
returns-in_default-clause-found g c =
    let takes : takes_order c.self.inside.spec c.args.order ≡ true = rw (← c.self.view_is) at (sym c.takes.ensures ∙ c.if-not-takes.false) in
    let found = rw (c.set_of-set.ensures.value, c.tag_of.ensures) at c.in_default.ensures.found in
    rw (← c.self.view_is) (look_none c.self.inside.spec c.self.inside.sets c.args.space c.args.page c.args.order c.requires.space takes found)

pub returns-in_default-clause-none : goal.returns-in_default-clause-none
returns-in_default-clause-none g c =
    let found = rw (c.set_of-set.ensures.value, c.tag_of.ensures) at c.in_default.ensures.found in
    let moved = rw (c.set_of-set.ensures.value, c.tag_of.ensures) at c.in_default.ensures.moved in
    rw (← c.self.view_is) (same_array c.self.inside.spec c.self.inside.sets c.touch_near.new.self
    (look_stays c.self.inside.spec c.self.inside.sets c.args.space c.args.page c.args.order c.requires.space c.touch_near.new.self found moved))

pub returns-clause-found : goal.returns-clause-found
returns-clause-found g c =
    let takes : takes_order c.self.inside.spec c.args.order ≡ true = rw (← c.self.view_is) at (sym c.takes.ensures ∙ c.if-not-takes.false) in
    let found = rw (c.set_of-set.ensures.value, c.tag_of.ensures) at c.in-Some.ensures.found in
    rw (← c.self.view_is) (look_found c.self.inside.spec c.self.inside.sets c.args.space c.args.page c.args.order c.requires.space c.in-Some.item takes found)

pub returns-clause-some : goal.returns-clause-some
returns-clause-some g c =
    let moved = rw (c.set_of-set.ensures.value, c.tag_of.ensures) at c.in-Some.ensures.moved in
    rw (← c.self.view_is) (look_moved c.self.inside.spec c.self.inside.sets c.args.space c.args.page c.args.order c.requires.space c.touch_near.new.self c.in-Some.item.word moved)
