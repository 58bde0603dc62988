use Rattle.xl_array.proofs.Common.{◌<◌, ◌≡◌, set_number, takes_order, true}
use Rattle.xl_array.proofs.LookLemmas.{look_found, look_moved, look_none, look_stays, same_array, touch_kept}
use Rattle.xl_array.proofs.SetLemmas.{below_sets}
use Rattle.xl_model.specs.declared.address.Order.TheVariants as order
use Rattle.xl_array.proofs.array.Array.touch_in.Goals as goal

pub invariant_of-self : goal.invariant_of-self
invariant_of-self g c =
    let s = c.args.lookup in
    let below : c.args.set < c.self.inside.spec.sets = below_sets c.self.inside.spec order.K4 s.page c.args.set c.self.invariant.some (rw (← c.self.view_is) at c.requires.set_is) in
    touch_kept c.self.inside.spec c.self.inside.sets c.touch.new.self g.row.W c.args.set s.space s.page order.K4 c.requires.lookup.space_in
    c.self.invariant below (rw c.requires.lookup.tagged at c.in_default.ensures.moved)

pub invariant_of-self-2 : goal.invariant_of-self-2
invariant_of-self-2 g c =
    let s = c.args.lookup in
    let below : c.args.set < c.self.inside.spec.sets = below_sets c.self.inside.spec order.K4 s.page c.args.set c.self.invariant.some (rw (← c.self.view_is) at c.requires.set_is) in
    touch_kept c.self.inside.spec c.self.inside.sets c.touch.new.self g.row.W c.args.set s.space s.page order.K4 c.requires.lookup.space_in
    c.self.invariant below (rw c.requires.lookup.tagged at c.in-Some.ensures.moved)

pub returns-in_default : goal.returns-in_default
returns-in_default g c =
    let spec = c.self.inside.spec in
    let sets = c.self.inside.sets in
    let s = c.args.lookup in
    let o = order.K4 in
    let small = c.requires.lookup.space_in in
    let set_is : c.args.set ≡ set_number spec o s.page = rw (← c.self.view_is) at c.requires.set_is in
    let takes : takes_order spec o ≡ true = rw (← c.self.view_is) at c.requires.takes in
    let found = rw (set_is, c.requires.lookup.tagged) at c.in_default.ensures.found in
    let moved = rw (set_is, c.requires.lookup.tagged) at c.in_default.ensures.moved in
    rw (← c.self.view_is) (record {
      found = look_none spec sets s.space s.page o small takes found;
      some = tt;
      none = same_array spec sets c.touch.new.self (look_stays spec sets s.space s.page o small c.touch.new.self found moved);
    })

pub returns : goal.returns
returns g c =
    let spec = c.self.inside.spec in
    let sets = c.self.inside.sets in
    let s = c.args.lookup in
    let o = order.K4 in
    let small = c.requires.lookup.space_in in
    let set_is : c.args.set ≡ set_number spec o s.page = rw (← c.self.view_is) at c.requires.set_is in
    let takes : takes_order spec o ≡ true = rw (← c.self.view_is) at c.requires.takes in
    let found = rw (set_is, c.requires.lookup.tagged) at c.in-Some.ensures.found in
    let moved = rw (set_is, c.requires.lookup.tagged) at c.in-Some.ensures.moved in
    rw (← c.self.view_is) (record {
      found = look_found spec sets s.space s.page o small c.in-Some.item takes found;
      some = look_moved spec sets s.space s.page o small c.touch.new.self c.in-Some.item.word moved;
      none = tt;
    })
