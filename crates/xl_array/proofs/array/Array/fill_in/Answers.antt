use Rattle.xl_array.proofs.Common.{◌<◌, ◌∙◌, ◌≡◌, ap, length, map, refl, subst, sym, true}
unfoldable use Rattle.xl_model.specs.Tlb.{array_filled}
use Rattle.xl_array.specs.Touches.{IsFrontHit}
use Rattle.xl_recency.specs.declared.item.Item.{Item}
use Rattle.xl_model.specs.LeafWords.{leaf_with}
use Rattle.xl_array.specs.Coding.{leaves_of}
use Rattle.xl_model.specs.declared.address.Order.{Order}
use Rattle.xl_model.specs.Tlb.{set_number, takes_order}
use Rattle.xl_array.proofs.FillLemmas.{fill_kept, filled, hit_back, hit_set}
use Rattle.xl_array.proofs.TouchLemmas.{fill_front}
use Rattle.xl_array.proofs.HeldLemmas.{filled-held}
use Rattle.xl_array.proofs.LookLemmas.{array_of}
use Rattle.xl_array.proofs.SetLemmas.{below_sets}
use Rattle.xl_array.proofs.array.Array.fill_in.Goals as goal

pub invariant_of-self : goal.invariant_of-self
invariant_of-self g c =
    let spec = c.self.inside.spec in
    let s = c.args.lookup in
    let o = c.args._order in
    let item : Item = record { tag = s.tag; word = c.args.word } in
    let set_is : c.args.set ≡ set_number spec o s.page = rw (← c.self.view_is) at c.requires.set_is in
    fill_kept spec c.self.inside.sets c.fill-left.new.self g.row.W (leaf_with s.space s.page o c.args.word) item
    (hit_back s.space s.page c.args.word o c.requires.lookup.space_in item c.requires.lookup.tagged refl) c.self.invariant
    (rw (set_is ∙ hit_set spec s.page o, ← c.self.invariant.same_width) at c.fill-left.ensures.list)

pub returns : goal.returns
returns g c =
    let spec = c.self.inside.spec in
    let sets = c.self.inside.sets in
    let new = c.fill-left.new.self in
    let s = c.args.lookup in
    let o = c.args._order in
    let word = c.args.word in
    let item : Item = record { tag = s.tag; word = word } in
    let set_is : c.args.set ≡ set_number spec o s.page = rw (← c.self.view_is) at c.requires.set_is in
    let takes : takes_order spec o ≡ true = rw (← c.self.view_is) at c.requires.takes in
    let is : array_of spec new ≡ array_filled (leaf_with s.space s.page o word) (array_of spec sets) = filled spec sets new (leaf_with s.space s.page o word) item
    (hit_back s.space s.page word o c.requires.lookup.space_in item c.requires.lookup.tagged refl) takes
    (rw (set_is ∙ hit_set spec s.page o, ← c.self.invariant.same_width) at c.fill-left.ensures.list) in
    let below : c.args.set < spec.sets = below_sets spec o s.page c.args.set c.self.invariant.some set_is in
    let within : set_number spec o s.page < length (map leaves_of sets) = rw (← set_is, c.self.invariant.count) below in
    rw (← c.self.view_is) (record {
      array = is;
      held = rw c.is_some.ensures (filled-held sets new c.args.set g.row.W item c.fill-left.result (rw c.self.invariant.count below) c.fill-left.ensures.list c.fill-left.ensures.left);
      front = λ small.
          let of_4k = λ (x : Order). array_filled (leaf_with s.space s.page x word) (array_of spec sets) in
          subst (IsFrontHit s.space s.page word) (sym (is ∙ ap of_4k small))
          (fill_front s.space s.page word (array_of spec sets) (rw small at within) (rw c.self.invariant.same_width c.self.invariant.some_ways) (rw small at takes));
    })
