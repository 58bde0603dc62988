use Rattle.xl_areas.proofs.Common.{◌++◌, ◌+◌, ◌<◌, ◌∙◌, ◌∷◌, ◌≡◌, [], ap, Area, AreRising, arith, cond, cut_at, is_ok, IsIndex, key_at, length, length-map, List, map, None, subst, sym, with_items_is, with_later}
use Rattle.std.specs.Vec.{with_items}
use Rattle.xl_areas.proofs.CutLemmas.{cut-length, cut-rises}
use Rattle.xl_areas.proofs.IndexLemmas.{more-index}
use Rattle.xl_areas.proofs.areas.Areas.declare.Goals as goal

pub cut-requires-2-clause-rising : goal.cut-requires-2-clause-rising
cut-requires-2-clause-rising c = subst (AreRising 0) (sym c.cut.ensures.cut) (cut-rises 0 c.key_of.result None c.self.inside.bounds.items c.self.invariant.index.rising (omega arith))

pub cut-requires-2-clause-room : goal.cut-requires-2-clause-room
cut-requires-2-clause-room c =
    let few : length c.self.inside.areas.items < 256 = subst (λ (xs : List Area). length xs < 256) (sym c.self.view_is) c.requires in
    omega (arith, few, ap length c.cut.ensures.cut, cut-length c.key_of.result None c.self.inside.bounds.items, c.self.invariant.index.two, c.self.invariant.more, c.cut.ensures.room)

pub invariant_of-self : goal.invariant_of-self
invariant_of-self c =
    let area = c.args.area in
    let areas = c.self.inside.areas.items in
    let bounds = c.self.inside.bounds.items in
    let first = key_at area.space area.page in
    let end = first + area.pages in
    let one : c.cut.new.bounds.items ≡ cut_at first None bounds = c.cut.ensures.cut ∙ ap (λ k. cut_at k None bounds) c.key_of.ensures.value in
    let two : c.cut-2.new.bounds.items ≡ cut_at end None (cut_at first None bounds) =
    c.cut-2.ensures.cut ∙ ap (λ k. cut_at k None c.cut.new.bounds.items) c.end_of.ensures.value ∙ ap (cut_at end None) one in
    let later : c.add_later.new.bounds ≡ map (with_later area) (cut_at end None (cut_at first None bounds)) = c.add_later.ensures ∙ ap (map (with_later area)) (c.deref_mut.ensures.value ∙ two) in
    let pushed : c.push.new.self.items ≡ areas ++ area ∷ [] = subst (λ r. c.push.new.self.items ≡ cond (is_ok r) (areas ++ area ∷ []) areas) c.unwrap.ensures c.push.ensures.items in
    let size : length c.add_later.new.bounds ≡ c.cut-2.new.bounds.len =
    ap length c.add_later.ensures ∙ length-map c.deref_mut.result.now (with_later area) ∙ ap length c.deref_mut.ensures.value ∙ sym c.cut-2.new.bounds.ok.0 in
    let kept : (with_items c.cut-2.new.bounds c.add_later.new.bounds).items ≡ c.add_later.new.bounds = with_items_is c.cut-2.new.bounds c.add_later.new.bounds size in
    record {
      index = subst (IsIndex c.push.new.self.items) (sym (kept ∙ later))
          (subst (λ xs. IsIndex xs (map (with_later area) (cut_at end None (cut_at first None bounds)))) (sym pushed) (more-index area areas bounds c.end_of.ensures.placed c.self.invariant.index));
      room = omega (arith, c.self.invariant.room, c.push.ensures.capacity);
      more = omega (arith, c.self.invariant.more, c.cut.ensures.room, c.cut-2.ensures.room);
    }
