use Rattle.xl_cuckoo.proofs.Common.{◌∙◌, ◌≡◌, ap, changed_by, CuckooState, displaced, IsTable, length-map, List, map, shapes, subst, sym, WayShape, WayState, with_items, with_word}
use Rattle.xl_cuckoo.proofs.KeyLemmas.{once-reworded}
use Rattle.xl_cuckoo.proofs.LoopLemmas.{shapes-map}
use Rattle.xl_cuckoo.proofs.TableLemmas.{changed-state, items-back, state_of, table-with}
use Rattle.xl_cuckoo.proofs.cuckoo.Cuckoo.set_word.Goals as goal

pub invariant_of-self : goal.invariant_of-self
invariant_of-self g c =
    let s = c.self.inside in
    let f : WayShape → WayShape = with_word c.args.key c.args.word in
    let ws : List WayState = s.ways.items in
    let items : (with_items s.ways c.set_word.new.ways).items ≡ map (changed_by f) ws =
    items-back s.ways c.set_word.new.ways (map (changed_by f) ws) (c.set_word.ensures ∙ ap (map (changed_by f)) c.deref_mut.ensures.value) (length-map ws (changed_by f)) in
    subst (λ (vs : List WayShape). IsTable g.row.D s.rules.threshold s.rules.kick_limit vs) (sym (ap shapes items ∙ shapes-map f ws))
    (table-with g.row.D s.rules.threshold s.rules.kick_limit (shapes ws) (map f (shapes ws)) c.self.invariant (length-map (shapes ws) f) (once-reworded c.args.key c.args.word (shapes ws) c.self.invariant.once))

pub returns : goal.returns
returns g c =
    let s = c.self.inside in
    let f : WayShape → WayShape = with_word c.args.key c.args.word in
    let ws : List WayState = s.ways.items in
    let items : (with_items s.ways c.set_word.new.ways).items ≡ map (changed_by f) ws =
    items-back s.ways c.set_word.new.ways (map (changed_by f) ws) (c.set_word.ensures ∙ ap (map (changed_by f)) c.deref_mut.ensures.value) (length-map ws (changed_by f)) in
    ap (λ (vs : List WayState). state_of s.rules.threshold s.rules.kick_limit s.rules.migrate vs (map displaced s.moved.items) s.loads) items
    ∙ changed-state s.rules.threshold s.rules.kick_limit s.rules.migrate ws (map displaced s.moved.items) s.loads f
    ∙ ap (λ (t : CuckooState). record t { ways = map f t.ways }) c.self.view_is
