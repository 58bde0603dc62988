use Rattle.xl_cuckoo.proofs.Common.{◌++◌, ◌+◌, ◌∙◌, ◌∷◌, ◌≡◌, [], ap, arith, cond, List, map-append, not, opening_way, opening_ways, shapes, sym, true, WayShape, WayState, ℕ}
use Rattle.std.specs.Result.{is_ok}
use Rattle.xl_cuckoo.proofs.TableLemmas.{opening-more}
use Rattle.xl_cuckoo.proofs.cuckoo.open_ways.Goals as goal

pub ways-preserved : goal.ways-preserved
ways-preserved c =
    let ws : List WayState = c.ways.ways.items in
    let w : WayState = c.in_ok-way.way in
    let a = c.args in
    let ok : is_ok c.push.result ≡ true = c.is_err.ensures.negation ∙ ap not c.if-is_err.false in
    let items : c.push.new.self.items ≡ ws ++ w ∷ [] = c.push.ensures.items ∙ ap (λ b. cond b (ws ++ w ∷ []) ws) ok in
    ap shapes items ∙ map-append (λ (v : WayState). v.shape) ws (w ∷ [])
    ∙ ap (λ (us : List WayShape). us ++ w.shape ∷ []) c.ways.invariant
    ∙ ap (λ (v : WayShape). opening_ways a.start_bits a.cap_bits 0 c.ways.number ++ v ∷ []) c.in_ok-way.ensures.shape
    ∙ ap (λ n. opening_ways a.start_bits a.cap_bits 0 c.ways.number ++ opening_way a.start_bits a.cap_bits n ∷ []) (zero-plus c.ways.number)
    ∙ sym (opening-more a.start_bits a.cap_bits 0 c.ways.number)
  where
    zero-plus : (n : ℕ) → n ≡ 0 + n
    zero-plus n = omega arith
