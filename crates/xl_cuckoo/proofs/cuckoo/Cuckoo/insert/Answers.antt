use Rattle.xl_cuckoo.proofs.Common.{◌∙◌, ◌≡◌, AddsEntry, ap, AtCap, CuckooState, Entry, IfErr, inserted, insertion, IsTable, length, List, OnOk, refl, shapes, subst, sym, WayShape, WayState}
use Rattle.xl_cuckoo.proofs.KickLemmas.{map-length}
use Rattle.xl_cuckoo.proofs.TableLemmas.{items-back, table-with}
use Rattle.xl_cuckoo.proofs.cuckoo.Cuckoo.insert.Goals as goal

pub invariant_of-self : goal.invariant_of-self
invariant_of-self g c =
    let s = c.self.inside in
    let vs : List WayState = c.insert.new.ways in
    let same : length vs ≡ length s.ways.items = c.insert.auto.ways ∙ ap length c.deref_mut.ensures.value in
    subst (λ (us : List WayState). IsTable g.row.D s.rules.threshold s.rules.kick_limit (shapes us)) (sym (items-back s.ways vs vs refl same))
    (table-with g.row.D s.rules.threshold s.rules.kick_limit (shapes s.ways.items) (shapes vs) c.self.invariant
    (map-length (λ (w : WayState). w.shape) vs ∙ same ∙ sym (map-length (λ (w : WayState). w.shape) s.ways.items)) c.insert.ensures.once)

pub returns-clause-added : goal.returns-clause-added
returns-clause-added g c =
    let s = c.self.inside in
    let vs : List WayState = c.insert.new.ways in
    let same : length vs ≡ length s.ways.items = c.insert.auto.ways ∙ ap length c.deref_mut.ensures.value in
    let x : Entry = record { key = c.args.key; word = c.args.word } in
    subst (λ (us : List WayState). OnOk c.insert.result (AddsEntry x c.args.self.now.ways (shapes us))) (sym (items-back s.ways vs vs refl same))
    (subst (λ (us : List WayShape). OnOk c.insert.result (AddsEntry x us (shapes vs))) (ap shapes c.deref_mut.ensures.value ∙ ap (λ (t : CuckooState). t.ways) c.self.view_is) c.insert.ensures.added)

pub returns-clause-err : goal.returns-clause-err
returns-clause-err g c =
    let s = c.self.inside in
    let vs : List WayState = c.insert.new.ways in
    let same : length vs ≡ length s.ways.items = c.insert.auto.ways ∙ ap length c.deref_mut.ensures.value in
    let x : Entry = record { key = c.args.key; word = c.args.word } in
    let B : List WayState → Type 0 = λ us. IfErr c.insert.result (λ e. insertion s.rules.kick_limit s.rules.migrate s.rules.threshold (shapes us) x ≡ AtCap (shapes vs) e.moves) in
    let T : CuckooState → Type 0 = λ t. IfErr c.insert.result (λ e. inserted t x ≡ AtCap (shapes vs) e.moves) in
    let N : List WayState → Type 0 = λ us. IfErr c.insert.result (λ e. inserted c.args.self.now x ≡ AtCap (shapes us) e.moves) in
    subst N (sym (items-back s.ways vs vs refl same)) (subst T c.self.view_is (subst B c.deref_mut.ensures.value c.insert.ensures.err))
