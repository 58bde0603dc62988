use Rattle.xl_chain.proofs.Common.{◌∙◌, ◌≡◌, known, lit<, moved, Option, subst, ℕ}
use Rattle.xl_chain.proofs.IndexLemmas.{index-more, still-held}
use Rattle.xl_chain.proofs.places.insert_placed.Goals as goal

pub insert-requires-2 : goal.insert-requires-2
insert-requires-2 g c =
    let a = c.args in
    let same = still-held a.entries.now a.places.now c.set_place.new.places c.tag_led-first.result c.in_ok-next.next a.tag c.requires.index c.words_read_back.ensures.places c.set_place.ensures.known in
    (lit< tt, (lit< tt, same ∙ c.requires.absent))

pub returns-clause-index : goal.returns-clause-index
returns-clause-index g c =
    let a = c.args in
    let same = still-held a.entries.now a.places.now c.set_place.new.places c.tag_led-first.result c.in_ok-next.next a.tag c.requires.index c.words_read_back.ensures.places c.set_place.ensures.known in
    let T : Option ℕ → Type 0 = λ o. (t : ℕ) → known c.set_place.new.places t ≡ moved o c.in_ok-next.next (known a.places.now) t in
    index-more a.entries.now c.insert.new.self a.places.now c.set_place.new.places c.insert-2.new.self a.tag c.in_ok-next.next c.head-head.result a.values
    c.requires.index c.in_ok-next.ensures.ok c.in_ok-next.ensures.places c.head-head.ensures.is (subst T c.tag_led-first.ensures c.set_place.ensures.known) c.set_place.ensures.count c.set_place.ensures.shape
    (same ∙ c.requires.absent) c.in-Ok.ensures.ok
