use Rattle.xl_chain.proofs.Common.{◌∙◌, ◌≡◌, known, lit<, moved, Option, place_at, Some, subst, sym, ℕ}
use Rattle.xl_chain.proofs.IndexLemmas.{index-less, still-held}
use Rattle.xl_chain.proofs.places.remove_placed.Goals as goal

pub remove-requires : goal.remove-requires
remove-requires g c =
    let a = c.args in
    let same = still-held a.entries.now a.places.now c.set_place.new.places c.tag_led-following.result c.in-Some.place a.tag c.requires.index c.words_read_back.ensures.places c.set_place.ensures.known in
    (lit< tt, same ∙ c.requires.held)

pub returns-clause-index : goal.returns-clause-index
returns-clause-index g c =
    let a = c.args in
    let place : place_at a.entries.now a.tag ≡ Some c.in-Some.place = sym (c.requires.index.each a.tag) ∙ sym c.place_known.ensures ∙ c.in-Some.is in
    let T : Option ℕ → Type 0 = λ o. (t : ℕ) → known c.set_place.new.places t ≡ moved o c.in-Some.place (known a.places.now) t in
    index-less a.entries.now c.remove_at.new.self a.places.now c.set_place.new.places c.remove.new.self a.tag c.in-Some.place
    c.requires.index (c.remove_at.ensures.taken a.tag place) c.remove_at.ensures.fewer c.remove_at.ensures.shape (subst T c.tag_led-following.ensures c.set_place.ensures.known) c.set_place.ensures.count c.set_place.ensures.shape
    c.remove.ensures.held c.remove.ensures.fewer c.remove.ensures.shape
