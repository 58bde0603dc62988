use Rattle.xl_chain.proofs.Common.{◌∙◌, ap, arith, found_of, held_with, In-any, is_entry, known, lit<, moved, nat_tests, place_found, sym}
use Rattle.xl_chain.proofs.IndexLemmas.{found-entry, known-set}
use Rattle.xl_chain.proofs.places.set_place.Goals as goal

pub set_value-requires : goal.set_value-requires
set_value-requires c =
    let hs = c.args.places.now.held in
    let h = found-entry c.in-Some.tag c.in-Found.entry c.in-Found.value hs (sym c.look.ensures ∙ c.in-Found.is) in
    let is = h.3 in
    (lit< tt, (In-any (is_entry c.in-Found.entry) h.0 hs h.1 (grind (arith, nat_tests)), lit< tt))

pub returns-in-Found-clause-known : goal.returns-in-Found-clause-known
returns-in-Found-clause-known c = λ t.
    let old = c.args.places.now in
    ap (λ hs. place_found (found_of (held_with t hs))) c.set_value.ensures.held
    ∙ known-set old c.in-Some.tag c.in-Found.entry c.in-Found.value c.args.place t c.words_read_back.ensures.words c.words_read_back.ensures.single (sym c.look.ensures ∙ c.in-Found.is)
    ∙ ap (λ o. moved o c.args.place (known old) t) (sym c.in-Some.is)
