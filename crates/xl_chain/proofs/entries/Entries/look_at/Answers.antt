use Rattle.xl_chain.proofs.Common.{◌∙◌, ◌≡◌, ap, ChainState, found_by, found_of, held_with, IsPlace, Leads, List, place_at, slice_index, Some, subst, sym, ℕ}
use Rattle.xl_chain.proofs.SpotLemmas.{found-at, leads-at}
use Rattle.xl_chain.proofs.entries.Entries.look_at.Goals as goal

pub found_from-requires-clause-leads : goal.found_from-requires-clause-leads
found_from-requires-clause-leads g c =
    let s = c.self.inside in
    let k = subst (λ (v : ChainState). IsPlace v c.args.place) (sym c.self.view_is) c.requires in
    subst (λ (ws : List ℕ). Leads s.shape ws c.args.place) (sym c.deref.ensures.value) (leads-at s.shape s.words.items s.free.items k.tag c.args.place c.self.invariant.0 k.is)

pub returns : goal.returns
returns g c =
    let s = c.self.inside in
    let R : ChainState → Type 0 = λ v. (t : ℕ) → place_at v t ≡ Some c.args.place → c.found_from.result ≡ found_of (held_with t v.held) in
    subst R c.self.view_is (λ t k. c.found_from.ensures ∙ ap (λ ws. found_by s.shape ws (slice_index ws c.args.place)) c.deref.ensures.value
    ∙ found-at s.shape s.words.items s.free.items t c.args.place c.self.invariant.0 k)
