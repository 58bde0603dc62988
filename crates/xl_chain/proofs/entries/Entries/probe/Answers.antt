use Rattle.xl_chain.proofs.Common.{◌∙◌, ap, AreLinked, chain_back, chain_loads, ChainState, found_of, held_with, List, loads_after, Searched, seen_in, subst, sym, ℕ}
use Rattle.xl_model.specs.Base.{plus}
use Rattle.xl_chain.proofs.FindLemmas.{search-held}
use Rattle.xl_chain.proofs.OwnLemmas.{are-linked}
use Rattle.xl_chain.proofs.entries.Entries.probe.Goals as goal

pub search-sought-requires-clause-linked : goal.search-sought-requires-clause-linked
search-sought-requires-clause-linked g c =
    let s = c.self.inside in
    subst (λ (ws : List ℕ). AreLinked s.shape ws) (sym c.deref.ensures.value) (are-linked s.shape s.words.items s.free.items c.self.invariant.0)

pub returns-clause-end : goal.returns-clause-end
returns-clause-end g c =
    let s = c.self.inside in
    c.search-sought.ensures.end ∙ ap (λ ws. chain_back ws s.shape c.args.tag) c.deref.ensures.value
    ∙ ap (λ (x : Searched). x.end) (search-held s.shape s.words.items s.free.items c.args.tag c.self.invariant.0)
    ∙ ap (λ (v : ChainState). found_of (held_with c.args.tag v.held)) c.self.view_is

pub returns-clause-after : goal.returns-clause-after
returns-clause-after g c =
    let s = c.self.inside in
    ap (λ (n : ℕ). seen_in s.shape s.words.items (plus s.loads n)) (
    c.search-sought.ensures.loads ∙ ap (λ ws. chain_loads ws s.shape c.args.tag) c.deref.ensures.value
    ∙ ap (λ (x : Searched). x.loads) (search-held s.shape s.words.items s.free.items c.args.tag c.self.invariant.0)
    ) ∙ ap (λ (v : ChainState). record v { loads = loads_after c.args.tag v }) c.self.view_is
