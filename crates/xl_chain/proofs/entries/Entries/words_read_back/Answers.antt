use Rattle.xl_chain.proofs.Common.{◌≡◌, AreSingle, ChainState, has_tag, is_some, place_at, subst, tags_of, WordsReadBack, ℕ}
use Rattle.xl_chain.proofs.LineLemmas.{held-single, read-back}
use Rattle.xl_chain.proofs.SpotLemmas.{placed-held}
use Rattle.xl_chain.proofs.entries.Entries.words_read_back.Goals as goal

pub returns : goal.returns
returns g c =
    let s = c.self.inside in
    record {
      words = subst (λ (v : ChainState). WordsReadBack v) c.self.view_is (read-back s.shape s.words.items s.free.items s.loads c.self.invariant.0);
      single = subst (λ (v : ChainState). AreSingle v.held) c.self.view_is (held-single s.shape s.words.items s.free.items c.self.invariant.0);
      places = subst (λ (v : ChainState). (t : ℕ) → is_some (place_at v t) ≡ has_tag (tags_of v.held) t) c.self.view_is (λ t. placed-held s.shape s.words.items s.free.items t c.self.invariant.0);
    }
