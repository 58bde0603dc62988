use Rattle.xl_treap.proofs.Common.{length, subst, TreapState, WordsReadBack}
use Rattle.xl_treap.proofs.BackLemmas.{read-back}
use Rattle.xl_treap.proofs.treap.Treap.words_read_back.Goals as goal

pub returns : goal.returns
returns c =
    let s = c.self.inside in
    subst (λ (v : TreapState). WordsReadBack v) c.self.view_is (read-back s.words.items s.root (length s.path.items) s.loads s.free.items c.self.invariant.0)
