use Rattle.xl_treap.proofs.Common.{◌/◌, ◌∙◌, ap, find, holds_page, IsReached, length, List, range_of_link, range_reads, subst, TreapState, tree_at, ℕ}
use Rattle.xl_treap.proofs.BackLemmas.{reached-kept}
use Rattle.xl_treap.proofs.treap.Treap.look.Goals as goal

pub returns : goal.returns
returns c =
    let s = c.self.inside in
    let a = c.args in
    let W = s.words.items in
    let end = c.node_with-found.result in
    let R : List ℕ → Type 0 = λ ws. IsReached ws (tree_at (length ws / 4) ws s.root) c.key_of.result end in
    let reached = subst (λ (k : ℕ). IsReached W (tree_at (length W / 4) W s.root) k end) c.key_of.ensures (subst R c.deref.ensures.value c.node_with-found.ensures) in
    let read = reached-kept W s.root (length s.path.items) a.space a.page s.free.items end c.self.invariant.0 c.requires.page_in reached in
    record {
      range = c.range_of.ensures ∙ ap (λ (ws : List ℕ). range_of_link ws end.at) c.deref-2.ensures.value ∙ read.0
          ∙ ap (λ (v : TreapState). find (holds_page a.space a.page) v.seen.kept) c.self.view_is;
      loads = read.1 ∙ ap (λ (v : TreapState). range_reads v.seen.kept a.space a.page) c.self.view_is;
    }
