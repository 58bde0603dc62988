use Rattle.xl_treap.proofs.Common.{◌∙◌, ◌≡◌, ap, has_key, IsResized, keeping, key_at, length, List, list_any, ranges, resized, subst, sym, TreapState, tree_at, true, with_items, with_items_is, ℕ}
use Rattle.xl_treap.proofs.KeptLemmas.{held-same, kept-after, resized-length, seen-after}
use Rattle.xl_treap.proofs.TakeLemmas.{held-small}
use Rattle.xl_treap.proofs.treap.Treap.resize.Goals as goal

pub key_of-key-requires : goal.key_of-key-requires
key_of-key-requires c =
    let s = c.self.inside in
    let t = tree_at (length s.path.items) s.words.items s.root in
    let k = key_at c.args.space c.args.start in
    held-small k (ranges t) c.self.invariant.0.placed.apart (subst (λ (v : TreapState). list_any (has_key k) v.seen.kept ≡ true) (sym c.self.view_is) c.requires.held)

pub invariant_of-self : goal.invariant_of-self
invariant_of-self c =
    let s = c.self.inside in
    let n = length s.path.items in
    let t = tree_at n s.words.items s.root in
    let k = key_at c.args.space c.args.start in
    let p = c.args.pages in
    let N = c.give_pages.new.words in
    let W : List ℕ → Type 0 = λ ws. IsResized ws N (tree_at n ws s.root) s.root c.key_of-key.result p in
    let P : List ℕ → Type 0 = λ ps. IsResized c.deref_mut.result.now N (tree_at (length ps) c.deref_mut.result.now s.root) s.root c.key_of-key.result p in
    let done = subst (λ (z : ℕ). IsResized s.words.items N t s.root z p) c.key_of-key.ensures (subst W c.deref_mut.ensures.value (subst P c.deref_mut-2.ensures.value c.give_pages.ensures)) in
    let h = held-same s.words.items N s.root s.root n done.node s.free.items t (resized k p (ranges t)) c.self.invariant.0 done.made (resized-length k p (ranges t)) done.was in
    let words : (with_items s.words N).items ≡ N = with_items_is s.words N (done.made.len ∙ sym s.words.ok.0) in
    let path-len : length c.give_pages.new.path ≡ n = c.give_pages.auto.path ∙ ap length c.deref_mut-2.ensures.value in
    let path : length (with_items s.path c.give_pages.new.path).items ≡ n = ap length (with_items_is s.path c.give_pages.new.path (path-len ∙ sym s.path.ok.0)) ∙ path-len in
    kept-after N _ s.root n _ _ s.free.items (resized k p (ranges t)) words path h c.self.invariant.1 c.self.invariant.2

pub returns : goal.returns
returns c =
    let s = c.self.inside in
    let n = length s.path.items in
    let t = tree_at n s.words.items s.root in
    let k = key_at c.args.space c.args.start in
    let p = c.args.pages in
    let N = c.give_pages.new.words in
    let W : List ℕ → Type 0 = λ ws. IsResized ws N (tree_at n ws s.root) s.root c.key_of-key.result p in
    let P : List ℕ → Type 0 = λ ps. IsResized c.deref_mut.result.now N (tree_at (length ps) c.deref_mut.result.now s.root) s.root c.key_of-key.result p in
    let done = subst (λ (z : ℕ). IsResized s.words.items N t s.root z p) c.key_of-key.ensures (subst W c.deref_mut.ensures.value (subst P c.deref_mut-2.ensures.value c.give_pages.ensures)) in
    let h = held-same s.words.items N s.root s.root n done.node s.free.items t (resized k p (ranges t)) c.self.invariant.0 done.made (resized-length k p (ranges t)) done.was in
    let words : (with_items s.words N).items ≡ N = with_items_is s.words N (done.made.len ∙ sym s.words.ok.0) in
    let path-len : length c.give_pages.new.path ≡ n = c.give_pages.auto.path ∙ ap length c.deref_mut-2.ensures.value in
    let path : length (with_items s.path c.give_pages.new.path).items ≡ n = ap length (with_items_is s.path c.give_pages.new.path (path-len ∙ sym s.path.ok.0)) ∙ path-len in
    seen-after N _ s.root n _ s.loads s.free.items (resized k p (ranges t)) words path h ∙ ap (λ (v : TreapState). keeping v.seen (resized k p v.seen.kept)) c.self.view_is
