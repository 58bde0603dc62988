use Rattle.xl_treap.proofs.Common.{◌∙◌, ◌≡◌, ap, arith, CanPut, IsApart, IsMade, IsTreap, keeping, length, List, ranges, subst, sym, TreapState, tree_at, with_items, with_items_is, with_range, ℕ}
use Rattle.xl_treap.proofs.KeptLemmas.{can-put, held-more, kept-after, seen-after}
use Rattle.xl_treap.proofs.treap.Treap.insert.Goals as goal

pub put_in-self-inside-requires : goal.put_in-self-inside-requires
put_in-self-inside-requires c =
    let s = c.self.inside in
    let n = length s.path.items in
    let F = c.pop.new.self.items in
    let T : List ℕ → Type 0 = λ fs. IsTreap s.words.items s.root n fs (tree_at n s.words.items s.root) in
    let A : TreapState → Type 0 = λ v. IsApart 0 (with_range c.args.range v.seen.kept) in
    let can = can-put s.words.items s.root n c.in-Some.node F (tree_at n s.words.items s.root) c.args.range (subst T c.in-Some.ensures.items c.self.invariant.0) c.self.invariant.1 (subst A (sym c.self.view_is) c.requires) in
    let P : List ℕ → Type 0 = λ ps. CanPut c.deref_mut.result.now s.root (length ps) (tree_at (length ps) c.deref_mut.result.now s.root) c.in-Some.node c.args.range in
    subst P (sym c.deref_mut-in-Some.ensures.value) (subst (λ (ws : List ℕ). CanPut ws s.root n (tree_at n ws s.root) c.in-Some.node c.args.range) (sym c.deref_mut.ensures.value) can)

pub invariant_of-self-in-Some : goal.invariant_of-self-in-Some
invariant_of-self-in-Some c =
    let s = c.self.inside in
    let n = length s.path.items in
    let F = c.pop.new.self.items in
    let N = c.put_in-self-inside.new.words in
    let r = c.put_in-self-inside.result in
    let t = subst (λ (fs : List ℕ). IsTreap s.words.items s.root n fs (tree_at n s.words.items s.root)) c.in-Some.ensures.items c.self.invariant.0 in
    let W : List ℕ → Type 0 = λ ws. IsMade ws N r c.in-Some.node (with_range c.args.range (ranges (tree_at n ws s.root))) in
    let P : List ℕ → Type 0 = λ ps. IsMade c.deref_mut.result.now N r c.in-Some.node (with_range c.args.range (ranges (tree_at (length ps) c.deref_mut.result.now s.root))) in
    let made = subst W c.deref_mut.ensures.value (subst P c.deref_mut-in-Some.ensures.value c.put_in-self-inside.ensures) in
    let h = held-more s.words.items N s.root r n c.in-Some.node F (tree_at n s.words.items s.root) c.args.range t made in
    let words : (with_items s.words N).items ≡ N = with_items_is s.words N (made.len ∙ sym s.words.ok.0) in
    let path-len : length c.put_in-self-inside.new.path ≡ n = c.put_in-self-inside.auto.path ∙ ap length c.deref_mut-in-Some.ensures.value in
    let path : length (with_items s.path c.put_in-self-inside.new.path).items ≡ n = ap length (with_items_is s.path c.put_in-self-inside.new.path (path-len ∙ sym s.path.ok.0)) ∙ path-len in
    kept-after N _ r n _ _ F _ words path h c.self.invariant.1 (let k = c.pop.ensures.capacity in let l = c.self.invariant.2 in omega arith)

pub returns-in-Some-clause-ok : goal.returns-in-Some-clause-ok
returns-in-Some-clause-ok c =
    let s = c.self.inside in
    let n = length s.path.items in
    let F = c.pop.new.self.items in
    let N = c.put_in-self-inside.new.words in
    let r = c.put_in-self-inside.result in
    let t = subst (λ (fs : List ℕ). IsTreap s.words.items s.root n fs (tree_at n s.words.items s.root)) c.in-Some.ensures.items c.self.invariant.0 in
    let W : List ℕ → Type 0 = λ ws. IsMade ws N r c.in-Some.node (with_range c.args.range (ranges (tree_at n ws s.root))) in
    let P : List ℕ → Type 0 = λ ps. IsMade c.deref_mut.result.now N r c.in-Some.node (with_range c.args.range (ranges (tree_at (length ps) c.deref_mut.result.now s.root))) in
    let made = subst W c.deref_mut.ensures.value (subst P c.deref_mut-in-Some.ensures.value c.put_in-self-inside.ensures) in
    let h = held-more s.words.items N s.root r n c.in-Some.node F (tree_at n s.words.items s.root) c.args.range t made in
    let words : (with_items s.words N).items ≡ N = with_items_is s.words N (made.len ∙ sym s.words.ok.0) in
    let path-len : length c.put_in-self-inside.new.path ≡ n = c.put_in-self-inside.auto.path ∙ ap length c.deref_mut-in-Some.ensures.value in
    let path : length (with_items s.path c.put_in-self-inside.new.path).items ≡ n = ap length (with_items_is s.path c.put_in-self-inside.new.path (path-len ∙ sym s.path.ok.0)) ∙ path-len in
    seen-after N _ r n _ s.loads F _ words path h ∙ ap (λ (v : TreapState). keeping v.seen (with_range c.args.range v.seen.kept)) c.self.view_is
