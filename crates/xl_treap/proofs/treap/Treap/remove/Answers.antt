use Rattle.xl_treap.proofs.Common.{◌++◌, ◌∙◌, ◌∷◌, ◌≡◌, [], ap, arith, has_key, IsTaken, keeping, key_at, length, List, list_any, ranges, subst, sym, TreapState, tree_at, true, with_items, with_items_is, without_range, ℕ}
use Rattle.xl_treap.proofs.KeptLemmas.{held-less, Holds, kept-after, seen-after}
use Rattle.xl_treap.proofs.TakeLemmas.{has-held, held-small, without-length}
use Rattle.xl_treap.proofs.treap.Treap.remove.Goals as goal

pub key_of-key-requires : goal.key_of-key-requires
key_of-key-requires c =
    let s = c.self.inside in
    let t = tree_at (length s.path.items) s.words.items s.root in
    let k = key_at c.args.space c.args.start in
    held-small k (ranges t) c.self.invariant.0.placed.apart (subst (λ (v : TreapState). list_any (has_key k) v.seen.kept ≡ true) (sym c.self.view_is) c.requires)

pub invariant_of-self : goal.invariant_of-self
invariant_of-self c =
    let s = c.self.inside in
    let n = length s.path.items in
    let t = tree_at n s.words.items s.root in
    let k = key_at c.args.space c.args.start in
    let N = c.take_out-taken.new.words in
    let r = c.take_out-taken.result in
    let held = has-held k (ranges t) (subst (λ (v : TreapState). list_any (has_key k) v.seen.kept ≡ true) (sym c.self.view_is) c.requires) in
    let W : List ℕ → Type 0 = λ ws. IsTaken ws N (tree_at n ws s.root) c.key_of-key.result r.root r.node in
    let P : List ℕ → Type 0 = λ ps. IsTaken c.deref_mut.result.now N (tree_at (length ps) c.deref_mut.result.now s.root) c.key_of-key.result r.root r.node in
    let taken = subst (λ (z : ℕ). IsTaken s.words.items N t z r.root r.node) c.key_of-key.ensures (subst W c.deref_mut.ensures.value (subst P c.deref_mut-2.ensures.value c.take_out-taken.ensures)) in
    let h = held-less s.words.items N s.root r.root n r.node s.free.items t (without_range k (ranges t)) c.self.invariant.0 taken.made (without-length k (ranges t) held) taken.free taken.was in
    let words : (with_items s.words N).items ≡ N = with_items_is s.words N (taken.made.len ∙ sym s.words.ok.0) in
    let path-len : length c.take_out-taken.new.path ≡ n = c.take_out-taken.auto.path ∙ ap length c.deref_mut-2.ensures.value in
    let path : length (with_items s.path c.take_out-taken.new.path).items ≡ n = ap length (with_items_is s.path c.take_out-taken.new.path (path-len ∙ sym s.path.ok.0)) ∙ path-len in
    let F : List ℕ → Type 0 = λ fs. Holds N r.root n fs (without_range k (ranges t)) in
    kept-after N _ r.root n _ _ c.push.new.self.items (without_range k (ranges t)) words path (subst F (sym c.in-Ok.ensures.items) h) c.self.invariant.1 (let a = c.in-Ok.ensures.capacity in let l = c.self.invariant.2 in omega arith)

pub returns : goal.returns
returns c =
    let s = c.self.inside in
    let n = length s.path.items in
    let t = tree_at n s.words.items s.root in
    let k = key_at c.args.space c.args.start in
    let N = c.take_out-taken.new.words in
    let r = c.take_out-taken.result in
    let held = has-held k (ranges t) (subst (λ (v : TreapState). list_any (has_key k) v.seen.kept ≡ true) (sym c.self.view_is) c.requires) in
    let W : List ℕ → Type 0 = λ ws. IsTaken ws N (tree_at n ws s.root) c.key_of-key.result r.root r.node in
    let P : List ℕ → Type 0 = λ ps. IsTaken c.deref_mut.result.now N (tree_at (length ps) c.deref_mut.result.now s.root) c.key_of-key.result r.root r.node in
    let taken = subst (λ (z : ℕ). IsTaken s.words.items N t z r.root r.node) c.key_of-key.ensures (subst W c.deref_mut.ensures.value (subst P c.deref_mut-2.ensures.value c.take_out-taken.ensures)) in
    let h = held-less s.words.items N s.root r.root n r.node s.free.items t (without_range k (ranges t)) c.self.invariant.0 taken.made (without-length k (ranges t) held) taken.free taken.was in
    let words : (with_items s.words N).items ≡ N = with_items_is s.words N (taken.made.len ∙ sym s.words.ok.0) in
    let path-len : length c.take_out-taken.new.path ≡ n = c.take_out-taken.auto.path ∙ ap length c.deref_mut-2.ensures.value in
    let path : length (with_items s.path c.take_out-taken.new.path).items ≡ n = ap length (with_items_is s.path c.take_out-taken.new.path (path-len ∙ sym s.path.ok.0)) ∙ path-len in
    seen-after N _ r.root n _ s.loads (s.free.items ++ r.node ∷ []) (without_range k (ranges t)) words path h ∙ ap (λ (v : TreapState). keeping v.seen (without_range k v.seen.kept)) c.self.view_is
