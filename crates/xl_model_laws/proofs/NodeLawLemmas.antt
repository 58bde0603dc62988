-- The nodes with numbers are exactly those that the mapping needs, at every change.
use Rattle.xl_model_laws.proofs.Common.{◌++◌, ◌+◌, ◌-◌, ◌<◌, ◌==◌, ◌||◌, ◌∙◌, ◌∷◌, ◌≡◌, ◌≤◌, ◌⊎◌, [], any-In, ap, AreNumbered, arith, Bool, brought, Change, changed, cond, false, in_nodes, inl, inr, is_below, is_needed, is_under, IsNodeOf, kept_node, Leaf, level_of, List, list_any, map, nat_tests, Node, None, number_of, only_needed, opening_nodes, Option, position_from, put_first, refl, replicate, root_of, roots, slice_index_or, Some, subst, suc, sym, true, unless_there, up, with_leaf_nodes, with_node, with_path, zero, ℕ}
use Rattle.xl_model_laws.proofs.FreshNodeLemmas.{full-after, HasPath, node-by, NodesFull, wide, wide-at}
use Rattle.xl_model_laws.proofs.NumberLemmas.{is-new, kept-at, position-none}

-- a node at a number, and the tests that it passes
pub at-any : (p : Option Node → Bool) (x : Node) (nodes : List (Option Node)) (n : ℕ) → slice_index_or nodes n None ≡ Some x → p (Some x) ≡ true → list_any p nodes ≡ true
at-any p x [] n h t = absurd (cc)
at-any p x (y ∷ nodes) zero h t = let e : p y ≡ true = ap p h ∙ t in rw e refl
at-any p x (y ∷ nodes) (suc n) h t =
    elim (p y) as (λ b. (b || list_any p nodes) ≡ true) [ true ↦ refl | false ↦ at-any p x nodes n h t ]

pub any-at : (p : Option Node → Bool) (nodes : List (Option Node)) → list_any p nodes ≡ true → (n : ℕ) × (p (slice_index_or nodes n None) ≡ true)
any-at p [] h = absurd (cc)
any-at p (y ∷ nodes) h =
    elim (p y) as (λ b. p y ≡ b → (b || list_any p nodes) ≡ true → (n : ℕ) × (p (slice_index_or (y ∷ nodes) n None) ≡ true)) [
      | true ↦ λ t k. (0, t)
      | false ↦ λ t k. let r = any-at p nodes k in (suc r.0, r.1)
    ] refl h

pub below-is : (space l block : ℕ) (o : Option Node) → is_below space l block o ≡ true → (x : Node) × (o ≡ Some x) × (x ≡ record { space = space; level = l - 1; prefix = block }) × (x.level + 1 ≡ l)
below-is space l block None h = absurd (cc)
below-is space l block (Some x) h =
    let a : x.space ≡ space = grind (arith, nat_tests) in
    let b : x.level + 1 ≡ l = grind (arith, nat_tests) in
    let c : x.prefix ≡ block = grind (arith, nat_tests) in
    let d : x.level ≡ l - 1 = omega arith in
    (x, refl, node-by x space (l - 1) block a d c, b)

-- no node has two numbers
abbrev pub NumberedOnce : List (Option Node) → Type 0
NumberedOnce nodes = (m n : ℕ) (x : Node) → slice_index_or nodes m None ≡ Some x → slice_index_or nodes n None ≡ Some x → m ≡ n

tail-once : (y : Option Node) (nodes : List (Option Node)) → NumberedOnce (y ∷ nodes) → NumberedOnce nodes
tail-once y nodes o m n x a b = let e : suc m ≡ suc n = o (suc m) (suc n) x a b in omega arith

-- a new node at the lowest number
put-back : (x y : Node) (nodes : List (Option Node)) (n : ℕ) → slice_index_or (put_first x nodes) n None ≡ Some y → (y ≡ x) ⊎ (slice_index_or nodes n None ≡ Some y)
put-back x y [] n h = inr h
put-back x y (None ∷ nodes) zero h = inl (cc)
put-back x y (None ∷ nodes) (suc n) h = inr h
put-back x y (Some z ∷ nodes) zero h = inr h
put-back x y (Some z ∷ nodes) (suc n) h = put-back x y nodes n h

put-once : (x : Node) (nodes : List (Option Node)) → ((n : ℕ) → slice_index_or nodes n None ≡ Some x → ⊥) → NumberedOnce nodes → NumberedOnce (put_first x nodes)
put-once x [] out o m n y a b = o m n y a b
put-once x (None ∷ nodes) out o zero zero y a b = refl
put-once x (None ∷ nodes) out o zero (suc n) y a b = let e : y ≡ x = cc in absurd (out (suc n) (b ∙ ap Some e))
put-once x (None ∷ nodes) out o (suc m) zero y a b = let e : y ≡ x = cc in absurd (out (suc m) (a ∙ ap Some e))
put-once x (None ∷ nodes) out o (suc m) (suc n) y a b = o (suc m) (suc n) y a b
put-once x (Some z ∷ nodes) out o zero zero y a b = refl
put-once x (Some z ∷ nodes) out o zero (suc n) y a b = elim (put-back x y nodes n b) [
  | inl e ↦ absurd (out zero (a ∙ ap Some e))
  | inr c ↦ o zero (suc n) y a c
]
put-once x (Some z ∷ nodes) out o (suc m) zero y a b = elim (put-back x y nodes m a) [
  | inl e ↦ absurd (out zero (b ∙ ap Some e))
  | inr c ↦ o (suc m) zero y c b
]
put-once x (Some z ∷ nodes) out o (suc m) (suc n) y a b =
    ap suc (put-once x nodes (λ k h. out (suc k) h) (tail-once (Some z) nodes o) m n y a b)

with-back : (space l block : ℕ) (y : Node) (nodes : List (Option Node)) (n : ℕ) → slice_index_or (with_node space l block nodes) n None ≡ Some y
    → (y ≡ record { space = space; level = l - 1; prefix = block }) ⊎ (slice_index_or nodes n None ≡ Some y)
unfolding with_node
with-back space l block y nodes n h = go (number_of space l block nodes) h
  where
    go : (o : Option ℕ) → slice_index_or (unless_there o nodes (put_first (record { space = space; level = l - 1; prefix = block }) nodes)) n None ≡ Some y
        → (y ≡ record { space = space; level = l - 1; prefix = block }) ⊎ (slice_index_or nodes n None ≡ Some y)
    go None k = put-back (record { space = space; level = l - 1; prefix = block }) y nodes n k
    go (Some m) k = inr k

with-once : (space l block : ℕ) (nodes : List (Option Node)) → 0 < l → NumberedOnce nodes → NumberedOnce (with_node space l block nodes)
unfolding with_node number_of
with-once space l block nodes positive o = go (position_from (is_below space l block) 0 nodes) refl
  where
    new : Node
    new = record { space = space; level = l - 1; prefix = block }

    go : (q : Option ℕ) → position_from (is_below space l block) 0 nodes ≡ q
        → NumberedOnce (unless_there q nodes (put_first (record { space = space; level = l - 1; prefix = block }) nodes))
    go None e =
        put-once (record { space = space; level = l - 1; prefix = block }) nodes (λ n h.
        let t : list_any (is_below space l block) nodes ≡ true = at-any (is_below space l block) (record { space = space; level = l - 1; prefix = block }) nodes n h (is-new space l block positive) in
        let f : list_any (is_below space l block) nodes ≡ false = position-none (is_below space l block) 0 nodes e in
        let k : true ≡ false = sym t ∙ f in
        absurd (cc)) o
    go (Some m) e = o

-- the nodes of a way down
path-back : (space page l d : ℕ) (y : Node) (nodes : List (Option Node)) (n : ℕ) → slice_index_or (with_path space page l d nodes) n None ≡ Some y
    → ((k : ℕ) × (l < k) × (k ≤ l + d) × (y ≡ record { space = space; level = k - 1; prefix = up k page })) ⊎ (slice_index_or nodes n None ≡ Some y)
path-back space page l zero y nodes n h = inr h
path-back space page l (suc d) y nodes n h =
    elim (path-back space page l d y (with_node space (l + suc d) (up (l + suc d) page) nodes) n h) [
      | inl r ↦ inl (r.0, r.1, omega (arith, r.2), r.3)
      | inr k ↦ elim (with-back space (l + suc d) (up (l + suc d) page) y nodes n k) [
        | inl e ↦ inl (l + suc d, omega arith, omega arith, e)
        | inr j ↦ inr j
      ]
    ]

path-once : (space page l d : ℕ) (nodes : List (Option Node)) → NumberedOnce nodes → NumberedOnce (with_path space page l d nodes)
path-once space page l zero nodes o = o
path-once space page l (suc d) nodes o =
    path-once space page l d (with_node space (l + suc d) (up (l + suc d) page) nodes) (with-once space (l + suc d) (up (l + suc d) page) nodes (omega arith) o)

wide-back : (levels : ℕ) (leaf : Option Leaf) (y : Node) (nodes : List (Option Node)) (n : ℕ) → slice_index_or (wide levels leaf nodes) n None ≡ Some y
    → (y.level + 1 < levels) ⊎ (slice_index_or nodes n None ≡ Some y)
unfolding wide with_leaf_nodes
wide-back levels None y nodes n h = inr h
wide-back levels (Some leaf) y nodes n h =
    elim (path-back leaf.space leaf.first (level_of leaf.order) (levels - 1 - level_of leaf.order) y nodes n h) [
      | inl r ↦
          let e : y.level ≡ r.0 - 1 = ap (λ (x : Node). x.level) r.3 in
          let low : level_of leaf.order < r.0 = r.1 in
          let high : r.0 ≤ level_of leaf.order + (levels - 1 - level_of leaf.order) = r.2 in
          inl (omega arith)
      | inr k ↦ inr k
    ]

wide-once : (levels : ℕ) (leaf : Option Leaf) (nodes : List (Option Node)) → NumberedOnce nodes → NumberedOnce (wide levels leaf nodes)
unfolding wide with_leaf_nodes
wide-once levels None nodes o = o
wide-once levels (Some leaf) nodes o = path-once leaf.space leaf.first (level_of leaf.order) (levels - 1 - level_of leaf.order) nodes o

-- needed nodes alone keep their numbers
kept-back : (levels : ℕ) (leaves : List Leaf) (y : Node) (nodes : List (Option Node)) (n : ℕ) → slice_index_or (map (kept_node levels leaves) nodes) n None ≡ Some y
    → (slice_index_or nodes n None ≡ Some y) × (is_needed levels leaves y ≡ true)
kept-back levels leaves y [] n h = absurd (cc)
kept-back levels leaves y (None ∷ nodes) zero h = absurd (cc)
kept-back levels leaves y (Some z ∷ nodes) zero h =
    elim (is_needed levels leaves z) as (λ b. is_needed levels leaves z ≡ b → cond b (Some z) None ≡ Some y → (Some z ≡ Some y) × (is_needed levels leaves y ≡ true)) [
      | true ↦ λ t k. let e : z ≡ y = cc in (k, subst (λ x. is_needed levels leaves x ≡ true) e t)
      | false ↦ λ t k. absurd (cc)
    ] refl h
kept-back levels leaves y (x ∷ nodes) (suc n) h = kept-back levels leaves y nodes n h

-- a mapping needs its nodes
root-needed : (levels space : ℕ) (leaves : List Leaf) → 0 < levels → is_needed levels leaves (root_of levels space) ≡ true
root-needed levels space leaves some = let e : (levels - 1 + 1 == levels) ≡ true = grind (arith, nat_tests) in rw e refl

full-of : (levels spaces : ℕ) (leaves : List Leaf) (nodes : List (Option Node)) → AreNumbered levels spaces leaves nodes → NodesFull levels leaves nodes
unfolding in_nodes
full-of levels spaces leaves nodes a = record {
  full = λ space l block need below.
      let found = any-In (is_under space l block) leaves need in
      let under : is_under space l block found.0 ≡ true = found.2 in
      let positive : 0 < l = grind (arith, nat_tests) in
      let e : l - 1 + 1 ≡ l = omega arith in
      let x : Node = record { space = space; level = l - 1; prefix = block } in
      let has = a.there x (inr (omega arith, subst (λ k. list_any (is_under space k block) leaves ≡ true) (sym e) need)) in
      at-any (is_below space l block) x nodes has.0 has.1 (is-new space l block positive);
}

pub numbered-after : (levels spaces : ℕ) (c : Change) (leaves : List Leaf) (nodes : List (Option Node)) → 0 < levels → AreNumbered levels spaces leaves nodes
    → HasPath levels (brought c leaves) nodes
    → AreNumbered levels spaces (changed c leaves) (only_needed levels (changed c leaves) (wide levels (brought c leaves) nodes))
unfolding only_needed
numbered-after levels spaces c leaves nodes some a room = record {
  roots = rooted;
  there = λ x is. elim is [
    | inl r ↦ (r.0, rooted r.0 r.1 ∙ ap Some (sym r.2))
    | inr n ↦ below x n.0 n.1
  ];
  only = λ n x h.
      let k = kept-back levels after x ws n h in
      one x k.1 (elim (wide-back levels (brought c leaves) x nodes n k.0) [ inl l ↦ inr l | inr j ↦ elim (a.only n x j) [ inl r ↦ inl r | inr m ↦ inr m.0 ] ]);
  once = λ m n x h k. wide-once levels (brought c leaves) nodes a.once m n x (kept-back levels after x ws m h).0 (kept-back levels after x ws n k).0;
}
  where
    after : List Leaf
    after = changed c leaves

    ws : List (Option Node)
    ws = wide levels (brought c leaves) nodes

    rooted : (space : ℕ) → space < spaces → slice_index_or (map (kept_node levels (changed c leaves)) (wide levels (brought c leaves) nodes)) space None ≡ Some (root_of levels space)
    rooted space h =
        kept-at levels (changed c leaves) (root_of levels space) (wide levels (brought c leaves) nodes) space
        (wide-at levels (brought c leaves) (root_of levels space) nodes space (a.roots space h)) (root-needed levels space (changed c leaves) some)

    below : (x : Node) → x.level + 1 < levels → in_nodes x.space (x.level + 1) x.prefix (changed c leaves) ≡ true
        → (n : ℕ) × (slice_index_or (map (kept_node levels (changed c leaves)) (wide levels (brought c leaves) nodes)) n None ≡ Some x)
    below x low need =
        let f = full-after levels c leaves nodes (full-of levels spaces leaves nodes a) room in
        let r = any-at (is_below x.space (x.level + 1) x.prefix) (map (kept_node levels (changed c leaves)) (wide levels (brought c leaves) nodes)) (f.full x.space (x.level + 1) x.prefix need low) in
        let y = below-is x.space (x.level + 1) x.prefix (slice_index_or (map (kept_node levels (changed c leaves)) (wide levels (brought c leaves) nodes)) r.0 None) r.1 in
        let e : x.level + 1 - 1 ≡ x.level = omega arith in
        let same : y.0 ≡ x = y.2 ∙ ap (λ l. let z : Node = record { space = x.space; level = l; prefix = x.prefix } in z) e in
        (r.0, y.1 ∙ ap Some same)

    one : (x : Node) → is_needed levels (changed c leaves) x ≡ true → ((space : ℕ) × (space < spaces) × (x ≡ root_of levels space)) ⊎ (x.level + 1 < levels) → IsNodeOf levels spaces (changed c leaves) x
    one x need (inl r) = inl r
    one x need (inr low) =
        let f : (x.level + 1 == levels) ≡ false = grind (arith, nat_tests) in
        inr (low, rw f at need)

-- the opening state: the roots alone
roots-at : (levels first n k : ℕ) → k < n → slice_index_or (roots levels first n) k None ≡ Some (root_of levels (first + k))
roots-at levels first zero k h = absurd (omega arith)
roots-at levels first (suc n) zero h = let e : first + 0 ≡ first = omega arith in ap (λ s. Some (root_of levels s)) (sym e)
roots-at levels first (suc n) (suc k) h =
    let e : first + 1 + k ≡ first + suc k = omega arith in roots-at levels (first + 1) n k (omega arith) ∙ ap (λ s. Some (root_of levels s)) e

append-at : (xs ys : List (Option Node)) (k : ℕ) (x : Node) → slice_index_or xs k None ≡ Some x → slice_index_or (xs ++ ys) k None ≡ Some x
append-at [] ys k x h = absurd (cc)
append-at (y ∷ xs) ys zero x h = h
append-at (y ∷ xs) ys (suc k) x h = append-at xs ys k x h

none-at : (n k : ℕ) (x : Node) → slice_index_or (replicate n None) k None ≡ Some x → ⊥
none-at zero k x h = absurd (cc)
none-at (suc n) zero x h = absurd (cc)
none-at (suc n) (suc k) x h = none-at n k x h

roots-back : (levels first n rest k : ℕ) (x : Node) → slice_index_or (roots levels first n ++ replicate rest None) k None ≡ Some x → (k < n) × (x ≡ root_of levels (first + k))
roots-back levels first zero rest k x h = absurd (none-at rest k x h)
roots-back levels first (suc n) rest zero x h = let e : first + 0 ≡ first = omega arith in (omega arith, (let f : x ≡ root_of levels first = cc in f) ∙ ap (root_of levels) (sym e))
roots-back levels first (suc n) rest (suc k) x h =
    let r = roots-back levels (first + 1) n rest k x h in
    let e : first + 1 + k ≡ first + suc k = omega arith in
    (omega (arith, r.0), r.1 ∙ ap (root_of levels) e)

pub numbered-opening : (levels spaces frames : ℕ) → AreNumbered levels spaces [] (opening_nodes levels spaces frames)
unfolding opening_nodes in_nodes
numbered-opening levels spaces frames = record {
  roots = rooted;
  there = λ x is. elim is [ inl r ↦ (r.0, rooted r.0 r.1 ∙ ap Some (sym r.2)) | inr n ↦ absurd (let h = n.1 in cc) ];
  only = λ n x h. let r = roots-back levels 0 spaces (frames - spaces) n x h in inl (0 + n, omega (arith, r.0), r.1);
  once = λ m n x h k.
      let a = roots-back levels 0 spaces (frames - spaces) m x h in
      let b = roots-back levels 0 spaces (frames - spaces) n x k in
      let e : 0 + m ≡ 0 + n = ap (λ (y : Node). y.space) (sym a.1 ∙ b.1) in
      omega arith;
}
  where
    rooted : (space : ℕ) → space < spaces → slice_index_or (roots levels 0 spaces ++ replicate (frames - spaces) None) space None ≡ Some (root_of levels space)
    rooted space h = append-at (roots levels 0 spaces) (replicate (frames - spaces) None) space (root_of levels space) (roots-at levels 0 spaces space h ∙ (let e : 0 + space ≡ space = omega arith in ap (λ s. Some (root_of levels s)) e))
