-- Node tags: every node that the mapping needs has a number, and a cached tag has that of its node.
use Rattle.xl_model_laws.proofs.Common.{◌&&◌, ◌*◌, ◌+◌, ◌-◌, ◌/◌, ◌<◌, ◌==◌, ◌||◌, ◌∙◌, ◌∷◌, ◌≡◌, ◌≤◌, ◌⊎◌, [], all_without, any-In, ap, arith, Bool, brought, Cached, Change, changed, changed-In, cond, covers, false, free_count, In, In-any, in_nodes, inl, inr, Insert, is_below, is_needed, is_tag, is_under, IsFound, Leaf, leaf_named, leaf_nodes_missing, length, level_of, LevelFresh, List, list_any, named-In, nat_le, nat_lt, nat_tests, new_leaf, newest-In, Node, node_at, node_cache_after, node_caches_after, None, not, not-false, number_of, number_or_0, Numbered, numbered, only_needed, Option, Order, pages_of, position_from, Protect, purged-In, refl, Relocate, Remove, second_so, slice_index_or, Some, subst, suc, sym, TagFresh, TagsFresh, touched-In, true, up, with_fill, with_leaf_nodes, with_path, with_perm, with_touch, without_items, ℕ}
use Rattle.xl_model_lemmas.proofs.EndLemmas.{up-from}
use Rattle.xl_model_laws.proofs.NumberLemmas.{kept-at, kept-has, path-at, path-has, path-puts, position-at, position-none}
use Rattle.xl_model.specs.declared.address.Order.TheVariants as order

-- a leaf that covers a page is under each slot of the page above its level
up-one : (e first page : ℕ) → first ≡ e * 512 → first ≤ page → page < first + 512 → page / 512 ≡ first / 512
up-one e first page a b c = omega arith

up-two : (e first page : ℕ) → first ≡ e * 262144 → first ≤ page → page < first + 262144 → page / 512 / 512 ≡ first / 512 / 512
up-two e first page a b c = omega arith

up-covers : (space page m : ℕ) (leaf : Leaf) (e : ℕ) → covers space page leaf ≡ true → leaf.first ≡ e * pages_of leaf.order → level_of leaf.order ≤ m → up m leaf.first ≡ up m page
up-covers space page m leaf e h aligned le =
    go leaf.order (grind (arith, nat_tests)) (grind (arith, nat_tests)) aligned le
  where
    go : (o : Order) → leaf.first ≤ page → page < leaf.first + pages_of o → leaf.first ≡ e * pages_of o → level_of o ≤ m → up m leaf.first ≡ up m page
    go order.K4 a b c d = let f : leaf.first ≡ page = omega arith in ap (up m) f
    go order.M2 a b c d = up-from 1 m leaf.first page (sym (up-one e leaf.first page c a b)) d
    go order.G1 a b c d = up-from 2 m leaf.first page (sym (up-two e leaf.first page c a b)) d

pub covered-under : (space page level : ℕ) (leaf : Leaf) (e : ℕ) → covers space page leaf ≡ true → leaf.first ≡ e * pages_of leaf.order → level_of leaf.order ≤ level
    → is_under space (suc level) (up (suc level) page) leaf ≡ true
covered-under space page level leaf e h aligned le =
    let a : up (suc level) leaf.first ≡ up (suc level) page = up-covers space page (suc level) leaf e h aligned (omega arith) in
    under-by space (suc level) (up (suc level) leaf.first) (up (suc level) page) leaf (grind (arith, nat_tests)) (omega arith) a refl
  where
    under-by : (space l b c : ℕ) (leaf : Leaf) → leaf.space ≡ space → level_of leaf.order < l → b ≡ c → up l leaf.first ≡ b → is_under space l c leaf ≡ true
    under-by space l b c leaf x y z w = let v : up l leaf.first ≡ c = w ∙ z in grind (arith, nat_tests)

-- every node below the root that the mapping needs is there
pub record NodesFull (levels : ℕ) (leaves : List Leaf) (nodes : List (Option Node)) : Type 0 where
  pub full : (space l block : ℕ) → in_nodes space l block leaves ≡ true → l < levels → list_any (is_below space l block) nodes ≡ true

-- a table that the change brings a leaf to, or none
unfoldable pub wide : ℕ → Option Leaf → List (Option Node) → List (Option Node)
wide levels None nodes = nodes
wide levels (Some leaf) nodes = with_leaf_nodes levels leaf nodes

unfoldable pub HasPath : ℕ → Option Leaf → List (Option Node) → Type 0
HasPath levels None nodes = Unit {0}
HasPath levels (Some leaf) nodes = leaf_nodes_missing levels leaf nodes ≤ free_count nodes

pub wide-at : (levels : ℕ) (leaf : Option Leaf) (y : Node) (nodes : List (Option Node)) (n : ℕ) → slice_index_or nodes n None ≡ Some y → slice_index_or (wide levels leaf nodes) n None ≡ Some y
unfolding wide with_leaf_nodes
wide-at levels None y nodes n h = h
wide-at levels (Some leaf) y nodes n h = path-at leaf.space leaf.first (level_of leaf.order) (levels - 1 - level_of leaf.order) y nodes n h

wide-has : (levels space l block : ℕ) (leaf : Option Leaf) (nodes : List (Option Node)) → list_any (is_below space l block) nodes ≡ true → list_any (is_below space l block) (wide levels leaf nodes) ≡ true
unfolding wide with_leaf_nodes
wide-has levels space l block None nodes h = h
wide-has levels space l block (Some leaf) nodes h = path-has (is_below space l block) leaf.space leaf.first (level_of leaf.order) (levels - 1 - level_of leaf.order) nodes refl h

wide-puts : (levels space l block : ℕ) (leaf : Leaf) (nodes : List (Option Node)) → HasPath levels (Some leaf) nodes → is_under space l block leaf ≡ true → l < levels
    → list_any (is_below space l block) (wide levels (Some leaf) nodes) ≡ true
unfolding wide HasPath with_leaf_nodes leaf_nodes_missing
wide-puts levels space l block leaf nodes room under below =
    let a : leaf.space ≡ space = grind (arith, nat_tests) in
    let b : level_of leaf.order < l = grind (arith, nat_tests) in
    let c : up l leaf.first ≡ block = grind (arith, nat_tests) in
    let h : list_any (is_below leaf.space l (up l leaf.first)) (with_path leaf.space leaf.first (level_of leaf.order) (levels - 1 - level_of leaf.order) nodes) ≡ true =
    path-puts leaf.space leaf.first (level_of leaf.order) (levels - 1 - level_of leaf.order) nodes room l b (omega arith) in
    let P : ℕ → Type 0 = λ s. list_any (is_below s l (up l leaf.first)) (with_path leaf.space leaf.first (level_of leaf.order) (levels - 1 - level_of leaf.order) nodes) ≡ true in
    subst (λ (p : ℕ). list_any (is_below space l p) (with_path leaf.space leaf.first (level_of leaf.order) (levels - 1 - level_of leaf.order) nodes) ≡ true) c (subst P a h)

-- a node that the mapping needs after a change is one that it needed, or the new leaf's
pub new-brought : (c : Change) (leaves : List Leaf) (y : Leaf) → new_leaf c leaves ≡ Some y
    → (brought c leaves ≡ Some y) ⊎ ((z : Leaf) × In z leaves × (y.space ≡ z.space) × (y.first ≡ z.first) × (y.order ≡ z.order))
new-brought (Insert leaf) leaves y h = inl h
new-brought (Remove space first o) leaves y h = absurd (cc)
new-brought (Relocate space first to o) leaves y h = inl h
new-brought (Protect space first o perm) leaves y h = go (leaf_named space first o leaves) refl h
  where
    go : (old : Option Leaf) → leaf_named space first o leaves ≡ old → with_perm perm old ≡ Some y
        → (brought (Protect space first o perm) leaves ≡ Some y) ⊎ ((z : Leaf) × In z leaves × (y.space ≡ z.space) × (y.first ≡ z.first) × (y.order ≡ z.order))
    go None is k = absurd (cc)
    go (Some old) is k =
        let e : record old { perm = perm } ≡ y = cc in
        inr (old, named-In space first o old leaves is, sym (ap (λ (x : Leaf). x.space) e), sym (ap (λ (x : Leaf). x.first) e), sym (ap (λ (x : Leaf). x.order) e))

same-under : (space l block : ℕ) (y z : Leaf) → y.space ≡ z.space → y.first ≡ z.first → y.order ≡ z.order → is_under space l block y ≡ is_under space l block z
same-under space l block y z a b c =
    subst (λ (o : Order). is_under space l block y ≡ ((y.space == space) && (nat_lt (level_of o) l && (up l y.first == block)))) c refl ∙ rw (a, b) refl

needed-after : (space l block : ℕ) (c : Change) (leaves : List Leaf) → in_nodes space l block (changed c leaves) ≡ true
    → ((y : Leaf) × (brought c leaves ≡ Some y) × (is_under space l block y ≡ true)) ⊎ (in_nodes space l block leaves ≡ true)
unfolding in_nodes
needed-after space l block c leaves h =
    let found = any-In (is_under space l block) (changed c leaves) h in
    elim (changed-In leaves c found.0 found.1) [
      | inl new ↦
          let under : is_under space l block new.0 ≡ true = let P : Leaf → Type 0 = λ z. is_under space l block z ≡ true in subst P new.2 found.2 in
          elim (new-brought c leaves new.0 new.1) [
            | inl b ↦ inl (new.0, b, under)
            | inr old ↦ inr (In-any (is_under space l block) old.0 leaves old.1 (sym (same-under space l block new.0 old.0 old.2 old.3 old.4) ∙ under))
          ]
      | inr i ↦ inr (In-any (is_under space l block) found.0 leaves i found.2)
    ]

pub full-after : (levels : ℕ) (c : Change) (leaves : List Leaf) (nodes : List (Option Node)) → NodesFull levels leaves nodes
    → HasPath levels (brought c leaves) nodes → NodesFull levels (changed c leaves) (only_needed levels (changed c leaves) (wide levels (brought c leaves) nodes))
unfolding only_needed
full-after levels c leaves nodes f room = record {
  full = λ space l block need below.
      kept-has levels space l block (changed c leaves) (wide levels (brought c leaves) nodes)
      (elim (needed-after space l block c leaves need) [
        | inl new ↦
            let Q : Option Leaf → Type 0 = λ b. list_any (is_below space l block) (wide levels b nodes) ≡ true in
            subst Q (sym new.1) (wide-puts levels space l block new.0 nodes (subst (λ (b : Option Leaf). HasPath levels b nodes) new.1 room) new.2 below)
        | inr old ↦ wide-has levels space l block (brought c leaves) nodes (f.full space l block old below)
      ])
      need;
}

-- the caches without the tags that pass a test
level-without : (p : Numbered → Bool) (levels level : ℕ) (leaves : List Leaf) (nodes : List (Option Node)) (c : Cached Numbered)
    → LevelFresh levels level leaves nodes c → LevelFresh levels level leaves nodes (without_items p c)
level-without p levels level leaves nodes c fresh e i = fresh e (purged-In p e c.items i).0

pub tags-fenced : (p : Numbered → Bool) (levels level : ℕ) (leaves : List Leaf) (nodes : List (Option Node)) (cs : List (Cached Numbered))
    → TagsFresh levels level leaves nodes cs → TagsFresh levels level leaves nodes (all_without p cs)
tags-fenced p levels level leaves nodes [] fresh = tt
tags-fenced p levels level leaves nodes (c ∷ cs) (here, rest) =
    (level-without p levels level leaves nodes c here, tags-fenced p levels (level + 1) leaves nodes cs rest)

-- after a change: the tags that stay are those of needed nodes, and these keep their numbers
tag-after : (levels level : ℕ) (c : Change) (leaves : List Leaf) (nodes : List (Option Node)) (e : Numbered) → TagFresh levels level leaves nodes e
    → is_needed levels (changed c leaves) e.node ≡ true
    → TagFresh levels level (changed c leaves) (only_needed levels (changed c leaves) (wide levels (brought c leaves) nodes)) e
unfolding only_needed
tag-after levels level c leaves nodes e old need = record {
  of_level = old.of_level;
  needed = need;
  there = kept-at levels (changed c leaves) e.node (wide levels (brought c leaves) nodes) e.number (wide-at levels (brought c leaves) e.node nodes e.number old.there) need;
}

pub tags-after : (levels level : ℕ) (c : Change) (leaves : List Leaf) (nodes : List (Option Node)) (cs : List (Cached Numbered)) → TagsFresh levels level leaves nodes cs
    → TagsFresh levels level (changed c leaves) (only_needed levels (changed c leaves) (wide levels (brought c leaves) nodes))
    (all_without (λ e. not (is_needed levels (changed c leaves) e.node)) cs)
tags-after levels level c leaves nodes [] fresh = tt
tags-after levels level c leaves nodes (d ∷ ds) (here, rest) = (
  λ e i.
      let k = purged-In (λ (x : Numbered). not (is_needed levels (changed c leaves) x.node)) e d.items i in
      tag-after levels level c leaves nodes e (here e k.0) (not-false _ k.1),
  tags-after levels (level + 1) c leaves nodes ds rest,
)

pub node-by : (y : Node) (s l p : ℕ) → y.space ≡ s → y.level ≡ l → y.prefix ≡ p → y ≡ record { space = s; level = l; prefix = p }
node-by y s l p a b c = rw (← a, ← b, ← c) refl

-- what a walk fills in
numbered-fresh : (levels level space page : ℕ) (leaves : List Leaf) (nodes : List (Option Node)) → NodesFull levels leaves nodes → suc level < levels
    → in_nodes space (suc level) (up (suc level) page) leaves ≡ true → TagFresh levels level leaves nodes (numbered level space page nodes)
unfolding number_of
numbered-fresh levels level space page leaves nodes f below need =
    go (position_from (is_below space (suc level) (up (suc level) page)) 0 nodes) refl
  where
    here : list_any (is_below space (suc level) (up (suc level) page)) nodes ≡ true
    here = f.full space (suc level) (up (suc level) page) need below

    needs : (n : ℕ) → is_needed levels leaves (node_at space level page) ≡ true
    needs n = either (level + 1 == levels) (let e : level + 1 ≡ suc level = omega arith in let P : ℕ → Type 0 = λ l. in_nodes space l (up (suc level) page) leaves ≡ true in subst P (sym e) need)
      where
        either : (b : Bool) → in_nodes space (level + 1) (up (suc level) page) leaves ≡ true → (b || in_nodes space (level + 1) (up (suc level) page) leaves) ≡ true
        either true h = refl
        either false h = h

    node-is : (x : Option Node) → is_below space (suc level) (up (suc level) page) x ≡ true → x ≡ Some (node_at space level page)
    node-is None h = absurd (cc)
    node-is (Some y) h =
        let a : y.space ≡ space = grind (arith, nat_tests) in
        let b : y.level ≡ level = grind (arith, nat_tests) in
        let c : y.prefix ≡ up (suc level) page = grind (arith, nat_tests) in
        ap Some (node-by y space level (up (suc level) page) a b c)

    go : (o : Option ℕ) → position_from (is_below space (suc level) (up (suc level) page)) 0 nodes ≡ o
        → TagFresh levels level leaves nodes (record { node = node_at space level page; number = number_or_0 o })
    go None is = let no : list_any (is_below space (suc level) (up (suc level) page)) nodes ≡ false = position-none (is_below space (suc level) (up (suc level) page)) 0 nodes is in
        let k : false ≡ true = sym no ∙ here in absurd (cc)
    go (Some n) is =
        let found = position-at (is_below space (suc level) (up (suc level) page)) 0 n nodes is in
        let e : n ≡ found.0 = let z : n ≡ 0 + found.0 = found.1 in omega arith in
        let P : ℕ → Type 0 = λ k. slice_index_or nodes k None ≡ Some (node_at space level page) in
        record { of_level = refl; needed = needs 0; there = subst P (sym e) (node-is (slice_index_or nodes found.0 None) found.2) }

filled-tag : (level start : ℕ) (leaf : Leaf) (space page : ℕ) (nodes : List (Option Node)) (c : Cached Numbered) (e : Numbered)
    → In e (cond (level == start) (with_touch (is_tag space (up (suc level) page)) c)
    (cond (nat_lt level start && nat_le (level_of leaf.order) level) (with_fill (numbered level space page nodes) c) c)).items
    → In e c.items ⊎ ((level_of leaf.order ≤ level) × (e ≡ numbered level space page nodes))
filled-tag level start leaf space page nodes c e i =
    elim (level == start) as (λ b. In e (cond b (with_touch (is_tag space (up (suc level) page)) c)
    (cond (nat_lt level start && nat_le (level_of leaf.order) level) (with_fill (numbered level space page nodes) c) c)).items
    → In e c.items ⊎ ((level_of leaf.order ≤ level) × (e ≡ numbered level space page nodes))) [
      | true ↦ λ j. inl (touched-In (is_tag space (up (suc level) page)) e c.items j)
      | false ↦ λ j. go (nat_lt level start && nat_le (level_of leaf.order) level) refl j
    ] i
  where
    go : (b : Bool) → (nat_lt level start && nat_le (level_of leaf.order) level) ≡ b
        → In e (cond b (with_fill (numbered level space page nodes) c) c).items → In e c.items ⊎ ((level_of leaf.order ≤ level) × (e ≡ numbered level space page nodes))
    go true t j =
        let test : nat_le (level_of leaf.order) level ≡ true = second_so (nat_lt level start) (nat_le (level_of leaf.order) level) t in
        let low : level_of leaf.order ≤ level = grind (arith, nat_tests) in
        elim (newest-In c.width e (numbered level space page nodes) c.items j) [
          | inl same ↦ inr (low, same)
          | inr k ↦ inl k
        ]
    go false t j = inl j

touched-tag : (level start space page : ℕ) (c : Cached Numbered) (e : Numbered)
    → In e (cond (level == start) (with_touch (is_tag space (up (suc level) page)) c) c).items → In e c.items
touched-tag level start space page c e i =
    elim (level == start) as (λ b. In e (cond b (with_touch (is_tag space (up (suc level) page)) c) c).items → In e c.items) [
      | true ↦ λ j. touched-In (is_tag space (up (suc level) page)) e c.items j
      | false ↦ λ j. j
    ] i

tag-walked : (levels level start : ℕ) (found : Option Leaf) (space page : ℕ) (leaves : List Leaf) (nodes : List (Option Node)) (c : Cached Numbered)
    → NodesFull levels leaves nodes → ((leaf : Leaf) → found ≡ Some leaf → IsFound space page leaves leaf) → suc level < levels
    → LevelFresh levels level leaves nodes c → LevelFresh levels level leaves nodes (node_cache_after level start found space page nodes c)
unfolding in_nodes
tag-walked levels level start None space page leaves nodes c f is below fresh e i = fresh e (touched-tag level start space page c e i)
tag-walked levels level start (Some leaf) space page leaves nodes c f is below fresh e i =
    elim (filled-tag level start leaf space page nodes c e i) [
      | inl j ↦ fresh e j
      | inr new ↦
          let it : IsFound space page leaves leaf = is leaf refl in
          let under : is_under space (suc level) (up (suc level) page) leaf ≡ true = covered-under space page level leaf it.aligned.0 it.covers_page it.aligned.1 new.0 in
          let need : list_any (is_under space (suc level) (up (suc level) page)) leaves ≡ true = In-any (is_under space (suc level) (up (suc level) page)) leaf leaves it.member under in
          subst (λ (x : Numbered). TagFresh levels level leaves nodes x) (sym new.1) (numbered-fresh levels level space page leaves nodes f below need)
    ]

pub tags-walked : (levels level start : ℕ) (found : Option Leaf) (space page : ℕ) (leaves : List Leaf) (nodes : List (Option Node)) (cs : List (Cached Numbered))
    → NodesFull levels leaves nodes → ((leaf : Leaf) → found ≡ Some leaf → IsFound space page leaves leaf) → length cs + level < levels
    → TagsFresh levels level leaves nodes cs → TagsFresh levels level leaves nodes (node_caches_after level start found space page nodes cs)
tags-walked levels level start found space page leaves nodes [] f is few fresh = tt
tags-walked levels level start found space page leaves nodes (d ∷ ds) f is few (here, rest) = (
  tag-walked levels level start found space page leaves nodes d f is (omega arith) here,
  tags-walked levels (level + 1) start found space page leaves nodes ds f is (omega arith) rest,
)

pub same-length : (levels level start : ℕ) (found : Option Leaf) (space page : ℕ) (nodes : List (Option Node)) (cs : List (Cached Numbered))
    → length (node_caches_after level start found space page nodes cs) ≡ length cs
same-length levels level start found space page nodes [] = refl
same-length levels level start found space page nodes (c ∷ cs) = ap suc (same-length levels (level + 1) start found space page nodes cs)

pub without-length : (p : Numbered → Bool) (cs : List (Cached Numbered)) → length (all_without p cs) ≡ length cs
without-length p [] = refl
without-length p (c ∷ cs) = ap suc (without-length p cs)

pub without-few : (p : Numbered → Bool) (cs : List (Cached Numbered)) (levels : ℕ) → length cs < levels → length (all_without p cs) < levels
without-few p cs levels few = let P : ℕ → Type 0 = λ n. n < levels in subst P (sym (without-length p cs)) few
