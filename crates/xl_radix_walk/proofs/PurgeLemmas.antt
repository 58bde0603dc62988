-- The precise purge of walk caches.
use Rattle.xl_radix_walk.proofs.Common.{if◌then◌else◌, ◌%◌, ◌+◌, ◌/◌, ◌∙◌, ◌∷◌, ◌≡◌, ◌⊎◌, [], all_without, AllNumbered, ap, AreNumbered, below-is, below-some, Bool, Cached, caches_in, entries_of, false, In, inl, inr, is_below, is_gone, is_needed, is_some, Item, items_in, kept_node, Leaf, length, List, map, Node, None, not, number-some, number_of, Numbered, numbered_in, only_needed, Option, position_from, purged, purged_caches, refl, slice_index_or, Some, suc, sym, true, zero, ℕ}
use Rattle.xl_radix.proofs.FreedNodeLemmas.{node-is}

-- Where each tag's number is its node's, no tag leaves.
pub none-gone : (level : ℕ) (nodes : List (Option Node)) (cs : List (Cached Item)) → AreNumbered level nodes cs → purged_caches nodes cs ≡ cs
none-gone level nodes [] all = refl
none-gone level nodes (c ∷ cs) all = rw (kept c.items all.0, none-gone (level + 1) nodes cs all.1) refl
  where
    kept : (xs : List Item) → AllNumbered level nodes xs → purged (is_gone nodes) xs ≡ xs
    kept [] a = refl
    kept (x ∷ xs) a =
        let r = number-some (x.tag / 281474976710656) (suc level) (x.tag % 281474976710656) x.word nodes (a x (inl refl)) in
        let b = below-some (x.tag / 281474976710656) (suc level) (x.tag % 281474976710656) (slice_index_or nodes x.word None) r.1 in
        rw b.1 (rw (kept xs (λ i j. a i (inr j))) refl)

get-kept : (top : ℕ) (leaves : List Leaf) (nodes : List (Option Node)) (n : ℕ) → slice_index_or (map (kept_node top leaves) nodes) n None ≡ kept_node top leaves (slice_index_or nodes n None)
get-kept top leaves [] n = refl
get-kept top leaves (x ∷ xs) zero = refl
get-kept top leaves (x ∷ xs) (suc n) = get-kept top leaves xs n

abbrev node_of : ℕ → ℕ → ℕ → Node
node_of s l q = record { space = s; level = l; prefix = q }

-- A tag leaves exactly where its node isn't needed.
pub gone-is : (top s l q n : ℕ) (leaves : List Leaf) (nodes : List (Option Node)) → number_of s (suc l) q nodes ≡ Some n → not (is_some (slice_index_or (only_needed top leaves nodes) n None)) ≡ not (is_needed top leaves (node_of s l q))
unfolding only_needed
gone-is top s l q n leaves nodes e =
    let b = below-some s (suc l) q _ (number-some s (suc l) q n nodes e).1 in
    let d = get-kept top leaves nodes n ∙ ap (kept_node top leaves) (b.1 ∙ ap Some (node-is s l q b.0 b.2)) in
    ap not (ap is_some d ∙ some (is_needed top leaves (node_of s l q)))
  where
    some : (b : Bool) → is_some (if b then Some (node_of s l q) else None) ≡ b
    some true = refl
    some false = refl

-- A node that is needed keeps its number.
pub number-kept : (top s l q : ℕ) (leaves : List Leaf) (nodes : List (Option Node)) → is_needed top leaves (node_of s l q) ≡ true → number_of s (suc l) q (only_needed top leaves nodes) ≡ number_of s (suc l) q nodes
unfolding only_needed number_of
number-kept top s l q leaves nodes t = go nodes 0
  where
    one : (x : Option Node) → is_below s (suc l) q (kept_node top leaves x) ≡ is_below s (suc l) q x
    one None = refl
    one (Some x) = elim (is_needed top leaves x) as (λ b. is_needed top leaves x ≡ b → is_below s (suc l) q (if b then Some x else None) ≡ is_below s (suc l) q (Some x)) [
      | true ↦ λ e. refl
      | false ↦ λ e. elim (is_below s (suc l) q (Some x)) as (λ b. is_below s (suc l) q (Some x) ≡ b → false ≡ b) [
        | false ↦ λ f. refl
        | true ↦ λ f. let g = ap (is_needed top leaves) (node-is s l q x (below-is s (suc l) q x f)) in cc
      ] refl
    ] refl

    go : (xs : List (Option Node)) (b : ℕ) → position_from (is_below s (suc l) q) b (map (kept_node top leaves) xs) ≡ position_from (is_below s (suc l) q) b xs
    go [] b = refl
    go (x ∷ xs) b = rw (one x, go xs (b + 1)) refl

-- the purge under what items say
purged-map : (level top : ℕ) (leaves : List Leaf) (nodes : List (Option Node)) (xs : List Item) → AllNumbered level nodes xs → map (numbered_in level) (purged (is_gone (only_needed top leaves nodes)) xs) ≡ purged (λ e. not (is_needed top leaves e.node)) (map (numbered_in level) xs)
purged-map level top leaves nodes [] all = refl
purged-map level top leaves nodes (x ∷ xs) all =
    let g = gone-is top (x.tag / 281474976710656) level (x.tag % 281474976710656) x.word leaves nodes (all x (inl refl)) in
    let r = purged-map level top leaves nodes xs (λ i j. all i (inr j)) in
    rw g (by (is_needed top leaves (numbered_in level x).node) r)
  where
    by : (b : Bool) → map (numbered_in level) (purged (is_gone (only_needed top leaves nodes)) xs) ≡ purged (λ e. not (is_needed top leaves e.node)) (map (numbered_in level) xs) → map (numbered_in level) (if not (not b) then x ∷ purged (is_gone (only_needed top leaves nodes)) xs else purged (is_gone (only_needed top leaves nodes)) xs) ≡ (if not (not b) then numbered_in level x ∷ purged (λ e. not (is_needed top leaves e.node)) (map (numbered_in level) xs) else purged (λ e. not (is_needed top leaves e.node)) (map (numbered_in level) xs))
    by true r = ap (λ (l : List Numbered). numbered_in level x ∷ l) r
    by false r = r

pub purged-in : (level top : ℕ) (leaves : List Leaf) (nodes : List (Option Node)) (cs : List (Cached Item)) → AreNumbered level nodes cs → caches_in level (purged_caches (only_needed top leaves nodes) cs) ≡ all_without (λ e. not (is_needed top leaves e.node)) (caches_in level cs)
purged-in level top leaves nodes [] all = refl
purged-in level top leaves nodes (c ∷ cs) all = rw (purged-map level top leaves nodes c.items all.0, purged-in (level + 1) top leaves nodes cs all.1) refl

-- What stays has its node's number.
pub numbered-purged : (level top : ℕ) (leaves : List Leaf) (nodes : List (Option Node)) (cs : List (Cached Item)) → AreNumbered level nodes cs → AreNumbered level (only_needed top leaves nodes) (purged_caches (only_needed top leaves nodes) cs)
numbered-purged level top leaves nodes [] all = all
numbered-purged level top leaves nodes (c ∷ cs) all = (λ i j. one i (inside c.items i j), numbered-purged (level + 1) top leaves nodes cs all.1)
  where
    inside : (xs : List Item) (i : Item) → In i (purged (is_gone (only_needed top leaves nodes)) xs) → In i xs × (is_gone (only_needed top leaves nodes) i ≡ false)
    inside [] i j = absurd j
    inside (x ∷ xs) i j = elim (is_gone (only_needed top leaves nodes) x) as (λ b. is_gone (only_needed top leaves nodes) x ≡ b → In i (if not b then x ∷ purged (is_gone (only_needed top leaves nodes)) xs else purged (is_gone (only_needed top leaves nodes)) xs) → ((i ≡ x) ⊎ In i xs) × (is_gone (only_needed top leaves nodes) i ≡ false)) [
      | true ↦ λ e k. let r = inside xs i k in (inr r.0, r.1)
      | false ↦ λ e k. elim k [ inl d ↦ (inl d, rw d e) | inr m ↦ let r = inside xs i m in (inr r.0, r.1) ]
    ] refl j

    one : (i : Item) → In i c.items × (is_gone (only_needed top leaves nodes) i ≡ false) → number_of (i.tag / 281474976710656) (suc level) (i.tag % 281474976710656) (only_needed top leaves nodes) ≡ Some i.word
    one i r =
        let e = all.0 i r.0 in
        let g = gone-is top (i.tag / 281474976710656) level (i.tag % 281474976710656) i.word leaves nodes e in
        number-kept top (i.tag / 281474976710656) level (i.tag % 281474976710656) leaves nodes (double _ (sym g ∙ r.1)) ∙ e
      where
        double : (b : Bool) → not b ≡ false → b ≡ true
        double true h = refl
        double false h = cc

pub entries-in : (level : ℕ) (cs : List (Cached Item)) → items_in (caches_in level cs) ≡ entries_of cs
entries-in level [] = refl
entries-in level (c ∷ cs) = rw (length-map c.items, entries-in (level + 1) cs) refl
  where
    length-map : (xs : List Item) → length (map (numbered_in level) xs) ≡ length xs
    length-map [] = refl
    length-map (x ∷ xs) = ap suc (length-map xs)

pub purged-length : (nodes : List (Option Node)) (cs : List (Cached Item)) → length (purged_caches nodes cs) ≡ length cs
purged-length nodes [] = refl
purged-length nodes (c ∷ cs) = ap suc (purged-length nodes cs)
