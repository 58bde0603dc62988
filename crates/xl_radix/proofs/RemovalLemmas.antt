-- Steps of a removal.
use Rattle.xl_radix.proofs.Common.{◌%◌, ◌*◌, ◌+◌, ◌-◌, ◌<◌, ◌∙◌, ◌∷◌, ◌≡◌, ◌≢◌, ◌≤◌, ◌⊎◌, [], ap, arith, cases_lt, false≢true, filled, free_count, get_or_default_zero, In, inl, inr, is_below, is_some, IsAtNode, IsCounted, IsExact, IsNamed, IsNearly, IsStore, IsTaken, Leaf, leaf_in, leaf_named, leaf_word, length, length-set, level_of, List, named-first, named-In, named-is, named-order, named-space, Node, None, number_of, Option, Order, pointer_word, read_back, refl, slice_index, slice_index_or, slice_set, Some, subst, suc, sym, true, up, without_leaf, word_at, zero, ℕ}
use Rattle.xl_radix.proofs.CountLemmas.{counted-less, filled-zeros}
use Rattle.xl_radix.proofs.EndLemmas.{not-both}
use Rattle.xl_radix.proofs.FreedNodeLemmas.{freed, freed-at, freed-nearly, freed-rooted, freed_nodes, freed_words, IsEmpty, node-is}
use Rattle.xl_radix.proofs.MadeNodeLemmas.{new_node}
use Rattle.xl_radix.proofs.ReadBackLemmas.{own-slot, reads-back}
use Rattle.xl_radix.proofs.SlotLemmas.{at_node-word, below-is, below-some, node-in, number-only}
use Rattle.xl_radix.proofs.StepLemmas.{recounted}
use Rattle.xl_radix.proofs.TakenLeafLemmas.{IsHeld, unplaced, unplaced-mapping, unplaced-nearly, unplaced_words}

-- The leaf that a name names.
pub record Named (s f l : ℕ) (x : Leaf) (leaves : List Leaf) : Type 0 where
  pub there : In x leaves
  pub space_is : x.space ≡ s
  pub first_is : x.first ≡ f
  pub level_is : level_of x.order ≡ l

pub named : (s f : ℕ) (o : Order) (leaves : List Leaf) → IsNamed s f o leaves → (x : Leaf) × Named s f (level_of o) x leaves
named s f o leaves h =
    elim (leaf_named s f o leaves) as (λ r. leaf_named s f o leaves ≡ r → is_some r ≡ true → (x : Leaf) × Named s f (level_of o) x leaves) [
      | None ↦ λ e g. absurd (false≢true g)
      | Some x ↦ λ e g. let is = named-is s f o x leaves e in (x, record { there = named-In s f o x leaves e; space_is = named-space s f o x is; first_is = named-first s f o x is; level_is = ap level_of (named-order s f o x is) })
    ] refl h

pub record ClearStep (top spaces s f l u : ℕ) (leaves : List Leaf) (nodes : List (Option Node)) (words used : List ℕ) : Type 0 where
  pub store : IsStore top spaces (without_leaf s f leaves) nodes words used
  pub back : read_back nodes words ≡ without_leaf s f leaves
  pub nearly : IsNearly top s f l (without_leaf s f leaves) nodes
  pub some : 0 < u

leaf-filled : (s l q : ℕ) (x : Leaf) (leaves : List Leaf) (nodes : List (Option Node)) → leaf_in s l q leaves ≡ Some x → word_at leaves nodes s l q ≢ 0
unfolding word_at leaf_word
leaf-filled s l q x leaves nodes e f = let g = rw e at f in omega (arith, g)

filled-count : (size n i u : ℕ) (nodes : List (Option Node)) (words used : List ℕ) → IsCounted nodes words used → size ≡ 512 → n < length nodes → i < size → slice_index words (n * 512 + i) ≢ 0 → u ≡ slice_index used n → 0 < u
filled-count size n i u nodes words used c big h g f e =
    elim (cases_lt 0 u) [
      | inl lt ↦ lt
      | inr ge ↦ absurd (f (filled-zeros words (n * 512) size i (subst (λ (v : ℕ). filled words (n * 512) v ≡ 0) (sym big) (let d = c.each n h in let z : u ≡ 0 = omega arith in sym d ∙ sym e ∙ z)) g))
    ]

clear-core : (top spaces n : ℕ) (x : Leaf) (leaves : List Leaf) (nodes : List (Option Node)) (words used : List ℕ) → IsStore top spaces leaves nodes words used → IsExact top leaves nodes → In x leaves → IsAtNode x.space x.first (level_of x.order) n nodes →
    ClearStep top spaces x.space x.first (level_of x.order) (slice_index used n) leaves nodes (unplaced_words x n words) (slice_set used n (slice_index used n - 1))
clear-core top spaces n x leaves nodes words used store exact i at =
    let slot = own-slot top spaces leaves x store.mapping i in
    let r = at_node-word top x.space x.first (level_of x.order) n leaves nodes words store.image at in
    let filled : slice_index words (n * 512 + up (level_of x.order) x.first % 512) ≢ 0 = λ e. leaf-filled x.space (level_of x.order) (up (level_of x.order) x.first) x leaves nodes slot (sym r.1 ∙ e) in
    let held : IsHeld x n leaves nodes = record { there = i; at = at; absent = absent slot } in
    let image = unplaced top spaces x n leaves nodes words store.mapping store.image held in
    let mapping = unplaced-mapping top spaces x leaves store.mapping in
    record {
      store = record {
        high = store.high;
        low = store.low;
        mapping = mapping;
        image = image;
        counted = counted-less 512 n (up (level_of x.order) x.first % 512) nodes words used refl store.counted store.image.size r.0 (omega arith) filled;
        rooted = store.rooted;
      };
      back = reads-back top spaces (without_leaf x.space x.first leaves) nodes (unplaced_words x n words) store.high mapping image store.rooted.small;
      nearly = unplaced-nearly top spaces x leaves nodes store.mapping i exact;
      some = filled-count 512 n (up (level_of x.order) x.first % 512) (slice_index used n) nodes words used store.counted refl r.0 (omega arith) filled refl;
    }
  where
    low : level_of x.order < top
    low = elim (store.image.closed x.space (suc (level_of x.order)) (up (suc (level_of x.order)) x.first) n at.at_node) [ inl e ↦ omega arith | inr e ↦ let h = e.1 in omega arith ]

    absent : leaf_in x.space (level_of x.order) (up (level_of x.order) x.first) leaves ≡ Some x → number_of x.space (level_of x.order) (up (level_of x.order) x.first) nodes ≡ None
    absent slot = elim (number_of x.space (level_of x.order) (up (level_of x.order) x.first) nodes) as (λ o. number_of x.space (level_of x.order) (up (level_of x.order) x.first) nodes ≡ o → o ≡ None) [
      | None ↦ λ e. refl
      | Some k ↦ λ e. absurd (not-both top spaces x.space (level_of x.order) (up (level_of x.order) x.first) k leaves nodes x low store.mapping exact slot e)
    ] refl

pub clear-step : (top spaces s f n i u : ℕ) (o : Order) (leaves : List Leaf) (nodes : List (Option Node)) (words used : List ℕ) → IsStore top spaces leaves nodes words used → IsExact top leaves nodes → IsNamed s f o leaves → IsAtNode s f (level_of o) n nodes → i ≡ up (level_of o) f % 512 → u ≡ slice_index_or used n u →
    ClearStep top spaces s f (level_of o) u leaves nodes (slice_set words (n * 512 + i) 0) (slice_set used n (u - 1))
clear-step top spaces s f n i u o leaves nodes words used store exact name at ei eu = step (named s f o leaves name)
  where
    count : n < length nodes → u ≡ slice_index used n
    count h = eu ∙ get_or_default_zero used n u (let z = store.counted.places in omega arith)

    inside : n < length nodes
    inside = let b = below-some s (suc (level_of o)) (up (suc (level_of o)) f) _ at.at_node in node-in n nodes b.0 b.1

    step : (x : Leaf) × Named s f (level_of o) x leaves → ClearStep top spaces s f (level_of o) u leaves nodes (slice_set words (n * 512 + i) 0) (slice_set used n (u - 1))
    step r =
        let x = r.0 in
        let e1 : s ≡ x.space = sym r.1.space_is in
        let e2 : f ≡ x.first = sym r.1.first_is in
        let e3 : level_of o ≡ level_of x.order = sym r.1.level_is in
        let e4 = count inside in
        rw (ei, e4, e3, e1, e2) (clear-core top spaces n x leaves nodes words used store exact r.1.there (rw (e3, e1, e2) at at))

pub record ReleaseStep (top spaces s page j u : ℕ) (leaves : List Leaf) (nodes new : List (Option Node)) (words used : List ℕ) : Type 0 where
  pub store : IsStore top spaces leaves new words used
  pub back : read_back new words ≡ leaves
  pub taken : IsTaken j 1 nodes new
  pub nearly : IsNearly top s page (j - 1) leaves nodes → IsNearly top s page j leaves new
  pub some : 0 < u

freed-count : (nodes : List (Option Node)) (k : ℕ) (x : Node) → slice_index_or nodes k None ≡ Some x → free_count (slice_set nodes k None) ≡ free_count nodes + 1
freed-count [] k x h = cc
freed-count (None ∷ nodes) zero x h = cc
freed-count (Some y ∷ nodes) zero x h = refl
freed-count (None ∷ nodes) (suc k) x h = let e = freed-count nodes k x h in omega arith
freed-count (Some y ∷ nodes) (suc k) x h = freed-count nodes k x h

pointer-filled : (s l q k : ℕ) (leaves : List Leaf) (nodes : List (Option Node)) → leaf_in s l q leaves ≡ None → number_of s l q nodes ≡ Some k → word_at leaves nodes s l q ≢ 0
unfolding word_at pointer_word
pointer-filled s l q k leaves nodes e f g = let h = rw (e, f) at g in omega (arith, h)

release-core : (top spaces s page l n k : ℕ) (leaves : List Leaf) (nodes : List (Option Node)) (words used : List ℕ) → IsStore top spaces leaves nodes words used → suc l < top → IsAtNode s page (suc l) n nodes → IsAtNode s page l k nodes → leaf_in s (suc l) (up (suc l) page) leaves ≡ None → slice_index used k ≡ 0 →
    ReleaseStep top spaces s page (suc l) (slice_index used n) leaves nodes (freed_nodes k nodes) (freed_words n (up (suc l) page % 512) words) (slice_set used n (slice_index used n - 1))
release-core top spaces s page l n k leaves nodes words used store low at child no-leaf unused =
    let b = below-some s (suc l) (up (suc l) page) _ child.at_node in
    let named : slice_index_or nodes k None ≡ Some (new_node s l (up (suc l) page)) = b.1 ∙ ap Some (node-is s l (up (suc l) page) b.0 b.2) in
    let inside : k < length nodes = node-in k nodes (new_node s l (up (suc l) page)) named in
    let zeros = sym (store.counted.each k inside) ∙ unused in
    let empty : IsEmpty s l (up (suc l) page) k nodes words = record { below = named; zeros = λ i h. filled-zeros words (k * 512) 512 i zeros h } in
    let r = at_node-word top s page (suc l) n leaves nodes words store.image at in
    let number = number-only s (suc l) (up (suc l) page) k nodes child.at_node (λ m g. store.image.apart s (suc l) (up (suc l) page) m k g child.at_node) in
    let filled : slice_index words (n * 512 + up (suc l) page % 512) ≢ 0 = λ e. pointer-filled s (suc l) (up (suc l) page) k leaves nodes no-leaf number (sym r.1 ∙ e) in
    let image = freed top s page l k n leaves nodes words store.image low at no-leaf empty in
    let len : length (freed_nodes k nodes) ≡ length nodes = length-set nodes k None in
    let small : length (freed_nodes k nodes) ≤ 16384 = let z = store.rooted.small in omega arith in
    let counted = counted-less 512 n (up (suc l) page % 512) nodes words used refl store.counted store.image.size r.0 (omega arith) filled in
    record {
      store = record {
        high = store.high;
        low = store.low;
        mapping = store.mapping;
        image = image;
        counted = recounted nodes (freed_nodes k nodes) _ _ len counted;
        rooted = freed-rooted top spaces s l (up (suc l) page) k nodes words store.rooted low empty;
      };
      back = reads-back top spaces leaves (freed_nodes k nodes) (freed_words n (up (suc l) page % 512) words) store.high store.mapping image small;
      taken = record {
        less = record { size = len; each = λ m. each m (freed-at s l (up (suc l) page) k m nodes words empty) };
        others = λ a b c m g t. others a b c m g named t (freed-at s l (up (suc l) page) k m nodes words empty);
        count = freed-count nodes k (new_node s l (up (suc l) page)) named;
      };
      nearly = λ near. freed-nearly top s page l k leaves nodes words store.image empty (let e : suc l - 1 ≡ l = omega arith in rw e at near);
      some = filled-count 512 n (up (suc l) page % 512) (slice_index used n) nodes words used store.counted refl r.0 (omega arith) filled refl;
    }
  where
    each : (m : ℕ) → ((m ≡ k) × (slice_index_or (freed_nodes k nodes) m None ≡ None)) ⊎ ((m ≢ k) × (slice_index_or (freed_nodes k nodes) m None ≡ slice_index_or nodes m None)) → (slice_index_or (freed_nodes k nodes) m None ≡ slice_index_or nodes m None) ⊎ (slice_index_or (freed_nodes k nodes) m None ≡ None)
    each m (inl e) = inr e.1
    each m (inr e) = inl e.1

    others : (a b c m : ℕ) → suc l < b → slice_index_or nodes k None ≡ Some (new_node s l (up (suc l) page)) → is_below a b c (slice_index_or nodes m None) ≡ true → ((m ≡ k) × (slice_index_or (freed_nodes k nodes) m None ≡ None)) ⊎ ((m ≢ k) × (slice_index_or (freed_nodes k nodes) m None ≡ slice_index_or nodes m None)) → is_below a b c (slice_index_or (freed_nodes k nodes) m None) ≡ true
    others a b c m g named t (inr e) = rw e.1 t
    others a b c m g named t (inl e) =
        let own = rw (e.0, named) at t in
        let i = below-is a b c (new_node s l (up (suc l) page)) own in
        let f : l + 1 ≡ b = i.level_is in
        absurd (omega arith)

pub release-step : (top spaces s page j n k i u : ℕ) (leaves : List Leaf) (nodes : List (Option Node)) (words used : List ℕ) → IsStore top spaces leaves nodes words used → 0 < j → j < top → IsAtNode s page j n nodes → IsAtNode s page (j - 1) k nodes → leaf_in s j (up j page) leaves ≡ None → slice_index used k ≡ 0 → i ≡ up j page % 512 → u ≡ slice_index_or used n u →
    ReleaseStep top spaces s page j u leaves nodes (slice_set nodes k None) (slice_set words (n * 512 + i) 0) (slice_set used n (u - 1))
release-step top spaces s page zero n k i u leaves nodes words used store pos low at child no-leaf unused ei eu = absurd (omega arith)
release-step top spaces s page (suc l) n k i u leaves nodes words used store pos low at child no-leaf unused ei eu =
    let h : suc l - 1 ≡ l = omega arith in
    let b = below-some s (suc (suc l)) (up (suc (suc l)) page) _ at.at_node in
    let inside : n < length used = let z = store.counted.places in let y = node-in n nodes b.0 b.1 in omega arith in
    let f : u ≡ slice_index used n = eu ∙ get_or_default_zero used n u inside in
    rw (ei, f) (release-core top spaces s page l n k leaves nodes words used store low at (rw h at child) no-leaf unused)
