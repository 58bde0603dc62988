use Rattle.xl_radix.proofs.Common.{if◌then◌else◌, ◌%◌, ◌*◌, ◌++◌, ◌+◌, ◌-◌, ◌/◌, ◌<◌, ◌∙◌, ◌∷◌, ◌≡◌, ◌≤◌, ◌⊎◌, [], ap, arith, Bool, covers, decode_of, drop, end_level, false_from_ne_true, find-In, find-passes, get_or-drop, image, image_from, In, in_nodes, inl, inr, IsAtNode, IsImage, IsRadixMapping, IsStore, Leaf, leaf_at_page, leaf_in, leaf_said, length, length-drop, level-low, level_of, List, nat_le, nat_tests, Node, None, number_of, Option, order_of, Pte, refl, slice_index, slice_index_or, Some, subst, suc, sym, true, unless_zero, up, up-from, Word, word_of, words_from, zero, ℕ}
use Rattle.xl_radix.proofs.EndLemmas.{end-is, found-at, found-none, IsTable, seen-low}
use Rattle.xl_radix.proofs.MeetLemmas.{covered}
use Rattle.xl_radix.proofs.ReadBackLemmas.{said-leaf}
use Rattle.xl_radix.proofs.SlotLemmas.{at_node-word, in-nodes, in-nodes-leaf, leaf-in-some, number-only, number-some, pointer-low, Says, says, Under}
use Rattle.xl_radix.specs.Filled.{filled_from, filled_words}
use Rattle.xl_radix.specs.Walk.{end_at, LeavesSaid, place_of, radix_back, reading, walk_end, WordsReadBack}
use Rattle.xl_radix.specs.declared.walk_end.WalkEnd.{WalkEnd}
use Rattle.xl_pte.specs.declared.word.Pte.TheVariants as pte
use Rattle.xl_radix.proofs.store.Store.words_read_back.Goals as goal

-- The words of a table that are not 0 are the image of its leaves and its nodes.
unless-append : (n i w : ℕ) (xs ys : List Word) → unless_zero n i w (xs ++ ys) ≡ unless_zero n i w xs ++ ys
unless-append n i zero xs ys = refl
unless-append n i (suc w) xs ys = refl

module _ (leaves : List Leaf) (nodes : List (Option Node)) where
  -- the words of one node
  node-words : (size : ℕ) (node : Node) (n i left place : ℕ) (ws : List ℕ) → size ≡ 512 → i + left ≤ size → place ≡ n * 512 + i → left ≤ length ws
      → ((k : ℕ) → k < left → slice_index ws k ≡ word_of leaves nodes (Some node) (i + k))
      → filled_from place ws ≡ words_from leaves nodes n node i left ++ filled_from (place + left) (drop left ws)
  node-words size node n i zero place ws es fits ep long same =
      let e : place + 0 ≡ place = omega arith in rw e refl
  node-words size node n i (suc left) place [] es fits ep long same = absurd (omega arith)
  node-words size node n i (suc left) place (w ∷ ws) es fits ep long same =
      let a : place / 512 ≡ n = omega arith in
      let b : place % 512 ≡ i = omega arith in
      let z : i + 0 ≡ i = omega arith in
      let e : w ≡ word_of leaves nodes (Some node) i = same 0 (omega arith) ∙ ap (word_of leaves nodes (Some node)) z in
      let rest = node-words size node n (suc i) left (suc place) ws es (omega arith) (omega arith) (omega arith) (λ k l. same (suc k) (omega arith) ∙ ap (word_of leaves nodes (Some node)) (omega arith)) in
      let f : suc place + left ≡ place + suc left = omega arith in
      ap (λ (v : ℕ). unless_zero v (place % 512) w (filled_from (suc place) ws)) a
      ∙ ap (λ (v : ℕ). unless_zero n v w (filled_from (suc place) ws)) b
      ∙ ap (λ (v : ℕ). unless_zero n i v (filled_from (suc place) ws)) e
      ∙ ap (unless_zero n i (word_of leaves nodes (Some node) i)) (rest ∙ ap (λ (v : ℕ). words_from leaves nodes n node (suc i) left ++ filled_from v (drop left ws)) f)
      ∙ unless-append n i (word_of leaves nodes (Some node) i) _ _

  -- a number that no node has, has words 0
  no-words : (left place : ℕ) (ws : List ℕ) → left ≤ length ws → ((k : ℕ) → k < left → slice_index ws k ≡ 0)
      → filled_from place ws ≡ filled_from (place + left) (drop left ws)
  no-words zero place ws long same = let e : place + 0 ≡ place = omega arith in rw e refl
  no-words (suc left) place [] long same = absurd (omega arith)
  no-words (suc left) place (w ∷ ws) long same =
      let e : w ≡ 0 = same 0 (omega arith) in
      let f : suc place + left ≡ place + suc left = omega arith in
      ap (λ (v : ℕ). unless_zero (place / 512) (place % 512) v (filled_from (suc place) ws)) e
      ∙ no-words left (suc place) ws (omega arith) (λ k l. same (suc k) (omega arith))
      ∙ ap (λ (v : ℕ). filled_from v (drop left ws)) f

  dropped : (size n i : ℕ) (ws : List ℕ) → size ≡ 512 → slice_index (drop size ws) (n * 512 + i) ≡ slice_index ws (suc n * 512 + i)
  dropped size n i ws es =
      let e : size + (n * 512 + i) ≡ suc n * 512 + i = omega arith in
      get_or-drop size ws (n * 512 + i) 0 ∙ ap (slice_index ws) e

  -- the words of the nodes from a number on
  numbered-words : (size n place : ℕ) (rest : List (Option Node)) (ws : List ℕ) → size ≡ 512 → place ≡ n * 512 → length ws ≡ length rest * 512
      → ((m i : ℕ) → m < length rest → i < 512 → slice_index ws (m * 512 + i) ≡ word_of leaves nodes (slice_index_or rest m None) i)
      → filled_from place ws ≡ image_from leaves nodes n rest
  numbered-words size n place [] [] es ep long same = refl
  numbered-words size n place [] (w ∷ ws) es ep long same = absurd (omega arith)
  numbered-words size n place (None ∷ rest) ws es ep long same =
      no-words size place ws (omega arith) (λ k l. ap (slice_index ws) (omega arith) ∙ same 0 k (omega arith) (omega arith))
      ∙ numbered-words size (suc n) (place + size) rest (drop size ws) es (omega arith) (omega (arith, length-drop size ws))
      (λ m i l h. dropped size m i ws es ∙ same (suc m) i (omega arith) h)
  numbered-words size n place (Some node ∷ rest) ws es ep long same =
      node-words size node n 0 size place ws es (omega arith) (omega arith) (omega arith)
      (λ k l. ap (slice_index ws) (omega arith) ∙ same 0 k (omega arith) (omega arith) ∙ ap (word_of leaves nodes (Some node)) (omega arith))
      ∙ ap (λ (l : List Word). words_from leaves nodes n node 0 size ++ l)
      (numbered-words size (suc n) (place + size) rest (drop size ws) es (omega arith) (omega (arith, length-drop size ws))
      (λ m i l h. dropped size m i ws es ∙ same (suc m) i (omega arith) h))
      ∙ ap (λ (v : ℕ). words_from leaves nodes n node 0 v ++ image_from leaves nodes (suc n) rest) es

-- The words are the image.
words-image : (top : ℕ) (leaves : List Leaf) (nodes : List (Option Node)) (words : List ℕ) → IsImage top leaves nodes words → filled_words words ≡ image leaves nodes
unfolding filled_words image
words-image top leaves nodes words is = numbered-words leaves nodes 512 0 0 nodes words refl refl is.size is.same

-- What a leaf that covers a page says of the walk.
record Covering (s page : ℕ) (x : Leaf) (leaves : List Leaf) : Type 0 where
  there : In x leaves
  space_is : x.space ≡ s
  block_is : up (level_of x.order) x.first ≡ up (level_of x.order) page

covering-is : (top spaces s page : ℕ) (x : Leaf) (leaves : List Leaf) → IsRadixMapping top spaces leaves → leaf_at_page s page leaves ≡ Some x → Covering s page x leaves
unfolding leaf_at_page
covering-is top spaces s page x leaves m e =
    let i = find-In (covers s page) x leaves e in
    let r = covered s page x (m.proper x i).aligned (find-passes (covers s page) x leaves e) in
    record { there = i; space_is = r.0; block_is = r.1 }

leaf-ends : (top spaces s page : ℕ) (x : Leaf) (leaves : List Leaf) → 3 ≤ top → IsRadixMapping top spaces leaves → leaf_at_page s page leaves ≡ Some x → end_level (top - 1) 0 s page leaves ≡ level_of x.order
leaf-ends top spaces s page x leaves high m e =
    let low = level-low x.order in
    end-is (top - 1) 0 (level_of x.order) s page leaves (omega arith) (omega arith)
    (λ h g. false_from_ne_true _ (λ k. none h g (in-nodes-leaf s (suc h) (up (suc h) page) leaves k)))
    (inr (in-nodes s (suc (level_of x.order)) (up (suc (level_of x.order)) page) leaves x c.there (record { space_is = c.space_is; level_in = omega arith; block_is = ap (λ (v : ℕ). v / 512) c.block_is })))
  where
    c : Covering s page x leaves
    c = covering-is top spaces s page x leaves m e

    none : (h : ℕ) → h < level_of x.order → (z : Leaf) × In z leaves × Under s (suc h) (up (suc h) page) z → ⊥
    none h g r =
        let lower : level_of r.0.order < suc h = r.2.level_in in
        let block = up-from (suc h) (level_of x.order) r.0.first page r.2.block_is (omega arith) in
        let same = m.apart r.0 x r.1 c.there (r.2.space_is ∙ sym c.space_is) (omega arith) (block ∙ sym c.block_is) in
        let k : level_of r.0.order ≡ level_of x.order = ap (λ (v : Leaf). level_of v.order) same in
        omega arith

leaf-said : (top spaces s page : ℕ) (x : Leaf) (leaves : List Leaf) → IsRadixMapping top spaces leaves → leaf_at_page s page leaves ≡ Some x → leaf_said s (up (level_of x.order) page) (order_of (level_of x.order)) (pte.Leaf x.frame x.perm) ≡ Some x
leaf-said top spaces s page x leaves m e =
    let c = covering-is top spaces s page x leaves m e in
    said-leaf s (level_of x.order) (up (level_of x.order) page) x (record { space_is = c.space_is; level_is = refl; block_is = c.block_is }) (m.proper x c.there).aligned

-- Where a slot of a node that is at a page is empty, the mapping's nodes end.
end-here : (top spaces s page l n : ℕ) (leaves : List Leaf) (nodes : List (Option Node)) (words used : List ℕ) → IsTable top spaces leaves nodes words used → l < top → IsAtNode s page l n nodes → leaf_in s l (up l page) leaves ≡ None → number_of s l (up l page) nodes ≡ None → end_level (top - 1) 0 s page leaves ≡ l
end-here top spaces s page l n leaves nodes words used t low at e f =
    end-is (top - 1) 0 l s page leaves (omega arith) (omega arith) (λ h g. false_from_ne_true _ (λ k. none h g (in-nodes-leaf s (suc h) (up (suc h) page) leaves k))) (last (t.exact.needed s (suc l) (up (suc l) page) n at.at_node))
  where
    none : (h : ℕ) → h < l → (z : Leaf) × In z leaves × Under s (suc h) (up (suc h) page) z → ⊥
    none h g r =
        let lower : level_of r.0.order < suc h = r.2.level_in in
        seen-low top s l (up l page) leaves nodes words r.0 t.store.image low e f r.1 r.2.space_is (omega arith) (up-from (suc h) l r.0.first page r.2.block_is (omega arith))

    last : (suc l ≡ top) ⊎ (in_nodes s (suc l) (up (suc l) page) leaves ≡ true) → (l ≡ 0 + (top - 1)) ⊎ (in_nodes s (suc l) (up (suc l) page) leaves ≡ true)
    last (inl g) = inl (omega arith)
    last (inr g) = inr g

there-is : (n nodes len i : ℕ) → n < nodes → len ≡ nodes * 512 → i < 512 → nat_le ((n * 512 + i) / 4 * 4 + 4) len ≡ true
there-is n nodes len i h e g = grind (arith, nat_tests)

at_node-at : (s l page n : ℕ) (nodes : List (Option Node)) → number_of s (suc l) (up (suc l) page) nodes ≡ Some n → IsAtNode s page l n nodes
at_node-at s l page n nodes e = record { at_node = (number-some s (suc l) (up (suc l) page) n nodes e).1 }

level-in : (top spaces s page l n : ℕ) (leaves : List Leaf) (nodes : List (Option Node)) (words used : List ℕ) → IsTable top spaces leaves nodes words used → IsAtNode s page l n nodes → l < top
level-in top spaces s page l n leaves nodes words used t at =
    elim (t.store.image.closed s (suc l) (up (suc l) page) n at.at_node) [
      | inl e ↦ omega arith
      | inr e ↦ let h = e.1 in omega arith
    ]

place-says : (top spaces s page l n : ℕ) (leaves : List Leaf) (nodes : List (Option Node)) (words used : List ℕ) → IsTable top spaces leaves nodes words used → IsAtNode s page l n nodes → Says (decode_of (slice_index words (place_of l n page)) l) s l (up l page) leaves nodes
place-says top spaces s page l n leaves nodes words used t at =
    let r = at_node-word top s page l n leaves nodes words t.store.image at in
    subst (λ (w : ℕ). Says (decode_of w l) s l (up l page) leaves nodes) (sym r.1) (says top spaces s l (up l page) leaves nodes t.store.mapping t.store.rooted.small)

-- One step, by what the word says.
step-is : (top spaces s page l n : ℕ) (leaves : List Leaf) (nodes : List (Option Node)) (words used : List ℕ) (on : ℕ → WalkEnd) (w : Pte) → IsTable top spaces leaves nodes words used → l < top → IsAtNode s page l n nodes → Says w s l (up l page) leaves nodes →
    ((m : ℕ) → number_of s l (up l page) nodes ≡ Some m → on m ≡ walk_end (leaf_at_page s page leaves) (end_level (top - 1) 0 s page leaves)) →
    end_at w l on ≡ walk_end (leaf_at_page s page leaves) (end_level (top - 1) 0 s page leaves)
step-is top spaces s page l n leaves nodes words used on pte.Invalid t low at h next =
    rw (found-none top spaces s page l n leaves nodes words used t low at h.0 h.1, end-here top spaces s page l n leaves nodes words used t low at h.0 h.1) refl
step-is top spaces s page l n leaves nodes words used on (pte.Pointer m) t low at h next = next m h.1
step-is top spaces s page l n leaves nodes words used on (pte.Leaf frame perm) t low at h next =
    let x = h.0 in
    let a = leaf-in-some s l (up l page) leaves x h.1 in
    rw (found-at top spaces s page l leaves x t.store.mapping h.1) (rw (a.1.level_is, h.2, h.3) refl)
step-is top spaces s page l n leaves nodes words used on pte.Reserved t low at h next = absurd h
step-is top spaces s page l n leaves nodes words used on pte.Misaligned t low at h next = absurd h

if-true : {A : Type 0} (b : Bool) (x y : A) → b ≡ true → (if b then x else y) ≡ x
if-true b x y e = rw e refl

reads : (top spaces s page l n : ℕ) (leaves : List Leaf) (nodes : List (Option Node)) (words used : List ℕ) → IsTable top spaces leaves nodes words used → IsAtNode s page l n nodes → reading words (suc l) n page ≡ walk_end (leaf_at_page s page leaves) (end_level (top - 1) 0 s page leaves)
reads top spaces s page zero n leaves nodes words used t at =
    let r = at_node-word top s page 0 n leaves nodes words t.store.image at in
    let there = there-is n (length nodes) (length words) (up 0 page % 512) r.0 t.store.image.size (omega arith) in
    if-true _ _ _ there ∙ step-is top spaces s page 0 n leaves nodes words used (λ next. reading words 0 next page) _ t (level-in top spaces s page 0 n leaves nodes words used t at) at (place-says top spaces s page 0 n leaves nodes words used t at) (λ m e. let low = pointer-low s 0 page m nodes e in absurd (omega arith))
reads top spaces s page (suc l) n leaves nodes words used t at =
    let r = at_node-word top s page (suc l) n leaves nodes words t.store.image at in
    let there = there-is n (length nodes) (length words) (up (suc l) page % 512) r.0 t.store.image.size (omega arith) in
    if-true _ _ _ there ∙ step-is top spaces s page (suc l) n leaves nodes words used (λ next. reading words (suc l) next page) _ t (level-in top spaces s page (suc l) n leaves nodes words used t at) at (place-says top spaces s page (suc l) n leaves nodes words used t at) (λ m e. reads top spaces s page l m leaves nodes words used t (at_node-at s l page m nodes e))

entered : (s l q next : ℕ) (leaves : List Leaf) (nodes : List (Option Node)) (w : Pte) → w ≡ pte.Pointer next → Says w s l q leaves nodes → number_of s l q nodes ≡ Some next
entered s l q next leaves nodes w e h = (subst (λ (v : Pte). Says v s l q leaves nodes) e h).1

back-is : (top spaces s page l n : ℕ) (leaves : List Leaf) (nodes : List (Option Node)) (words used : List ℕ) → IsTable top spaces leaves nodes words used → IsAtNode s page l n nodes → radix_back words l n page ≡ walk_end (leaf_at_page s page leaves) (end_level (top - 1) 0 s page leaves)
unfolding radix_back
back-is top spaces s page l n leaves nodes words used t at = reads top spaces s page l n leaves nodes words used t at

leaves-said : (top spaces : ℕ) (leaves : List Leaf) (nodes : List (Option Node)) (words used : List ℕ) → IsStore top spaces leaves nodes words used → LeavesSaid top leaves nodes
leaves-said top spaces leaves nodes words used store = record {
  ends = λ s page x e. leaf-ends top spaces s page x leaves store.high store.mapping e;
  said = λ s page x e. leaf-said top spaces s page x leaves store.mapping e;
  levels = (store.high, store.low);
  small = store.rooted.small;
}

words-back : (top spaces : ℕ) (leaves : List Leaf) (nodes : List (Option Node)) (words used : List ℕ) → IsTable top spaces leaves nodes words used → WordsReadBack top spaces leaves nodes words
words-back top spaces leaves nodes words used t = record {
  roots = λ s h. number-only s top 0 s nodes (t.store.rooted.root s h) (λ m g. t.store.image.apart s top 0 m s g (t.store.rooted.root s h));
  back = λ s page l n e. back-is top spaces s page l n leaves nodes words used t (at_node-at s l page n nodes e);
  entered = λ s page l n next e f. entered s l (up l page) next leaves nodes _ f (place-says top spaces s page l n leaves nodes words used t (at_node-at s l page n nodes e));
  each = t.store.image.same;
  filled = words-image top leaves nodes words t.store.image;
  kept = leaves-said top spaces leaves nodes words used t.store;
}

pub returns : goal.returns
returns g c =
    let exact = rw (← c.self.view_is) at c.requires in
    rw (← c.self.view_is) (words-back g.row.LEVELS _ _ _ _ _ (record { store = c.self.invariant; exact = exact }))
