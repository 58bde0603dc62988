-- The lines of a radix table's words, node by node.
use Rattle.std.proofs.Common.{◌++◌, ◌+◌, ◌-◌, ◌∙◌, ◌∷◌, ◌≡◌, ◌≤◌, [], ap, append_assoc, arith, Bool, drop, false, length, List, None, Option, refl, Some, subst, suc, sym, take, true, zero, ℕ}
use Rattle.std.proofs.lemmas.List.{append-nil, take_all}
use Rattle.std.specs.Prelude.{IfSome, is_some, slice_index_or}
use Rattle.xl_model.specs.Image.{image, image_from, unless_zero, Word, word_of, words_from}
use Rattle.xl_model.specs.Lines.{image_line}
use Rattle.xl_model.specs.Nodes.{Node}
use Rattle.xl_model.specs.Report.{word_lines}
use Rattle.xl_model.specs.declared.leaf.Leaf.{Leaf}
use Rattle.xl_outside.proofs.SinkLemmas.{sink_cut, sink_then}
use Rattle.xl_outside.specs.Sinks.{SinkAfter, SinkMeaning}

unless-append : (n i w : ℕ) (xs ys : List Word) → unless_zero n i w (xs ++ ys) ≡ unless_zero n i w xs ++ ys
unless-append n i zero xs ys = refl
unless-append n i (suc w) xs ys = refl

lines-append : (name : List ℕ) (xs ys : List Word) → word_lines name (xs ++ ys) ≡ word_lines name xs ++ word_lines name ys
lines-append name [] ys = refl
lines-append name (x ∷ xs) ys =
    ap (λ (t : List ℕ). image_line name x ++ t) (lines-append name xs ys) ∙ sym (append_assoc (image_line name x) (word_lines name xs) (word_lines name ys))

-- the line of one word
unless-line : (name : List ℕ) (n i w : ℕ) → (w ≡ 0 → ⊥) → word_lines name (unless_zero n i w []) ≡ image_line name (record { node = n; index = i; word = w })
unless-line name n i zero h = absurd (h refl)
unless-line name n i (suc w) h = append-nil (image_line name (record { node = n; index = i; word = suc w }))

module _ (leaves : List Leaf) (nodes : List (Option Node)) where
  -- the words of a node, in two parts
  words-parts : (n : ℕ) (node : Node) (a x y : ℕ) → words_from leaves nodes n node a (x + y) ≡ words_from leaves nodes n node a x ++ words_from leaves nodes n node (a + x) y
  words-parts n node a zero y =
      let e : a + 0 ≡ a = omega arith in
      let f : 0 + y ≡ y = omega arith in
      rw (e, f) refl
  words-parts n node a (suc x) y =
      let e : suc a + x ≡ a + suc x = omega arith in
      let s : suc x + y ≡ suc (x + y) = omega arith in
      let w = word_of leaves nodes (Some node) a in
      ap (words_from leaves nodes n node a) s
      ∙ ap (unless_zero n a w) (words-parts n node (suc a) x y)
      ∙ unless-append n a w (words_from leaves nodes n node (suc a) x) (words_from leaves nodes n node (suc a + x) y)
      ∙ ap (λ (v : ℕ). unless_zero n a w (words_from leaves nodes n node (suc a) x) ++ words_from leaves nodes n node v y) e

  -- those of a number; none where no node has it
  abbrev words_at : ℕ → Option Node → List Word
  words_at n None = []
  words_at n (Some node) = words_from leaves nodes n node 0 512

  image-next : (a n : ℕ) (rest : List (Option Node)) → image_from leaves nodes a (take (suc n) rest) ≡ image_from leaves nodes a (take n rest) ++ words_at (a + n) (slice_index_or rest n None)
  image-next a zero [] = refl
  image-next a (suc n) [] = refl
  image-next a zero (None ∷ rest) = refl
  image-next a zero (Some node ∷ rest) =
      let e : a + 0 ≡ a = omega arith in
      append-nil (words_from leaves nodes a node 0 512) ∙ ap (λ (v : ℕ). words_from leaves nodes v node 0 512) (sym e)
  image-next a (suc n) (None ∷ rest) =
      let e : suc a + n ≡ a + suc n = omega arith in
      image-next (suc a) n rest ∙ ap (λ (v : ℕ). image_from leaves nodes (suc a) (take n rest) ++ words_at v (slice_index_or rest n None)) e
  image-next a (suc n) (Some node ∷ rest) =
      let e : suc a + n ≡ a + suc n = omega arith in
      let own = words_from leaves nodes a node 0 512 in
      ap (λ (ws : List Word). own ++ ws) (image-next (suc a) n rest ∙ ap (λ (v : ℕ). image_from leaves nodes (suc a) (take n rest) ++ words_at v (slice_index_or rest n None)) e)
      ∙ sym (append_assoc own (image_from leaves nodes (suc a) (take n rest)) (words_at (a + suc n) (slice_index_or rest n None)))

  image-parts : (a n : ℕ) (rest : List (Option Node)) → image_from leaves nodes a rest ≡ image_from leaves nodes a (take n rest) ++ image_from leaves nodes (a + n) (drop n rest)
  image-parts a zero [] = refl
  image-parts a (suc n) [] = refl
  image-parts a zero (x ∷ rest) = let e : a + 0 ≡ a = omega arith in rw e refl
  image-parts a (suc n) (None ∷ rest) =
      let e : suc a + n ≡ a + suc n = omega arith in
      image-parts (suc a) n rest ∙ ap (λ (v : ℕ). image_from leaves nodes (suc a) (take n rest) ++ image_from leaves nodes v (drop n rest)) e
  image-parts a (suc n) (Some node ∷ rest) =
      let e : suc a + n ≡ a + suc n = omega arith in
      let own = words_from leaves nodes a node 0 512 in
      ap (λ (ws : List Word). own ++ ws) (image-parts (suc a) n rest ∙ ap (λ (v : ℕ). image_from leaves nodes (suc a) (take n rest) ++ image_from leaves nodes v (drop n rest)) e)
      ∙ sym (append_assoc own (image_from leaves nodes (suc a) (take n rest)) (image_from leaves nodes (a + suc n) (drop n rest)))

module _ {K : Type 0} (sink : SinkMeaning K) (name : List ℕ) (leaves : List Leaf) (nodes : List (Option Node)) where
  -- the lines of some words were written: whole, or up to a put that failed
  abbrev pub Lines : List Word → K → K → Bool → Type 0
  Lines words k l whole = SinkAfter sink (word_lines name words) k l whole

  lines-then : (xs ys : List Word) (k l m : K) (whole : Bool) → Lines xs k l true → Lines ys l m whole → Lines (xs ++ ys) k m whole
  lines-then xs ys k l m whole first second =
      subst (λ (t : List ℕ). SinkAfter sink t k m whole) (sym (lines-append name xs ys))
      (sink_then sink (word_lines name xs) (word_lines name ys) k l m whole first second)

  lines-cut : (xs ys : List Word) (k l : K) → Lines xs k l false → Lines (xs ++ ys) k l false
  lines-cut xs ys k l first =
      subst (λ (t : List ℕ). SinkAfter sink t k l false) (sym (lines-append name xs ys))
      (sink_cut sink (word_lines name xs) (word_lines name ys) k l first)

  -- the first words of the node of a number, if it has one
  abbrev pub NodeLines : ℕ → Option Node → ℕ → K → K → Bool → Type 0
  NodeLines n o i k l whole = IfSome o (λ node. Lines (words_from leaves nodes n node 0 i) k l whole)

  next-words : (n : ℕ) (node : Node) (i w : ℕ) → w ≡ word_of leaves nodes (Some node) i → words_from leaves nodes n node 0 (i + 1) ≡ words_from leaves nodes n node 0 i ++ unless_zero n i w []
  next-words n node i w e =
      let z : 0 + i ≡ i = omega arith in
      words-parts leaves nodes n node 0 i 1 ∙ ap (λ (v : ℕ). words_from leaves nodes n node 0 i ++ words_from leaves nodes n node v 1) z
      ∙ ap (λ (v : ℕ). words_from leaves nodes n node 0 i ++ unless_zero n i v []) (sym e)

  pub word-written : (n : ℕ) (o : Option Node) (i w : ℕ) (k l m : K) (whole : Bool) → w ≡ word_of leaves nodes o i → (w ≡ 0 → ⊥)
      → NodeLines n o i k l true → SinkAfter sink (image_line name (record { node = n; index = i; word = w })) l m whole → NodeLines n o (i + 1) k m whole
  word-written n None i w k l m whole e h first second = tt
  word-written n (Some node) i w k l m whole e h first second =
      subst (λ (ws : List Word). Lines ws k m whole) (sym (next-words n node i w e))
      (lines-then (words_from leaves nodes n node 0 i) (unless_zero n i w []) k l m whole first
      (subst (λ (t : List ℕ). SinkAfter sink t l m whole) (sym (unless-line name n i w h)) second))

  pub word-passed : (n : ℕ) (o : Option Node) (i w : ℕ) (k l : K) → w ≡ word_of leaves nodes o i → w ≡ 0 → NodeLines n o i k l true → NodeLines n o (i + 1) k l true
  word-passed n None i w k l e z first = tt
  word-passed n (Some node) i w k l e z first =
      subst (λ (ws : List Word). Lines ws k l true)
      (sym (next-words n node i w e ∙ ap (λ (v : ℕ). words_from leaves nodes n node 0 i ++ unless_zero n i v []) z ∙ append-nil (words_from leaves nodes n node 0 i))) first

  -- a put failed at a word of the node
  pub node-cut : (size n : ℕ) (o : Option Node) (i : ℕ) (k l : K) → i ≤ size → NodeLines n o i k l false → NodeLines n o size k l false
  node-cut size n None i k l h first = tt
  node-cut size n (Some node) i k l h first =
      let e : i + (size - i) ≡ size = omega arith in
      let z : 0 + i ≡ i = omega arith in
      let parts : words_from leaves nodes n node 0 size ≡ words_from leaves nodes n node 0 i ++ words_from leaves nodes n node i (size - i) =
      ap (words_from leaves nodes n node 0) (sym e) ∙ words-parts leaves nodes n node 0 i (size - i) ∙ ap (λ (v : ℕ). words_from leaves nodes n node 0 i ++ words_from leaves nodes n node v (size - i)) z in
      subst (λ (ws : List Word). Lines ws k l false) (sym parts)
      (lines-cut (words_from leaves nodes n node 0 i) (words_from leaves nodes n node i (size - i)) k l first)

  -- the words of the first numbers
  abbrev pub TableLines : ℕ → K → K → Bool → Type 0
  TableLines n k l whole = Lines (image_from leaves nodes 0 (take n nodes)) k l whole

  next-image : (n : ℕ) → image_from leaves nodes 0 (take (n + 1) nodes) ≡ image_from leaves nodes 0 (take n nodes) ++ words_at leaves nodes n (slice_index_or nodes n None)
  next-image n =
      let e : n + 1 ≡ suc n = omega arith in
      let z : 0 + n ≡ n = omega arith in
      ap (λ (v : ℕ). image_from leaves nodes 0 (take v nodes)) e ∙ image-next leaves nodes 0 n nodes
      ∙ ap (λ (v : ℕ). image_from leaves nodes 0 (take n nodes) ++ words_at leaves nodes v (slice_index_or nodes n None)) z

  at-node : (o : Option Node) (n : ℕ) (l m : K) (whole : Bool) → is_some o ≡ true → NodeLines n o 512 l m whole → Lines (words_at leaves nodes n o) l m whole
  at-node None n l m whole e h = cc
  at-node (Some node) n l m whole e h = h

  no-node : (o : Option Node) (n : ℕ) → is_some o ≡ false → words_at leaves nodes n o ≡ []
  no-node None n e = refl
  no-node (Some node) n e = cc

  pub node-written : (n : ℕ) (k l m : K) (whole : Bool) → is_some (slice_index_or nodes n None) ≡ true → TableLines n k l true
      → NodeLines n (slice_index_or nodes n None) 512 l m whole → TableLines (n + 1) k m whole
  node-written n k l m whole e first second =
      subst (λ (ws : List Word). Lines ws k m whole) (sym (next-image n))
      (lines-then (image_from leaves nodes 0 (take n nodes)) (words_at leaves nodes n (slice_index_or nodes n None)) k l m whole first (at-node (slice_index_or nodes n None) n l m whole e second))

  pub number-passed : (n : ℕ) (k l : K) → is_some (slice_index_or nodes n None) ≡ false → TableLines n k l true → TableLines (n + 1) k l true
  number-passed n k l e first =
      subst (λ (ws : List Word). Lines ws k l true)
      (sym (next-image n ∙ ap (λ (ws : List Word). image_from leaves nodes 0 (take n nodes) ++ ws) (no-node (slice_index_or nodes n None) n e) ∙ append-nil (image_from leaves nodes 0 (take n nodes)))) first

  -- a put failed at a node
  pub table-cut : (n : ℕ) (k l : K) → TableLines n k l false → Lines (image leaves nodes) k l false
  unfolding image
  table-cut n k l first =
      let z : 0 + n ≡ n = omega arith in
      let parts : image_from leaves nodes 0 nodes ≡ image_from leaves nodes 0 (take n nodes) ++ image_from leaves nodes n (drop n nodes) =
      image-parts leaves nodes 0 n nodes ∙ ap (λ (v : ℕ). image_from leaves nodes 0 (take n nodes) ++ image_from leaves nodes v (drop n nodes)) z in
      subst (λ (ws : List Word). Lines ws k l false) (sym parts)
      (lines-cut (image_from leaves nodes 0 (take n nodes)) (image_from leaves nodes n (drop n nodes)) k l first)

  -- the whole table
  pub table-whole : (n : ℕ) (k l : K) → length nodes ≤ n → TableLines n k l true → Lines (image leaves nodes) k l true
  unfolding image
  table-whole n k l h first = subst (λ (ns : List (Option Node)). Lines (image_from leaves nodes 0 ns) k l true) (take_all n nodes h) first
