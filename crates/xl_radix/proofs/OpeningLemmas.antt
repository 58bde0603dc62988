-- A table that is opened.
use Rattle.xl_radix.proofs.Common.{◌*◌, ◌++◌, ◌+◌, ◌-◌, ◌<◌, ◌∙◌, ◌∷◌, ◌≡◌, ◌≤◌, [], ap, arith, Bool, cases_lt, false, filled, free_count, get_or-replicate, get_or_past, in_nodes, inl, inr, is_below, IsCounted, IsExact, IsImage, IsStore, leaf_in, length, length-append, length-replicate, Node, None, number_of, opening_nodes, Option, read_back, refl, replicate, roots, same_Some, slice_index_or, Some, subst, suc, sym, true, word_of, zero, ℕ}
use Rattle.xl_numbers.proofs.FlagLemmas.{zero-word}
use Rattle.xl_radix.proofs.CountLemmas.{filled-nothing}
use Rattle.xl_radix.proofs.EndLemmas.{none-word}
use Rattle.xl_radix.proofs.ReadBackLemmas.{reads-back}
use Rattle.xl_radix.proofs.SlotLemmas.{below-some, is-below, number-some}

abbrev pub none-node : Option Node
none-node = None

abbrev pub root : ℕ → ℕ → Node
root levels s = record { space = s; level = levels - 1; prefix = 0 }

none-at : (k i : ℕ) → slice_index_or (replicate k None) i (none-node) ≡ none-node
none-at k i = elim (cases_lt i k) [
  | inl lt ↦ get_or-replicate k i none-node none-node lt
  | inr ge ↦ get_or_past (replicate k none-node) i none-node (let e = length-replicate k none-node in omega (arith, e, ge))
]

root-at : (levels a n k i : ℕ) → i < n → slice_index_or (roots levels a n ++ replicate k none-node) i none-node ≡ Some (root levels (a + i))
root-at levels a zero k i h = absurd (omega arith)
root-at levels a (suc n) k zero h = let e : a + 0 ≡ a = omega arith in rw e refl
root-at levels a (suc n) k (suc i) h = let e : a + suc i ≡ a + 1 + i = omega arith in root-at levels (a + 1) n k i (omega arith) ∙ rw e refl

free-at : (levels a n k i : ℕ) → n ≤ i → slice_index_or (roots levels a n ++ replicate k none-node) i none-node ≡ none-node
free-at levels a zero k i h = none-at k i
free-at levels a (suc n) k zero h = absurd (omega arith)
free-at levels a (suc n) k (suc i) h = free-at levels (a + 1) n k i (omega arith)

pub length-roots : (levels a n : ℕ) → length (roots levels a n) ≡ n
length-roots levels a zero = refl
length-roots levels a (suc n) = let e = length-roots levels (a + 1) n in rw e refl

pub length-opening : (levels spaces frames : ℕ) → spaces ≤ frames → length (opening_nodes levels spaces frames) ≡ frames
unfolding opening_nodes
length-opening levels spaces frames h =
    let a = length-append (roots levels 0 spaces) (replicate (frames - spaces) none-node) in
    let b = length-roots levels 0 spaces in
    let d = length-replicate (frames - spaces) none-node in
    a ∙ rw (b, d) (omega arith)

-- Each node of an opened table is a root.
pub opening-is : (levels spaces frames n : ℕ) (node : Node) → slice_index_or (opening_nodes levels spaces frames) n none-node ≡ Some node → (n < spaces) × (node ≡ root levels n)
unfolding opening_nodes
opening-is levels spaces frames n node h =
    elim (cases_lt n spaces) [
      | inl lt ↦ let e = root-at levels 0 spaces (frames - spaces) n lt in let z : 0 + n ≡ n = omega arith in (lt, same_Some _ _ (sym h ∙ e ∙ rw z refl))
      | inr ge ↦ let e = free-at levels 0 spaces (frames - spaces) n ge in absurd (differ (sym e ∙ h))
    ]
  where
    differ : none-node ≡ Some node → ⊥
    differ e = cc

pub opening-root : (levels spaces frames n : ℕ) → n < spaces → slice_index_or (opening_nodes levels spaces frames) n none-node ≡ Some (root levels n)
unfolding opening_nodes
opening-root levels spaces frames n h = let z : 0 + n ≡ n = omega arith in root-at levels 0 spaces (frames - spaces) n h ∙ rw z refl

count-free : (k : ℕ) → free_count (replicate k none-node) ≡ k
count-free zero = refl
count-free (suc k) = let e = count-free k in rw e (omega arith)

count-roots : (levels a n k : ℕ) → free_count (roots levels a n ++ replicate k none-node) ≡ k
count-roots levels a zero k = count-free k
count-roots levels a (suc n) k = count-roots levels (a + 1) n k

pub opening-count : (levels spaces frames : ℕ) → free_count (opening_nodes levels spaces frames) ≡ frames - spaces
unfolding opening_nodes
opening-count levels spaces frames = count-roots levels 0 spaces (frames - spaces)

opening-below : (levels spaces frames s l q n : ℕ) → 3 ≤ levels → is_below s l q (slice_index_or (opening_nodes levels spaces frames) n none-node) ≡ true → (s ≡ n) × (l ≡ levels)
opening-below levels spaces frames s l q n high h =
    let b = below-some s l q _ h in
    let r = opening-is levels spaces frames n b.0 b.1 in
    let i1 : n ≡ s = sym (ap (λ (v : Node). v.space) r.1) ∙ b.2.space_is in
    let i2 : levels - 1 + 1 ≡ l = sym (ap (λ (v : Node). v.level + 1) r.1) ∙ b.2.level_is in
    (sym i1, omega arith)

no-number : (levels spaces frames s l q : ℕ) → 3 ≤ levels → l < levels → number_of s l q (opening_nodes levels spaces frames) ≡ None
no-number levels spaces frames s l q high h =
    elim (number_of s l q (opening_nodes levels spaces frames)) as (λ o. number_of s l q (opening_nodes levels spaces frames) ≡ o → o ≡ None) [
      | Some n ↦ λ e. let r = opening-below levels spaces frames s l q n high (number-some s l q n _ e).1 in let f = r.1 in absurd (omega arith)
      | None ↦ λ e. refl
    ] refl

no-leaf : (s l q : ℕ) → leaf_in s l q [] ≡ None
unfolding leaf_in
no-leaf s l q = refl

no-nodes : (s l q : ℕ) → in_nodes s l q [] ≡ false
unfolding in_nodes
no-nodes s l q = refl

opening-word : (levels spaces frames n i : ℕ) (o : Option Node) → 3 ≤ levels → slice_index_or (opening_nodes levels spaces frames) n none-node ≡ o → word_of [] (opening_nodes levels spaces frames) o i ≡ 0
opening-word levels spaces frames n i None high h = refl
opening-word levels spaces frames n i (Some node) high h =
    let r = opening-is levels spaces frames n node h in
    let l : node.level ≡ levels - 1 = ap (λ (v : Node). v.level) r.1 in
    none-word node.space node.level (node.prefix * 512 + i) [] (opening_nodes levels spaces frames) (no-leaf node.space node.level (node.prefix * 512 + i)) (no-number levels spaces frames node.space node.level (node.prefix * 512 + i) high (omega arith))

opening-image : (levels spaces frames : ℕ) → 3 ≤ levels → spaces ≤ frames → IsImage levels [] (opening_nodes levels spaces frames) (replicate (frames * 512) 0)
opening-image levels spaces frames high h = record {
  size = length-replicate {A = ℕ} (frames * 512) 0 ∙ ap (λ (v : ℕ). v * 512) (sym (length-opening levels spaces frames h));
  same = λ n i g k. zero-word (frames * 512) (n * 512 + i) ∙ sym (opening-word levels spaces frames n i (slice_index_or (opening_nodes levels spaces frames) n none-node) high refl);
  apart = λ s l q n m a b. sym (opening-below levels spaces frames s l q n high a).0 ∙ (opening-below levels spaces frames s l q m high b).0;
  closed = λ s l q n a. inl (opening-below levels spaces frames s l q n high a).1;
  full = λ s l q a b e. let f = no-nodes s l q in no a f;
}
  where
    no : {b : Bool} → b ≡ true → b ≡ false → ⊥
    no e f = cc

opening-counted : (levels spaces frames size : ℕ) → size ≡ 512 → spaces ≤ frames → IsCounted (opening_nodes levels spaces frames) (replicate (frames * 512) 0) (replicate frames 0)
opening-counted levels spaces frames size big h = record {
  places = length-replicate {A = ℕ} frames 0 ∙ sym (length-opening levels spaces frames h);
  each = λ n g. zero-word frames n ∙ sym (subst (λ (v : ℕ). filled (replicate (frames * 512) 0) (n * 512) v ≡ 0) big (filled-nothing (replicate (frames * 512) 0) (n * 512) size (λ i k. zero-word (frames * 512) (n * 512 + i))));
}

pub opening-exact : (levels spaces frames : ℕ) → 3 ≤ levels → IsExact levels [] (opening_nodes levels spaces frames)
opening-exact levels spaces frames high = record {
  needed = λ s l q n a. inl (opening-below levels spaces frames s l q n high a).1;
}

pub opening-store : (levels spaces frames : ℕ) → 3 ≤ levels → levels ≤ 5 → spaces ≤ frames → frames ≤ 16384 → IsStore levels spaces [] (opening_nodes levels spaces frames) (replicate (frames * 512) 0) (replicate frames 0)
opening-store levels spaces frames high low h small = record {
  high = high;
  low = low;
  mapping = record {
    proper = λ x i. absurd i;
    sorted = tt;
    apart = λ x y i j s l e. absurd i;
  };
  image = opening-image levels spaces frames high h;
  counted = opening-counted levels spaces frames 512 refl h;
  rooted = record {
    root = λ s g. let e = opening-root levels spaces frames s g in rw e (is-below s levels 0 (root levels s) (record { space_is = refl; level_is = omega arith; prefix_is = refl }));
    spaces_in = let e = length-opening levels spaces frames h in omega (arith, e);
    small = let e = length-opening levels spaces frames h in omega (arith, e);
  };
}

pub opening-back : (levels spaces frames : ℕ) → 3 ≤ levels → levels ≤ 5 → spaces ≤ frames → frames ≤ 16384 → read_back (opening_nodes levels spaces frames) (replicate (frames * 512) 0) ≡ []
opening-back levels spaces frames high low h small =
    let s = opening-store levels spaces frames high low h small in
    reads-back levels spaces [] (opening_nodes levels spaces frames) (replicate (frames * 512) 0) high s.mapping s.image s.rooted.small
