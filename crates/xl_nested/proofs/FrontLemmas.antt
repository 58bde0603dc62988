-- The first two leaves of the G cache, by their blocks.
use Rattle.xl_nested.proofs.Common.{◌<◌, ◌^◌, ◌∙◌, ◌∷◌, ◌≡◌, [], ap, arith, Block, Bool, covers_guest, exchanged, false, find, find-passes, has_page, host_page, IfSome, in_front, in_order, inl, inr, IsBlockOf, IsFirst, IsFound, IsFoundBlock, IsFronts, IsKept, IsPageWord, IsPushed, IsSecond, IsSmallBlock, IsTouched, Leaf, List, nat_lt, nat_tests, None, Option, refl, Some, subst, sym, touched, touched-none, true, without_first, word_at, ℕ}
use Rattle.xl_nested.specs.declared.front_cache.Fronts.{Fronts}

-- a block that has a page has some
some-page : (b : Block) (g : ℕ) → has_page b g ≡ true → 0 < b.pages
some-page b g e = grind (arith, nat_tests)

no-page : (b : Block) (g : ℕ) → b.pages ≡ 0 → has_page b g ≡ false
no-page b g e = go (has_page b g) refl
  where
    go : (t : Bool) → has_page b g ≡ t → has_page b g ≡ false
    go true h = let k : 0 < b.pages = some-page b g h in absurd (omega arith)
    go false h = h

has-first : (b : Block) → 0 < b.pages → has_page b b.first ≡ true
has-first b pos = grind (arith, nat_tests)

-- blocks apart, the other way round
apart-back : (b c : Block) (g : ℕ) → (has_page b g ≡ true → has_page c g ≡ false) → has_page c g ≡ true → has_page b g ≡ false
apart-back b c g apart has = go (has_page b g) refl
  where
    go : (t : Bool) → has_page b g ≡ t → has_page b g ≡ false
    go true h = let k : has_page c g ≡ false = apart h in let z : true ≡ false = sym has ∙ k in absurd (cc)
    go false h = h

-- a block without pages is that of no leaf
unknown-first : (c : Block) (leaves : List Leaf) → c.pages ≡ 0 → IsFirst c leaves
unknown-first c [] e = e
unknown-first c (x ∷ rest) e = λ pos. absurd (omega arith)

unknown-second : (c : Block) (leaves : List Leaf) → c.pages ≡ 0 → IsSecond c leaves
unknown-second c [] e = e
unknown-second c (x ∷ rest) e = unknown-first c rest e

pub unknown : (f : Fronts) (leaves : List Leaf) → IsSmallBlock f.first → IsSmallBlock f.second → f.first.pages ≡ 0 → f.second.pages ≡ 0 → f.swapped ≡ false → IsFronts f leaves
unknown f leaves first_small second_small a b straight = record {
  first_small = first_small;
  second_small = second_small;
  first_is = unknown-first f.first leaves a;
  second_is = unknown-second f.second leaves b;
  apart = λ g e. no-page f.second g b;
  beside = λ pos. absurd (omega arith);
  known = λ e. absurd (cc);
}

-- where no leaf is known
module _ (f : Fronts) (leaves : List Leaf) (is : IsFronts f leaves) (none : f.first.pages ≡ 0) where
  second-unknown : f.second.pages ≡ 0
  second-unknown = go (nat_lt 0 f.second.pages) refl
    where
      go : (t : Bool) → nat_lt 0 f.second.pages ≡ t → f.second.pages ≡ 0
      go true e =
          let pos : 0 < f.second.pages = grind (arith, nat_tests) in
          let k : 0 < f.first.pages = is.beside pos in
          absurd (omega arith)
      go false e = grind (arith, nat_tests)

  pub unknown-straight : f.swapped ≡ false
  unknown-straight = go f.swapped refl
    where
      go : (t : Bool) → f.swapped ≡ t → f.swapped ≡ false
      go true e = let pos : 0 < f.second.pages = is.known e in let k : 0 < f.first.pages = is.beside pos in absurd (omega arith)
      go false e = e

-- the newest of those that pass a test is the first, or the second
module _ (p : Leaf → Bool) where
  find-first : (x : Leaf) (rest : List Leaf) → p x ≡ true → find p (x ∷ rest) ≡ Some x
  find-first x rest e = rw e refl

  touched-first : (x : Leaf) (rest : List Leaf) → p x ≡ true → touched p (x ∷ rest) ≡ x ∷ rest
  touched-first x rest e = rw e refl

  find-second : (x y : Leaf) (rest : List Leaf) → p x ≡ false → p y ≡ true → find p (x ∷ (y ∷ rest)) ≡ Some y
  find-second x y rest e f = rw (e, f) refl

  touched-second : (x y : Leaf) (rest : List Leaf) → p x ≡ false → p y ≡ true → touched p (x ∷ (y ∷ rest)) ≡ y ∷ (x ∷ rest)
  touched-second x y rest e f = rw (e, f) refl

  touched-found : (x : Leaf) (leaves : List Leaf) → find p leaves ≡ Some x → touched p leaves ≡ x ∷ without_first p leaves
  touched-found x leaves e = ap (λ (o : Option Leaf). in_front o (without_first p leaves)) e

  without-following : (x : Leaf) (rest : List Leaf) → p x ≡ false → without_first p (x ∷ rest) ≡ x ∷ without_first p rest
  without-following x rest e = rw e refl

-- the leaf that a look finds, in front of the others
record IsNewest (g : ℕ) (b : Block) (seen new : List Leaf) : Type 0 where
  leaf : Leaf
  block : IsBlockOf b leaf
  found : find (covers_guest g) seen ≡ Some leaf
  moved : new ≡ touched (covers_guest g) seen

module _ (g : ℕ) (b c : Block) where
  by-second : (s : Bool) (leaves : List Leaf) → IsFirst b leaves → IsSecond c leaves → (0 < c.pages → 0 < b.pages) → has_page b g ≡ false → has_page c g ≡ true
      → IsNewest g c (in_order s leaves) (exchanged leaves)
  by-second s [] first second beside following has = let k : 0 < c.pages = some-page c g has in absurd (omega arith)
  by-second s (x ∷ []) first second beside following has = let k : 0 < c.pages = some-page c g has in absurd (omega arith)
  by-second false (x ∷ (y ∷ rest)) first second beside following has =
      let pos : 0 < c.pages = some-page c g has in
      let is : IsBlockOf c y = second pos in
      let other : IsBlockOf b x = first (beside pos) in
      let t : covers_guest g y ≡ true = is.covers g ∙ has in
      let u : covers_guest g x ≡ false = other.covers g ∙ following in
      record { leaf = y; block = is; found = find-second (covers_guest g) x y rest u t; moved = sym (touched-second (covers_guest g) x y rest u t) }
  by-second true (x ∷ (y ∷ rest)) first second beside following has =
      let is : IsBlockOf c y = second (some-page c g has) in
      let t : covers_guest g y ≡ true = is.covers g ∙ has in
      record { leaf = y; block = is; found = find-first (covers_guest g) y (x ∷ rest) t; moved = sym (touched-first (covers_guest g) y (x ∷ rest) t) }

-- the word of the page in the leaf found
word-found : (b : Block) (g w : ℕ) (x : Leaf) (o : Option Leaf) → o ≡ Some x → IsBlockOf b x → has_page b g ≡ true → w ≡ word_at b g → IsFound (host_page g) (Some w) o
word-found b g w x o e is has word =
    let said : IsPageWord (host_page g) w x = subst (λ (n : ℕ). IsPageWord (host_page g) n x) (sym word) (is.says g has) in
    subst (λ (y : Option Leaf). IsFound (host_page g) (Some w) y) (sym e) said

-- a hit in the first leaf, and in the second
-- the second leaf is moved to the front
exchanged-fronts : (f : Fronts) (leaves : List Leaf) → IsFronts f leaves → 0 < f.second.pages → IsFronts (record { first = f.second; second = f.first; swapped = false }) (exchanged leaves)
exchanged-fronts f leaves is pos = record {
  first_small = is.second_small;
  second_small = is.first_small;
  first_is = firsts leaves is.first_is is.second_is;
  second_is = seconds leaves is.first_is is.second_is;
  apart = λ g e. apart-back f.first f.second g (is.apart g) e;
  beside = λ e. pos;
  known = λ e. absurd (cc);
}
  where
    firsts : (leaves : List Leaf) → IsFirst f.first leaves → IsSecond f.second leaves → IsFirst f.second (exchanged leaves)
    firsts [] a b = b
    firsts (x ∷ []) a b = λ e. absurd (omega arith)
    firsts (x ∷ (y ∷ rest)) a b = b

    seconds : (leaves : List Leaf) → IsFirst f.first leaves → IsSecond f.second leaves → IsSecond f.first (exchanged leaves)
    seconds [] a b = a
    seconds (x ∷ []) a b = absurd (omega arith)
    seconds (x ∷ (y ∷ rest)) a b = a

module _ (f : Fronts) (leaves new : List Leaf) (is : IsFronts f leaves) (swapped : f.swapped ≡ true) (moved : new ≡ touched (covers_guest f.second.first) leaves) where
  pub swap-items : new ≡ exchanged leaves
  swap-items =
      let pos : 0 < f.second.pages = is.known swapped in
      let has : has_page f.second f.second.first ≡ true = has-first f.second pos in
      let following : has_page f.first f.second.first ≡ false = apart-back f.first f.second f.second.first (is.apart f.second.first) has in
      let n : IsNewest f.second.first f.second leaves (exchanged leaves) = by-second f.second.first f.first f.second false leaves is.first_is is.second_is is.beside following has in
      moved ∙ sym n.moved

  pub swap-fronts : IsFronts (record { first = f.second; second = f.first; swapped = false }) new
  swap-fronts = subst (λ (xs : List Leaf). IsFronts (record { first = f.second; second = f.first; swapped = false }) xs) (sym swap-items) (exchanged-fronts f leaves is (is.known swapped))

-- a look through the list
block-none : (o : Option Leaf) → IsFoundBlock None o → o ≡ None
block-none None found = refl
block-none (Some x) found = absurd found

block-some : (b : Block) (o : Option Leaf) → IsFoundBlock (Some b) o → (x : Leaf) × ((o ≡ Some x) × IsBlockOf b x)
block-some b None found = absurd found
block-some b (Some x) found = (x, (refl, found))

pub found-page : (g : ℕ) (b : Block) (seen : List Leaf) → IsFoundBlock (Some b) (find (covers_guest g) seen) → has_page b g ≡ true
found-page g b seen found =
    let s = block-some b (find (covers_guest g) seen) found in
    let is : IsBlockOf b s.0 = s.1.1 in
    sym (is.covers g) ∙ find-passes (covers_guest g) s.0 seen s.1.0

module _ (g : ℕ) (f new_f : Fronts) (leaves seen new : List Leaf) (order : in_order f.swapped leaves ≡ seen) (straight : new_f.swapped ≡ false) (moved : new ≡ touched (covers_guest g) seen) where
  as-seen : (word : Option ℕ) → IsFound (host_page g) word (find (covers_guest g) seen) → IsFronts new_f new → IfSome word (λ w. w < 2 ^ 49) → IsTouched g word f new_f leaves new
  as-seen word found fronts small = record {
    found = subst (λ (xs : List Leaf). IsFound (host_page g) word (find (covers_guest g) xs)) (sym order) found;
    moved = ap (λ (s : Bool). in_order s new) straight ∙ moved ∙ ap (λ (xs : List Leaf). touched (covers_guest g) xs) (sym order);
    fronts = fronts;
    small = small;
  }

  pub missed : IsFronts new_f seen → IsFoundBlock None (find (covers_guest g) seen) → IsTouched g None f new_f leaves new
  missed is found =
      let none : find (covers_guest g) seen ≡ None = block-none (find (covers_guest g) seen) found in
      let same : new ≡ seen = moved ∙ touched-none (covers_guest g) seen none in
      as-seen None (subst (λ (o : Option Leaf). IsFound (host_page g) None o) (sym none) tt) (subst (λ (xs : List Leaf). IsFronts new_f xs) (sym same) is) tt

  pub hit : (b : Block) (w : ℕ) → IsFoundBlock (Some b) (find (covers_guest g) seen) → w ≡ word_at b g → w < 2 ^ 49 → IsFronts new_f new → IsTouched g (Some w) f new_f leaves new
  hit b w found word small is =
      let s = block-some b (find (covers_guest g) seen) found in
      as-seen (Some w) (word-found b g w s.0 _ s.1.0 s.1.1 (found-page g b seen found) word) is small

-- what is known after it
module _ (g : ℕ) (b : Block) (f new_f : Fronts) (seen new : List Leaf) (is : IsFronts f seen) (small : IsSmallBlock b) (found : IsFoundBlock (Some b) (find (covers_guest g) seen))
    (moved : new ≡ touched (covers_guest g) seen) where
  in-front : (x : Leaf) → find (covers_guest g) seen ≡ Some x → new ≡ x ∷ without_first (covers_guest g) seen
  in-front x e = moved ∙ touched-found (covers_guest g) x seen e

  first-of-new : IsFirst b new
  first-of-new =
      let s = block-some b (find (covers_guest g) seen) found in
      let block : IsBlockOf b s.0 = s.1.1 in
      subst (λ (xs : List Leaf). IsFirst b xs) (sym (in-front s.0 s.1.0)) (λ pos. block)

  pub kept-fronts : f.first.pages ≡ 0 → IsKept b f new_f → IsFronts new_f new
  kept-fronts none k =
      let second : f.second.pages ≡ 0 = second-unknown f seen is none in
      let none_second : new_f.second.pages ≡ 0 = ap (λ (c : Block). c.pages) k.second_is ∙ second in
      record {
        first_small = elim k.first_is [
          | inl e ↦ subst IsSmallBlock (sym e) small
          | inr e ↦ subst IsSmallBlock (sym e) is.first_small
        ];
        second_small = subst IsSmallBlock (sym k.second_is) is.second_small;
        first_is = elim k.first_is [
          | inl e ↦ subst (λ (c : Block). IsFirst c new) (sym e) first-of-new
          | inr e ↦ subst (λ (c : Block). IsFirst c new) (sym e) (unknown-first f.first new none)
        ];
        second_is = unknown-second new_f.second new none_second;
        apart = λ n e. no-page new_f.second n none_second;
        beside = λ pos. absurd (omega arith);
        known = λ e. let z : true ≡ false = sym e ∙ k.swapped_is ∙ unknown-straight f seen is none in absurd (cc);
      }

  was-first : (c : Block) (leaves : List Leaf) → (0 < c.pages → c ≡ f.first) → IsFirst f.first leaves → IsFirst c leaves
  was-first c [] was first = go (nat_lt 0 c.pages) refl
    where
      go : (t : Bool) → nat_lt 0 c.pages ≡ t → c.pages ≡ 0
      go true e =
          let pos : 0 < c.pages = grind (arith, nat_tests) in
          let same : c.pages ≡ f.first.pages = ap (λ (k : Block). k.pages) (was pos) in
          absurd (omega arith)
      go false e = grind (arith, nat_tests)
  was-first c (x ∷ rest) was first = λ pos. subst (λ (k : Block). IsBlockOf k x) (sym (was pos)) (first (subst (λ (k : Block). 0 < k.pages) (was pos) pos))

  second-of : (c : Block) (leaves : List Leaf) → IsFirst c leaves → has_page c g ≡ false → (x : Leaf) → find (covers_guest g) leaves ≡ Some x → IsSecond c (x ∷ without_first (covers_guest g) leaves)
  second-of c [] first following x e = absurd (cc)
  second-of c (z ∷ rest) first following x e = go (nat_lt 0 c.pages) refl
    where
      go : (t : Bool) → nat_lt 0 c.pages ≡ t → IsFirst c (without_first (covers_guest g) (z ∷ rest))
      go true h =
          let pos : 0 < c.pages = grind (arith, nat_tests) in
          let block : IsBlockOf c z = first pos in
          let u : covers_guest g z ≡ false = block.covers g ∙ following in
          subst (λ (xs : List Leaf). IsFirst c xs) (sym (without-following (covers_guest g) z rest u)) first
      go false h = let none : c.pages ≡ 0 = grind (arith, nat_tests) in unknown-first c _ none

  pub pushed-fronts : IsPushed b f new_f → IsFronts new_f new
  pushed-fronts k =
      let s = block-some b (find (covers_guest g) seen) found in
      let block : IsBlockOf b s.0 = s.1.1 in
      let following : has_page new_f.second g ≡ false = k.apart g (found-page g b seen found) in
      record {
        first_small = subst IsSmallBlock (sym k.first_is) small;
        second_small = k.second_small;
        first_is = subst (λ (c : Block). IsFirst c new) (sym k.first_is) first-of-new;
        second_is = subst (λ (xs : List Leaf). IsSecond new_f.second xs) (sym (in-front s.0 s.1.0)) (second-of new_f.second seen (was-first new_f.second seen k.second_was is.first_is) following s.0 s.1.0);
        apart = λ n e. k.apart n (subst (λ (c : Block). has_page c n ≡ true) k.first_is e);
        beside = λ pos. subst (λ (c : Block). 0 < c.pages) (sym k.first_is) block.some;
        known = λ e. let z : true ≡ false = sym e ∙ k.straight in absurd (cc);
      }

-- a change of a list that was brought into order
pub changed-seen : (s : Bool) (new settled seen : List Leaf) (change : List Leaf → List Leaf) → s ≡ false → new ≡ change settled → settled ≡ seen → in_order s new ≡ change seen
changed-seen s new settled seen change straight e f = ap (λ (t : Bool). in_order t new) straight ∙ e ∙ ap change f
