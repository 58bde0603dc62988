-- Words that say which words below them are 0.
use Rattle.xl_numbers.proofs.Common.{◌%◌, ◌*◌, ◌+◌, ◌-◌, ◌/◌, ◌<◌, ◌==◌, ◌^◌, ◌∙◌, ◌≡◌, ap, AreOnes, AreWords, arith, bit_at, bit_at-trailing_ones, bit_at-zero, bit_at_ones, bit_of, Bool, cases_eq, cases_lt, false, inl, inr, IsAbove, IsFirstBit, IsFirstWord, IsPut, IsStack, IsWord, length, List, nat_tests, refl, slice_index, subst, sym, trailing_ones, true, w64, ℕ}
use Rattle.std.proofs.Math.Nat.{mul-add}
use Rattle.xl_numbers.proofs.BitLemmas.{bit-some, word-within}

-- the first bit above is that of the first word below that isn't 0
pub first-below : (below above : List ℕ) (j : ℕ) → IsAbove below above → IsFirstBit above j → IsFirstWord below j
first-below below above j a first = record {
  within = word-within below j (a.some j first.set);
  some = a.some j first.set;
  before = λ i less. a.none i (first.before i less);
}

-- a bit that is set, and the bit above its word too
pub above-raised : (below above below' above' : List ℕ) (k j : ℕ) → j ≡ k / 64 → IsAbove below above → IsPut below below' k 1 → IsPut above above' j 1 → IsAbove below' above'
above-raised below above below' above' k j is a low high = record {
  room = (let m = low.len in let n = high.len in let r = a.room in omega arith);
  some = λ i set. elim (cases_eq i j) [
    | inl same ↦ (let h = bit-some below' k low.here in let e : i ≡ k / 64 = same ∙ is in rw e h)
    | inr other ↦ (let h = a.some i (sym (high.others i other) ∙ set) in let e : slice_index below' i ≡ slice_index below i = low.words i (λ q. other (q ∙ sym is)) in omega arith)
  ];
  none = λ i clear. elim (cases_eq i j) [
    | inl same ↦ (let h : bit_of above' i ≡ 1 = ap (bit_of above') same ∙ high.here in absurd (omega arith))
    | inr other ↦ low.words i (λ q. other (q ∙ sym is)) ∙ a.none i (sym (high.others i other) ∙ clear)
  ];
}

-- a bit that is cleared, with its word: the bit above is cleared too
pub above-emptied : (below above below' above' : List ℕ) (k j : ℕ) → j ≡ k / 64 → IsAbove below above → IsPut below below' k 0 → slice_index below' (k / 64) ≡ 0 → IsPut above above' j 0 → IsAbove below' above'
above-emptied below above below' above' k j is a low empty high = record {
  room = (let m = low.len in let n = high.len in let r = a.room in omega arith);
  some = λ i set. elim (cases_eq i j) [
    | inl same ↦ (let h : bit_of above' i ≡ 0 = ap (bit_of above') same ∙ high.here in absurd (omega arith))
    | inr other ↦ (let h = a.some i (sym (high.others i other) ∙ set) in let e : slice_index below' i ≡ slice_index below i = low.words i (λ q. other (q ∙ sym is)) in omega arith)
  ];
  none = λ i clear. elim (cases_eq i j) [
    | inl same ↦ ap (slice_index below') (same ∙ is) ∙ empty
    | inr other ↦ low.words i (λ q. other (q ∙ sym is)) ∙ a.none i (sym (high.others i other) ∙ clear)
  ];
}

-- a word that comes in the place of another, and isn't 0
pub above-some : (below above below' above' : List ℕ) (j : ℕ) → IsAbove below above → length below' ≡ length below → ((i : ℕ) → (i ≡ j → ⊥) → slice_index below' i ≡ slice_index below i) → 0 < slice_index below' j → IsPut above above' j 1 → IsAbove below' above'
above-some below above below' above' j a len words some high = record {
  room = (let n = high.len in let r = a.room in omega arith);
  some = λ i set. elim (cases_eq i j) [
    | inl same ↦ rw same some
    | inr other ↦ (let h = a.some i (sym (high.others i other) ∙ set) in let e = words i other in omega arith)
  ];
  none = λ i clear. elim (cases_eq i j) [
    | inl same ↦ (let h : bit_of above' i ≡ 1 = ap (bit_of above') same ∙ high.here in absurd (omega arith))
    | inr other ↦ words i other ∙ a.none i (sym (high.others i other) ∙ clear)
  ];
}

-- a word of 0 that comes in the place of another
pub above-zero : (below above below' above' : List ℕ) (j : ℕ) → IsAbove below above → length below' ≡ length below → ((i : ℕ) → (i ≡ j → ⊥) → slice_index below' i ≡ slice_index below i) → slice_index below' j ≡ 0 → IsPut above above' j 0 → IsAbove below' above'
above-zero below above below' above' j a len words empty high = record {
  room = (let n = high.len in let r = a.room in omega arith);
  some = λ i set. elim (cases_eq i j) [
    | inl same ↦ (let h : bit_of above' i ≡ 0 = ap (bit_of above') same ∙ high.here in absurd (omega arith))
    | inr other ↦ (let h = a.some i (sym (high.others i other) ∙ set) in let e = words i other in omega arith)
  ];
  none = λ i clear. elim (cases_eq i j) [
    | inl same ↦ ap (slice_index below') same ∙ empty
    | inr other ↦ words i other ∙ a.none i (sym (high.others i other) ∙ clear)
  ];
}

-- three levels with a number put in
pub stack-raised : (low middle top low' middle' top' : List ℕ) (n : ℕ) → IsStack low middle top → IsPut low low' n 1 → IsPut middle middle' (n / 64) 1 → IsPut top top' (n / 4096) 1 → IsStack low' middle' top'
stack-raised low middle top low' middle' top' n s a b c =
    let up : n / 4096 ≡ n / 64 / 64 = omega arith in
    record {
      few = (let l = s.few in let m = a.len in omega arith);
      low_is = above-raised low middle low' middle' n (n / 64) refl s.low_is a b;
      middle_is = above-raised middle top middle' top' (n / 64) (n / 4096) up s.middle_is b c;
      last = (let l = s.last in let m = c.len in omega arith);
    }

-- three levels with a number taken out
module _ (low middle top low' : List ℕ) (n : ℕ) (s : IsStack low middle top) (there : bit_of low n ≡ 1) (a : IsPut low low' n 0) where
  module _ (empty : slice_index low' (n / 64) ≡ 0) (middle' : List ℕ) (b : IsPut middle middle' (n / 64) 0) where
    pub stack-top : slice_index middle' (n / 64 / 64) ≡ 0 → (top' : List ℕ) → IsPut top top' (n / 4096) 0 → IsStack low' middle' top'
    stack-top none top' c =
        let up : n / 4096 ≡ n / 64 / 64 = omega arith in
        record {
          few = (let l = s.few in let m = a.len in omega arith);
          low_is = above-emptied low middle low' middle' n (n / 64) refl s.low_is a empty b;
          middle_is = above-emptied middle top middle' top' (n / 64) (n / 4096) up s.middle_is b none c;
          last = (let l = s.last in let m = c.len in omega arith);
        }

-- a word that a test finds to be 0, or not
pub word-none : (n : ℕ) (r : Bool) → r ≡ (n == 0) → r ≡ true → n ≡ 0
word-none n r e h = grind (arith, nat_tests)

pub word-some : (n : ℕ) (r : Bool) → r ≡ (n == 0) → r ≡ false → 0 < n
word-some n r e h = (let z : n ≡ 0 → ⊥ = λ q. grind (arith, nat_tests) in omega arith)

-- three levels with one word of the lowest written
module _ (low middle top low' middle' top' : List ℕ) (at word : ℕ) (s : IsStack low middle top) (w : IsWord low low' at word) where
  pub stack-some : 0 < word → IsPut middle middle' at 1 → IsPut top top' (at / 64) 1 → IsStack low' middle' top'
  stack-some some b c = record {
    few = (let l = s.few in let m = w.len in omega arith);
    low_is = above-some low middle low' middle' at s.low_is w.len w.words (let h = w.here in omega arith) b;
    middle_is = above-raised middle top middle' top' at (at / 64) refl s.middle_is b c;
    last = (let l = s.last in let m = c.len in omega arith);
  }

  pub stack-emptied : word ≡ 0 → IsPut middle middle' at 0 → slice_index middle' (at / 64) ≡ 0 → IsPut top top' (at / 64) 0 → IsStack low' middle' top'
  stack-emptied none b empty c = record {
    few = (let l = s.few in let m = w.len in omega arith);
    low_is = above-zero low middle low' middle' at s.low_is w.len w.words (w.here ∙ none) b;
    middle_is = above-emptied middle top middle' top' at (at / 64) refl s.middle_is b empty c;
    last = (let l = s.last in let m = c.len in omega arith);
  }

  pub stack-left : word ≡ 0 → IsPut middle middle' at 0 → 0 < slice_index middle' (at / 64) → IsPut top top' (at / 64) 1 → IsStack low' middle' top'
  stack-left none b some c = record {
    few = (let l = s.few in let m = w.len in omega arith);
    low_is = above-zero low middle low' middle' at s.low_is w.len w.words (w.here ∙ none) b;
    middle_is = above-some middle top middle' top' (at / 64) s.middle_is b.len b.words some c;
    last = (let l = s.last in let m = c.len in omega arith);
  }

-- words written one after another
pub words-none : (words : List ℕ) (first word : ℕ) → AreWords words words first 0 word
words-none words first word = record {
  len = refl;
  inside = λ i l u. absurd (omega arith);
  below = λ i l. refl;
  above = λ i l. refl;
}

pub words-join : (old mid new : List ℕ) (first n m word : ℕ) → AreWords old mid first n word → AreWords mid new (first + n) m word → AreWords old new first (n + m) word
words-join old mid new first n m word a w = record {
  len = w.len ∙ a.len;
  inside = λ i l u. elim (cases_lt i (first + n)) [
    | inl less ↦ w.below i less ∙ a.inside i l less
    | inr more ↦ w.inside i more (omega arith)
  ];
  below = λ i l. w.below i (omega arith) ∙ a.below i l;
  above = λ i l. w.above i (omega arith) ∙ a.above i (omega arith);
}

pub word-one : (old new : List ℕ) (at word : ℕ) → IsWord old new at word → AreWords old new at 1 word
word-one old new at word w = record {
  len = w.len;
  inside = λ i l u. (let same : i ≡ at = omega arith in ap (slice_index new) same ∙ w.here);
  below = λ i l. w.words i (λ e. absurd (omega arith));
  above = λ i l. w.words i (λ e. absurd (omega arith));
}

pub words-more : (old mid new : List ℕ) (first count word : ℕ) → AreWords old mid first count word → IsWord mid new (first + count) word → AreWords old new first (count + 1) word
words-more old mid new first count word a w = words-join old mid new first count 1 word a (word-one mid new (first + count) word w)

-- words that are all ones
pub ones-all : (words : List ℕ) (first count : ℕ) → ((i : ℕ) → i < count → slice_index words (first + i) ≡ 2 ^ 64 - 1) → AreOnes words first count
ones-all words first count full = record {
  each = λ k l u.
      let place : k / 64 ≡ first + (k / 64 - first) = omega arith in
      let word : slice_index words (k / 64) ≡ 2 ^ 64 - 1 = ap (slice_index words) place ∙ full (k / 64 - first) (omega arith) in
      ap (λ n. bit_at n (k % 64)) word ∙ bit_at_ones 64 (k % 64) (omega arith);
}

-- a word that isn't all ones has a bit that isn't set
pub ones-none : (words : List ℕ) (first count i : ℕ) → i < count → slice_index words (first + i) < 2 ^ 64 → (slice_index words (first + i) ≡ 2 ^ 64 - 1 → ⊥) → AreOnes words first count → ⊥
ones-none words first count i less fits other ones =
    let w : ℕ = slice_index words (first + i) in
    let clear = bit_at-trailing_ones w64 w (omega arith) in
    let t : ℕ = trailing_ones w64 w in
    let k : ℕ = 64 * (first + i) + t in
    let place : k / 64 ≡ first + i = omega (arith, clear.0) in
    let index : k % 64 ≡ t = omega (arith, clear.0) in
    let set : bit_at w t ≡ 1 = rw (place, index) at (ones.each k (omega arith) (omega (arith, clear.0))) in
    omega (arith, clear.1)

-- the 64 words below one word, all written
module _ (below above below' above' : List ℕ) (g word m : ℕ) (a : IsAbove below above) (w : AreWords below below' (64 * g) 64 word) (high : IsWord above above' g m) where
  group-below : (j : ℕ) → (j / 64 ≡ g → ⊥) → slice_index below' j ≡ slice_index below j
  group-below j other = elim (cases_lt j (64 * g)) [
    | inl less ↦ w.below j less
    | inr more ↦ w.above j (omega arith)
  ]

  group-above : (j : ℕ) → (j / 64 ≡ g → ⊥) → bit_of above' j ≡ bit_of above j
  group-above j other = ap (λ n. bit_at n (j % 64)) (high.words (j / 64) other)

  group-bit : (j : ℕ) → j / 64 ≡ g → bit_of above' j ≡ bit_at m (j % 64)
  group-bit j same = ap (λ n. bit_at n (j % 64)) (ap (slice_index above') same ∙ high.here)

  group-word : (j : ℕ) → j / 64 ≡ g → slice_index below' j ≡ word
  group-word j same = w.inside j (omega arith) (omega arith)

  pub group-some : 0 < word → m ≡ 2 ^ 64 - 1 → IsAbove below' above'
  group-some some ones = record {
    room = (let x = w.len in let y = high.len in let r = a.room in omega arith);
    some = λ j set. elim (cases_eq (j / 64) g) [
      | inl same ↦ (let e = group-word j same in omega arith)
      | inr other ↦ (let h = a.some j (sym (group-above j other) ∙ set) in let e = group-below j other in omega arith)
    ];
    none = λ j clear. elim (cases_eq (j / 64) g) [
      | inl same ↦ (let h = group-bit j same ∙ ap (λ n. bit_at n (j % 64)) ones ∙ bit_at_ones 64 (j % 64) (omega arith) in absurd (omega arith))
      | inr other ↦ group-below j other ∙ a.none j (sym (group-above j other) ∙ clear)
    ];
  }

  pub group-zero : word ≡ 0 → m ≡ 0 → IsAbove below' above'
  group-zero zero_ none_ = record {
    room = (let x = w.len in let y = high.len in let r = a.room in omega arith);
    some = λ j set. elim (cases_eq (j / 64) g) [
      | inl same ↦ (let h = group-bit j same ∙ ap (λ n. bit_at n (j % 64)) none_ ∙ bit_at-zero (j % 64) in absurd (omega arith))
      | inr other ↦ (let h = a.some j (sym (group-above j other) ∙ set) in let e = group-below j other in omega arith)
    ];
    none = λ j clear. elim (cases_eq (j / 64) g) [
      | inl same ↦ group-word j same ∙ zero_
      | inr other ↦ group-below j other ∙ a.none j (sym (group-above j other) ∙ clear)
    ];
  }

module _ (low middle top low' middle' top' : List ℕ) (g word m : ℕ) (s : IsStack low middle top) (w : AreWords low low' (64 * g) 64 word) (high : IsWord middle middle' g m) where
  pub stack-group : 0 < word → m ≡ 2 ^ 64 - 1 → IsPut top top' g 1 → IsStack low' middle' top'
  stack-group some ones c = record {
    few = (let l = s.few in let x = w.len in omega arith);
    low_is = group-some low middle low' middle' g word m s.low_is w high some ones;
    middle_is = above-some middle top middle' top' g s.middle_is high.len high.words (let h = high.here in omega arith) c;
    last = (let l = s.last in let x = c.len in omega arith);
  }

  pub stack-no-group : word ≡ 0 → m ≡ 0 → IsPut top top' g 0 → IsStack low' middle' top'
  stack-no-group zero_ none_ c = record {
    few = (let l = s.few in let x = w.len in omega arith);
    low_is = group-zero low middle low' middle' g word m s.low_is w high zero_ none_;
    middle_is = above-zero middle top middle' top' g s.middle_is high.len high.words (high.here ∙ none_) c;
    last = (let l = s.last in let x = c.len in omega arith);
  }

pub words-as : (old new : List ℕ) (first count first' count' word : ℕ) → first ≡ first' → count ≡ count' → AreWords old new first count word → AreWords old new first' count' word
words-as old new first count first' count' word e f a = subst (λ n. AreWords old new n count' word) e (subst (λ n. AreWords old new first n word) f a)

-- parts of as many words as `size` says
pub parts-more : (old mid new : List ℕ) (size first count word : ℕ) → AreWords old mid (size * first) (size * count) word → AreWords mid new (size * (first + count)) size word → AreWords old new (size * first) (size * (count + 1)) word
parts-more old mid new size first count word a w =
    let more = words-as mid new (size * (first + count)) size (size * first + size * count) size word (mul-add size first count) refl w in
    words-as old new (size * first) (size * count + size) (size * first) (size * (count + 1)) word refl (omega (arith, mul-add size count 1)) (words-join old mid new (size * first) (size * count) size word a more)

pub part-one : (old new : List ℕ) (size at word : ℕ) → size ≡ 1 → IsWord old new at word → AreWords old new (size * at) size word
part-one old new size at word e w = words-as old new at 1 (size * at) size word (rw e (omega arith)) (sym e) (word-one old new at word w)
