-- A set whose words are in vectors, and the flags that callers see of it.
use Rattle.xl_numbers.proofs.Common.{◌*◌, ◌+◌, ◌<◌, ◌==◌, ◌↔◌, ◌∙◌, ◌≡◌, ◌≤◌, ap, AreFree, AreMarked, AreOnes, AreWords, arith, bit_of, Bool, false, flags, HasNone, IfNone, IfSome, IsAlike, IsFirstBit, IsLowest, IsPut, IsSet, IsStack, IsTrue, length, List, None, Option, slice_index_or, slice_set, Some, subst, sym, true, with_items_is, ℕ}
use Rattle.std.specs.Vec.{with_items}
use Rattle.std.specs.declared.vec.Vec.{Vec}
use Rattle.xl_numbers.proofs.FlagLemmas.{first-small, flag-at, flag-past, flag-set, flag-within, free-lowest, free-none, free-put, length-flags, low-ones, marked-words, set-put, set-words}

-- ---- what a call's number or words are in the set

pub below-count : (n : ℕ) (low : List ℕ) (free : List Bool) (k : ℕ) → flags (bit_of low) n ≡ free → k < length free → k < n
below-count n low free k view less = omega (arith, length-flags (bit_of low) n, ap length view)

pub free-within : (n : ℕ) (low : List ℕ) (free : List Bool) (k : ℕ) → flags (bit_of low) n ≡ free → slice_index_or free k false ≡ true → k < n
free-within n low free k view is_free = flag-within (bit_of low) n k (ap (λ (bs : List Bool). slice_index_or bs k false) view ∙ is_free)

pub free-set : (n : ℕ) (low : List ℕ) (free : List Bool) (k : ℕ) → flags (bit_of low) n ≡ free → slice_index_or free k false ≡ true → bit_of low k ≡ 1
free-set n low free k view is_free = flag-set (bit_of low) n k (ap (λ (bs : List Bool). slice_index_or bs k false) view ∙ is_free)

pub words-count : (n : ℕ) (low : List ℕ) (free : List Bool) (m : ℕ) → flags (bit_of low) n ≡ free → 64 * m ≤ length free → 64 * m ≤ n
words-count n low free m view fits = omega (arith, length-flags (bit_of low) n, ap length view)

-- ---- what a call finds

pub bit-seen : (n : ℕ) (low : List ℕ) (free : List Bool) (k : ℕ) → flags (bit_of low) n ≡ free → k < n → (bit_of low k == 1) ≡ slice_index_or free k false
bit-seen n low free k view less = sym (flag-at (bit_of low) n k less) ∙ ap (λ (bs : List Bool). slice_index_or bs k false) view

pub past-seen : (n : ℕ) (low : List ℕ) (free : List Bool) (k : ℕ) → flags (bit_of low) n ≡ free → n ≤ k → false ≡ slice_index_or free k false
past-seen n low free k view past = sym (flag-past (bit_of low) n k past) ∙ ap (λ (bs : List Bool). slice_index_or bs k false) view

pub lowest-seen : {n : ℕ} {low middle top : List ℕ} (free : List Bool) (r : Option ℕ) → IsSet n low middle top → flags (bit_of low) n ≡ free → IfSome r (IsFirstBit low) → IfSome r (IsLowest free)
lowest-seen {n} {low} {middle} {top} free (Some k) s view first = subst (λ bs. IsLowest bs k) view (free-lowest low n k (first-small n low middle top k s first) first)
lowest-seen free None s view first = first

pub none-seen : (n : ℕ) (low : List ℕ) (free : List Bool) (r : Option ℕ) → flags (bit_of low) n ≡ free → IfNone r ((k : ℕ) → bit_of low k ≡ 0) → IfNone r (HasNone free)
none-seen n low free None view none = subst (λ bs. HasNone bs) view (free-none low n none)
none-seen n low free (Some k) view none = none

pub free-seen : (n : ℕ) (low : List ℕ) (free : List Bool) (first count : ℕ) (r : Bool) → flags (bit_of low) n ≡ free → 64 * (first + count) ≤ length free
    → IsTrue r ↔ AreOnes low first count → IsTrue r ↔ AreFree free (64 * first) (64 * count)
free-seen n low free first count r view fits ones =
    subst (λ bs. IsTrue r ↔ AreFree bs (64 * first) (64 * count)) view (low-ones low n first count r (words-count n low free (first + count) view fits) ones)

-- ---- what a call leaves in the vectors

module _ {Z : Type 0} (low middle : Vec ℕ Z) {n : ℕ} {N M T : List ℕ} where
  -- the words as they are written
  kept : length N ≡ length low.items → length M ≡ length middle.items → IsSet n N M T → IsSet n (with_items low N).items (with_items middle M).items T
  kept l m s = rw (with_items_is low N (l ∙ sym low.ok.0), with_items_is middle M (m ∙ sym middle.ok.0)) s

  pub put-kept : {top : List ℕ} (k bit : ℕ) → IsSet n low.items middle.items top → k < n → length M ≡ length middle.items → IsStack N M T → IsPut low.items N k bit
      → IsSet n (with_items low N).items (with_items middle M).items T
  put-kept {top} k bit s less m stack put = kept put.len m (set-put n low.items middle.items top N M T k bit s stack put less)

  pub words-kept : {top : List ℕ} (first count word : ℕ) → IsSet n low.items middle.items top → 64 * (first + count) ≤ n → length M ≡ length middle.items → IsStack N M T → AreWords low.items N first count word
      → IsSet n (with_items low N).items (with_items middle M).items T
  words-kept {top} first count word s fits m stack words = kept words.len m (set-words n low.items middle.items top N M T first count word s stack words fits)

module _ {Z : Type 0} (low : Vec ℕ Z) (n : ℕ) (free : List Bool) {N : List ℕ} (view : flags (bit_of low.items) n ≡ free) where
  pub put-seen : (k bit : ℕ) → k < n → IsPut low.items N k bit → flags (bit_of (with_items low N).items) n ≡ slice_set free k (bit == 1)
  put-seen k bit less put =
      ap (λ ws. flags (bit_of ws) n) (with_items_is low N (put.len ∙ sym low.ok.0)) ∙ free-put low.items N n k bit less put
      ∙ ap (λ (bs : List Bool). slice_set bs k (bit == 1)) view

  pub words-seen : (first count word : ℕ) (v : Bool) → 64 * (first + count) ≤ n → IsAlike word v → AreWords low.items N first count word
      → AreMarked free (flags (bit_of (with_items low N).items) n) (64 * first) (64 * count) v
  words-seen first count word v fits alike words =
      rw (with_items_is low N (words.len ∙ sym low.ok.0))
      (subst (λ bs. AreMarked bs (flags (bit_of N) n) (64 * first) (64 * count) v) view (marked-words low.items N n first count word v fits alike words))
