-- What is known of pages after one was kept or forgotten.
use Rattle.xl_tlb.proofs.Common.{◌%◌, ◌*◌, ◌+◌, ◌<◌, ◌==◌, ◌∙◌, ◌∷◌, ◌≡◌, ◌≢◌, [], ap, arith, Bool, false, FrontsStay, get_or, get_or-set_other, IsFront, IsKey, Knows, length, List, Lookup, MruPages, nat_tests, no_key, page_place, refl, replicate, set, StaysKnown, subst, suc, TlbArray, true, zero, ℕ}
use Rattle.xl_array.specs.Coding.{tag_of}
use Rattle.xl_array.specs.Lookup.{IsLookup}
use Rattle.xl_model.specs.declared.address.Order.TheVariants as order

-- no page has the key of an empty slot
pub not_a_key : (space page : ℕ) → IsKey no_key space page → ⊥
unfolding tag_of
not_a_key space page key = absurd (omega (arith, key.space_in, key.page_in, key.is_tag))

-- a key is that of one page alone
pub one_page : (key space page other of_other : ℕ) → IsKey key space page → IsKey key other of_other → (space ≡ other) × (page ≡ of_other)
unfolding tag_of
one_page key space page other of_other one two =
    let a : key ≡ (page * 64 + space) * 3 = omega (arith, one.is_tag) in
    let b : key ≡ (of_other * 64 + other) * 3 = omega (arith, two.is_tag) in
    let m = one.space_in in
    let n = two.space_in in
    (omega (arith, a, b, m, n), omega (arith, a, b, m, n))

-- what is sought has the key of its page
pub lookup_key : (s : Lookup) → IsLookup order.K4 s → IsKey s.tag s.space s.page
lookup_key s is = record { space_in = is.space_in; page_in = is.page_in; is_tag = is.tagged }

pub none_of : (n k : ℕ) → get_or (replicate n no_key) k no_key ≡ no_key
none_of zero k = refl
none_of (suc n) zero = refl
none_of (suc n) (suc k) = none_of n k

none_there : (xs : List ℕ) (k : ℕ) → get_or (set xs k no_key) k no_key ≡ no_key
none_there [] zero = refl
none_there [] (suc k) = refl
none_there (x ∷ xs) zero = refl
none_there (x ∷ xs) (suc k) = none_there xs k

value_there : (xs : List ℕ) (k n d : ℕ) → k < length xs → get_or (set xs k n) k d ≡ n
value_there [] k n d l = absurd (omega arith)
value_there (x ∷ xs) zero n d l = refl
value_there (x ∷ xs) (suc k) n d l = value_there xs k n d (omega arith)

-- every second place is that of a first array
same_place : (first page other : ℕ) → page % 8 ≡ other % 8 → page_place first page ≡ page_place first other
same_place first page other e = omega (arith, e)

other_place : (first page other : ℕ) → page % 8 ≢ other % 8 → page_place first page ≢ page_place first other
other_place first page other d e = d (omega (arith, e))

other_first : (first page of_other other : ℕ) → first < 2 → of_other < 2 → (of_other ≡ first → ⊥) → page_place of_other other ≢ page_place first page
other_first first page of_other other few fewer d e = d (omega (arith, few, fewer, e))

-- with the key and the word of a page at its place, that page and those elsewhere are known
module _ (first : ℕ) (n : MruPages) (s : Lookup) (word : ℕ) where
  abbrev kept : MruPages
  kept = record n { keys = set n.keys (page_place first s.page) s.tag; words = set n.words (page_place first s.page) word }

  pub kept_one : (arrays : List TlbArray) → first < 2 → IsLookup order.K4 s → length n.keys ≡ 16 → length n.words ≡ 16 → Knows first n arrays → IsFront s.space s.page word arrays → Knows first kept arrays
  kept_one arrays few is keys words known front space page key = go (page % 8 == s.page % 8) refl
    where
      go : (b : Bool) → (page % 8 == s.page % 8) ≡ b → IsFront space page (get_or (set n.words (page_place first s.page) word) (page_place first page) 0) arrays
      go true t =
          let e : page_place first page ≡ page_place first s.page = same_place first page s.page (grind (arith, nat_tests)) in
          let k : get_or (set n.keys (page_place first s.page) s.tag) (page_place first page) no_key ≡ s.tag = rw e (value_there n.keys (page_place first s.page) s.tag no_key (omega arith)) in
          let one = one_page s.tag s.space s.page space page (lookup_key s is) (subst (λ (z : ℕ). IsKey z space page) k key) in
          let w : get_or (set n.words (page_place first s.page) word) (page_place first page) 0 ≡ word = rw e (value_there n.words (page_place first s.page) word 0 (omega arith)) in
          rw (w, ← one.0, ← one.1) front
      go false t =
          let d = other_place first page s.page (λ e. absurd (grind (arith, nat_tests))) in
          let k : get_or (set n.keys (page_place first s.page) s.tag) (page_place first page) no_key ≡ get_or n.keys (page_place first page) no_key = get_or-set_other n.keys (page_place first s.page) (page_place first page) s.tag no_key d in
          let w : get_or (set n.words (page_place first s.page) word) (page_place first page) 0 ≡ get_or n.words (page_place first page) 0 = get_or-set_other n.words (page_place first s.page) (page_place first page) word 0 d in
          rw w (known space page (subst (λ (z : ℕ). IsKey z space page) k key))

  pub kept_others : first < 2 → StaysKnown first n kept
  kept_others few other arrays fewer apart known space page key =
      let d = other_first first s.page other page few fewer apart in
      let k : get_or (set n.keys (page_place first s.page) s.tag) (page_place other page) no_key ≡ get_or n.keys (page_place other page) no_key = get_or-set_other n.keys (page_place first s.page) (page_place other page) s.tag no_key d in
      let w : get_or (set n.words (page_place first s.page) word) (page_place other page) 0 ≡ get_or n.words (page_place other page) 0 = get_or-set_other n.words (page_place first s.page) (page_place other page) word 0 d in
      rw w (known space page (subst (λ (z : ℕ). IsKey z space page) k key))

-- without the key at one place, what stays in front elsewhere is known
module _ (first : ℕ) (n new : MruPages) (block : ℕ) (keys : new.keys ≡ set n.keys (page_place first block) no_key) (words : new.words ≡ n.words) where
  pub forgot_one : (old arrays : List TlbArray) → Knows first n old → FrontsStay (block % 8) old arrays → Knows first new arrays
  forgot_one old arrays known stay space page key = go (page % 8 == block % 8) refl
    where
      go : (b : Bool) → (page % 8 == block % 8) ≡ b → IsFront space page (get_or new.words (page_place first page) 0) arrays
      go true t =
          let e : page_place first page ≡ page_place first block = same_place first page block (grind (arith, nat_tests)) in
          let k : get_or new.keys (page_place first page) no_key ≡ no_key =
          ap (λ (z : List ℕ). get_or z (page_place first page) no_key) keys ∙ ap (λ (z : ℕ). get_or (set n.keys (page_place first block) no_key) z no_key) e ∙ none_there n.keys (page_place first block) in
          absurd (not_a_key space page (subst (λ (z : ℕ). IsKey z space page) k key))
      go false t =
          let d : page % 8 ≢ block % 8 = λ e. absurd (grind (arith, nat_tests)) in
          let k : get_or new.keys (page_place first page) no_key ≡ get_or n.keys (page_place first page) no_key =
          ap (λ (z : List ℕ). get_or z (page_place first page) no_key) keys ∙ get_or-set_other n.keys (page_place first block) (page_place first page) no_key no_key (other_place first page block d) in
          rw words (stay space page (get_or n.words (page_place first page) 0) d (known space page (subst (λ (z : ℕ). IsKey z space page) k key)))

  pub forgot_others : first < 2 → StaysKnown first n new
  forgot_others few other arrays fewer apart known space page key =
      let k : get_or new.keys (page_place other page) no_key ≡ get_or n.keys (page_place other page) no_key =
      ap (λ (z : List ℕ). get_or z (page_place other page) no_key) keys ∙ get_or-set_other n.keys (page_place first block) (page_place other page) no_key no_key (other_first first block other page few fewer apart) in
      rw words (known space page (subst (λ (z : ℕ). IsKey z space page) k key))
