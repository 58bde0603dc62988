-- Sets of numbers as words of 64 bits, and words above them that say which of them are 0.
use Rattle.std.specs.Prelude.{ℕ, zero, suc, ◌≡◌, ◌+◌, ◌*◌, ◌/◌, ◌%◌, ◌^◌, ◌<◌, ◌≤◌, ◌==◌, Bool, List, [], ◌∷◌, length, slice_index}
use Rattle.std.specs.Int.{bit_at}

-- bit k of words, 64 in each
abbrev pub bit_of : List ℕ → ℕ → ℕ
bit_of words k = bit_at (slice_index words (k / 64)) (k % 64)

-- the first n bits, as flags
unfoldable pub flags : (ℕ → ℕ) → ℕ → List Bool
flags bit zero = []
flags bit (suc n) = (bit 0 == 1) ∷ flags (λ k. bit (suc k)) n

-- each word has a bit above it, which is set exactly where the word isn't 0
pub record IsAbove (below above : List ℕ) : Type 0 where
  pub room : length below ≤ 64 * length above
  pub some : (j : ℕ) → bit_of above j ≡ 1 → 0 < slice_index below j
  pub none : (j : ℕ) → bit_of above j ≡ 0 → slice_index below j ≡ 0

-- three levels of words, each above the one before, of which the last is sixteen words at most
pub record IsStack (low middle top : List ℕ) : Type 0 where
  pub few : length low ≤ 2 ^ 16
  pub low_is : IsAbove low middle
  pub middle_is : IsAbove middle top
  pub last : length top ≤ 16

-- A set of numbers below a count, as the low words of three levels have it.
pub record IsSet (count : ℕ) (low middle top : List ℕ) : Type 0 where
  pub stack : IsStack low middle top
  pub room : count ≤ 64 * length low
  pub past : (k : ℕ) → count ≤ k → bit_of low k ≡ 0

-- the first word that isn't 0
pub record IsFirstWord (words : List ℕ) (at : ℕ) : Type 0 where
  pub within : at < length words
  pub some : 0 < slice_index words at
  pub before : (j : ℕ) → j < at → slice_index words j ≡ 0

-- the first bit that is set
pub record IsFirstBit (words : List ℕ) (k : ℕ) : Type 0 where
  pub within : k < 64 * length words
  pub set : bit_of words k ≡ 1
  pub before : (j : ℕ) → j < k → bit_of words j ≡ 0

-- one bit has this value now, and all else stays
pub record IsPut (old new : List ℕ) (k bit : ℕ) : Type 0 where
  pub len : length new ≡ length old
  pub here : bit_of new k ≡ bit
  pub others : (j : ℕ) → (j ≡ k → ⊥) → bit_of new j ≡ bit_of old j
  pub words : (i : ℕ) → (i ≡ k / 64 → ⊥) → slice_index new i ≡ slice_index old i

-- one word has this value now, and all else stays
pub record IsWord (old new : List ℕ) (at word : ℕ) : Type 0 where
  pub len : length new ≡ length old
  pub here : slice_index new at ≡ word
  pub words : (i : ℕ) → (i ≡ at → ⊥) → slice_index new i ≡ slice_index old i

-- the words from `first` on, as many as `count` says, have this value now, and all else stays
pub record AreWords (old new : List ℕ) (first count word : ℕ) : Type 0 where
  pub len : length new ≡ length old
  pub inside : (i : ℕ) → first ≤ i → i < first + count → slice_index new i ≡ word
  pub below : (i : ℕ) → i < first → slice_index new i ≡ slice_index old i
  pub above : (i : ℕ) → first + count ≤ i → slice_index new i ≡ slice_index old i

-- all bits of the words from `first` on are set, in as many words as `count` says
pub record AreOnes (words : List ℕ) (first count : ℕ) : Type 0 where
  pub each : (k : ℕ) → 64 * first ≤ k → k < 64 * (first + count) → bit_of words k ≡ 1

-- every word is 0
abbrev pub NoWord : List ℕ → Type 0
NoWord words = (i : ℕ) → slice_index words i ≡ 0

-- a word of 64 bits that are all set, or all clear
pub record IsAlike (word : ℕ) (set : Bool) : Type 0 where
  pub each : (i : ℕ) → i < 64 → (bit_at word i == 1) ≡ set
