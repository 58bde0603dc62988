-- The shapes that a row's arrays have, and what is known of them.
use Rattle.std.specs.Prelude.{ℕ, ◌≡◌, ◌<◌, ◌%◌, Bool, true, false, List, [], ◌∷◌, None, Some}
use Rattle.xl_model.specs.declared.address.Kind.{Kind}
use Rattle.xl_model.specs.declared.address.Kind.TheVariants as kind
use Rattle.xl_model.specs.declared.address.Order.TheVariants as order
use Rattle.xl_model.specs.declared.row.Serves.TheVariants as serves
use Rattle.xl_model.specs.declared.row.TlbSpec.{TlbSpec}
use Rattle.xl_model.specs.LeafWords.{small_leaf}
use Rattle.xl_model.specs.Tlb.{TlbArray, answer_of, array_filled, array_hit, takes_order}
use Rattle.xl_tlb.specs.declared.levels.Answered.{Answered}
use Rattle.xl_tlb.specs.declared.levels.Answered.TheVariants as answered
use Rattle.xl_tlb.specs.declared.pair.Seen.{Seen}
use Rattle.xl_tlb.specs.declared.pair.Seen.TheVariants as seen
use Rattle.xl_tlb.specs.Answers.{IsNowhere, IsWord}
use Rattle.xl_array.specs.Arrays.{IsCommon}
use Rattle.xl_tlb.specs.Firsts.{IsKept, alone_at, first_in}
use Rattle.xl_tlb.specs.Fronts.{FirstLacks}
use Rattle.xl_array.specs.Touches.{IsFrontHit, IsPageTouch, IsTouch, LacksSmall}
use Rattle.xl_tlb.specs.Tlbs.{TlbState, leaf_replied, tlb_filled, tlb_looked}

-- One of two arrays that are looked at together: it takes leaves of 4 KiB, and is a common one.
pub record IsOfPair (s : TlbSpec) : Type 0 where
  pub takes : takes_order s order.K4 ≡ true
  pub common : IsCommon s

-- The first of two arrays for one kind of access: it is of a lower level than the second, and its sets are a multiple of eight.
pub record IsFirst (s second : TlbSpec) : Type 0 where
  pub pair : IsOfPair s
  pub below : s.level < second.level
  pub eights : s.sets % 8 ≡ 0

-- The second of two arrays serves all accesses.
pub record IsSecond (s : TlbSpec) : Type 0 where
  pub all : s.serves ≡ serves.All
  pub pair : IsOfPair s

-- One first array serves all accesses, under the second one.
pub record AreTwo (f s : TlbSpec) : Type 0 where
  pub all : f.serves ≡ serves.All
  pub one : IsFirst f s
  pub second : IsSecond s

-- A first array serves fetches and another one data, both under the second one.
pub record AreThree (f d s : TlbSpec) : Type 0 where
  pub fetches : f.serves ≡ serves.Fetch
  pub data_is : d.serves ≡ serves.Data
  pub one : IsFirst f s
  pub other : IsFirst d s
  pub second : IsSecond s

-- There are two such levels, where fetches and data have a first array each or not.
abbrev pub ArePaired : Bool → List TlbSpec → Type 0
ArePaired false [] = ⊥
ArePaired false (f ∷ []) = ⊥
ArePaired false (f ∷ s ∷ []) = AreTwo f s
ArePaired false (f ∷ s ∷ t ∷ rest) = ⊥
ArePaired true [] = ⊥
ArePaired true (f ∷ []) = ⊥
ArePaired true (f ∷ d ∷ []) = ⊥
ArePaired true (f ∷ d ∷ s ∷ []) = AreThree f d s
ArePaired true (f ∷ d ∷ s ∷ t ∷ rest) = ⊥

-- How many first arrays there are: the number of the second one.
abbrev pub firsts_in : Bool → ℕ
firsts_in false = 1
firsts_in true = 2

-- There is one array, which serves all accesses and takes leaves of 4 KiB.
abbrev pub IsOne : List TlbSpec → Type 0
IsOne [] = ⊥
IsOne (s ∷ []) = (s.serves ≡ serves.All) × (takes_order s order.K4 ≡ true)
IsOne (s ∷ t ∷ rest) = ⊥

-- The result of a look in two arrays, and what it leaves of them.
abbrev pub IsPairLook : ℕ → ℕ → Seen → TlbArray → TlbArray → TlbArray → TlbArray → Type 0
IsPairLook space page (seen.First word) a b new after = IsTouch space page word a new × (after ≡ b)
IsPairLook space page (seen.Second word) a b new after =
    (((None ≡ array_hit a space page) × IsTouch space page word b after) × (new ≡ array_filled (small_leaf space page word) a)) × IsFrontHit space page word new
IsPairLook space page (seen.Large word) a b new after = IsPageTouch space page word a new × (after ≡ b)
IsPairLook space page seen.Nowhere a b new after = ((None ≡ array_hit a space page) × (None ≡ array_hit b space page)) × ((new ≡ a) × (after ≡ b))
IsPairLook space page seen.Unknown a b new after = LacksSmall space page a × ((new ≡ a) × (after ≡ b))

-- Both arrays are filled with the leaf of 4 KiB with this word, which is the newest of its set of the first then.
pub record IsPairFill (space page word : ℕ) (a b new after : TlbArray) : Type 0 where
  pub first : new ≡ array_filled (small_leaf space page word) a
  pub front : IsFrontHit space page word new
  pub second : after ≡ array_filled (small_leaf space page word) b

-- The two arrays that serve a kind of access change so, and another one stays.
pub data AtPair (P : TlbArray → TlbArray → TlbArray → TlbArray → Type 0) : Bool → Kind → List TlbArray → List TlbArray → Type 0 where
  AtAll : (k : Kind) (a s new after : TlbArray) (is : P a s new after) → AtPair P false k (a ∷ s ∷ []) (new ∷ after ∷ [])
  AtFetch : (f d s new after : TlbArray) (is : P f s new after) → AtPair P true kind.Fetch (f ∷ d ∷ s ∷ []) (new ∷ d ∷ after ∷ [])
  AtData : (k : Kind) (data_is : first_in true k ≡ 1) (f d s new after : TlbArray) (is : P d s new after) → AtPair P true k (f ∷ d ∷ s ∷ []) (f ∷ new ∷ after ∷ [])

-- The result of a look in one array, and what it leaves of it.
abbrev pub IsAloneLook : ℕ → ℕ → Answered → TlbArray → TlbArray → Type 0
IsAloneLook space page (answered.Word word) a new = IsTouch space page word a new
IsAloneLook space page (answered.Large word) a new = IsPageTouch space page word a new
IsAloneLook space page answered.Nowhere a new = (None ≡ array_hit a space page) × (new ≡ a)
IsAloneLook space page answered.Unknown a new = LacksSmall space page a × (new ≡ a)

-- One array is filled with the leaf of 4 KiB with this word, which is the newest of its set then.
pub record IsAloneFill (space page word : ℕ) (a new : TlbArray) : Type 0 where
  pub first : new ≡ array_filled (small_leaf space page word) a
  pub front : IsFrontHit space page word new

-- The one array that there is changes so.
pub data AtOne (P : TlbArray → TlbArray → Type 0) : List TlbArray → List TlbArray → Type 0 where
  Alone : (a new : TlbArray) (is : P a new) → AtOne P (a ∷ []) (new ∷ [])

-- A leaf of 4 KiB with this word answers an access of this kind, and may be kept.
pub record IsKnownWord (split : Bool) (k : Kind) (space page word : ℕ) (old new : TlbState) : Type 0 where
  pub found : Some (small_leaf space page word) ≡ leaf_replied (answer_of k old.arrays space page)
  pub after : new ≡ tlb_looked k space page old
  pub kept : IsKept split k space page word old.arrays new.arrays

-- What each answer of a look in line says; where another step may answer, nothing changes.
abbrev pub IsKnownAnswer : Bool → Kind → ℕ → ℕ → Answered → TlbState → TlbState → Type 0
IsKnownAnswer split k space page (answered.Word word) old new = IsKnownWord split k space page word old new
IsKnownAnswer split k space page (answered.Large word) old new = IsWord k space page word old new
IsKnownAnswer split k space page answered.Nowhere old new = IsNowhere k space page old new
IsKnownAnswer split k space page answered.Unknown old new = FirstLacks space page (alone_at (first_in split k) old.arrays) × (new ≡ old)

-- The same, where what is found is kept.
abbrev pub IsAnswered : Bool → Kind → ℕ → ℕ → Answered → TlbState → TlbState → Type 0
IsAnswered split k space page (answered.Word word) old new = IsWord k space page word old new
IsAnswered split k space page (answered.Large word) old new = IsWord k space page word old new
IsAnswered split k space page answered.Nowhere old new = IsNowhere k space page old new
IsAnswered split k space page answered.Unknown old new = FirstLacks space page (alone_at (first_in split k) old.arrays) × (new ≡ old)

-- The arrays that serve an access of this kind are filled with a leaf of 4 KiB, which may be kept.
pub record IsKnownFill (split : Bool) (k : Kind) (space page word : ℕ) (old new : TlbState) : Type 0 where
  pub after : new ≡ tlb_filled k (small_leaf space page word) old
  pub kept : IsKept split k space page word old.arrays new.arrays
