-- What a look in line counts.
use Rattle.std.specs.Prelude.{ℕ, ◌≡◌, ◌<◌, ◌^◌, List, length, map, slice_index_or, slice_set}
use Rattle.xl_model.specs.Base.{plus}
use Rattle.xl_tlb.specs.declared.levels.Answered.{Answered}
use Rattle.xl_tlb.specs.declared.levels.Answered.TheVariants as answered
use Rattle.xl_tlb.specs.declared.pair.Seen.{Seen}
use Rattle.xl_tlb.specs.declared.pair.Seen.TheVariants as seen
use Rattle.xl_tlb.specs.Tlbs.{IsRising, TlbState, spec_of}

-- One more at this place.
abbrev pub one_more_at : ℕ → List ℕ → List ℕ
one_more_at i ns = slice_set ns i (plus (slice_index_or ns i 0) 1)

-- A hit of the array with this number that changes nothing else.
abbrev pub hit_at : ℕ → TlbState → TlbState
hit_at i t = record t { hits = one_more_at i t.hits }

-- What the state of a row's arrays is: there are six counts of each kind, and levels rise.
pub record IsState (t : TlbState) : Type 0 where
  pub hits : length t.hits ≡ 6
  pub misses : length t.misses ≡ 6
  pub fills : t.fills < 2 ^ 64
  pub rising : IsRising (map spec_of t.arrays)

-- What a look in two arrays saw, the first and the second of these numbers.
abbrev pub seen_in : ℕ → ℕ → Seen → TlbState → TlbState
seen_in i j (seen.First word) t = hit_at i t
seen_in i j (seen.Second word) t = record t { hits = one_more_at j t.hits; misses = one_more_at i t.misses; fills = plus t.fills 1 }
seen_in i j (seen.Large word) t = hit_at i t
seen_in i j seen.Nowhere t = record t { misses = one_more_at j (one_more_at i t.misses) }
seen_in i j seen.Unknown t = t

-- The answer of such a look.
abbrev pub answered_as : Seen → Answered
answered_as (seen.First word) = answered.Word word
answered_as (seen.Second word) = answered.Word word
answered_as (seen.Large word) = answered.Large word
answered_as seen.Nowhere = answered.Nowhere
answered_as seen.Unknown = answered.Unknown

-- What a look in the first array found, where there is no other.
abbrev pub alone_in : Answered → TlbState → TlbState
alone_in (answered.Word word) t = hit_at 0 t
alone_in (answered.Large word) t = hit_at 0 t
alone_in answered.Nowhere t = record t { misses = one_more_at 0 t.misses }
alone_in answered.Unknown t = t
