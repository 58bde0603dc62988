-- The place of the word that leads to a tag's entry, and an index of these places.
use Rattle.std.specs.Prelude.{ℕ, zero, suc, ◌≡◌, ◌+◌, ◌==◌, nat_lt, if◌then◌else◌, List, length, slice_index, Option, None, Some}
use Rattle.xl_model.specs.Chains.{bucket_of}
use Rattle.xl_chain.specs.declared.shape.ChainShape.{ChainShape}
use Rattle.xl_chain.specs.declared.shape.Seek.{Seek}
use Rattle.xl_chain.specs.declared.shape.Seek.TheVariants as seek
use Rattle.xl_chain.specs.Layout.{base_at}
use Rattle.xl_chain.specs.Steps.{tag_place}
use Rattle.xl_chain.specs.Held.{ChainState, tag_in, held_with, found_of, without_tag}

-- the place of the word that leads to a tag's entry, in the words of chains
abbrev pub place_at : ChainState → ℕ → Option ℕ
place_at c tag = tag_place c.words c.shape (bucket_of c.shape.buckets tag) tag

-- a tag has this place
pub record IsPlace (c : ChainState) (place : ℕ) : Type 0 where
  pub tag : ℕ
  pub is : place_at c tag ≡ Some place

-- the tag of the entry to which a word leads, if it leads to one
abbrev pub tag_by : ChainShape → List ℕ → ℕ → Option ℕ
tag_by s words zero = None
tag_by s words (suc e) = if nat_lt e s.entries then Some (tag_in s words e) else None

-- the tag of the entry to which the word at a place leads, if it leads to one
abbrev pub tag_led : ChainState → ℕ → Option ℕ
tag_led c place = tag_by c.shape c.words (slice_index c.words place)

-- The result of a search that finds its tag in the entry to which a word leads.
abbrev pub found_by : ChainShape → List ℕ → ℕ → Seek
found_by s words zero = seek.Absent
found_by s words (suc e) = seek.Found e (slice_index words (base_at s e + 2))

-- another place for what has one
abbrev pub set_place : ℕ → Option ℕ → Option ℕ
set_place place None = None
set_place place (Some p) = Some place

-- the places of tags, where one of them (if it is given) that has a place has this one from now on
abbrev pub moved : Option ℕ → ℕ → (ℕ → Option ℕ) → ℕ → Option ℕ
moved None place at t = at t
moved (Some tag) place at t = if tag == t then set_place place (at t) else at t

-- the places of tags, where this one has this place from now on, or none
abbrev pub placed : ℕ → Option ℕ → (ℕ → Option ℕ) → ℕ → Option ℕ
placed tag place at t = if tag == t then place else at t

-- Chains before and after the entry of a tag was taken out, to which the word at a place led: the
-- one after it has that place.
pub record IsTaken (tag place : ℕ) (old new : ChainState) : Type 0 where
  pub held : new.held ≡ without_tag tag old.held
  pub places : (t : ℕ) → place_at new t ≡ placed tag None (moved (tag_led new place) place (place_at old)) t

-- Places before and after a tag came in front of its bucket: the one that was in front there has
-- the place `next`.
abbrev pub IsFirst : ℕ → ℕ → ChainState → ChainState → Type 0
IsFirst tag next old new = (t : ℕ) → place_at new t
    ≡ placed tag (Some (bucket_of old.shape.buckets tag)) (moved (tag_led old (bucket_of old.shape.buckets tag)) next (place_at old)) t

-- the place that a search in an index found
abbrev pub place_found : Seek → Option ℕ
place_found (seek.Found e v) = Some v
place_found seek.Absent = None
place_found seek.OutOfBus = None
place_found seek.TooLong = None

-- the place that an index has for a tag
abbrev pub known : ChainState → ℕ → Option ℕ
known places tag = place_found (found_of (held_with tag places.held))

-- an index has the place of each tag in chains, and room for as many
pub record IsIndex (c places : ChainState) : Type 0 where
  pub each : (t : ℕ) → known places t ≡ place_at c t
  pub count : length places.held ≡ length c.held
  pub room : places.shape.entries ≡ c.shape.entries

-- chains have no index, or one that has their places
abbrev pub IsIndexed : ChainState → Option ChainState → Type 0
IsIndexed c None = Unit {0}
IsIndexed c (Some places) = IsIndex c places
