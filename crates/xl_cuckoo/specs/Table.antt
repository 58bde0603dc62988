-- A cuckoo table as a whole, and what is asked of it.
use Rattle.std.specs.Prelude.{ℕ, ◌≡◌, ◌+◌, ◌≤◌, Bool, List, [], length, map, Option}
use Rattle.xl_model.specs.declared.way.Entry.{Entry}
use Rattle.xl_model.specs.Base.{plus, one_if}
use Rattle.xl_model.specs.Ways.{WayShape, has_key}
use Rattle.xl_model.specs.Placing.{Displaced, Placing, insertion}
use Rattle.xl_list_lemmas.specs.Tallies.{tally}
use Rattle.xl_model_lemmas.specs.Sections.{entries_of, entries_in}
use Rattle.xl_way.specs.Slots.{word_of}

-- A table: its rules, its ways, what the last insertion displaced in its successful attempt, and
-- the loads made of it.
pub record CuckooState : Type 0 where
  pub threshold : ℕ
  pub kick_limit : ℕ
  pub migrate : ℕ
  pub ways : List WayShape
  pub moved : List Displaced
  pub loads : ℕ

-- The word that some way keeps for a key.
abbrev pub value_of : ℕ → List WayShape → Option ℕ
value_of key ways = word_of key (entries_in ways)

-- A table of which n loads more were made.
abbrev pub loaded : ℕ → CuckooState → CuckooState
loaded n t = record t { loads = plus t.loads n }

-- The result of the insertion of an entry, by the table's own rules.
abbrev pub inserted : CuckooState → Entry → Placing
inserted t x = insertion t.kick_limit t.migrate t.threshold t.ways x

-- Every way has the keys and words that it had.
abbrev pub SameEntries : List WayShape → List WayShape → Type 0
SameEntries old new = map entries_of new ≡ map entries_of old

-- One entry came, and every other is there as often as before.
abbrev pub AddsEntry : Entry → List WayShape → List WayShape → Type 0
AddsEntry x old new = (p : Entry → Bool) → tally p (entries_in new) ≡ one_if (p x) + tally p (entries_in old)

-- No key occurs twice, in one way or in two.
abbrev pub AreOnce : List WayShape → Type 0
AreOnce ways = (key : ℕ) → tally (has_key key) (entries_in ways) ≤ 1

-- A table in which nothing was inserted.
abbrev pub opening : ℕ → ℕ → ℕ → List WayShape → CuckooState
opening threshold kick_limit migrate ways =
    record { threshold = threshold; kick_limit = kick_limit; migrate = migrate; ways = ways; moved = []; loads = 0 }

-- What a table of `count` ways keeps.
pub record IsTable (count threshold kick_limit : ℕ) (ways : List WayShape) : Type 0 where
  pub width : length ways ≡ count
  pub some : 2 ≤ count
  pub few : count ≤ 4
  pub threshold_low : threshold ≤ 100
  pub limit_low : kick_limit ≤ 64
  pub once : AreOnce ways
