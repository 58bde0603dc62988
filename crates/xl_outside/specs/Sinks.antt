-- What a sink of bytes may answer, and what writing leaves of it.
use Rattle.std.specs.Prelude.{◌≡◌, ℕ, ◌-◌, ◌<◌, ◌≤◌, ◌⊎◌, Bool, true, false, List, ◌++◌, length, take, Option, None, Some, Result, Ok, Err}
use Rattle.xl_outside.specs.Outside.{Counted}
use Rattle.xl_outside.specs.declared.sink.Failed.{Failed}

-- What a sink has done outside: the bytes that it wrote, where they are known, and how many puts
-- failed, a number that never falls.
pub record Outside : Type 0 where
  pub written : Option (List ℕ)
  pub faults : ℕ

-- What a sink of one type means: all bytes that it took, where they are known; what it has done
-- outside; and that no put fails for a number of further bytes, and no flush.
pub record SinkMeaning (D : Type 0) : Type 1 where
  pub taken : D → Option (List ℕ)
  pub outside : D → Outside
  pub roomy : D → ℕ → Type 0

-- what a sink was given, and these bytes after it; where the first isn't known, the whole isn't
abbrev pub with_more : Option (List ℕ) → List ℕ → Option (List ℕ)
with_more None bytes = None
with_more (Some text) bytes = Some (text ++ bytes)

-- the one, and perhaps more after it
abbrev pub IsMore : Option (List ℕ) → Option (List ℕ) → Type 0
IsMore before after = (more : List ℕ) × (after ≡ with_more before more)

-- the first bytes of these, and no more, came after what there was before
abbrev pub WroteFront : Option (List ℕ) → List ℕ → Option (List ℕ) → Type 0
WroteFront before bytes after = (n : ℕ) × (n ≤ length bytes) × (after ≡ with_more before (take n bytes))

-- a put takes the bytes that it says it took, and none where it fails
abbrev pub PutTook : Result ℕ Failed → Option (List ℕ) → List ℕ → Option (List ℕ) → Type 0
PutTook (Ok n) before bytes after = after ≡ with_more before (take n bytes)
PutTook (Err e) before bytes after = after ≡ before

-- a put that fails, or takes nothing of a piece that isn't empty, counts as a fault; no other does
abbrev pub PutCounts : Result ℕ Failed → (size faults faults_after : ℕ) → Type 0
PutCounts (Ok n) size f g = (n ≡ 0 → 0 < size → Counted f g) × ((0 < n) ⊎ (size ≡ 0) → g ≡ f)
PutCounts (Err e) size f g = Counted f g

-- a put of n bytes takes some of them, if there are any, and leaves this of the sink
abbrev pub PutLeaves : Result ℕ Failed → ℕ → (ℕ → Type 0) → Type 0
PutLeaves (Ok n) size leaves = (n ≡ 0 → size ≡ 0) × leaves n
PutLeaves (Err e) size leaves = ⊥

-- What one put of a piece leaves of a sink. What was written outside stays. Where the sink has room
-- for the piece, the put takes some of it, and the rest of the room is left.
pub record PutAfter {D : Type 0} (sink : SinkMeaning D) (piece : List ℕ) (old new : D) (result : Result ℕ Failed) : Type 0 where
  pub took : PutTook result (sink.taken old) piece (sink.taken new)
  pub stays : IsMore (sink.outside old).written (sink.outside new).written
  pub counts : PutCounts result (length piece) (sink.outside old).faults (sink.outside new).faults
  pub calm : (room : ℕ) → sink.roomy old room → length piece ≤ room → PutLeaves result (length piece) (λ n. sink.roomy new (room - n))

-- all of the text came, or its front where a put failed
abbrev pub Wrote : Bool → Option (List ℕ) → List ℕ → Option (List ℕ) → Type 0
Wrote true before text after = after ≡ with_more before text
Wrote false before text after = WroteFront before text after

-- a fault was counted exactly where not all came
abbrev pub WriteCounts : Bool → (faults faults_after : ℕ) → Type 0
WriteCounts true f g = g ≡ f
WriteCounts false f g = Counted f g

-- A sink continues outside: what was written stays, and a fault was counted exactly where a put
-- failed.
pub record Proceeds (whole : Bool) (before after : Outside) : Type 0 where
  pub stays : IsMore before.written after.written
  pub counts : WriteCounts whole before.faults after.faults

-- What putting a text leaves of a sink: it took the text whole, or its front up to a put that
-- failed. Where the sink has room for the text, no put fails, and the rest of the room is left.
pub record SinkAfter {D : Type 0} (sink : SinkMeaning D) (text : List ℕ) (old new : D) (whole : Bool) : Type 0 where
  pub took : Wrote whole (sink.taken old) text (sink.taken new)
  pub proceeds : Proceeds whole (sink.outside old) (sink.outside new)
  pub calm : (room : ℕ) → sink.roomy old room → length text ≤ room → (whole ≡ true) × sink.roomy new (room - length text)

-- all that the sink took is written
abbrev pub IsFlushed : {D : Type 0} → SinkMeaning D → D → Type 0
IsFlushed sink s = (sink.outside s).written ≡ sink.taken s

-- where all went well, all that the sink took is written
abbrev pub FlushedWhere : Bool → (written taken : Option (List ℕ)) → Type 0
FlushedWhere true written taken = written ≡ taken
FlushedWhere false written taken = Unit {0}

-- What a flush leaves of a sink. Where the sink has room, it does not fail, and the room is left.
pub record FlushAfter {D : Type 0} (sink : SinkMeaning D) (old new : D) (whole : Bool) : Type 0 where
  pub keeps : sink.taken new ≡ sink.taken old
  pub flushed : FlushedWhere whole (sink.outside new).written (sink.taken new)
  pub proceeds : Proceeds whole (sink.outside old) (sink.outside new)
  pub calm : (room : ℕ) → sink.roomy old room → (whole ≡ true) × sink.roomy new room

-- What sending a text leaves of a sink that was flushed: the text is written whole, or its front up
-- to a put that failed. Where the sink has room for the text, no put fails.
pub record SentAfter {D : Type 0} (sink : SinkMeaning D) (text : List ℕ) (old new : D) (whole : Bool) : Type 0 where
  pub wrote : Wrote whole (sink.outside old).written text (sink.outside new).written
  pub counts : WriteCounts whole (sink.outside old).faults (sink.outside new).faults
  pub calm : (room : ℕ) → sink.roomy old room → length text ≤ room → whole ≡ true
