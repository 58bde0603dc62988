-- The counts of a row, each modulo 2^64.
use Rattle.std.specs.Prelude.{ℕ, ◌<◌, ◌+◌, ◌*◌, ◌%◌, ◌^◌, Bool, true, false, List, [], ◌∷◌, slice_index_or, slice_set, Option}
use Rattle.xl_model.specs.declared.address.Kind.{Kind}
use Rattle.xl_model.specs.declared.leaf.Reply.{Reply}
use Rattle.xl_model.specs.declared.leaf.Reply.TheVariants as reply
use Rattle.xl_model.specs.declared.event.Refusal.{Refusal}
use Rattle.xl_model.specs.declared.event.Refusal.TheVariants as refused
use Rattle.xl_model.specs.declared.row.Counts.{Counts}
use Rattle.xl_model.specs.declared.work.Work.{Work}
use Rattle.xl_model.specs.Base.{plus}
use Rattle.xl_model.specs.Tlb.{TlbArray, Answer, hits_at, misses_at}

-- All counts are 0, of a row with this number of arrays.
unfoldable pub no_counts : ℕ → Counts
no_counts arrays = record {
  accesses = 0;
  ok = 0;
  unmapped = 0;
  denied = 0;
  not_canonical = 0;
  accepted = 0;
  refused = 0 ∷ 0 ∷ 0 ∷ 0 ∷ 0 ∷ 0 ∷ 0 ∷ 0 ∷ 0 ∷ [];
  walks = 0;
  reads = 0;
  wc_hits = 0;
  fills = 0;
  kicks = 0;
  undone = 0;
  migrated = 0;
  growths = 0;
  fences = 0;
  invalidated = 0;
  pasum = 0;
  arrays = arrays;
  hits = 0 ∷ 0 ∷ 0 ∷ 0 ∷ 0 ∷ 0 ∷ [];
  misses = 0 ∷ 0 ∷ 0 ∷ 0 ∷ 0 ∷ 0 ∷ [];
}

-- the place of a refusal in the list of refusals, which are numbered from 1
abbrev pub refusal_place : Refusal → ℕ
refusal_place refused.BadSpace = 0
refusal_place refused.NotCanonical = 1
refusal_place refused.Misaligned = 2
refusal_place refused.Unmapped = 3
refusal_place refused.WrongSize = 4
refusal_place refused.Overlap = 5
refusal_place refused.NoFrames = 6
refusal_place refused.NoTable = 7
refusal_place refused.WayAtCap = 8

-- One more at a place of a list of counts.
abbrev pub one_more_at : ℕ → List ℕ → List ℕ
one_more_at i xs = slice_set xs i (plus (slice_index_or xs i 0) 1)

-- A refusal more.
unfoldable pub count_refusal : Refusal → Counts → Counts
count_refusal r c = record c { refused = one_more_at (refusal_place r) c.refused }

-- The physical address in a frame of an address.
abbrev pub physical : ℕ → ℕ → ℕ
physical frame va = frame * 4096 + va % 4096

-- a frame whose physical addresses are below 2^64
abbrev pub IsSmall : Reply → Type 0
IsSmall (reply.Frame frame) = frame < 2 ^ 52
IsSmall reply.NotCanonical = Unit {0}
IsSmall reply.Unmapped = Unit {0}
IsSmall reply.Denied = Unit {0}

-- an access, by its reply; the physical address of one that is served goes into `pasum`
unfoldable pub count_reply : Reply → ℕ → Counts → Counts
count_reply (reply.Frame frame) va c =
    record c { accesses = plus c.accesses 1; ok = plus c.ok 1; pasum = plus c.pasum (physical frame va) }
count_reply reply.NotCanonical va c = record c { accesses = plus c.accesses 1; not_canonical = plus c.not_canonical 1 }
count_reply reply.Unmapped va c = record c { accesses = plus c.accesses 1; unmapped = plus c.unmapped 1 }
count_reply reply.Denied va c = record c { accesses = plus c.accesses 1; denied = plus c.denied 1 }

-- A walk more, with its loads and its cache hits.
unfoldable pub count_walk : ℕ → ℕ → Counts → Counts
count_walk reads cache_hits c =
    record c { walks = plus c.walks 1; reads = plus c.reads reads; wc_hits = plus c.wc_hits cache_hits }

-- These fills of arrays more.
unfoldable pub count_fills : ℕ → Counts → Counts
count_fills fills c = record c { fills = plus c.fills fills }

-- One more where a test holds.
abbrev pub one_more_where : Bool → ℕ → ℕ
one_more_where true n = plus n 1
one_more_where false n = n

-- one more where the array at the same place passes the test
abbrev pub counted : (TlbArray → Bool) → List TlbArray → List ℕ → List ℕ
counted p [] ns = ns
counted p (a ∷ arrays) [] = []
counted p (a ∷ arrays) (n ∷ ns) = one_more_where (p a) n ∷ counted p arrays ns

-- a look-up by an access of this kind: one hit or one miss for each array that is looked at
unfoldable pub count_look : Kind → Option Answer → ℕ → ℕ → List TlbArray → Counts → Counts
count_look k answer space page arrays c = record c {
  hits = counted (hits_at k answer space page) arrays c.hits;
  misses = counted (misses_at k answer space page) arrays c.misses;
}

-- what a command did in the table; a refused one is counted as such beside it
unfoldable pub count_work : Work → Counts → Counts
count_work w c = record c {
  kicks = plus c.kicks w.kicks;
  undone = plus c.undone w.undone;
  migrated = plus c.migrated w.migrated;
  growths = plus c.growths w.growths;
  invalidated = plus c.invalidated w.invalidated;
}

-- A command more that was done.
unfoldable pub count_accepted : Counts → Counts
count_accepted c = record c { accepted = plus c.accepted 1 }

-- n entries more that left by a purge or a fence.
unfoldable pub count_invalidated : ℕ → Counts → Counts
count_invalidated n c = record c { invalidated = plus c.invalidated n }

-- A fence more.
unfoldable pub count_fence : Counts → Counts
count_fence c = record c { fences = plus c.fences 1 }
