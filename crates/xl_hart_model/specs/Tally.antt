-- The counts of harts, each modulo 2^64.
use Rattle.std.specs.Prelude.{ℕ, ◌+◌, List, [], ◌∷◌}
use Rattle.xl_model.specs.declared.event.Refusal.{Refusal}
use Rattle.xl_hart_model.specs.declared.hart.HartCounts.{HartCounts}
use Rattle.xl_hart_model.specs.declared.hart.HartRefusal.{HartRefusal}
use Rattle.xl_hart_model.specs.declared.hart.HartRefusal.TheVariants as why
use Rattle.xl_model.specs.declared.leaf.Leaf.{Leaf}
use Rattle.xl_model.specs.declared.leaf.Reply.{Reply}
use Rattle.xl_model.specs.declared.leaf.Reply.TheVariants as reply
use Rattle.xl_model.specs.Addresses.{pages_of}
use Rattle.xl_model.specs.Base.{plus}
use Rattle.xl_model.specs.Tally.{physical, refusal_place}

-- All counts of a hart are 0.
unfoldable pub no_hart_counts : HartCounts
no_hart_counts = record {
  accesses = 0;
  ok = 0;
  unmapped = 0;
  denied = 0;
  not_canonical = 0;
  hits = 0;
  misses = 0;
  reads = 0;
  taken = 0;
  invalidated = 0;
  pasum = 0;
}

-- No refusal was counted.
abbrev pub no_refusals : List ℕ
no_refusals = 0 ∷ 0 ∷ 0 ∷ 0 ∷ 0 ∷ 0 ∷ 0 ∷ 0 ∷ 0 ∷ 0 ∷ 0 ∷ 0 ∷ []

-- The place of a refusal in the list of refusals, which are numbered from 1.
abbrev pub hart_refusal_place : HartRefusal → ℕ
hart_refusal_place (why.Mapping r) = refusal_place r
hart_refusal_place why.QueueFull = 9
hart_refusal_place why.NothingToTake = 10
hart_refusal_place why.BadHart = 11

-- An access, by its reply; the physical address of one that is served goes into `pasum`.
unfoldable pub count_hart_reply : Reply → ℕ → HartCounts → HartCounts
count_hart_reply (reply.Frame frame) va c =
    record c { accesses = plus c.accesses 1; ok = plus c.ok 1; pasum = plus c.pasum (physical frame va) }
count_hart_reply reply.NotCanonical va c = record c { accesses = plus c.accesses 1; not_canonical = plus c.not_canonical 1 }
count_hart_reply reply.Unmapped va c = record c { accesses = plus c.accesses 1; unmapped = plus c.unmapped 1 }
count_hart_reply reply.Denied va c = record c { accesses = plus c.accesses 1; denied = plus c.denied 1 }

-- A hit of the array.
unfoldable pub count_hit : HartCounts → HartCounts
count_hit c = record c { hits = plus c.hits 1 }

-- A miss, with the loads of its walk.
unfoldable pub count_miss : ℕ → HartCounts → HartCounts
count_miss loads c = record c { misses = plus c.misses 1; reads = plus c.reads loads }

-- A request taken, and the entries that left the array.
unfoldable pub count_taken : ℕ → HartCounts → HartCounts
count_taken left c = record c { taken = plus c.taken 1; invalidated = plus c.invalidated left }

-- How many frames some leaves hold.
abbrev pub frames_in : List Leaf → ℕ
frames_in [] = 0
frames_in (leaf ∷ leaves) = pages_of leaf.order + frames_in leaves
