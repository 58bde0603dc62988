-- The counts of a guest over a host, each modulo 2^64.
use Rattle.std.specs.Prelude.{ℕ, ◌<◌, ◌^◌, [], ◌∷◌}
use Rattle.xl_model.specs.Base.{plus}
use Rattle.xl_model.specs.Tally.{one_more_at, physical}
use Rattle.xl_nested_model.specs.declared.nest.NestCounts.{NestCounts}
use Rattle.xl_nested_model.specs.declared.nest.NestOutcome.{NestOutcome}
use Rattle.xl_nested_model.specs.declared.nest.NestOutcome.TheVariants as outcome
use Rattle.xl_nested_model.specs.declared.nest.NestRefusal.{NestRefusal}
use Rattle.xl_nested_model.specs.declared.nest.NestRefusal.TheVariants as refused
use Rattle.xl_nested_model.specs.declared.nest.NestReply.{NestReply}
use Rattle.xl_nested_model.specs.declared.nest.NestReply.TheVariants as reply

-- All counts are 0.
unfoldable pub no_nest_counts : NestCounts
no_nest_counts = record {
  accesses = 0;
  ok = 0;
  page_faults = 0;
  guest_faults = 0;
  accepted = 0;
  refused = 0 ∷ 0 ∷ 0 ∷ 0 ∷ 0 ∷ 0 ∷ [];
  reads = 0;
  hits = 0;
  pasum = 0;
}

-- The place of a refusal in the list of refusals, which are numbered from 1.
abbrev pub nest_place : NestRefusal → ℕ
nest_place refused.BadAddress = 0
nest_place refused.Misaligned = 1
nest_place refused.Absent = 2
nest_place refused.Overlap = 3
nest_place refused.NoFrames = 4
nest_place refused.NoTable = 5

-- One more refusal of this kind.
unfoldable pub count_nest_refusal : NestRefusal → NestCounts → NestCounts
count_nest_refusal r c = record c { refused = one_more_at (nest_place r) c.refused }

-- A frame in a reply is below 2^52, so that its physical addresses are below 2^64.
abbrev pub IsSmallNest : NestReply → Type 0
IsSmallNest (reply.Frame frame) = frame < 2 ^ 52
IsSmallNest reply.PageFault = Unit {0}
IsSmallNest reply.GuestFault = Unit {0}

-- The same of an outcome that is a reply.
abbrev pub IsSmallOutcome : NestOutcome → Type 0
IsSmallOutcome (outcome.Replied answer) = IsSmallNest answer
IsSmallOutcome outcome.Done = Unit {0}
IsSmallOutcome (outcome.Refused r) = Unit {0}

-- One more access, by its reply. The physical address of one that was served is added to `pasum`.
unfoldable pub count_nest_reply : NestReply → ℕ → NestCounts → NestCounts
count_nest_reply (reply.Frame frame) va c =
    record c { accesses = plus c.accesses 1; ok = plus c.ok 1; pasum = plus c.pasum (physical frame va) }
count_nest_reply reply.PageFault va c = record c { accesses = plus c.accesses 1; page_faults = plus c.page_faults 1 }
count_nest_reply reply.GuestFault va c = record c { accesses = plus c.accesses 1; guest_faults = plus c.guest_faults 1 }

-- One more command that was done.
unfoldable pub count_nest_accepted : NestCounts → NestCounts
count_nest_accepted c = record c { accepted = plus c.accepted 1 }
