-- The lines of a guest over a host. Each part is said of the line so far.
use Rattle.std.specs.Prelude.{ℕ, List, [], ◌++◌, codes, decimal}
use Rattle.xl_model.specs.declared.address.Kind.{Kind}
use Rattle.xl_model.specs.Addresses.{code_of}
use Rattle.xl_model.specs.Lines.{hex16, kind_letter, with_numbers}
use Rattle.xl_model.specs.Tally.{physical}
use Rattle.xl_nested_model.specs.declared.nest.NestCounts.{NestCounts}
use Rattle.xl_nested_model.specs.declared.nest.NestReply.{NestReply}
use Rattle.xl_nested_model.specs.declared.nest.NestReply.TheVariants as reply
use Rattle.xl_nested_model.specs.Stages.{guest_code_of}

-- The verdict of an access: the host's physical address, or the code of the fault.
abbrev pub with_nest_reply : List ℕ → Kind → ℕ → NestReply → List ℕ
with_nest_reply line k va (reply.Frame frame) = line ++ codes " ok " ++ hex16 (physical frame va)
with_nest_reply line k va reply.PageFault = line ++ codes " pagefault " ++ decimal (code_of k)
with_nest_reply line k va reply.GuestFault = line ++ codes " guestfault " ++ decimal (guest_code_of k)

-- The line of an access: nested RECORD KIND ADDRESS VERDICT.
unfoldable pub nest_line : ℕ → Kind → ℕ → NestReply → List ℕ
nest_line number k va answer =
    with_nest_reply (codes "nested " ++ decimal number ++ kind_letter k ++ hex16 va) k va answer ++ codes "\n"

-- The line with the accesses by their verdicts, and the commands that were done.
unfoldable pub with_nest_verdicts : List ℕ → NestCounts → List ℕ
with_nest_verdicts line c =
    line ++ codes "nested accesses=" ++ decimal c.accesses ++ codes " ok=" ++ decimal c.ok
    ++ codes " pagefaults=" ++ decimal c.page_faults ++ codes " guestfaults=" ++ decimal c.guest_faults
    ++ codes " accepted=" ++ decimal c.accepted

-- The line with the six numbers of refused commands.
unfoldable pub with_nest_refusals : List ℕ → NestCounts → List ℕ
with_nest_refusals line c = with_numbers (line ++ codes " refused=") c.refused

-- The line with the loads, the hits of the G cache, and the sum of physical addresses.
unfoldable pub with_nest_walks : List ℕ → NestCounts → List ℕ
with_nest_walks line c =
    line ++ codes " reads=" ++ decimal c.reads ++ codes " hits=" ++ decimal c.hits ++ codes " pasum=" ++ hex16 c.pasum

-- The line of the counts, whole.
unfoldable pub nest_counts_line : NestCounts → List ℕ
nest_counts_line c = with_nest_walks (with_nest_refusals (with_nest_verdicts [] c) c) c ++ codes "\n"
