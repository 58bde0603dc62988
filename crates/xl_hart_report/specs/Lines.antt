-- The lines of a report of harts. Each is said of the line so far.
use Rattle.std.specs.Prelude.{ℕ, List, ◌++◌, codes, decimal}
use Rattle.xl_model.specs.declared.address.Kind.{Kind}
use Rattle.xl_model.specs.declared.leaf.Reply.{Reply}
use Rattle.xl_model.specs.Lines.{hex16, with_numbers, answer_line}
use Rattle.xl_hart_model.specs.declared.hart.AllCounts.{AllCounts}
use Rattle.xl_hart_model.specs.declared.hart.HartCounts.{HartCounts}

-- The name of a hart: `hart` and its number.
abbrev pub hart_name : ℕ → List ℕ
hart_name hart = codes "hart " ++ decimal hart

-- The line of an access of a hart: as a row's, which has the hart's name.
unfoldable pub hart_line : ℕ → ℕ → Kind → ℕ → ℕ → Reply → List ℕ
hart_line hart number k space va answer = answer_line (hart_name hart) number k space va answer

-- The line with a hart's accesses, by their verdicts.
unfoldable pub with_hart_verdicts : List ℕ → HartCounts → List ℕ
with_hart_verdicts line c =
    line ++ codes " accesses=" ++ decimal c.accesses ++ codes " ok=" ++ decimal c.ok
    ++ codes " unmapped=" ++ decimal c.unmapped ++ codes " denied=" ++ decimal c.denied
    ++ codes " notcanonical=" ++ decimal c.not_canonical

-- The line with the hits and misses of a hart's array, and the loads of its walks.
unfoldable pub with_hart_walks : List ℕ → HartCounts → List ℕ
with_hart_walks line c =
    line ++ codes " hits=" ++ decimal c.hits ++ codes " misses=" ++ decimal c.misses
    ++ codes " reads=" ++ decimal c.reads

-- The line with the requests that a hart took, the entries that left its array, and its sum of
-- physical addresses.
unfoldable pub with_hart_takes : List ℕ → HartCounts → List ℕ
with_hart_takes line c =
    line ++ codes " taken=" ++ decimal c.taken ++ codes " invalidated=" ++ decimal c.invalidated
    ++ codes " pasum=" ++ hex16 c.pasum

-- The line of a hart's counts, whole.
unfoldable pub hart_counts_line : ℕ → HartCounts → List ℕ
hart_counts_line hart c =
    with_hart_takes (with_hart_walks (with_hart_verdicts (hart_name hart) c) c) c ++ codes "\n"

-- The line with the commands that were done, and the twelve numbers of refusals.
unfoldable pub with_all_commands : List ℕ → AllCounts → List ℕ
with_all_commands line c = with_numbers (line ++ codes "harts accepted=" ++ decimal c.accepted ++ codes " refused=") c.refused

-- The line with the requests in all queues, and the frames that are held back.
unfoldable pub with_all_queues : List ℕ → AllCounts → List ℕ
with_all_queues line c = line ++ codes " waiting=" ++ decimal c.waiting ++ codes " held=" ++ decimal c.held

-- The line of all harts together, whole.
unfoldable pub all_counts_line : AllCounts → List ℕ
all_counts_line c = with_all_queues (with_all_commands (codes "") c) c ++ codes "\n"
