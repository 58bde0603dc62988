-- The lines of a report. Each is said of the line, or the text, so far.
use Rattle.std.specs.Prelude.{ℕ, zero, suc, ◌+◌, ◌/◌, ◌%◌, nat_lt, if◌then◌else◌, List, [], ◌∷◌, ◌++◌, codes, decimal}
use Rattle.xl_model.specs.declared.address.Kind.{Kind}
use Rattle.xl_model.specs.declared.address.Kind.TheVariants as kind
use Rattle.xl_model.specs.declared.leaf.Reply.{Reply}
use Rattle.xl_model.specs.declared.leaf.Reply.TheVariants as reply
use Rattle.xl_model.specs.declared.event.Event.{Event}
use Rattle.xl_model.specs.declared.event.Event.TheVariants as event
use Rattle.xl_model.specs.declared.event.Outcome.{Outcome}
use Rattle.xl_model.specs.declared.event.Outcome.TheVariants as outcome
use Rattle.xl_model.specs.declared.row.Counts.{Counts}
use Rattle.xl_model.specs.Addresses.{code_of}
use Rattle.xl_model.specs.Tally.{refusal_place, physical}
use Rattle.xl_model.specs.Image.{Word}

-- The hexadecimal digit of a number below 16, in lower case.
abbrev pub hex_glyph : ℕ → ℕ
hex_glyph n = if nat_lt n 10 then 48 + n else 87 + n

-- n hexadecimal digits of a number, in lower case
abbrev pub hex_digits : ℕ → ℕ → List ℕ
hex_digits zero n = []
hex_digits (suc k) n = hex_digits k (n / 16) ++ hex_glyph (n % 16) ∷ []

-- A 64-bit number as 16 hexadecimal digits.
unfoldable pub hex16 : ℕ → List ℕ
hex16 n = hex_digits 16 n

-- The row's line: the name, and each count after its name.
unfoldable pub with_verdicts : List ℕ → Counts → List ℕ
with_verdicts line c =
    line ++ codes " accesses=" ++ decimal c.accesses ++ codes " ok=" ++ decimal c.ok
    ++ codes " unmapped=" ++ decimal c.unmapped ++ codes " denied=" ++ decimal c.denied
    ++ codes " notcanonical=" ++ decimal c.not_canonical ++ codes " accepted=" ++ decimal c.accepted

-- A line with more numbers, a comma before each.
abbrev pub with_rest : List ℕ → List ℕ → List ℕ
with_rest line [] = line
with_rest line (n ∷ ns) = with_rest (line ++ codes "," ++ decimal n) ns

-- numbers parted by commas
abbrev pub with_numbers : List ℕ → List ℕ → List ℕ
with_numbers line [] = line
with_numbers line (n ∷ ns) = with_rest (line ++ decimal n) ns

-- The line with the nine numbers of refusals.
unfoldable pub with_refusals : List ℕ → Counts → List ℕ
with_refusals line c = with_numbers (line ++ codes " refused=") c.refused

-- The line with walks, their loads and cache hits, and fills.
unfoldable pub with_walks : List ℕ → Counts → List ℕ
with_walks line c =
    line ++ codes " walks=" ++ decimal c.walks ++ codes " reads=" ++ decimal c.reads
    ++ codes " wchits=" ++ decimal c.wc_hits ++ codes " fills=" ++ decimal c.fills

-- The line with what cuckoo insertions did.
unfoldable pub with_moves : List ℕ → Counts → List ℕ
with_moves line c =
    line ++ codes " kicks=" ++ decimal c.kicks ++ codes " undone=" ++ decimal c.undone
    ++ codes " migrated=" ++ decimal c.migrated ++ codes " growths=" ++ decimal c.growths

-- The line with fences, invalidated entries and the sum of physical addresses.
unfoldable pub with_fences : List ℕ → Counts → List ℕ
with_fences line c =
    line ++ codes " fences=" ++ decimal c.fences ++ codes " invalidated=" ++ decimal c.invalidated
    ++ codes " pasum=" ++ hex16 c.pasum

-- The line with the hits and misses of more arrays, a comma before each.
abbrev pub with_more_arrays : List ℕ → ℕ → List ℕ → List ℕ → List ℕ
with_more_arrays line zero hits misses = line
with_more_arrays line (suc n) (h ∷ hits) (m ∷ misses) =
    with_more_arrays (line ++ codes "," ++ decimal h ++ codes "/" ++ decimal m) n hits misses
with_more_arrays line n hits misses = line

-- hits and misses of n arrays, parted by commas; a dash for no array
abbrev pub with_arrays : List ℕ → ℕ → List ℕ → List ℕ → List ℕ
with_arrays line zero hits misses = line ++ codes "-"
with_arrays line (suc n) (h ∷ hits) (m ∷ misses) = with_more_arrays (line ++ decimal h ++ codes "/" ++ decimal m) n hits misses
with_arrays line n hits misses = line

-- The line with the hits and misses of the TLB arrays.
unfoldable pub with_tlb : List ℕ → Counts → List ℕ
with_tlb line c = with_arrays (line ++ codes " tlb=") c.arrays c.hits c.misses

-- A row's line, whole.
unfoldable pub row_line : List ℕ → Counts → List ℕ
row_line name c =
    with_tlb (with_fences (with_moves (with_walks (with_refusals (with_verdicts name c) c) c) c) c) c ++ codes "\n"

-- The line of an access: NAME RECORD KIND SPACE ADDRESS VERDICT.
abbrev pub kind_letter : Kind → List ℕ
kind_letter kind.Fetch = codes " I "
kind_letter kind.Load = codes " L "
kind_letter kind.Store = codes " S "

-- An access's line with its verdict: the physical address, or the code of the fault.
abbrev pub with_reply : List ℕ → Kind → ℕ → Reply → List ℕ
with_reply line k va (reply.Frame frame) = line ++ codes " ok " ++ hex16 (physical frame va)
with_reply line k va reply.Unmapped = line ++ codes " unmapped " ++ decimal (code_of k)
with_reply line k va reply.Denied = line ++ codes " denied " ++ decimal (code_of k)
with_reply line k va reply.NotCanonical = line ++ codes " notcanonical " ++ decimal (code_of k)

-- The line of an access, whole.
unfoldable pub answer_line : List ℕ → ℕ → Kind → ℕ → ℕ → Reply → List ℕ
answer_line name number k space va answer =
    with_reply (name ++ codes " " ++ decimal number ++ kind_letter k ++ decimal space ++ codes " " ++ hex16 va) k va answer
    ++ codes "\n"

-- The line of a command: NAME cmd VERB OUTCOME. An access has no such line.
abbrev pub verb_of : Event → List ℕ
verb_of (event.Access va k) = []
verb_of (event.Map space va o perm) = codes " cmd map"
verb_of (event.Unmap space va o) = codes " cmd unmap"
verb_of (event.Protect space va o perm) = codes " cmd protect"
verb_of (event.Move space from to o) = codes " cmd move"
verb_of (event.Space space) = codes " cmd space"
verb_of (event.Fence to) = codes " cmd fence"

-- A command's line with its outcome: done, or the number of the refusal.
abbrev pub with_outcome : List ℕ → Outcome → List ℕ
with_outcome line outcome.Done = line ++ codes " ok"
with_outcome line (outcome.Refused r) = line ++ codes " refused " ++ decimal (refusal_place r + 1)
with_outcome line (outcome.Replied answer) = line

-- The line of a command's event, whole.
unfoldable pub command_line : List ℕ → Event → Outcome → List ℕ
command_line name e result = with_outcome (name ++ verb_of e) result ++ codes "\n"

-- The line of a word of a radix table: image NAME NODE INDEX WORD.
unfoldable pub image_line : List ℕ → Word → List ℕ
image_line name w =
    codes "image " ++ name ++ codes " " ++ decimal w.node ++ codes " " ++ decimal w.index ++ codes " " ++ hex16 w.word ++ codes "\n"
