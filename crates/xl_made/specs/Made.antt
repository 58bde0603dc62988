-- The made workload: a trace and a script whose lines are made from the words of a generator.
use Rattle.std.specs.Prelude.{ℕ, zero, suc, ◌+◌, ◌*◌, ◌/◌, ◌%◌, ◌^◌, nat_lt, if◌then◌else◌, List, [], ◌++◌, codes}
use Rattle.rand_pcg.specs.Lcg.{Lcg, next, started, increment_of}
use Rattle.rand_pcg.specs.Pcg.{multiplier_64, output_xsh_rr}
use Rattle.xl_model.specs.Lines.{hex_digits}
use Rattle.xl_lackey.specs.declared.reference.Letter.{Letter}
use Rattle.xl_lackey.specs.declared.reference.Letter.TheVariants as letter
use Rattle.xl_lackey.specs.Usual.{usual_front}

-- The generator of a stream, begun at 42.
abbrev pub generator : ℕ → Lcg
generator stream = started 64 multiplier_64 42 (increment_of 64 stream)

-- The generator's word, of 32 bits.
abbrev pub word : Lcg → ℕ
word g = output_xsh_rr g.state

-- The generator after its word was taken.
abbrev pub after : Lcg → Lcg
after g = next 64 multiplier_64 g

-- The letter of a record, by its word: three fetches, three loads, a store and a modify in eight.
unfoldable pub letter_of : ℕ → Letter
letter_of r =
    if nat_lt (r % 8) 3 then letter.I else
    (if nat_lt (r % 8) 6 then letter.L else (if nat_lt (r % 8) 7 then letter.S else letter.M))

-- Its size: 4 bytes for a fetch, 8 for all others.
unfoldable pub size_of : ℕ → ℕ
size_of r = if nat_lt (r % 8) 3 then 4 else 8

-- The page of a record: one of the first 64 for three words in four, else one of 4096.
unfoldable pub page_of : ℕ → ℕ
page_of r = if nat_lt (r / 2 ^ 28) 12 then r / 8 % 64 else r / 8 % 4096

-- The address of a record: in its page, a multiple of 8.
unfoldable pub address_of : ℕ → ℕ
address_of r = 0x10000000 + page_of r * 4096 + r / 2 ^ 15 % 512 * 8

-- How a line ends that has this size.
abbrev pub size_text : ℕ → List ℕ
size_text size = codes "," ++ hex_digits 1 size ++ codes "\n"

-- The line of a record, as Lackey writes it.
unfoldable pub record_line : ℕ → List ℕ
record_line r = usual_front (letter_of r) ++ hex_digits 8 (address_of r) ++ size_text (size_of r)

-- The lines of n records.
abbrev pub record_lines : ℕ → Lcg → List ℕ
record_lines zero g = []
record_lines (suc n) g = record_line (word g) ++ record_lines n (after g)

-- The trace of n records.
abbrev pub made_trace : ℕ → List ℕ
made_trace n = record_lines n (generator 54)

-- The script with the lines that run 64 records, and then unmap the page of a word.
unfoldable pub with_unmap : ℕ → List ℕ → List ℕ
with_unmap w script = script ++ codes "run 64\nunmap 0 " ++ hex_digits 8 (0x10000000 + w % 4096 * 4096) ++ codes " 4k\n"

-- The script with n of those.
abbrev pub with_unmaps : ℕ → Lcg → List ℕ → List ℕ
with_unmaps zero g script = script
with_unmaps (suc n) g script = with_unmaps n (after g) (with_unmap (word g) script)

-- The script for n records: all pages are mapped on demand, and after each 64 records one is
-- unmapped.
abbrev pub made_script : ℕ → List ℕ
made_script n = with_unmaps (n / 64) (generator 55) (codes "demand 0 10000000 4096 4k rwxu\n")
