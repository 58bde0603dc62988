-- Traces of one line, and what is read of them.
use Rattle.std.specs.Prelude.{◌≡◌, ℕ, List, [], ◌∷◌, ◌++◌, codes, replicate, Option, None, Some}
use Rattle.xl_lackey.specs.declared.reference.Letter.{Letter}
use Rattle.xl_lackey.specs.Stream.{Record, records_of}

-- The line is this record.
abbrev pub Reads : List ℕ → Letter → ℕ → ℕ → Type 0
Reads text letter addr size =
    records_of text ≡ (record { letter = letter; addr = addr; size = size; line = 1 } ∷ [], None)

-- The line is skipped.
abbrev pub Skips : List ℕ → Type 0
Skips text = records_of text ≡ ([], None)

-- The line is bad for this reason.
abbrev pub Refuses : List ℕ → ℕ → Type 0
Refuses text reason = records_of text ≡ ([], Some (record { line = 1; reason = reason }))

-- A good record with so many blanks behind it.
abbrev pub with_blanks : ℕ → List ℕ
with_blanks n = codes "S 2,2" ++ replicate n 32

-- A remark with so many bytes behind its first two.
abbrev pub long_remark : ℕ → List ℕ
long_remark n = codes "==" ++ replicate n 120
