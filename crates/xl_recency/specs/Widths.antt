-- The widths of recency lists, a list of one of them, and the form of lists of one width.
use Rattle.std.specs.Prelude.{ℕ, nat_lt, if◌then◌else◌, IsTrue, List}
use Rattle.xl_model.specs.Caches.{Cached}
use Rattle.xl_model.specs.Rows.{is_width}

-- A width that a recency list can have: 0, 1, 2, 4, 6, 8, 12, 16, 32 or 64.
abbrev pub IsWidth : ℕ → Type 0
IsWidth width = IsTrue (is_width width)

-- A list of items of this width.
abbrev pub cached : {T : Type 0} → ℕ → List T → Cached T
cached width items = record { width = width; items = items }

-- Of two lists the second where the width is above 32, else the first.
abbrev pub of_width : {T : Type 0} → ℕ → List T → List T → List T
of_width width few many = if nat_lt 32 width then many else few
