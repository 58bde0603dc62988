-- A row that is opened.
use Rattle.std.specs.Prelude.{ℕ, List, []}
use Rattle.xl_model.specs.Caches.{section_caches}
use Rattle.xl_model.specs.Shapes.{Cuckoo, CuckooRules, CuckooWays, opening_ways}
use Rattle.xl_model.specs.Structures.{TableState}

-- As many empty ways for each order.
abbrev pub opening_orders : ℕ → ℕ → ℕ → CuckooWays
opening_orders count start cap =
    record { k4 = opening_ways start cap 0 count; m2 = opening_ways start cap 0 count; g1 = opening_ways start cap 0 count }

-- A row in which nothing was mapped: its ways are empty, it has empty caches of these widths, and
-- made no load.
abbrev pub opening_table : ℕ → ℕ → ℕ → CuckooRules → List ℕ → TableState
opening_table count start cap rules widths =
    record { leaves = []; shape = Cuckoo rules (opening_orders count start cap); caches = section_caches widths; loads = 0 }
