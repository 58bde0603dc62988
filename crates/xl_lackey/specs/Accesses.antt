-- The accesses of a reference: one for each 4 KiB page that its bytes touch, in rising order.
use Rattle.std.specs.Prelude.{ℕ, zero, suc, ◌+◌, ◌-◌, ◌*◌, ◌/◌, max, List, [], ◌∷◌, ◌++◌}
use Rattle.xl_model.specs.declared.address.Kind.{Kind}
use Rattle.xl_model.specs.declared.address.Kind.TheVariants.{Fetch, Load, Store}
use Rattle.xl_lackey.specs.declared.reference.Letter.{Letter}
use Rattle.xl_lackey.specs.declared.reference.Letter.TheVariants as letter
use Rattle.xl_lackey.specs.declared.reference.Reference.{Reference}

-- How many page borders lie between the first byte touched and the last.
abbrev pub borders : ℕ → ℕ → ℕ
borders addr size = (addr + max size 1 - 1) / 4096 - addr / 4096

-- The first bytes of n pages, from this page on.
abbrev pub starts : ℕ → ℕ → List ℕ
starts zero page = []
starts (suc n) page = page * 4096 ∷ starts n (page + 1)

-- The addresses of one going over the pages touched: the first byte touched, and the start of each
-- further page.
abbrev pub places : ℕ → ℕ → List ℕ
places addr size = addr ∷ starts (borders addr size) (addr / 4096 + 1)

-- An access of one kind at each address.
abbrev pub each : Kind → List ℕ → List (ℕ × Kind)
each kind [] = []
each kind (p ∷ ps) = (p, kind) ∷ each kind ps

-- The accesses at these addresses, by the record's letter; a modify is all its loads, and then all
-- its stores.
abbrev pub accesses_at : Letter → List ℕ → List (ℕ × Kind)
accesses_at letter.I ps = each Fetch ps
accesses_at letter.L ps = each Load ps
accesses_at letter.S ps = each Store ps
accesses_at letter.M ps = each Load ps ++ each Store ps

-- The accesses of a reference, with their kinds.
abbrev pub accesses : Reference → List (ℕ × Kind)
accesses r = accesses_at r.letter (places r.addr r.size)
