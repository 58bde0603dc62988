use Rattle.xl_radix_walk.proofs.Common.{◌≡◌, empty_cache, map, take}
use Rattle.xl_radix_walk.proofs.walk_caches.open_caches.Given as goal

abbrev pub invariant-opened : goal.invariant-opened
invariant-opened l = l.caches.items ≡ map empty_cache (take l.width-index l.widths)
