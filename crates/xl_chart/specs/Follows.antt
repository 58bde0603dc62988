-- What a command that is done removes from a curve, without the mapping.
use Rattle.xl_model.specs.declared.address.Mode.{Mode}
use Rattle.xl_model.specs.declared.event.Event.{Event}
use Rattle.xl_model.specs.declared.event.Event.TheVariants as event
use Rattle.xl_model.specs.declared.event.Reach.{Reach}
use Rattle.xl_model.specs.declared.event.Reach.TheVariants as reach
use Rattle.xl_model.specs.declared.event.Scope.{Scope}
use Rattle.xl_model.specs.declared.event.Scope.TheVariants as scope
use Rattle.xl_model.specs.declared.row.Purge.{Purge}
use Rattle.xl_model.specs.Addresses.{page_of}
use Rattle.xl_curve_model.specs.Curves.{HitCurve, curve_without}
use Rattle.xl_model.specs.Tlb.{reaches_leaf}
use Rattle.xl_curve.specs.Tests.{purges}

-- What a fence reaches, by page.
abbrev pub page_reach : Mode → Scope → Reach
page_reach m scope.All = reach.All
page_reach m (scope.Space space) = reach.Space space
page_reach m (scope.Addr va) = reach.Addr (page_of m va)
page_reach m (scope.Page space va) = reach.Page space (page_of m va)

-- The curve after a command that is done: a purge by the name that the command gives, or a fence.
abbrev pub followed : Purge → Mode → Event → HitCurve → HitCurve
followed p m (event.Unmap space va o) c = curve_without (purges p space (page_of m va) o) c
followed p m (event.Protect space va o perm) c = curve_without (purges p space (page_of m va) o) c
followed p m (event.Move space from to o) c = curve_without (purges p space (page_of m from) o) c
followed p m (event.Fence to) c = curve_without (reaches_leaf (page_reach m to)) c
followed p m (event.Access va kind) c = c
followed p m (event.Map space va o perm) c = c
followed p m (event.Space space) c = c
