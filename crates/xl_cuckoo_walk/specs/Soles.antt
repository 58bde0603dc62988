-- Pages of which the sections in front of both caches leave one order alone.
use Rattle.std.specs.Prelude.{ℕ, ◌≡◌, ◌<◌, Option, Some}
use Rattle.xl_model.specs.declared.address.Order.{Order}
use Rattle.xl_model.specs.declared.address.Order.TheVariants as order
use Rattle.xl_cuckoo_walk.specs.declared.plan.Plan.{Plan}
use Rattle.xl_cuckoo_walk.specs.declared.plan.Plan.TheVariants as plan
use Rattle.xl_cuckoo_walk.specs.declared.sole.Sole.{Sole}
use Rattle.xl_cuckoo_walk.specs.declared.sole.Sole.TheVariants as sole
use Rattle.xl_cuckoo_walk.specs.Coding.{hit_of}
use Rattle.xl_cuckoo_walk.specs.Parts.{Size, Middle, Large, by_size}
use Rattle.xl_cuckoo_walk.specs.Plans.{plan_of}

-- How each order is probed.
abbrev pub plans_by : Plan → Plan → Plan → Order → Plan
plans_by k4 m2 g1 order.K4 = k4
plans_by k4 m2 g1 order.M2 = m2
plans_by k4 m2 g1 order.G1 = g1

-- So the orders are probed by the words of both sections of a page, whatever the sections' tags
-- are. No word is 0.
pub record ArePlans (words : Size → ℕ) (plans : Order → Plan) : Type 0 where
  pub some : (z : Size) → 0 < words z
  pub are : (o : Order) (m l : ℕ) → plans o ≡ plan_of o (hit_of m (Some (words Middle))) (hit_of l (Some (words Large)))

-- What is said of the sole order that is probed, if there is one.
abbrev pub IsSole : ℕ → ℕ → Sole → Type 0
IsSole middle large sole.Small = ArePlans (by_size middle large) (plans_by plan.Every plan.Skip plan.Skip)
IsSole middle large (sole.Middle way) = ArePlans (by_size middle large) (plans_by plan.Skip (plan.At way) plan.Skip)
IsSole middle large sole.Unknown = Unit {0}

-- Both sections of a page are cached, and leave 4 KiB alone.
pub record AreSmall (middle large : Option ℕ) : Type 0 where
  pub words : Size → ℕ
  pub middle_is : middle ≡ Some (words Middle)
  pub large_is : large ≡ Some (words Large)
  pub plans : ArePlans words (plans_by plan.Every plan.Skip plan.Skip)
