-- What a look at one array finds and moves.
use Rattle.std.specs.Prelude.{ℕ, ◌≡◌, ◌+◌, ◌-◌, ◌/◌, ◌<◌, ◌^◌, None, Some}
use Rattle.xl_model.specs.declared.address.Order.TheVariants as order
use Rattle.xl_model.specs.declared.leaf.Leaf.{Leaf}
use Rattle.xl_model.specs.LeafWords.{perm_at, small_leaf}
use Rattle.xl_model.specs.Recency.{touched}
use Rattle.xl_model.specs.Tlb.{TlbArray, array_hit, array_touched, covers_as, found_as, set_at}
use Rattle.xl_array.specs.Hits.{word_touched}

-- A word says a page of a leaf: it has the frame of the page (times 16), where that is small, and the leaf's permission.
pub record IsPageWord (page word : ℕ) (leaf : Leaf) : Type 0 where
  pub frame : leaf.frame + (page - leaf.first) < 2 ^ 60 → word / 16 ≡ leaf.frame + (page - leaf.first)
  pub perm : perm_at word ≡ leaf.perm

-- The array finds a 4 KiB leaf with this word, which moves to the front of its set.
pub record IsTouch (space page word : ℕ) (a new : TlbArray) : Type 0 where
  pub found : Some (small_leaf space page word) ≡ found_as a space page order.K4
  pub moved : new ≡ word_touched space page order.K4 word a

-- The array finds a leaf, of which this is the page's word, and which moves to the front of its set.
pub record IsPageTouch (space page word : ℕ) (a new : TlbArray) : Type 0 where
  pub leaf : Leaf
  pub found : Some leaf ≡ array_hit a space page
  pub says : IsPageWord page word leaf
  pub moved : new ≡ array_touched space page leaf a

-- The array has no leaf of 4 KiB of the page.
abbrev pub LacksSmall : ℕ → ℕ → TlbArray → Type 0
LacksSmall space page a = None ≡ found_as a space page order.K4

-- The array finds a 4 KiB leaf with this word, and a touch of it moves nothing in its set.
pub record IsFrontHit (space page word : ℕ) (a : TlbArray) : Type 0 where
  pub found : Some (small_leaf space page word) ≡ found_as a space page order.K4
  pub stays : touched (covers_as space page order.K4) (set_at a order.K4 page) ≡ set_at a order.K4 page
