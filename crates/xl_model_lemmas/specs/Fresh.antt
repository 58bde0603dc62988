-- Nothing stale: what TLB arrays and cached sections hold is what the mapping and the shape have.
use Rattle.std.specs.Prelude.{Bool, List, [], true, ◌||◌, ◌∷◌, ◌≡◌, ◌⊎◌}
use Rattle.xl_list_lemmas.specs.Members.{In}
use Rattle.xl_model.specs.Caches.{Cached}
use Rattle.xl_model.specs.Sections.{Section, section_of}
use Rattle.xl_model.specs.Tlb.{TlbArray}
use Rattle.xl_model.specs.Ways.{WayShape}
use Rattle.xl_model.specs.declared.address.Order.{Order}
use Rattle.xl_model.specs.declared.leaf.Leaf.{Leaf}

-- a leaf is in one of the sets
abbrev pub InSets : Leaf → List (List Leaf) → Type 0
InSets leaf [] = ⊥
InSets leaf (set ∷ sets) = In leaf set ⊎ InSets leaf sets

-- a leaf is held by one of the arrays
abbrev pub Held : Leaf → List TlbArray → Type 0
Held leaf [] = ⊥
Held leaf (a ∷ arrays) = InSets leaf a.sets ⊎ Held leaf arrays

-- each leaf of an array is a leaf of the mapping
abbrev pub ArraysFresh : List TlbArray → List Leaf → Type 0
ArraysFresh arrays leaves = (leaf : Leaf) → Held leaf arrays → In leaf leaves

-- a section in which some leaf lies
abbrev pub has_leaves : Section → Bool
has_leaves s = s.has_k4 || (s.has_m2 || s.has_g1)

-- a cached section has the mapping's bits, and the way in which its leaf's key is; some leaf lies
-- in it
pub record SectionFresh (size : Order) (leaves : List Leaf) (ways : List WayShape) (s : Section) : Type 0 where
  pub is : s ≡ section_of size s.space s.block leaves ways
  pub some : has_leaves s ≡ true

-- each section of a cache is fresh
abbrev pub SectionsFresh : Order → List Leaf → List WayShape → Cached Section → Type 0
SectionsFresh size leaves ways c = (s : Section) → In s c.items → SectionFresh size leaves ways s
