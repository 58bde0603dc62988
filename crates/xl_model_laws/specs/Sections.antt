-- The sections that room in a cuckoo table counts.
use Rattle.std.specs.Prelude.{ℕ, ◌≡◌, true, List}
use Rattle.std.specs.List.{list_any}
use Rattle.xl_model.specs.declared.address.Order.{Order}
use Rattle.xl_model.specs.declared.leaf.Leaf.{Leaf}
use Rattle.xl_model.specs.Sections.{section_keys}
use Rattle.xl_list_lemmas.specs.Members.{In, Once}
use Rattle.xl_model_lemmas.specs.Sections.{counts_at}

-- The keys are exactly those of the sections of this order in which some leaf lies that isn't
-- larger, each once.
pub record AreSectionsOf (size : Order) (leaves : List Leaf) (keys : List ℕ) : Type 0 where
  pub once : Once keys
  pub there : (key : ℕ) → list_any (counts_at size key) leaves ≡ true → In key keys
  pub only : (key : ℕ) → In key keys → list_any (counts_at size key) leaves ≡ true

-- The sections that room counts are those of the leaves, each once, whatever the leaves: of a
-- change those with the old leaf and the new one.
abbrev pub SectionsAreCountedOnce : Type 0
SectionsAreCountedOnce = (size : Order) (leaves : List Leaf) → AreSectionsOf size leaves (section_keys size leaves)
