-- Kept leaves, no two on one page: after the calls of a table of chains, and the table that keeps
-- them.
use Rattle.std.specs.List.{All, list_any}
use Rattle.std.specs.Prelude.{Bool, List, [], false, filter, if◌then◌else◌, map, not, ℕ, ◌∷◌, ◌≡◌}
use Rattle.xl_list_lemmas.specs.Buckets.{in_front_by}
use Rattle.xl_model.specs.Caches.{NoCaches}
use Rattle.xl_model.specs.Chains.{leaf_tag}
use Rattle.xl_model.specs.Mapping.{is_leaf, meets_block}
use Rattle.xl_model.specs.Shapes.{Chained}
use Rattle.xl_model.specs.Structures.{TableState}
use Rattle.xl_model.specs.declared.address.Order.{Order}
use Rattle.xl_model.specs.declared.leaf.Leaf.{Leaf}
use Rattle.xl_model.specs.declared.perm.Perm.{Perm}
use Rattle.xl_model_lemmas.specs.Kept.{IsPlaced, mapping_of}

-- no leaf overlaps one after it
abbrev pub IsApart : List Leaf → Type 0
IsApart [] = Unit {0}
IsApart (x ∷ xs) = (list_any (meets_block x.space x.first x.order) xs ≡ false) × IsApart xs

-- kept leaves: each at its place, and no two on one page
pub record IsKept (items : List Leaf) : Type 0 where
  pub placed : All IsPlaced items
  pub apart : IsApart items

-- a new leaf is before the first leaf of a bucket that isn't lower
unfoldable pub in_front : ℕ → Leaf → List Leaf → List Leaf
in_front buckets leaf items = in_front_by (leaf_tag 1) buckets leaf items

-- the leaves but those of this name
unfoldable pub without_named : ℕ → ℕ → Order → List Leaf → List Leaf
without_named space first order items = filter (λ leaf. not (is_leaf space first order leaf)) items

-- a leaf with another permission, where it has the name
abbrev pub protected_where : Bool → Perm → Leaf → Leaf
protected_where named perm leaf = if named then record leaf { perm = perm } else leaf

-- the leaves with another permission for those of this name
unfoldable pub with_perm_named : ℕ → ℕ → Order → Perm → List Leaf → List Leaf
with_perm_named space first order perm items =
    map (λ leaf. protected_where (is_leaf space first order leaf) perm leaf) items

-- the table that keeps these leaves: of groups of one leaf, without caches
abbrev pub table_of : ℕ → ℕ → ℕ → List Leaf → TableState
table_of buckets entries loads items = record {
  leaves = mapping_of items;
  shape = Chained 1 buckets entries (map (leaf_tag 1) items);
  caches = NoCaches;
  loads = loads;
}
