-- What a plain table keeps, and what its searches and walks load.
use Rattle.std.specs.Prelude.{ℕ, ◌+◌, ◌^◌, ◌<◌, ◌≤◌, List, map, Option}
use Rattle.std.specs.declared.vec.Vec.{Vec}
use Rattle.std.specs.Vec.{vec_items, vec_len, vec_capacity}
use Rattle.xl_model.specs.declared.leaf.Leaf.{Leaf}
use Rattle.xl_model.specs.Chains.{leaf_tag, bucket_of, chain_of, examined}
use Rattle.xl_model.specs.Walks.{chains_reads, orders_tried}
use Rattle.xl_model_table.specs.Kept.{IsKept}

-- The leaves are kept ones, no more than the entries, and there is room for as many as the entries.
pub record IsPlain {Z : Type 0} (leaves : Vec Leaf Z) (buckets entries : ℕ) : Type 0 where
  pub kept : IsKept (vec_items leaves)
  pub some_buckets : 0 < buckets
  pub few : entries ≤ 2 ^ 20
  pub within : vec_len leaves ≤ entries
  pub room : entries ≤ vec_capacity leaves

-- The tags of leaves, in their order.
abbrev pub tags_of : List Leaf → List ℕ
tags_of items = map (leaf_tag 1) items

-- The loads of a search for a tag: one for its bucket, and one for each leaf of the bucket up to
-- and with the one that has it.
abbrev pub search_loads : ℕ → ℕ → List Leaf → ℕ
search_loads buckets tag items =
    1 + examined tag (chain_of buckets (bucket_of buckets tag) (tags_of items))

-- The loads of a walk that finds this leaf, or none: those of a search for each order that it
-- tries.
abbrev pub walk_loads : ℕ → List Leaf → ℕ → ℕ → Option Leaf → ℕ
walk_loads buckets items space page found =
    chains_reads 1 buckets (tags_of items) space page (orders_tried found)
