-- The shape of a table after a change, table by table.
use Rattle.xl_model_laws.proofs.Common.{◌≡◌, ap, arith, brought, Chained, Change, changed, Cuckoo, CuckooRules, CuckooWays, Leaf, List, narrowed, nat_tests, Node, None, old_leaf, only_needed, Option, Radix, refl, room_for, Runs, shape_after, Some, true, ways_brought, ways_taken, widened, ℕ}
use Rattle.xl_model_laws.proofs.FreshNodeLemmas.{HasPath, wide}

radix-widened : (leaf : Option Leaf) (levels spaces : ℕ) (nodes : List (Option Node)) → widened leaf (Radix levels spaces nodes) ≡ Radix levels spaces (wide levels leaf nodes)
unfolding wide
radix-widened None levels spaces nodes = refl
radix-widened (Some leaf) levels spaces nodes = refl

pub radix-after : (c : Change) (leaves : List Leaf) (levels spaces : ℕ) (nodes : List (Option Node))
    → shape_after c leaves (Radix levels spaces nodes) ≡ Radix levels spaces (only_needed levels (changed c leaves) (wide levels (brought c leaves) nodes))
unfolding shape_after
radix-after c leaves levels spaces nodes = ap (narrowed c leaves) (radix-widened (brought c leaves) levels spaces nodes)

cuckoo-widened : (leaf : Option Leaf) (rules : CuckooRules) (ways : CuckooWays) → widened leaf (Cuckoo rules ways) ≡ Cuckoo rules (ways_brought rules leaf ways)
cuckoo-widened None rules ways = refl
cuckoo-widened (Some leaf) rules ways = refl

pub cuckoo-after : (c : Change) (leaves : List Leaf) (rules : CuckooRules) (ways : CuckooWays)
    → shape_after c leaves (Cuckoo rules ways) ≡ Cuckoo rules (ways_taken c (old_leaf c leaves) (ways_brought rules (brought c leaves) ways))
unfolding shape_after
cuckoo-after c leaves rules ways = ap (narrowed c leaves) (cuckoo-widened (brought c leaves) rules ways)

runs-widened : (leaf : Option Leaf) (limit : ℕ) → widened leaf (Runs limit) ≡ Runs limit
runs-widened None limit = refl
runs-widened (Some leaf) limit = refl

pub runs-after : (c : Change) (leaves : List Leaf) (limit : ℕ) → shape_after c leaves (Runs limit) ≡ Runs limit
unfolding shape_after
runs-after c leaves limit = ap (narrowed c leaves) (runs-widened (brought c leaves) limit)

pub path-room : (brings : Option Leaf) (c : Change) (leaves : List Leaf) (levels spaces : ℕ) (nodes : List (Option Node)) → room_for brings c leaves (Radix levels spaces nodes) ≡ true → HasPath levels brings nodes
unfolding HasPath
path-room None c leaves levels spaces nodes h = tt
path-room (Some leaf) c leaves levels spaces nodes h = grind (arith, nat_tests)

pub chained-after : (c : Change) (leaves : List Leaf) (group buckets entries : ℕ) (tags : List ℕ)
    → (new : List ℕ) × (shape_after c leaves (Chained group buckets entries tags) ≡ Chained group buckets entries new)
unfolding shape_after
chained-after c leaves group buckets entries tags = go (brought c leaves)
  where
    go : (leaf : Option Leaf) → (new : List ℕ) × (narrowed c leaves (widened leaf (Chained group buckets entries tags)) ≡ Chained group buckets entries new)
    go None = (_, refl)
    go (Some leaf) = (_, refl)
