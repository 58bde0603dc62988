-- The result of a search of a treap, read from the words, and its loads.
use Rattle.std.specs.Prelude.{ℕ, zero, suc, ◌+◌, ◌-◌, ◌*◌, nat_lt, if◌then◌else◌, List, length, slice_index, Option, None, Some}
use Rattle.xl_model.specs.declared.leaf.Range.{Range}
use Rattle.xl_treap.specs.declared.along.Search.{Search}
use Rattle.xl_treap.specs.declared.along.Search.TheVariants as search_end
use Rattle.xl_treap.specs.declared.along.Visit.{Visit}
use Rattle.xl_treap.specs.declared.along.Visit.TheVariants as visit
use Rattle.xl_treap.specs.Treaps.{key_at}
use Rattle.xl_treap.specs.declared.node.Side.TheVariants.{Low, High}
use Rattle.xl_treap.specs.Lines.{range_of_node, link_at}

-- a bus after n loads
abbrev pub loaded_times : {A : Type 0} → (A → A) → ℕ → A → A
loaded_times loaded zero bus = bus
loaded_times loaded (suc n) bus = loaded (loaded_times loaded n bus)

-- how a search ends, and the loads that it makes
pub record Searched : Type 0 where
  pub end : Search
  pub loads : ℕ

-- a search that ends so, after `loads` loads
abbrev pub ended : ℕ → Search → Searched
ended loads end = record { end = end; loads = loads }

-- a search with n loads before it
abbrev pub loaded_before : ℕ → Searched → Searched
loaded_before n x = record { end = x.end; loads = n + x.loads }

-- a search that ends at this range, or without one
abbrev pub end_of : Option Range → Search
end_of None = search_end.Absent
end_of (Some r) = search_end.Found r

-- what a node says of a key: its line is not there, its pages hold the key, or the search continues
-- to another node
abbrev pub visit_of : List ℕ → ℕ → ℕ → Visit
visit_of words n key =
    if nat_lt (length words) (4 * n + 4)
    then visit.Gone
    else (if nat_lt key (slice_index words (4 * n))
    then visit.Goes (link_at Low words n)
    else (if nat_lt (key - slice_index words (4 * n)) (slice_index words (4 * n + 1))
    then visit.Here (range_of_node words n)
    else visit.Goes (link_at High words n)))

-- the search from a node on, by what the node says
abbrev pub visited : Visit → (ℕ → Searched) → Searched
visited visit.Gone on = ended 1 search_end.OutOfBus
visited (visit.Here range) on = ended 1 (end_of range)
visited (visit.Goes next) on = loaded_before 1 (on next)

-- the search from a link on, where n nodes may still be examined
unfoldable pub search_from : ℕ → List ℕ → ℕ → ℕ → Searched
search_from left words zero key = ended 0 search_end.Absent
search_from zero words (suc n) key = ended 0 search_end.TooLong
search_from (suc left) words (suc n) key =
    visited (visit_of words n key) (λ next. search_from left words next key)

-- what the words say of a page
abbrev pub tree_back : List ℕ → ℕ → ℕ → ℕ → ℕ → Search
tree_back words root nodes space page = (search_from nodes words root (key_at space page)).end

-- the loads that it takes to learn it: one for each node examined
abbrev pub tree_loads : List ℕ → ℕ → ℕ → ℕ → ℕ → ℕ
tree_loads words root nodes space page = (search_from nodes words root (key_at space page)).loads

-- a bus of these words after a search of them
abbrev pub loaded_along : {A : Type 0} → (A → A) → List ℕ → ℕ → ℕ → ℕ → A → A
loaded_along loaded words root nodes key bus = loaded_times loaded (search_from nodes words root key).loads bus
