use Rattle.xl_radix_walk.proofs.Common.{if◌then◌else◌, ◌+◌, ◌-◌, ◌/◌, ◌∷◌, ◌≡◌, [], all_without, ap, AreNumbered, arith, Bool, Cached, caches_fenced, caches_in, entries_of, false, fence_answer, fenced_caches, filter-In, is_fenced, IsFence, IsRow, Item, length, List, map, Node, not, Numbered, numbered_in, Option, purged, Reach, reaches_space, refl, row_of, row_table, subst, suc, Table, table_fenced, true, ℕ}
use Rattle.xl_radix_walk.proofs.PurgeLemmas.{entries-in}
use Rattle.xl_radix_walk.proofs.row.fence_row.Goals as goal

-- Fences on walk caches.
fenced-map : (level : ℕ) (to : Reach) (xs : List Item) → map (numbered_in level) (purged (is_fenced to) xs) ≡ purged (λ e. reaches_space to e.node.space) (map (numbered_in level) xs)
fenced-map level to [] = refl
fenced-map level to (x ∷ xs) = by (reaches_space to (x.tag / 281474976710656)) (fenced-map level to xs)
  where
    by : (b : Bool) → map (numbered_in level) (purged (is_fenced to) xs) ≡ purged (λ e. reaches_space to e.node.space) (map (numbered_in level) xs) → map (numbered_in level) (if not b then x ∷ purged (is_fenced to) xs else purged (is_fenced to) xs) ≡ (if not b then numbered_in level x ∷ purged (λ e. reaches_space to e.node.space) (map (numbered_in level) xs) else purged (λ e. reaches_space to e.node.space) (map (numbered_in level) xs))
    by true r = r
    by false r = ap (λ (l : List Numbered). numbered_in level x ∷ l) r

fenced-in : (level : ℕ) (to : Reach) (cs : List (Cached Item)) → caches_in level (fenced_caches to cs) ≡ all_without (λ e. reaches_space to e.node.space) (caches_in level cs)
fenced-in level to [] = refl
fenced-in level to (c ∷ cs) = rw (fenced-map level to c.items, fenced-in (level + 1) to cs) refl

fenced-numbered : (level : ℕ) (to : Reach) (nodes : List (Option Node)) (cs : List (Cached Item)) → AreNumbered level nodes cs → AreNumbered level nodes (fenced_caches to cs)
fenced-numbered level to nodes [] all = all
fenced-numbered level to nodes (c ∷ cs) all = (λ i j. all.0 i (filter-In (λ x. not (is_fenced to x)) i c.items j), fenced-numbered (level + 1) to nodes cs all.1)

fenced-length : (to : Reach) (cs : List (Cached Item)) → length (fenced_caches to cs) ≡ length cs
fenced-length to [] = refl
fenced-length to (c ∷ cs) = ap suc (fenced-length to cs)

record FencedRow (levels : ℕ) (to : Reach) (t : Table) (cs after : List (Cached Item)) (n : ℕ) : Type 0 where
  fence : IsFence to (row_table levels (row_of t cs)) n (row_table levels (row_of t after))
  row : IsRow levels (row_of t cs) → IsRow levels (row_of t after)

minus-is : (n a b : ℕ) → n + b ≡ a → n ≡ a - b
minus-is n a b e = omega arith

row-fenced : (levels : ℕ) (to : Reach) (t : Table) (cs after : List (Cached Item)) (n : ℕ) → after ≡ fenced_caches to cs → n + entries_of after ≡ entries_of cs → FencedRow levels to t cs after n
unfolding fence_answer table_fenced caches_fenced
row-fenced levels to t cs after n ea count =
    let inside = fenced-in 0 to cs in
    let size = fenced-length to cs in
    let number : n ≡ entries_of cs - entries_of (fenced_caches to cs) = minus-is n (entries_of cs) (entries_of (fenced_caches to cs)) (subst (λ (l : List (Cached Item)). n + entries_of l ≡ entries_of cs) ea count) in
    record {
      fence = record {
        answer = rw (number, ← entries-in 0 cs, ← entries-in 0 (fenced_caches to cs), inside) refl;
        after = rw (ea, inside) refl;
      };
      row = λ r. rw ea (record { high = r.high; low = r.low; caches = let z = r.caches in omega arith; numbered = fenced-numbered 0 to t.nodes cs r.numbered });
    }

pub returns : goal.returns
returns c = record {
  fences = λ levels t. (row-fenced levels c.args.reach t c.args.caches.now c.fence.new.self c.fence.result c.fence.ensures.caches c.fence.ensures.count).fence;
  row = λ levels t. (row-fenced levels c.args.reach t c.args.caches.now c.fence.new.self c.fence.result c.fence.ensures.caches c.fence.ensures.count).row;
}
