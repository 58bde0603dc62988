-- A change of a row: the tags of the nodes that were given back leave the caches, and no others.
use Rattle.xl_radix_walk.proofs.Common.{◌%◌, ◌+◌, ◌-◌, ◌/◌, ◌∙◌, ◌∷◌, ◌≡◌, [], ap, AreNumbered, arith, below-is, Bool, brought, Cached, caches_purged, Change, changed, cond, entries_of, Err, false, finds_place, free_count, has_room, Insert, is_below, IsChange, IsMade, IsRow, Item, Leaf, level_of, List, moves_made, narrowed, Node, None, number_of, Ok, only_needed, Option, position_from, purged_caches, put_first, Radix, refl, refused_for, row_of, row_table, shape_after, shape_of, Some, subst, suc, sym, Table, table_after, table_answer, table_made, true, unless_there, up, verdict, widened, with_brought, with_leaf, with_leaf_nodes, with_node, with_path, work_of, zero, ℕ}
use Rattle.xl_model.specs.Placing.{no_moves}
use Rattle.xl_model.specs.declared.work.Work.{Work}
use Rattle.xl_radix.proofs.ShapeLemmas.{count-same, less-same}
use Rattle.xl_radix.proofs.TakingLemmas.{less-none}
use Rattle.xl_radix_walk.proofs.PurgeLemmas.{entries-in, numbered-purged, purged-in, purged-length}
use Rattle.xl_model.specs.declared.work.NoRoom.TheVariants as why

-- New nodes leave each node its number.
put-other : (p : Option Node → Bool) (x : Node) (xs : List (Option Node)) (b : ℕ) → p None ≡ false → p (Some x) ≡ false → position_from p b (put_first x xs) ≡ position_from p b xs
put-other p x [] b e f = refl
put-other p x (None ∷ xs) b e f = rw (e, f) refl
put-other p x (Some y ∷ xs) b e f = ap (cond (p (Some y)) (Some b)) (put-other p x xs (b + 1) e f)

pub node-keeps : (s l q a b c n : ℕ) (nodes : List (Option Node)) → number_of a (suc b) c nodes ≡ Some n → number_of a (suc b) c (with_node s (suc l) q nodes) ≡ Some n
unfolding with_node number_of
node-keeps s l q a b c n nodes h =
    elim (number_of s (suc l) q nodes) as (λ o. number_of s (suc l) q nodes ≡ o → number_of a (suc b) c (unless_there o nodes (put_first (record { space = s; level = suc l - 1; prefix = q }) nodes)) ≡ Some n) [
      | Some m ↦ λ e. h
      | None ↦ λ e. elim (is_below a (suc b) c (Some (record { space = s; level = suc l - 1; prefix = q }))) as (λ t. is_below a (suc b) c (Some (record { space = s; level = suc l - 1; prefix = q })) ≡ t → number_of a (suc b) c (put_first (record { space = s; level = suc l - 1; prefix = q }) nodes) ≡ Some n) [
        | false ↦ λ f. put-other (is_below a (suc b) c) (record { space = s; level = suc l - 1; prefix = q }) nodes 0 refl f ∙ h
        | true ↦ λ f.
            let i = below-is a (suc b) c (record { space = s; level = suc l - 1; prefix = q }) f in
            let k : l ≡ b = let g = i.level_is in omega arith in
            let d : number_of a (suc b) c nodes ≡ None = rw (← i.space_is, ← k, ← i.prefix_is) e in
            cc
      ] refl
    ] refl

pub path-keeps : (s page l d a b c n : ℕ) (nodes : List (Option Node)) → number_of a (suc b) c nodes ≡ Some n → number_of a (suc b) c (with_path s page l d nodes) ≡ Some n
path-keeps s page l zero a b c n nodes h = h
path-keeps s page l (suc d) a b c n nodes h =
    let e : l + suc d ≡ suc (l + d) = omega arith in
    path-keeps s page l d a b c n (with_node s (l + suc d) (up (l + suc d) page) nodes) (subst (λ (v : ℕ). number_of a (suc b) c (with_node s v (up v page) nodes) ≡ Some n) (sym e) (node-keeps s (l + d) (up (suc (l + d)) page) a b c n nodes h))

-- After an insertion each cached tag has its node's number yet.
pub numbered-path : (level s page l d : ℕ) (nodes : List (Option Node)) (cs : List (Cached Item)) → AreNumbered level nodes cs → AreNumbered level (with_path s page l d nodes) cs
numbered-path level s page l d nodes [] all = all
numbered-path level s page l d nodes (c ∷ cs) all =
    (λ i j. path-keeps s page l d (i.tag / 281474976710656) level (i.tag % 281474976710656) i.word nodes (all.0 i j), numbered-path (level + 1) s page l d nodes cs all.1)

-- The nodes that the new leaf lacked leave each tag its number.
numbered-brought : (top : ℕ) (b : Option Leaf) (nodes : List (Option Node)) (cs : List (Cached Item)) → AreNumbered 0 nodes cs → AreNumbered 0 (with_brought top b nodes) cs
unfolding with_leaf_nodes
numbered-brought top None nodes cs all = all
numbered-brought top (Some x) nodes cs all = numbered-path 0 x.space x.first (level_of x.order) (top - 1 - level_of x.order) nodes cs all

-- Where no node was given back, each tag has its number yet.
pub none-left : (top given : ℕ) (c : Change) (t new : Table) (cs : List (Cached Item)) → IsMade top c given t new → given ≡ 0 → AreNumbered 0 t.nodes cs → AreNumbered 0 new.nodes cs
none-left top given c t new cs made z all =
    let nodes = with_brought top (brought c t.leaves) t.nodes in
    let count : free_count new.nodes ≡ free_count nodes = let e = made.count in omega arith in
    subst (λ (l : List (Option Node)). AreNumbered 0 l cs) (sym (less-none nodes new.nodes made.less count)) (numbered-brought top (brought c t.leaves) t.nodes cs all)

nodes-by : (top spaces new_spaces : ℕ) (m : List Leaf) (b : Option Leaf) (c : Change) (leaves : List Leaf) (nodes new : List (Option Node)) → changed c leaves ≡ m → Radix top new_spaces new ≡ narrowed c leaves (widened b (Radix top spaces nodes)) → new ≡ only_needed top m (with_brought top b nodes)
nodes-by top spaces new_spaces m None c leaves nodes new e h = cc
nodes-by top spaces new_spaces m (Some x) c leaves nodes new e h = cc

-- The nodes after a change.
made-nodes : (top given : ℕ) (c : Change) (t new : Table) → IsMade top c given t new → new.nodes ≡ only_needed top (changed c t.leaves) (with_brought top (brought c t.leaves) t.nodes)
unfolding shape_after
made-nodes top given c t new made = nodes-by top t.spaces new.spaces (changed c t.leaves) (brought c t.leaves) c t.leaves t.nodes new.nodes refl made.shape

no-moves : (top spaces : ℕ) (b : Option Leaf) (nodes : List (Option Node)) → moves_made b (Radix top spaces nodes) ≡ no_moves
no-moves top spaces None nodes = refl
no-moves top spaces (Some x) nodes = refl

always-placed : (top spaces : ℕ) (b : Option Leaf) (nodes : List (Option Node)) → finds_place b (Radix top spaces nodes) ≡ true
always-placed top spaces None nodes = refl
always-placed top spaces (Some x) nodes = refl

-- A row after a change that was made.
pub record MadeRow (top : ℕ) (c : Change) (t new : Table) (cs after : List (Cached Item)) (w : Work) : Type 0 where
  pub row : IsRow top (row_of new after)
  pub change : IsChange c (row_table top (row_of t cs)) (Ok w) (row_table top (row_of new after))

pub row-made : (top given : ℕ) (c : Change) (t new : Table) (cs after : List (Cached Item)) (w : Work) → IsRow top (row_of t cs) → IsMade top c given t new → has_room c t.leaves (shape_of top t) ≡ true
    → after ≡ purged_caches new.nodes cs → w ≡ work_of no_moves (entries_of cs - entries_of after) → MadeRow top c t new cs after w
unfolding table_after table_answer table_made verdict caches_purged
row-made top given c t new cs after w row made room ea ew =
    let m = changed c t.leaves in
    let nodes = with_brought top (brought c t.leaves) t.nodes in
    let kept : new.nodes ≡ only_needed top m nodes = made-nodes top given c t new made in
    let after2 : after ≡ purged_caches (only_needed top m nodes) cs = ea ∙ ap (λ (l : List (Option Node)). purged_caches l cs) kept in
    let all = numbered-brought top (brought c t.leaves) t.nodes cs row.numbered in
    let inside = purged-in 0 top m nodes cs all in
    let size = purged-length (only_needed top m nodes) cs in
    let placed = always-placed top t.spaces (brought c t.leaves) t.nodes in
    let moved = no-moves top t.spaces (brought c t.leaves) t.nodes in
    record {
      row = rw (kept, after2) (record { high = row.high; low = row.low; caches = let z = row.caches in omega arith; numbered = numbered-purged 0 top m nodes cs all });
      change = record {
        answer = rw (ew, after2, room, placed, moved, ← made.shape, ← inside, entries-in 0 (purged_caches (only_needed top m nodes) cs), entries-in 0 cs) refl;
        after = rw (room, placed, ← made.shape, made.leaves, made.loads, after2, inside) refl;
      };
    }

-- A refused change changes nothing.
pub row-refused : (top : ℕ) (c : Change) (t : Table) (cs : List (Cached Item)) → has_room c t.leaves (shape_of top t) ≡ false
    → IsChange c (row_table top (row_of t cs)) (Err (refused_for why.NoTable)) (row_table top (row_of t cs))
unfolding table_after table_answer verdict
row-refused top c t cs none = record { answer = rw none refl; after = rw none refl }

-- What the addition of a leaf does is a change.
pub added-made : (top : ℕ) (x : Leaf) (t new : Table) → new.leaves ≡ with_leaf x t.leaves → new.nodes ≡ with_leaf_nodes top x t.nodes → shape_of top new ≡ shape_after (Insert x) t.leaves (shape_of top t) → new.spaces ≡ t.spaces → new.loads ≡ t.loads → IsMade top (Insert x) 0 t new
unfolding changed
added-made top x t new el en shape es ed = record {
  leaves = el;
  shape = shape;
  less = less-same (with_leaf_nodes top x t.nodes) new.nodes en;
  count = count-same (with_leaf_nodes top x t.nodes) new.nodes en;
  spaces = es;
  loads = ed;
}
