-- What the guest keeps, and what its leaves are.
use Rattle.xl_nested.proofs.Common.{◌++◌, ◌+◌, ◌-◌, ◌<◌, ◌^◌, ◌∙◌, ◌∷◌, ◌≡◌, ◌≤◌, [], ap, arith, brought, Chained, Change, changed, changed-In, covers, Cuckoo, Entry, find-passes, guest_map, inl, inr, IsAt, IsBlock, IsEntry, IsFor, IsGuest, IsPage, IsPlace, IsReached, IsStage, kept_node, Leaf, leaf_at_page, LeavesReach, length, length-append, length-map, length-replicate, level_of, List, narrowed, nat_tests, Node, nodes_in, None, number-some, number_of, only_needed, opening_nodes, opening_stage, Option, Order, page_limit, pages-some, pages_of, Perm, put_first, Radix, refl, Remove, replicate, roots, Runs, Shape, shape_after, small_leaf, Some, spaces_of, Stage, stage_after, subst, suc, sym, true, unless_there, up, widened, with_leaf_nodes, with_node, with_path, zero, ℕ}
use Rattle.xl_model_lemmas.proofs.MappingLemmas.{found-In}
use Rattle.xl_radix.proofs.OpeningLemmas.{length-roots}
use Rattle.xl_nested.proofs.ApartLemmas.{left-In}
use Rattle.xl_nested.specs.declared.stage.Entry.TheVariants as entry

-- What a change of a table leaves of its limits and of how many node numbers it has.
put-length : (x : Node) (nodes : List (Option Node)) → length (put_first x nodes) ≡ length nodes
put-length x [] = refl
put-length x (None ∷ nodes) = refl
put-length x (Some y ∷ nodes) = ap suc (put-length x nodes)

there-length : (o : Option ℕ) (nodes new : List (Option Node)) → length new ≡ length nodes → length (unless_there o nodes new) ≡ length nodes
there-length None nodes new e = e
there-length (Some n) nodes new e = refl

node-length : (space l block : ℕ) (nodes : List (Option Node)) → length (with_node space l block nodes) ≡ length nodes
unfolding with_node
node-length space l block nodes =
    there-length (number_of space l block nodes) nodes _ (put-length (record { space = space; level = l - 1; prefix = block }) nodes)

path-length : (space page l d : ℕ) (nodes : List (Option Node)) → length (with_path space page l d nodes) ≡ length nodes
path-length space page l zero nodes = refl
path-length space page l (suc d) nodes =
    path-length space page l d (with_node space (l + suc d) (up (l + suc d) page) nodes) ∙ node-length space (l + suc d) (up (l + suc d) page) nodes

leaf-length : (levels : ℕ) (leaf : Leaf) (nodes : List (Option Node)) → length (with_leaf_nodes levels leaf nodes) ≡ length nodes
unfolding with_leaf_nodes
leaf-length levels leaf nodes = path-length leaf.space leaf.first (level_of leaf.order) (levels - 1 - level_of leaf.order) nodes

needed-length : (levels : ℕ) (leaves : List Leaf) (nodes : List (Option Node)) → length (only_needed levels leaves nodes) ≡ length nodes
unfolding only_needed
needed-length levels leaves nodes = length-map nodes (kept_node levels leaves)

-- a shape with the same limits, and as many node numbers
pub record IsLike (old new : Shape) : Type 0 where
  pub spaces_same : spaces_of new ≡ spaces_of old
  pub pages_same : page_limit new ≡ page_limit old
  pub nodes_same : length (nodes_in new) ≡ length (nodes_in old)

widened-like : (o : Option Leaf) (shape : Shape) → IsLike shape (widened o shape)
widened-like None shape = record { spaces_same = refl; pages_same = refl; nodes_same = refl }
widened-like (Some leaf) (Radix levels spaces nodes) = record { spaces_same = refl; pages_same = refl; nodes_same = leaf-length levels leaf nodes }
widened-like (Some leaf) (Chained group buckets entries tags) = record { spaces_same = refl; pages_same = refl; nodes_same = refl }
widened-like (Some leaf) (Cuckoo rules ways) = record { spaces_same = refl; pages_same = refl; nodes_same = refl }
widened-like (Some leaf) (Runs ranges) = record { spaces_same = refl; pages_same = refl; nodes_same = refl }

narrowed-like : (c : Change) (leaves : List Leaf) (shape : Shape) → IsLike shape (narrowed c leaves shape)
narrowed-like c leaves (Radix levels spaces nodes) = record { spaces_same = refl; pages_same = refl; nodes_same = needed-length levels (changed c leaves) nodes }
narrowed-like c leaves (Chained group buckets entries tags) = record { spaces_same = refl; pages_same = refl; nodes_same = refl }
narrowed-like c leaves (Cuckoo rules ways) = record { spaces_same = refl; pages_same = refl; nodes_same = refl }
narrowed-like c leaves (Runs ranges) = record { spaces_same = refl; pages_same = refl; nodes_same = refl }

pub shape-like : (c : Change) (leaves : List Leaf) (shape : Shape) → IsLike shape (shape_after c leaves shape)
unfolding shape_after
shape-like c leaves shape =
    let a = widened-like (brought c leaves) shape in
    let b = narrowed-like c leaves (widened (brought c leaves) shape) in
    record {
      spaces_same = b.spaces_same ∙ a.spaces_same;
      pages_same = b.pages_same ∙ a.pages_same;
      nodes_same = b.nodes_same ∙ a.nodes_same;
    }

pub opening-length : (spaces n : ℕ) → spaces ≤ n → length (opening_nodes 3 spaces n) ≡ n
unfolding opening_nodes
opening-length spaces n few =
    let none : Option Node = None in
    let a : length (roots 3 0 spaces ++ replicate (n - spaces) none) ≡ length (roots 3 0 spaces) + length (replicate (n - spaces) none) = length-append (roots 3 0 spaces) (replicate (n - spaces) none) in
    let b : length (roots 3 0 spaces) ≡ spaces = length-roots 3 0 spaces in
    let d : length (replicate (n - spaces) none) ≡ n - spaces = length-replicate (n - spaces) none in
    a ∙ (omega arith)

pub opening-stage : (spaces n : ℕ) → IsStage spaces (opening_stage spaces n)
opening-stage spaces n = record { spaces_are = refl; pages_are = refl }

pub opening-kept : (base n : ℕ) → 1 ≤ n → base + n ≤ 2 ^ 29 → IsGuest base (opening_stage 1 n)
opening-kept base n some low =
    let e : length (opening_nodes 3 1 n) ≡ n = opening-length 1 n some in
    record { stage_is = opening-stage 1 n; low_nodes = omega arith; low_frames = λ x i. absurd i }

-- a change of a stage's table
pub stage-stays : (spaces : ℕ) (c : Change) (stage : Stage) → IsStage spaces stage → IsStage spaces (stage_after (Some c) stage)
stage-stays spaces c stage is =
    let like = shape-like c stage.leaves stage.shape in
    record { spaces_are = like.spaces_same ∙ is.spaces_are; pages_are = like.pages_same ∙ is.pages_are }

-- what a stage takes
pub block-of : (spaces space first : ℕ) (o : Order) (stage : Stage) → IsStage spaces stage → space < spaces → IsPlace first o (2 ^ 27) → IsBlock stage.shape space first o
block-of spaces space first o stage is few place =
    let a = is.spaces_are in
    let b = is.pages_are in
    let p = place.within in
    record { space_in = omega arith; pages_in = omega arith; aligned = place.aligned }

pub page-of : (spaces space page : ℕ) (stage : Stage) → IsStage spaces stage → space < spaces → page < 2 ^ 27 → IsPage stage.shape space page
page-of spaces space page stage is few low =
    let a = is.spaces_are in
    let b = is.pages_are in
    record { space_in = omega arith; page_in = omega arith }

pub first-low : (first : ℕ) (o : Order) (limit : ℕ) → IsPlace first o limit → first < limit
first-low first o limit place = let p = place.within in let q : 0 < pages_of o = pages-some o in omega arith

pub guest-mapped : (base page : ℕ) (o : Order) (g : ℕ) (perm : Perm) (stage : Stage) → IsGuest base stage → IsPlace g o (2 ^ 29)
    → IsGuest base (stage_after (Some (guest_map page o g perm)) stage)
guest-mapped base page o g perm stage is frames =
    let c : Change = guest_map page o g perm in
    let like = shape-like c stage.leaves stage.shape in
    let e = like.nodes_same in
    let n = is.low_nodes in
    record {
      stage_is = stage-stays 1 c stage is.stage_is;
      low_nodes = omega arith;
      low_frames = λ x i. elim (changed-In stage.leaves c x i) [
        | inl f ↦ let h : Some (record { space = 0; first = page; order = o; frame = g; perm = perm }) ≡ Some f.0 = f.1 in
            let same : record { space = 0; first = page; order = o; frame = g; perm = perm } ≡ x = let k : record { space = 0; first = page; order = o; frame = g; perm = perm } ≡ f.0 = cc in k ∙ sym f.2 in
            subst (λ (z : Leaf). z.frame + pages_of z.order ≤ 2 ^ 29) same frames.within
        | inr j ↦ is.low_frames x j
      ];
    }

pub guest-unmapped : (base page : ℕ) (o : Order) (stage : Stage) → IsGuest base stage → IsGuest base (stage_after (Some (Remove 0 page o)) stage)
guest-unmapped base page o stage is =
    let c : Change = Remove 0 page o in
    let like = shape-like c stage.leaves stage.shape in
    let e = like.nodes_same in
    let n = is.low_nodes in
    record {
      stage_is = stage-stays 1 c stage is.stage_is;
      low_nodes = omega arith;
      low_frames = λ x i. is.low_frames x (left-In 0 page o x stage.leaves i);
    }

-- the leaf at a page covers it
pub found-covers : (space page : ℕ) (leaves : List Leaf) (x : Leaf) → leaf_at_page space page leaves ≡ Some x → covers space page x ≡ true
unfolding leaf_at_page
found-covers space page leaves x e = find-passes (covers space page) x leaves e

pub covers-for : (space page : ℕ) (x : Leaf) → covers space page x ≡ true → x.frame + pages_of x.order ≤ 2 ^ 44 → IsFor page x
covers-for space page x h few = record { from = grind (arith, nat_tests); to = grind (arith, nat_tests); frames_in = few }

pub guest-reaches : (base page : ℕ) (stage : Stage) (x : Leaf) → IsGuest base stage → leaf_at_page 0 page stage.leaves ≡ Some x → IsReached page x
guest-reaches base page stage x is found =
    let low : x.frame + pages_of x.order ≤ 2 ^ 29 = is.low_frames x (found-In 0 page stage.leaves x found) in
    record { covers = covers-for 0 page x (found-covers 0 page stage.leaves x found) (omega arith); low = low }

-- the guest page of a node is low
pub node-low : (base level node page : ℕ) (stage : Stage) → IsGuest base stage → IsAt level node page (record { base = base; stage = stage }) → base + node < 2 ^ 29
node-low base level node page stage is at =
    let h = (number-some 0 (suc level) (up (suc level) page) node (nodes_in stage.shape) at.at).0 in
    let n = is.low_nodes in
    omega arith

pub entry-reaches : (base level page : ℕ) (stage : Stage) → IsGuest base stage → (e : Entry) → IsEntry level page e stage → LeavesReach page e
entry-reaches base level page stage is (entry.Node next) says = tt
entry-reaches base level page stage is (entry.Small word) says = let h = (guest-reaches base page stage (small_leaf 0 page word) is says.1).low in omega arith
entry-reaches base level page stage is (entry.Leaf leaf) says = guest-reaches base page stage leaf is says.1
entry-reaches base level page stage is entry.Nothing says = tt
