-- A walk of a row.
use Rattle.xl_radix_walk.proofs.Common.{◌*◌, ◌+◌, ◌-◌, ◌<◌, ◌^◌, ◌∙◌, ◌∷◌, ◌≡◌, ◌≤◌, [], ap, AreNumbered, arith, Cached, caches_in, end_level, filled_by, IfNone, IfSome, is_some, IsPath, IsRow, Item, Leaf, leaf_at_page, leaf_known, length, List, nat_lt, nat_tests, Node, node_caches_after, None, number_of, Numbered, one_if, Option, plus, refl, row_of, row_table, Some, Start, start_level, start_or, subst, suc, sym, Table, table_walked, up, up-top, walk_answer, walk_end, walked, WalkEnd, WordsReadBack, ℕ}
use Rattle.xl_radix_walk.proofs.FillLemmas.{filled, filled-length, numbered-filled}

pub length-in : (level : ℕ) (cs : List (Cached Item)) → length (caches_in level cs) ≡ length cs
length-in level [] = refl
length-in level (c ∷ cs) = ap suc (length-in (level + 1) cs)

-- what a look found, with the root where it found nothing
pub record IsStart (top space page : ℕ) (nodes : List (Option Node)) (cs : List (Cached Item)) (looked : Option Start) : Type 0 where
  pub level_is : (start_or top space looked).level ≡ start_level 0 space page (caches_in 0 cs)
  pub number : number_of space (suc (start_or top space looked).level) (up (suc (start_or top space looked).level) page) nodes ≡ Some (start_or top space looked).node
  pub low : (start_or top space looked).level < top
  pub hits : is_some looked ≡ nat_lt (start_level 0 space page (caches_in 0 cs)) (length (caches_in 0 cs))

pub is-start : (top space page : ℕ) (nodes : List (Option Node)) (cs : List (Cached Item)) (looked : Option Start) → length cs + 1 ≡ top →
    IfSome looked (λ s. s.level ≡ start_level 0 space page (caches_in 0 cs)) → IfSome looked (λ s. s.level < length cs) → IfNone looked (start_level 0 space page (caches_in 0 cs) ≡ length cs) →
    IfSome looked (λ s. number_of space (suc s.level) (up (suc s.level) page) nodes ≡ Some s.node) → number_of space top (up top page) nodes ≡ Some space →
    IsStart top space page nodes cs looked
is-start top space page nodes cs None size a b c d root =
    let n = length-in 0 cs in
    let t : suc (top - 1) ≡ top = omega arith in
    record {
      level_is = omega arith;
      number = subst (λ (v : ℕ). number_of space v (up v page) nodes ≡ Some space) (sym t) root;
      low = omega arith;
      hits = grind (arith, nat_tests);
    }
is-start top space page nodes cs (Some s) size a b c d root =
    let n = length-in 0 cs in
    record {
      level_is = a;
      number = d;
      low = omega arith;
      hits = grind (arith, nat_tests);
    }

-- the caches after a walk
pub record IsFilled (start space page : ℕ) (path : List ℕ) (nodes : List (Option Node)) (cs old : List (Cached Item)) (found : Option Leaf) (level : ℕ) : Type 0 where
  pub caches : caches_in 0 (filled_by (walk_end found level) start space page path cs) ≡ node_caches_after 0 start found space page nodes (caches_in 0 old)
  pub numbered : AreNumbered 0 nodes (filled_by (walk_end found level) start space page path cs)
  pub size : length (filled_by (walk_end found level) start space page path cs) ≡ length cs

none-nodes : (level start space page : ℕ) (nodes : List (Option Node)) (os : List (Cached Numbered)) → node_caches_after level start None space page [] os ≡ node_caches_after level start None space page nodes os
none-nodes level start space page nodes [] = refl
none-nodes level start space page nodes (o ∷ os) = rw (none-nodes (level + 1) start space page nodes os) refl

pub is-filled : (top spaces start space page : ℕ) (path : List ℕ) (leaves : List Leaf) (nodes : List (Option Node)) (words : List ℕ) (cs old : List (Cached Item)) → WordsReadBack top spaces leaves nodes words → page < 2 ^ 45 →
    IsPath (end_level (top - 1) 0 space page leaves) start space page path nodes → caches_in 0 cs ≡ node_caches_after 0 start None space page [] (caches_in 0 old) → AreNumbered 0 nodes cs →
    IsFilled start space page path nodes cs old (leaf_at_page space page leaves) (end_level (top - 1) 0 space page leaves)
is-filled top spaces start space page path leaves nodes words cs old back h p e all =
    elim (leaf_at_page space page leaves) as (λ o. leaf_at_page space page leaves ≡ o → IsFilled start space page path nodes cs old o (end_level (top - 1) 0 space page leaves)) [
      | None ↦ λ f. record { caches = e ∙ none-nodes 0 start space page nodes (caches_in 0 old); numbered = all; size = refl }
      | Some x ↦ λ f.
          let d = back.kept.ends space page x f in
          let q = subst (λ (v : ℕ). IsPath v start space page path nodes) d p in
          record {
            caches = filled 0 start x space page path nodes cs (caches_in 0 old) h q e;
            numbered = numbered-filled 0 start _ space page path nodes cs h q all;
            size = filled-length 0 start _ space page path cs;
          }
    ] refl

pub leaf-known : (top spaces space page : ℕ) (leaves : List Leaf) (nodes : List (Option Node)) (words : List ℕ) → WordsReadBack top spaces leaves nodes words → leaf_known space page (walk_end (leaf_at_page space page leaves) (end_level (top - 1) 0 space page leaves)) ≡ leaf_at_page space page leaves
leaf-known top spaces space page leaves nodes words back =
    elim (leaf_at_page space page leaves) as (λ o. leaf_at_page space page leaves ≡ o → leaf_known space page (walk_end o (end_level (top - 1) 0 space page leaves)) ≡ o) [
      | None ↦ λ f. refl
      | Some x ↦ λ f. back.kept.said space page x f
    ] refl

pub record WalkedRow (top space page : ℕ) (t new : Table) (cs after : List (Cached Item)) : Type 0 where
  pub row : IsRow top (row_of new after)
  pub table : row_table top (row_of new after) ≡ table_walked space page (row_table top (row_of t cs))

pub row-walked : (top space page : ℕ) (t new : Table) (cs looked after : List (Cached Item)) (found : Option Start) (from : Start) (e : WalkEnd) (path : List ℕ) → WordsReadBack top t.spaces t.leaves t.nodes t.words → page < 2 ^ 45 → IsRow top (row_of t cs) → IsStart top space page t.nodes cs found → from ≡ start_or top space found →
    caches_in 0 looked ≡ node_caches_after 0 (start_level 0 space page (caches_in 0 cs)) None space page [] (caches_in 0 cs) → length looked ≡ length cs → AreNumbered 0 t.nodes looked →
    e ≡ walk_end (leaf_at_page space page t.leaves) (end_level (top - 1) 0 space page t.leaves) → IsPath (end_level (top - 1) 0 space page t.leaves) from.level space page path t.nodes →
    new ≡ record t { loads = plus t.loads (from.level - end_level (top - 1) 0 space page t.leaves + 1) } → after ≡ filled_by e from.level space page path looked →
    WalkedRow top space page t new cs after
unfolding table_walked walked
row-walked top space page t new cs looked after found from e path back h row s ef el size all ee p en ea =
    let a : from.level ≡ start_level 0 space page (caches_in 0 cs) = ap (λ (v : Start). v.level) ef ∙ s.level_is in
    let el2 = subst (λ (v : ℕ). caches_in 0 looked ≡ node_caches_after 0 v None space page [] (caches_in 0 cs)) (sym a) el in
    let f = is-filled top t.spaces from.level space page path t.leaves t.nodes t.words looked cs back h p el2 all in
    let ea2 : after ≡ filled_by (walk_end (leaf_at_page space page t.leaves) (end_level (top - 1) 0 space page t.leaves)) from.level space page path looked = ea ∙ ap (λ (v : WalkEnd). filled_by v from.level space page path looked) ee in
    rw (en, ea2) (record {
      row = record { high = row.high; low = row.low; caches = let z = row.caches in let y = f.size in omega arith; numbered = f.numbered };
      table = rw (f.caches, a) refl;
    })

pub row-answer : (top space page : ℕ) (t : Table) (cs : List (Cached Item)) (found : Option Start) (r : Option Leaf) → IsStart top space page t.nodes cs found → r ≡ leaf_at_page space page t.leaves
    → record { leaf = r; cache_hits = one_if (is_some found) } ≡ walk_answer space page (row_table top (row_of t cs))
unfolding walk_answer walked
row-answer top space page t cs found r s f = rw (f, s.hits) refl

pub root-at : (top spaces space page : ℕ) (leaves : List Leaf) (nodes : List (Option Node)) (words : List ℕ) → WordsReadBack top spaces leaves nodes words → top ≤ 5 → page < 2 ^ (9 * top) → space < spaces
    → number_of space top (up top page) nodes ≡ Some space
root-at top spaces space page leaves nodes words back low in-page in-spaces =
    subst (λ (v : ℕ). number_of space top v nodes ≡ Some space) (sym (up-top top page low in-page)) (back.roots space in-spaces)
