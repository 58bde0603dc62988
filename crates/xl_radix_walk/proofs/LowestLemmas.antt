-- A look at the cache of level 0 alone, and a walk from there.
use Rattle.xl_radix_walk.proofs.Common.{◌+◌, ◌-◌, ◌<◌, ◌^◌, ◌||◌, ◌∙◌, ◌∷◌, ◌≡◌, [], ap, arith, Bool, Cached, caches_in, cond, end_level, false, find, has_tag, IfNone, IfSome, is_tag, IsAllowed, IsAllowedWalk, IsLowest, IsPage, IsRow, IsSameWalk, IsStraight, Item, Kind, Leaf, leaf_at_page, length, List, list_any, nat_lt, Node, node_cache_after, node_caches_after, NodeCaches, None, Numbered, one_if, Option, page-low, Radix, radix_walk_from, refl, row_of, row_table, shape_of, small_leaf, Some, Start, start_level, subst, suc, sym, Table, tag_at, touched, Touches, true, up, Walked, walked, with_touch, without_first, WordsReadBack, ℕ}
use Rattle.xl_radix_walk.proofs.AboveLemmas.{fills-lowest}
use Rattle.xl_radix_walk.proofs.LookLemmas.{above-same, hit, start-from, touched-none}
use Rattle.xl_radix_walk.proofs.RowLemmas.{is-start, IsStart, length-in, root-at}
use Rattle.xl_radix_walk.proofs.WalkedLemmas.{row-from, straight-walked}

-- what a touch does to a list that was touched
record Touched {A : Type 0} (p : A → Bool) (xs : List A) : Type 0 where
  again : touched p (touched p xs) ≡ touched p xs
  any : list_any p (touched p xs) ≡ list_any p xs

touched-again : {A : Type 0} (p : A → Bool) (xs : List A) → Touched p xs
touched-again {A} p xs = elim (find p xs) as (λ o. find p xs ≡ o → Touched p xs) [
  | None ↦ λ e. let s = same xs e in record { again = ap (touched p) s; any = ap (list_any p) s }
  | Some x ↦ λ e. let f = first xs x e in record { again = rw (e, f.0) refl; any = rw (e, f.0, f.1) refl }
] refl
  where
    same : (xs : List A) → find p xs ≡ None → touched p xs ≡ xs
    same xs e = rw e (rest xs e)
      where
        rest : (xs : List A) → find p xs ≡ None → without_first p xs ≡ xs
        rest [] e = refl
        rest (y ∷ ys) e = elim (p y) as (λ b. p y ≡ b → cond b (Some y) (find p ys) ≡ None → cond b ys (y ∷ without_first p ys) ≡ y ∷ ys) [
          | true ↦ λ t g. cc
          | false ↦ λ t g. rw (rest ys g) refl
        ] refl e

    first : (xs : List A) (x : A) → find p xs ≡ Some x → (p x ≡ true) × (list_any p xs ≡ true)
    first [] x e = cc
    first (y ∷ ys) x e = elim (p y) as (λ b. p y ≡ b → cond b (Some y) (find p ys) ≡ Some x → (p x ≡ true) × ((b || list_any p ys) ≡ true)) [
      | true ↦ λ t g. let same : y ≡ x = cc in (subst (λ (z : A). p z ≡ true) same t, refl)
      | false ↦ λ t g. first ys x g
    ] refl e

-- a walk where the cache of level 0 holds the page's node, once that is touched
same-from : (levels space page : ℕ) (found : Option Leaf) (leaves : List Leaf) (nodes : List (Option Node)) (cs : List (Cached Numbered)) → 0 < length cs → start_level 0 space page cs ≡ 0
    → (start_level 0 space page (node_caches_after 0 0 None space page [] cs) ≡ 0)
    × (radix_walk_from levels 0 found leaves nodes (node_caches_after 0 0 None space page [] cs) space page ≡ radix_walk_from levels 0 found leaves nodes cs space page)
same-from levels space page found leaves nodes [] some e = absurd (omega arith)
same-from levels space page found leaves nodes (c ∷ cs) some e =
    let t = touched-again test c.items in
    let above : node_caches_after 1 0 None space page [] cs ≡ cs = above-same 1 0 space page cs (omega arith) in
    let held : list_any test (touched test c.items) ≡ true = t.any ∙ any in
    (rw held refl, rw above (ap (λ (d : Cached Numbered). known (d ∷ node_caches_after 1 0 found space page nodes cs)) (once found (ap (λ (l : List Numbered). record c { items = l }) t.again))))
  where
    test : Numbered → Bool
    test = is_tag space (up 1 page)

    known : List (Cached Numbered) → Walked
    known after = record { reads = 0 - end_level (levels - 1) 0 space page leaves + 1; cache_hits = one_if (nat_lt 0 (suc (length cs))); caches = NodeCaches after }

    any : list_any test c.items ≡ true
    any = elim (list_any test c.items) as (λ b. cond b 0 (start_level 1 space page cs) ≡ 0 → b ≡ true) [
      | true ↦ λ g. refl
      | false ↦ λ g. let h = start-from 1 space page cs in absurd (omega arith)
    ] e

    once : (o : Option Leaf) → with_touch test (with_touch test c) ≡ with_touch test c → node_cache_after 0 0 o space page nodes (with_touch test c) ≡ node_cache_after 0 0 o space page nodes c
    once None g = g
    once (Some leaf) g = g

same-walked : (levels spaces : ℕ) (nodes : List (Option Node)) (leaves : List Leaf) (space page : ℕ) (cs : List (Cached Numbered)) → 0 < length cs → start_level 0 space page cs ≡ 0
    → walked (Radix levels spaces nodes) (NodeCaches (node_caches_after 0 0 None space page [] cs)) leaves space page ≡ walked (Radix levels spaces nodes) (NodeCaches cs) leaves space page
unfolding walked
same-walked levels spaces nodes leaves space page cs some e =
    let s = same-from levels space page (leaf_at_page space page leaves) leaves nodes cs some e in
    rw (e, s.0) s.1

module _ (top space page : ℕ) (t : Table) (cs looked : List (Cached Item)) (node : ℕ) (back : WordsReadBack top t.spaces t.leaves t.nodes t.words) (fits : IsPage (shape_of top t) space page) (row : IsRow top (row_of t cs)) (lowest : IsLowest space page cs looked node) where
  from : Start
  from = record { level = 0; node = node }

  lowest-start : IsStart top space page t.nodes cs (Some from)
  unfolding from
  lowest-start =
      is-start top space page t.nodes cs (Some from) row.caches (sym lowest.start) lowest.low tt (lowest.number t.nodes row.numbered)
      (root-at top t.spaces space page t.leaves t.nodes t.words back row.low fits.page_in fits.space_in)

  -- a walk that ends at the leaf at once
  lowest-walk : (new : Table) (kind : Kind) (word : ℕ) → IsStraight top 0 space page (small_leaf space page word) t new → IsAllowed (Some kind) word → IsAllowedWalk space page kind true word (row_table top (row_of t cs)) (row_table top (row_of new looked)) × IsRow top (row_of new looked)
  unfolding from
  lowest-walk new kind word straight allowed =
      let walked-on = straight-walked top 0 node space page (small_leaf space page word) t new looked back lowest-start.number straight (fills-lowest looked) in
      let looked-at : caches_in 0 looked ≡ node_caches_after 0 (start_level 0 space page (caches_in 0 cs)) None space page [] (caches_in 0 cs) = subst (λ (n : ℕ). caches_in 0 looked ≡ node_caches_after 0 n None space page [] (caches_in 0 cs)) (sym lowest.start) lowest.caches in
      let w = row-from top space page t new cs looked looked (Some from) (Some (small_leaf space page word)) 1 back (page-low top page row.low fits.page_in) row lowest-start looked-at lowest.size (lowest.kept t.nodes row.numbered) refl walked-on in
      (record { walks = w.walks; allowed = allowed }, w.row)

  -- a walk that is left to others
  lowest-same : IsSameWalk space page (row_table top (row_of t cs)) (row_table top (row_of t looked)) × IsRow top (row_of t looked)
  lowest-same =
      let few : 0 < length (caches_in 0 cs) = let n = length-in 0 cs in let l = lowest.low in omega arith in
      let s = same-walked top t.spaces t.nodes t.leaves space page (caches_in 0 cs) few lowest.start in (
        record { leaves = refl; shape = refl; loads = refl; walked_is = rw lowest.caches s },
        record { high = row.high; low = row.low; caches = let a = row.caches in let b = lowest.size in omega arith; numbered = lowest.kept t.nodes row.numbered },
      )

  pub walk-some : (new : Table) (kind : Kind) (o : Option ℕ) → IfSome o (λ word. IsStraight top 0 space page (small_leaf space page word) t new) → IfSome o (IsAllowed (Some kind))
      → IfSome o (λ word. IsAllowedWalk space page kind true word (row_table top (row_of t cs)) (row_table top (row_of new looked)))
  walk-some new kind None straight allowed = tt
  walk-some new kind (Some word) straight allowed = (lowest-walk new kind word straight allowed).0

  pub walk-none : (new : Table) (o : Option ℕ) → IfNone o (new ≡ t) → IfNone o (IsSameWalk space page (row_table top (row_of t cs)) (row_table top (row_of new looked)))
  walk-none new None same = rw same lowest-same.0
  walk-none new (Some word) same = tt

-- what a look-up in the cache of level 0 returns
pub looked-lowest : (space page : ℕ) (c new : Cached Item) (cs : List (Cached Item)) (item : Item) → page < 2 ^ 45 → Touches (has_tag (tag_at space 0 page)) c.items new.items (Some item) → new.width ≡ c.width → IsLowest space page (c ∷ cs) (new ∷ cs) item.word
looked-lowest space page c new cs item h t width =
    let k = hit 0 space page item c new cs h (sym t.found) t.moved width in
    record {
      start = sym k.some;
      caches = subst (λ (n : ℕ). caches_in 0 (new ∷ cs) ≡ node_caches_after 0 n None space page [] (caches_in 0 (c ∷ cs))) (sym k.some) k.caches;
      size = refl;
      low = omega arith;
      number = k.number;
      kept = k.kept;
    }

pub not-lowest : (space page : ℕ) (c new : Cached Item) → Touches (has_tag (tag_at space 0 page)) c.items new.items None → new.width ≡ c.width → new ≡ c
not-lowest space page c new t width =
    let items : new.items ≡ c.items = t.moved ∙ touched-none (has_tag (tag_at space 0 page)) c.items (sym t.found) in
    rw (items, width) refl
