-- A walk of a row from one of a page's nodes.
use Rattle.xl_radix_walk.proofs.Common.{◌%◌, ◌*◌, ◌+◌, ◌-◌, ◌/◌, ◌<◌, ◌^◌, ◌∙◌, ◌≡◌, ◌≤◌, [], ap, AreNumbered, AreOff, arith, Cached, caches_in, end_level, Enters, false, filled_by, filled_caches, FillsNone, Finds, get_or-take, IfSome, is_some, IsAllowed, IsAllowedWalk, IsPage, IsPath, IsRow, IsStraight, IsWalk, IsWalked, Item, Kind, Leaf, leaf_at_page, leaf_known, length, level_of, List, node_caches_after, None, number_of, one_if, Option, page-low, perm_at, plus, radix_path, refl, row_of, row_table, shape_of, slice_index, small_leaf, Some, Start, start_level, start_or, subst, suc, sym, Table, take, up, walk_end, WordsReadBack, ℕ}
use Rattle.xl_radix_walk.proofs.AboveLemmas.{are-filled, are-looked}
use Rattle.xl_radix_walk.proofs.DescentLemmas.{walk-path}
use Rattle.xl_radix_walk.proofs.RowLemmas.{is-start, IsStart, leaf-known, root-at, row-answer, row-walked, WalkedRow}
use Rattle.xl_model.specs.declared.address.Order.TheVariants as order

pub straight-found : (top start node space page word : ℕ) (t new : Table) → WordsReadBack top t.spaces t.leaves t.nodes t.words → number_of space (suc start) (up (suc start) page) t.nodes ≡ Some node
    → Finds t.words start node page word → new ≡ record t { loads = (t.loads + (start + 1)) % 2 ^ 64 } → IsStraight top start space page (small_leaf space page word) t new
straight-found top start node space page word t new back at finds loads =
    let known : leaf_known space page (walk_end (leaf_at_page space page t.leaves) (end_level (top - 1) 0 space page t.leaves)) ≡ Some (small_leaf space page word) =
    ap (leaf_known space page) (sym (back.back space page start node at) ∙ finds) ∙ ap small (once page) in
    let found : leaf_at_page space page t.leaves ≡ Some (small_leaf space page word) = sym (leaf-known top t.spaces space page t.leaves t.nodes t.words back) ∙ known in
    record { found = found; level = back.kept.ends space page (small_leaf space page word) found; loads = loads }
  where
    once : (n : ℕ) → n * 1 ≡ n / 1 * 1
    once n = omega arith

    small : ℕ → Option Leaf
    small first = Some (record { space = space; first = first; order = order.K4; frame = word / 16; perm = perm_at word })

-- the path of a walk that found a leaf of 4 KiB
pub straight-path : (top start node space page : ℕ) (leaf : Leaf) (t new : Table) (path : List ℕ) → WordsReadBack top t.spaces t.leaves t.nodes t.words → number_of space (suc start) (up (suc start) page) t.nodes ≡ Some node
    → IsStraight top start space page leaf t new → Enters t.words start node page path → IsPath 0 start space page path t.nodes
straight-path top start node space page leaf t new path back at s enters = record {
  same = λ h low high.
      let all : IsPath (end_level (top - 1) 0 space page t.leaves) start space page (radix_path t.words start node page) t.nodes = walk-path t.words top t.spaces space page start node t.leaves t.nodes back at in
      let first : slice_index (take start path) (start - 1 - h) ≡ slice_index path (start - 1 - h) = get_or-take start path (start - 1 - h) 0 (omega arith) in
      all.same h (let e = s.level in omega arith) high ∙ ap (λ (n : ℕ). Some n) (ap (λ (ns : List ℕ). slice_index ns (start - 1 - h)) (sym enters) ∙ first);
}

-- a straight walk whose path filled the caches
pub filling-walked : (top start space page : ℕ) (leaf : Leaf) (t new : Table) (cs after : List (Cached Item)) (path : List ℕ) → WordsReadBack top t.spaces t.leaves t.nodes t.words
    → IsStraight top start space page leaf t new → IsPath 0 start space page path t.nodes → after ≡ filled_caches 0 start 0 space page path cs → IsWalked top start space page (Some leaf) t cs new after
filling-walked top start space page leaf t new cs after path back s is filled =
    record {
      leaf = sym s.found;
      loads = s.loads ∙ ap (λ (n : ℕ). record t { loads = plus t.loads (n + 1) }) count;
      filled = (path, subst (λ (l : ℕ). IsPath l start space page path t.nodes) (sym s.level) is, subst (λ (l : ℕ). after ≡ filled_caches 0 start l space page path cs) low filled);
    }
  where
    count : start ≡ start - end_level (top - 1) 0 space page t.leaves
    count = let e = s.level in omega arith

    low : 0 ≡ level_of leaf.order
    low = sym s.level ∙ back.kept.ends space page leaf s.found

pub straight-walked : (top start node space page : ℕ) (leaf : Leaf) (t new : Table) (cs : List (Cached Item)) → WordsReadBack top t.spaces t.leaves t.nodes t.words → number_of space (suc start) (up (suc start) page) t.nodes ≡ Some node
    → IsStraight top start space page leaf t new → FillsNone start cs → IsWalked top start space page (Some leaf) t cs new cs
straight-walked top start node space page leaf t new cs back at s none =
    let path : List ℕ = radix_path t.words start node page in
    filling-walked top start space page leaf t new cs cs path back s
    (subst (λ (l : ℕ). IsPath l start space page path t.nodes) s.level (walk-path t.words top t.spaces space page start node t.leaves t.nodes back at)) (sym (none.stay 0 space page path))

-- the row after a walk, and the walk's result
pub record WalkedFrom (top space page : ℕ) (t new : Table) (cs after : List (Cached Item)) (r : Option Leaf) (hits : ℕ) : Type 0 where
  pub row : IsRow top (row_of new after)
  pub walks : IsWalk space page (row_table top (row_of t cs)) (record { leaf = r; cache_hits = hits }) (row_table top (row_of new after))

pub row-from : (top space page : ℕ) (t new : Table) (cs looked after : List (Cached Item)) (found : Option Start) (r : Option Leaf) (hits : ℕ) → WordsReadBack top t.spaces t.leaves t.nodes t.words → page < 2 ^ 45 → IsRow top (row_of t cs) →
    IsStart top space page t.nodes cs found → caches_in 0 looked ≡ node_caches_after 0 (start_level 0 space page (caches_in 0 cs)) None space page [] (caches_in 0 cs) → length looked ≡ length cs → AreNumbered 0 t.nodes looked →
    hits ≡ one_if (is_some found) → IsWalked top (start_or top space found).level space page r t looked new after → WalkedFrom top space page t new cs after r hits
row-from top space page t new cs looked after found r hits back h row s el size all eh w =
    let least = end_level (top - 1) 0 space page t.leaves in
    let from = start_or top space found in
    let ea : after ≡ filled_by (walk_end (leaf_at_page space page t.leaves) least) from.level space page w.filled.0 looked = w.filled.2 ∙ ap (λ (o : Option Leaf). filled_by (walk_end o least) from.level space page w.filled.0 looked) w.leaf in
    let walked : WalkedRow top space page t new cs after = row-walked top space page t new cs looked after found from (walk_end (leaf_at_page space page t.leaves) least) w.filled.0 back h row s refl el size all refl w.filled.1 w.loads ea in
    record { row = walked.row; walks = record { answer = rw eh (row-answer top space page t cs found r s w.leaf); after = walked.table } }

-- the start and the walk of a page where no cache has a width
module _ (top space page : ℕ) (t : Table) (cs : List (Cached Item)) (back : WordsReadBack top t.spaces t.leaves t.nodes t.words) (fits : IsPage (shape_of top t) space page) (row : IsRow top (row_of t cs)) (off : AreOff cs) where
  pub uncached-start : IsStart top space page t.nodes cs None
  uncached-start =
      is-start top space page t.nodes cs None row.caches tt tt (are-looked space page cs off).start tt
      (root-at top t.spaces space page t.leaves t.nodes t.words back row.low fits.page_in fits.space_in)

  pub uncached-walk : (new : Table) (kind : Kind) (o : Option ℕ) → IfSome o (λ word. IsStraight top (start_or top space None).level space page (small_leaf space page word) t new) → IfSome o (IsAllowed (Some kind))
      → IfSome o (λ word. IsAllowedWalk space page kind false word (row_table top (row_of t cs)) (row_table top (row_of new cs)))
  uncached-walk new kind None straight allowed = tt
  uncached-walk new kind (Some word) straight allowed =
      let from : Start = start_or top space None in
      let few : from.level ≤ length cs = (let c = row.caches in omega arith) in
      let walked = straight-walked top from.level from.node space page (small_leaf space page word) t new cs back uncached-start.number straight (are-filled from.level cs off few) in
      let w = row-from top space page t new cs cs cs None (Some (small_leaf space page word)) 0 back (page-low top page row.low fits.page_in) row uncached-start (are-looked space page cs off).caches refl row.numbered refl walked in
      record { walks = w.walks; allowed = allowed }
