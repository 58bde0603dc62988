-- The row after a change whose sections were compared.
use Rattle.xl_cuckoo_walk.proofs.Common.{◌++◌, ◌+◌, ◌∙◌, ◌∷◌, ◌≡◌, ◌≤◌, [], ap, AreFresh, arith, Bool, Cached, compared, counts_of, Cuckoo, CuckooRules, CuckooWays, false, has_changed, HoldsLeaves, In, is_old, IsPlaced, IsRow, Item, Large, Leaf, leaves_of_ways, length, length-map, List, loads_in, MadeWordsReadBack, Middle, order_of, purged, refl, refreshed, row_state, RowParts, rules_in, Section, section_in, SectionCaches, sections_in, SectionsFresh, Size, size_in, StaysBeside, subst, suc, sym, TableState, true, ways_in, ways_of, without_items, word_of_key, ℕ}
use Rattle.xl_cuckoo_walk.proofs.HoldLemmas.{holds-row, holds-with-caches, with_caches}
use Rattle.xl_cuckoo_walk.proofs.IndexLemmas.{each-size}
use Rattle.xl_cuckoo_walk.proofs.PurgeLemmas.{fresh-now, purge-is, refreshed-append}
use Rattle.xl_cuckoo_walk.proofs.RowLemmas.{leaves-known}
use Rattle.xl_model.specs.declared.address.Order.TheVariants as order

-- the words of sections whose keys aren't these are as they were
abbrev pub WordsStay : (Size → List ℕ) → RowParts → RowParts → Type 0
WordsStay keys p q = (z : Size) (key : ℕ) → (In key (keys z) → ⊥) → word_of_key z q key ≡ word_of_key z p key

-- a table with these leaves and ways, and these caches, purged of what isn't as it was
abbrev pub purged_state : TableState → CuckooRules → CuckooWays → Cached Section → Cached Section → List Leaf → CuckooWays → TableState
purged_state t rules ws m2 g1 leaves now = record {
  leaves = leaves;
  shape = Cuckoo rules now;
  caches = SectionCaches (without_items (has_changed order.M2 t.leaves ws leaves now) m2) (without_items (has_changed order.G1 t.leaves ws leaves now) g1);
  loads = t.loads;
}

-- the row of the compared parts, and its table
pub record ComparedRow (p after : RowParts) (leaves : List Leaf) (now : CuckooWays) : Type 0 where
  pub row : IsRow after
  pub state : row_state after ≡ purged_state (row_state p) (rules_in p) (ways_in p) (sections_in p.middle.cache) (sections_in p.large.cache) leaves now
  pub items : length after.middle.cache.items + length after.large.cache.items ≤ length p.middle.cache.items + length p.large.cache.items

-- a comparison brings nothing
purged-short : (t : Item → Bool) (xs : List Item) → length (purged t xs) ≤ length xs
purged-short t [] = omega arith
purged-short t (x ∷ xs) =
    let on : length (purged t xs) ≤ length xs = purged-short t xs in
    go (t x) refl on
  where
    go : (b : Bool) → t x ≡ b → length (purged t xs) ≤ length xs → length (purged t (x ∷ xs)) ≤ suc (length xs)
    go true e on = rw e (let l = on in omega arith)
    go false e on = rw e (let l = on in omega arith)

refreshed-short : (word : ℕ → ℕ) (keys : List ℕ) (c : Cached Item) → length (refreshed word keys c).items ≤ length c.items
refreshed-short word [] c = omega arith
refreshed-short word (k ∷ ks) c =
    let a = refreshed-short word ks (record c { items = purged (is_old k (word k)) c.items }) in
    let b = purged-short (is_old k (word k)) c.items in
    omega arith

-- the parts that are compared
module _ (p q : RowParts) (r : IsRow p) (leaves : List Leaf) (h : HoldsLeaves q leaves) (beside : StaysBeside p q) (keys : Size → List ℕ) (stay : WordsStay keys p q) where
  abbrev before : List Leaf
  before = leaves_of_ways (ways_in p)

  placed : (x : Leaf) → In x before → IsPlaced x
  placed x i = (r.holds.held.fit x i).aligned.placed

  placed_now : (x : Leaf) → In x leaves → IsPlaced x
  placed_now x i = (h.held.fit x i).aligned.placed

  cache-is : (z : Size) → (size_in z (compared keys q)).cache ≡ refreshed (word_of_key z q) (keys z) (size_in z p).cache
  cache-is = each-size (λ z. (size_in z (compared keys q)).cache ≡ refreshed (word_of_key z q) (keys z) (size_in z p).cache)
      (ap (refreshed (word_of_key Middle q) (keys Middle)) (beside.cache Middle)) (ap (refreshed (word_of_key Large q) (keys Large)) (beside.cache Large))

  sections-are : (z : Size) → sections_in (size_in z (compared keys q)).cache ≡ without_items (has_changed (order_of z) before (ways_in p) leaves (ways_in q)) (sections_in (size_in z p).cache)
  sections-are z =
      ap sections_in (cache-is z)
      ∙ purge-is (order_of z) before leaves (ways_in p) (ways_in q) (counts_of p z).counts (counts_of q z).counts (size_in z p).cache (keys z)
      r.holds.held.sorted placed (r.holds.tied z).tied h.held.sorted placed_now (h.tied z).tied (r.fresh z) (stay z)

  fresh-are : AreFresh (compared keys q) leaves
  fresh-are z =
      subst (λ c. SectionsFresh (order_of z) leaves (ways_of (order_of z) (ways_in q)) (sections_in c)) (sym (cache-is z))
      (fresh-now (order_of z) before leaves (ways_in p) (ways_in q) (counts_of p z).counts (counts_of q z).counts (size_in z p).cache (keys z)
      r.holds.held.sorted placed (r.holds.tied z).tied h.held.sorted placed_now (h.tied z).tied (r.fresh z) (stay z))

  fewer : (z : Size) → length (size_in z (compared keys q)).cache.items ≤ length (size_in z p).cache.items
  fewer z = subst (λ (c : Cached Item). length c.items ≤ length (size_in z p).cache.items) (sym (cache-is z)) (refreshed-short (word_of_key z q) (keys z) (size_in z p).cache)

  pub compared-row : MadeWordsReadBack → (now : CuckooWays) → ways_in q ≡ now → ComparedRow p (compared keys q) leaves now
  unfolding row_state
  compared-row back now is =
      let P : Size → CuckooWays → Cached Section = λ z ws. without_items (has_changed (order_of z) before (ways_in p) leaves ws) (sections_in (size_in z p).cache) in
      let T : List Leaf → CuckooRules → CuckooWays → Cached Section → Cached Section → ℕ → TableState = λ zs rs ws a b n.
      record { leaves = zs; shape = Cuckoo rs ws; caches = SectionCaches a b; loads = n } in
      record {
        row = holds-row back (compared keys q) leaves (holds-with-caches (compared keys q).middle.cache (compared keys q).large.cache q leaves h) fresh-are;
        state =
            ap (λ zs. T zs (rules_in q) (ways_in q) (sections_in (compared keys q).middle.cache) (sections_in (compared keys q).large.cache) (loads_in q.tables)) (leaves-known back (ways_in q) leaves h.held)
            ∙ ap (λ c. T leaves (rules_in q) (ways_in q) c (sections_in (compared keys q).large.cache) (loads_in q.tables)) (sections-are Middle)
            ∙ ap (λ c. T leaves (rules_in q) (ways_in q) (P Middle (ways_in q)) c (loads_in q.tables)) (sections-are Large)
            ∙ ap (λ k. T leaves k (ways_in q) (P Middle (ways_in q)) (P Large (ways_in q)) (loads_in q.tables)) beside.rules
            ∙ ap (λ n. T leaves (rules_in p) (ways_in q) (P Middle (ways_in q)) (P Large (ways_in q)) n) beside.loads
            ∙ ap (λ w. T leaves (rules_in p) w (P Middle w) (P Large w) (loads_in p.tables)) is;
        items = (let a : length (compared keys q).middle.cache.items ≤ length p.middle.cache.items = fewer Middle in
            let b : length (compared keys q).large.cache.items ≤ length p.large.cache.items = fewer Large in omega arith);
      }

-- how many sections the caches hold
pub cached-items : (c : Cached Item) → length (sections_in c).items ≡ length c.items
cached-items c = length-map c.items section_in

-- compared in turn is compared at once
abbrev pub both_keys : (Size → List ℕ) → (Size → List ℕ) → Size → List ℕ
both_keys js ks z = js z ++ ks z

pub compared-twice : (js ks : Size → List ℕ) (p : RowParts) → compared ks (compared js p) ≡ compared (both_keys js ks) p
compared-twice js ks p =
    let T : Cached Item → Cached Item → RowParts = λ a b. with_caches a b p in
    let twice : (z : Size) → refreshed (word_of_key z p) (ks z) (refreshed (word_of_key z p) (js z) (size_in z p).cache) ≡ refreshed (word_of_key z p) (js z ++ ks z) (size_in z p).cache =
    λ z. sym (refreshed-append (word_of_key z p) (js z) (ks z) (size_in z p).cache) in
    ap (λ c. T c (refreshed (word_of_key Large p) (ks Large) (refreshed (word_of_key Large p) (js Large) p.large.cache))) (twice Middle)
    ∙ ap (T (refreshed (word_of_key Middle p) (js Middle ++ ks Middle) p.middle.cache)) (twice Large)
