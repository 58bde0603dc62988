-- What each step of a way keeps, every insertion and every change of a cuckoo table keeps in each way, and so every run.
use Rattle.xl_model_laws.proofs.Common.{◌&&◌, ◌++◌, ◌+◌, ◌∷◌, ◌≡◌, ◌≤◌, [], advanced, after_placing, arith, AtCap, begins, begun, begun_if_full, Bool, brought, Chained, Change, cond, Cuckoo, CuckooRules, CuckooWays, EachWay, Entry, false, forced, growing_now, growths_left, inl, inr, Insert, insertion, Item, Leaf, leaf_entry, leaf_word, levels_of, List, map, map-In, min, Moves, narrowed, no_moves, None, not, old_leaf, opening_shape, opening_way, opening_ways, Option, Order, place, Placed, placed_leaf, PlacedBy, Placing, placing, placing-keeps, Protect, Radix, refl, Relocate, Remove, Row, run, Runs, settled, settled_way, Shape, shape_after, ShapeEach, slice_set, slots_left, Some, subst, suc, swapped, sym, Table, true, way_at, ways_brought, ways_of, ways_placed, ways_taken, WayShape, widened, with_ways, with_word, without_entry, zero, ℕ}
use Rattle.xl_model_laws.proofs.ShapeLemmas.{run-shape}
use Rattle.xl_model.specs.declared.address.Order.TheVariants as order
use Rattle.xl_model.specs.declared.row.Table.TheVariants as table

pub record WayKeeps (P : WayShape → Type 0) : Type 0 where
  pub opened : (start cap number : ℕ) → P (opening_way start cap number)
  pub swapped_in : (w : WayShape) (x : Entry) → P w → P (swapped w x)
  pub advances : (n : ℕ) (w : WayShape) → w.regs.growing ≡ true → n ≤ slots_left w.regs → P w → P (advanced n w)
  pub begins : (w : WayShape) → w.regs.growing ≡ false → P w → P (begun w)
  pub reworded : (key word : ℕ) (w : WayShape) → P w → P (with_word key word w)
  pub drops : (key : ℕ) (w : WayShape) → P w → P (without_entry key w)

is-growing : (w : WayShape) → (growing_now w).regs.growing ≡ true
unfolding begun
is-growing w = go w.regs.growing refl
  where
    go : (b : Bool) → w.regs.growing ≡ b → (cond b w (begun w)).regs.growing ≡ true
    go true t = t
    go false t = refl

module _ (P : WayShape → Type 0) (keeps : WayKeeps P) where
  get-kept : (ways : List WayShape) (at : ℕ) → EachWay P ways → P (way_at ways at)
  get-kept [] at h = keeps.opened 0 0 0
  get-kept (w ∷ ways) zero h = h w (inl refl)
  get-kept (w ∷ ways) (suc at) h = get-kept ways at (λ v i. h v (inr i))

  set-kept : (ways : List WayShape) (at : ℕ) (v : WayShape) → EachWay P ways → P v → EachWay P (slice_set ways at v)
  set-kept [] at v h a = h
  set-kept (w ∷ ways) zero v h a = λ u i. elim i [
    | inl e ↦ subst P (sym e) a
    | inr j ↦ h u (inr j)
  ]
  set-kept (w ∷ ways) (suc at) v h a = λ u i. elim i [
    | inl e ↦ h u (inl e)
    | inr j ↦ set-kept ways at v (λ z k. h z (inr k)) a u j
  ]

  pub mapped-kept : (f : WayShape → WayShape) (ways : List WayShape) → ((w : WayShape) → P w → P (f w)) → EachWay P ways → EachWay P (map f ways)
  mapped-kept f ways keeps h v i =
      let found = map-In f v ways i in
      subst P (sym found.2) (keeps found.0 (h found.0 found.1))

  growing-now-kept : (w : WayShape) → P w → P (growing_now w)
  growing-now-kept w h = go w.regs.growing refl
    where
      go : (b : Bool) → w.regs.growing ≡ b → P (cond b w (begun w))
      go true t = h
      go false t = keeps.begins w t h

  forced-kept : (w : WayShape) → P w → P (forced w)
  unfolding forced
  forced-kept w h = keeps.advances (slots_left (growing_now w).regs) (growing_now w) (is-growing w) (omega arith) (growing-now-kept w h)

  abbrev pub PlacingKeeps : Placing → Type 0
  PlacingKeeps p = PlacedBy (λ us moved. EachWay P us) (λ us. EachWay P us) p

  placing-kept : (room limit : ℕ) (ways : List WayShape) (x : Entry) (m : Moves) → EachWay P ways → PlacingKeeps (placing room limit ways x m)
  placing-kept room limit ways x m h =
      placing-keeps (λ us. EachWay P us)
      (λ us at hand k. set-kept us at (swapped (way_at us at) hand) k (keeps.swapped_in (way_at us at) hand (get-kept us at k)))
      (λ us i k. set-kept us i (forced (way_at us i)) k (forced-kept (way_at us i) (get-kept us i k))) room limit ways x m h

  settled-way-kept : (most : ℕ) (w : WayShape) → P w → P (settled_way most w)
  settled-way-kept most w h = go w.regs.growing refl
    where
      go : (b : Bool) → w.regs.growing ≡ b → P (cond b (advanced (min most (slots_left w.regs)) w) w)
      go true t = keeps.advances (min most (slots_left w.regs)) w t (omega arith) h
      go false t = h

  begun-if-kept : (threshold : ℕ) (w : WayShape) → P w → P (begun_if_full threshold w)
  begun-if-kept threshold w h = go (begins threshold w) refl
    where
      still : (a b : Bool) → (not a && b) ≡ true → a ≡ false
      still true b t = absurd (cc)
      still false b t = refl

      go : (b : Bool) → begins threshold w ≡ b → P (cond b (begun w) w)
      go true t = keeps.begins w (still w.regs.growing _ t) h
      go false t = h

  after-placing-kept : (most threshold : ℕ) (p : Placing) → PlacingKeeps p → PlacingKeeps (after_placing most threshold p)
  unfolding settled
  after-placing-kept most threshold (Placed ways moved m) h =
      mapped-kept (begun_if_full threshold) (map (settled_way most) ways) (begun-if-kept threshold)
      (mapped-kept (settled_way most) ways (settled-way-kept most) h)
  after-placing-kept most threshold (AtCap ways m) h = h

  pub insertion-kept : (limit most threshold : ℕ) (ways : List WayShape) (x : Entry) → EachWay P ways → PlacingKeeps (insertion limit most threshold ways x)
  unfolding insertion place
  insertion-kept limit most threshold ways x h =
      after-placing-kept most threshold (placing (growths_left ways) limit ways x no_moves) (placing-kept (growths_left ways) limit ways x no_moves h)

  abbrev EachOrder : CuckooWays → Type 0
  EachOrder ws = EachWay P ws.k4 × (EachWay P ws.m2 × EachWay P ws.g1)

  of-order : (o : Order) (ws : CuckooWays) → EachOrder ws → EachWay P (ways_of o ws)
  of-order order.K4 ws (a, (b, c)) = a
  of-order order.M2 ws (a, (b, c)) = b
  of-order order.G1 ws (a, (b, c)) = c

  with-order : (o : Order) (ways : List WayShape) (ws : CuckooWays) → EachOrder ws → EachWay P ways → EachOrder (with_ways o ways ws)
  with-order order.K4 ways ws (a, (b, c)) h = (h, (b, c))
  with-order order.M2 ways ws (a, (b, c)) h = (a, (h, c))
  with-order order.G1 ways ws (a, (b, c)) h = (a, (b, h))

  placed-kept : (p : Placing) → PlacingKeeps p → EachWay P (ways_placed p)
  placed-kept (Placed ways moved m) h = h
  placed-kept (AtCap ways m) h = h

  brought-kept : (rules : CuckooRules) (leaf : Option Leaf) (ws : CuckooWays) → EachOrder ws → EachOrder (ways_brought rules leaf ws)
  brought-kept rules None ws h = h
  brought-kept rules (Some leaf) ws h =
      with-order leaf.order (ways_placed (placed_leaf rules ws leaf)) ws h
      (placed-kept (placed_leaf rules ws leaf)
      (insertion-kept rules.kick_limit rules.migrate rules.threshold (ways_of leaf.order ws) (leaf_entry leaf) (of-order leaf.order ws h)))

  all-without : (key : ℕ) (ways : List WayShape) → EachWay P ways → EachWay P (map (without_entry key) ways)
  all-without key ways h = mapped-kept (without_entry key) ways (keeps.drops key) h

  all-reworded : (key word : ℕ) (ways : List WayShape) → EachWay P ways → EachWay P (map (with_word key word) ways)
  all-reworded key word ways h = mapped-kept (with_word key word) ways (keeps.reworded key word) h

  taken-kept : (c : Change) (old : Option Leaf) (ws : CuckooWays) → EachOrder ws → EachOrder (ways_taken c old ws)
  taken-kept (Insert leaf) old ws h = h
  taken-kept (Remove space first o) None ws h = h
  taken-kept (Protect space first o perm) None ws h = h
  taken-kept (Relocate space first to o) None ws h = h
  taken-kept (Remove space first o) (Some leaf) ws h =
      with-order leaf.order (map (without_entry (leaf_entry leaf).key) (ways_of leaf.order ws)) ws h (all-without (leaf_entry leaf).key (ways_of leaf.order ws) (of-order leaf.order ws h))
  taken-kept (Protect space first o perm) (Some leaf) ws h =
      with-order leaf.order (map (with_word (leaf_entry leaf).key (leaf_word leaf.frame perm)) (ways_of leaf.order ws)) ws h
      (all-reworded (leaf_entry leaf).key (leaf_word leaf.frame perm) (ways_of leaf.order ws) (of-order leaf.order ws h))
  taken-kept (Relocate space first to o) (Some leaf) ws h =
      with-order leaf.order (map (without_entry (leaf_entry leaf).key) (ways_of leaf.order ws)) ws h (all-without (leaf_entry leaf).key (ways_of leaf.order ws) (of-order leaf.order ws h))

  widened-kept : (leaf : Option Leaf) (shape : Shape) → ShapeEach P shape → ShapeEach P (widened leaf shape)
  widened-kept None shape h = h
  widened-kept (Some leaf) (Radix levels spaces nodes) h = tt
  widened-kept (Some leaf) (Chained group buckets entries tags) h = tt
  widened-kept (Some leaf) (Cuckoo rules ways) h = brought-kept rules (Some leaf) ways h
  widened-kept (Some leaf) (Runs ranges) h = tt

  narrowed-kept : (c : Change) (leaves : List Leaf) (shape : Shape) → ShapeEach P shape → ShapeEach P (narrowed c leaves shape)
  narrowed-kept c leaves (Radix levels spaces nodes) h = tt
  narrowed-kept c leaves (Chained group buckets entries tags) h = tt
  narrowed-kept c leaves (Cuckoo rules ways) h = taken-kept c (old_leaf c leaves) ways h
  narrowed-kept c leaves (Runs ranges) h = tt

  made-kept : (c : Change) (leaves : List Leaf) (shape : Shape) → ShapeEach P shape → ShapeEach P (shape_after c leaves shape)
  unfolding shape_after
  made-kept c leaves shape h = narrowed-kept c leaves (widened (brought c leaves) shape) (widened-kept (brought c leaves) shape h)

  opening-all : (start cap number count : ℕ) → EachWay P (opening_ways start cap number count)
  opening-all start cap number zero = λ w i. absurd i
  opening-all start cap number (suc n) = λ w i. elim i [
    | inl e ↦ subst P (sym e) (keeps.opened start cap number)
    | inr j ↦ opening-all start cap (number + 1) n w j
  ]

  opening-shape-kept : (levels spaces : ℕ) (t : Table) → ShapeEach P (opening_shape levels spaces t)
  unfolding opening_shape
  opening-shape-kept levels spaces (table.Radix frames caches) = tt
  opening-shape-kept levels spaces (table.Hashed buckets entries) = tt
  opening-shape-kept levels spaces (table.Clustered buckets blocks) = tt
  opening-shape-kept levels spaces (table.Cuckoo ways start cap threshold kick_limit migrate sections_2m sections_1g caches) =
      (opening-all start cap 0 ways, (opening-all start cap 0 ways, opening-all start cap 0 ways))
  opening-shape-kept levels spaces (table.Range ranges tlb) = tt

  pub run-each : (row : Row) (items : List Item) → ShapeEach P (run row items).table.shape
  run-each row items =
      run-shape (ShapeEach P) (record { made = made-kept; refused = widened-kept }) row (opening-shape-kept (levels_of row.mode) row.spaces row.table) items
