-- What a command that no rule refuses has shown: its change, the leaf that it names, the place that it takes.
use Rattle.xl_machine.proofs.Common.{◌≡◌, arith, arrays_after, Bool, Change, change_of, changed, covers, false, find-In, frames_rule, In, Insert, is_leaf, IsBlock, IsLeafFor, IsLeafOf, IsMapping, IsNewLeaf, IsNewPlace, IsPoolOf, IsRowFor, Leaf, leaf_at_page, leaf_named, List, lowest, named-by, named_rule, None, old_leaf, or-first, or-second, Order, page_of, pages_of, Perm, pool-taken, Protect, refl, Relocate, Remove, Row, rule, Some, sound-of, stays-changed, TableState, there_rule, tlb_purged, TlbState, true, unless-true, ℕ}
use Rattle.xl_frames.specs.Pool.{marked}
use Rattle.xl_model.specs.declared.row.Purge.{Purge}
use Rattle.xl_model.specs.declared.event.Event.TheVariants as event

-- the change that each command is
pub unmap-is : (row : Row) (leaves : List Leaf) (space va : ℕ) (o : Order) → change_of row leaves (event.Unmap space va o) ≡ Some (Remove space (page_of row.mode va) o)
unfolding change_of
unmap-is row leaves space va o = refl

pub protect-is : (row : Row) (leaves : List Leaf) (space va : ℕ) (o : Order) (perm : Perm) → change_of row leaves (event.Protect space va o perm) ≡ Some (Protect space (page_of row.mode va) o perm)
unfolding change_of
protect-is row leaves space va o perm = refl

pub move-is : (row : Row) (leaves : List Leaf) (space from to : ℕ) (o : Order) → change_of row leaves (event.Move space from to o) ≡ Some (Relocate space (page_of row.mode from) (page_of row.mode to) o)
unfolding change_of
move-is row leaves space from to o = refl

pub map-is : (row : Row) (leaves : List Leaf) (space va : ℕ) (o : Order) (perm : Perm) (at : ℕ) → lowest row.frames o leaves ≡ Some at
    → change_of row leaves (event.Map space va o perm) ≡ Some (Insert (record { space = space; first = page_of row.mode va; order = o; frame = at; perm = perm }))
unfolding change_of
map-is row leaves space va o perm at e = rw e refl

-- a map has frames
pub has-frames : (row : Row) (leaves : List Leaf) (space va : ℕ) (o : Order) (perm : Perm) → rule row leaves (event.Map space va o perm) ≡ None → lowest row.frames o leaves ≡ None → ⊥
unfolding rule
has-frames row leaves space va o perm r e =
    let k : frames_rule (lowest row.frames o leaves) ≡ None = or-second _ _ (or-second _ _ r) in
    let m : frames_rule None ≡ None = rw e at k in
    cc

-- a command's address has the named leaf
pub there-unmap : (row : Row) (leaves : List Leaf) (space va : ℕ) (o : Order) → rule row leaves (event.Unmap space va o) ≡ None → there_rule row leaves space va o ≡ None
unfolding rule
there-unmap row leaves space va o r = or-second _ _ r

pub there-protect : (row : Row) (leaves : List Leaf) (space va : ℕ) (o : Order) (perm : Perm) → rule row leaves (event.Protect space va o perm) ≡ None → there_rule row leaves space va o ≡ None
unfolding rule
there-protect row leaves space va o perm r = or-second _ _ r

pub there-move : (row : Row) (leaves : List Leaf) (space from to : ℕ) (o : Order) → rule row leaves (event.Move space from to o) ≡ None → there_rule row leaves space from o ≡ None
unfolding rule
there-move row leaves space from to o r = or-first _ _ (or-second _ _ r)

pub leaf-map : (row : Row) (leaves : List Leaf) (space va : ℕ) (o : Order) (perm : Perm) (at : ℕ) → rule row leaves (event.Map space va o perm) ≡ None → lowest row.frames o leaves ≡ Some at
    → IsNewLeaf row leaves (record { space = space; first = page_of row.mode va; order = o; frame = at; perm = perm })
leaf-map row leaves space va o perm at r e = sound-of row leaves (event.Map space va o perm) (Insert (record { space = space; first = page_of row.mode va; order = o; frame = at; perm = perm })) r (map-is row leaves space va o perm at e)

-- what a row takes, its table takes
module _ (row : Row) (table : TableState) (fits : IsRowFor row table) where
  pub block-for : (space to : ℕ) (o : Order) → IsNewPlace row table.leaves space to o → IsBlock table.shape space to o
  block-for space to o new =
      let a = fits.spaces_in in let b = fits.pages_in in let s = new.space_in in let p = new.pages_in in
      record { space_in = omega arith; pages_in = omega arith; aligned = new.pages_aligned }

  pub leaf-for : (leaf : Leaf) → IsLeafOf row leaf → IsLeafFor table.shape leaf
  leaf-for leaf new =
      let a = fits.spaces_in in let b = fits.pages_in in let s = new.space_in in let p = new.pages_in in let f = new.frames_in in let g = fits.few_frames in
      record {
        block = record { space_in = omega arith; pages_in = omega arith; aligned = new.pages_aligned };
        frames_in = omega arith;
        frames_aligned = new.frames_aligned;
      }

-- the leaf that covers the page of a command that names one
module _ (row : Row) (table : TableState) (space va : ℕ) (o : Order) (there : there_rule row table.leaves space va o ≡ None) (mapping : IsMapping row table.leaves) (old : Leaf)
    (found : leaf_at_page space (page_of row.mode va) table.leaves ≡ Some old) where
  member : In old table.leaves
  unfolding leaf_at_page
  member = find-In (covers space (page_of row.mode va)) old table.leaves found

  is-it : is_leaf space (page_of row.mode va) o old ≡ true
  is-it = let k : named_rule (Some old) space (page_of row.mode va) o ≡ None = rw found at there in unless-true _ _ k

  pub old-named : leaf_named space (page_of row.mode va) o table.leaves ≡ Some old
  old-named = named-by row table.leaves space (page_of row.mode va) o old mapping member is-it

  pub old-valid : IsLeafOf row old
  old-valid = mapping.valid old member

-- the arrays after a purge of the leaf as it was
pub purged-is : (purge : Purge) (c : Change) (leaves : List Leaf) (old : Leaf) (tlb next : TlbState) → old_leaf c leaves ≡ Some old → next ≡ tlb_purged purge old tlb
    → next ≡ record tlb { arrays = arrays_after purge (old_leaf c leaves) tlb.arrays }
unfolding tlb_purged
purged-is purge c leaves old tlb next e n = rw e n

-- the pool with the frames of a new leaf taken
pub pool-mapped : (row : Row) (leaf : Leaf) (leaves : List Leaf) (pool : List Bool) → IsMapping row leaves → IsNewLeaf row leaves leaf → IsPoolOf row.frames leaves pool
    → IsPoolOf row.frames (changed (Insert leaf) leaves) (marked pool leaf.frame (pages_of leaf.order) false)
unfolding changed
pool-mapped row leaf leaves pool m new tie =
    pool-taken row.frames leaf leaves pool tie new.valid.frames_in new.free (λ x i. stays-changed row leaves (Insert leaf) x m new i (λ y e s. cc))
