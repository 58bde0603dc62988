-- What the host keeps, and what its G cache answers.
use Rattle.xl_nested.proofs.Common.{◌*◌, ◌+◌, ◌/◌, ◌<◌, ◌^◌, ◌≡◌, ◌≤◌, [], arith, Bool, Cached, changed, covers_guest, empty_cache, false, find, find-In, find-passes, get_or-replicate, gmapped, gunmapped, host_leaf, host_map, host_of, host_page, host_row, host_space, In, inl, inr, Insert, is_leaf, IsFor, IsFound, IsHost, IsKeepable, IsLeafFor, IsPlace, kept-inserted, kept-removed, Leaf, leaf_at_page, leaf_named, length, length-replicate, List, map_rule, meets_any, named-In, named-is, named-order, NestRefusal, newest-In, None, opening_stage, Option, Order, pages-some, pages_of, Perm, purged, purged-In, refl, Remove, replicate, room_rule, small_leaf, Some, Stage, stage_after, stays-changed, subst, sym, touched, touched-In, true, unmap_rule, with_loads, with_newest, without_items, ℕ}
use Rattle.xl_frames.specs.Pool.{HasNone, IsLowest, marked}
use Rattle.xl_model_lemmas.proofs.CoverLemmas.{covered-is}
use Rattle.xl_model_lemmas.proofs.PoolChangeLemmas.{pool-given, pool-removed, pool-taken}
use Rattle.xl_model_lemmas.proofs.PoolLemmas.{free-of, lowest-none, lowest-some}
use Rattle.xl_model_lemmas.specs.Lowest.{IsFree as IsFreeOf}
use Rattle.xl_model_lemmas.specs.Mappings.{IsLeafOf, IsMapping, IsNewLeaf}
use Rattle.xl_model_lemmas.specs.Pools.{IsPoolOf}
use Rattle.xl_nested.proofs.CacheLemmas.{leaf-found, purged-as}
use Rattle.xl_model_lemmas.proofs.MappingLemmas.{found-In}
use Rattle.xl_nested.proofs.GuestLemmas.{block-of, covers-for, found-covers, opening-stage, stage-stays}
use Rattle.xl_model.specs.declared.address.Order.TheVariants as order
use Rattle.xl_nested_model.specs.declared.nest.NestRefusal.TheVariants as refused

-- a host in which nothing is mapped
no-leaves : (frames : ℕ) → IsMapping (host_row frames) []
no-leaves frames = record { sorted = tt; valid = λ x i. absurd i; pages = λ x y page i. absurd i; frames = λ x y frame i. absurd i }

all-free : (frames : ℕ) → IsPoolOf frames [] (replicate frames true)
all-free frames = record { size = length-replicate frames true; each = λ f below. get_or-replicate frames f true false below }

pub opening-host : (frames nodes width : ℕ) → frames ≤ 2 ^ 22 → IsHost (opening_stage 4 nodes) (replicate frames true) (empty_cache width)
opening-host frames nodes width few =
    let e : length (replicate frames true) ≡ frames = length-replicate frames true in
    record {
      stage_is = opening-stage 4 nodes;
      few = omega arith;
      mapping = no-leaves (length (replicate frames true));
      pool_is = subst (λ (n : ℕ). IsPoolOf n [] (replicate frames true)) (sym e) (all-free frames);
      fresh = λ x i. absurd i;
    }

-- the leaves of a host
module _ {stage : Stage} {pool : List Bool} {cache : Cached Leaf} (is : IsHost stage pool cache) where
  pub valid-few : (x : Leaf) → In x stage.leaves → x.frame + pages_of x.order ≤ 2 ^ 44
  valid-few x i = let v = (is.mapping.valid x i).frames_in in let f = is.few in omega arith

  -- the word of a leaf of 4 KiB is small
  pub small-low : (space page word : ℕ) → leaf_at_page space page stage.leaves ≡ Some (small_leaf space page word) → word < 2 ^ 48
  small-low space page word e =
      let few : word / 16 + 1 ≤ 2 ^ 44 = valid-few (small_leaf space page word) (found-In space page stage.leaves (small_leaf space page word) e) in omega arith

  -- a leaf of the G cache that covers a guest page is the page's
  pub cached-is : (g : ℕ) (x : Leaf) → find (covers_guest g) cache.items ≡ Some x → host_leaf g stage.leaves ≡ Some x
  unfolding host_leaf
  cached-is g x e =
      covered-is (host_row (length pool)) stage.leaves (host_space g) (host_page g) x is.mapping
      (is.fresh x (find-In (covers_guest g) x cache.items e)) (find-passes (covers_guest g) x cache.items e)

  cached-by : (g word : ℕ) (o : Option Leaf) → find (covers_guest g) cache.items ≡ o → IsFound (host_page g) (Some word) o → IsFound (host_page g) (Some word) (host_leaf g stage.leaves)
  cached-by g word None e found = absurd found
  cached-by g word (Some x) e found = leaf-found (host_page g) word x (host_leaf g stage.leaves) (sym (cached-is g x e)) found

  -- a word of the G cache says the page of the host's leaf
  pub cached-word : (g word : ℕ) → IsFound (host_page g) (Some word) (find (covers_guest g) cache.items) → IsFound (host_page g) (Some word) (host_leaf g stage.leaves)
  cached-word g word found = cached-by g word (find (covers_guest g) cache.items) refl found

  pub walked-for : (space page : ℕ) (x : Leaf) → leaf_at_page space page stage.leaves ≡ Some x → IsFor page x
  walked-for space page x e = covers-for space page x (found-covers space page stage.leaves x e) (valid-few x (found-In space page stage.leaves x e))

  -- a leaf of the host can be kept in the G cache
  pub keepable : (x : Leaf) → In x stage.leaves → IsKeepable x
  keepable x i =
      let v = is.mapping.valid x i in
      let some : 0 < pages_of x.order = pages-some x.order in
      let p : x.first + pages_of x.order ≤ 2 ^ 27 = v.pages_in in
      let f = v.frames_in in
      let n = is.few in
      record { space_in = v.space_in; first_in = omega arith; aligned = v.pages_aligned; frame_in = omega arith }

  -- a touch and a fill keep the cache fresh; a walk changes the loads alone
  pub touched-kept : (p : Leaf → Bool) (new : Cached Leaf) → new.items ≡ touched p cache.items → IsHost stage pool new
  touched-kept p new e = record {
    stage_is = is.stage_is;
    few = is.few;
    mapping = is.mapping;
    pool_is = is.pool_is;
    fresh = λ x i. is.fresh x (touched-In p x cache.items (subst (λ (xs : List Leaf). In x xs) e i));
  }

  pub loaded-kept : (n : ℕ) → IsHost (with_loads n stage) pool cache
  loaded-kept n = record {
    stage_is = record { spaces_are = is.stage_is.spaces_are; pages_are = is.stage_is.pages_are };
    few = is.few;
    mapping = is.mapping;
    pool_is = is.pool_is;
    fresh = is.fresh;
  }

  pub filled-kept : (x : Leaf) (n width : ℕ) (new : Cached Leaf) → In x stage.leaves → new.items ≡ with_newest width x cache.items → IsHost (with_loads n stage) pool new
  filled-kept x n width new i e = record {
    stage_is = record { spaces_are = is.stage_is.spaces_are; pages_are = is.stage_is.pages_are };
    few = is.few;
    mapping = is.mapping;
    pool_is = is.pool_is;
    fresh = λ y j. elim (newest-In width y x cache.items (subst (λ (xs : List Leaf). In y xs) e j)) [
      | inl f ↦ subst (λ (z : Leaf). In z stage.leaves) (sym f) i
      | inr k ↦ is.fresh y k
    ];
  }

  -- a map that finds frames
  module _ (g : ℕ) (o : Order) (perm : Perm) (at : ℕ) (place : IsPlace (host_page g) o (2 ^ 27)) (few_spaces : host_space g < 4) (low : IsLowest pool (pages_of o) at)
      (free : meets_any (host_space g) (host_page g) o stage.leaves ≡ false) where
    abbrev new-leaf : Leaf
    new-leaf = record { space = host_space g; first = host_page g; order = o; frame = at; perm = perm }

    new-valid : IsLeafOf (host_row (length pool)) new-leaf
    new-valid = record {
      space_in = few_spaces;
      pages_in = place.within;
      pages_aligned = place.aligned;
      frames_in = low.fits;
      frames_aligned = low.aligned;
    }

    new-free : IsFreeOf (pages_of o) at stage.leaves
    new-free = free-of (length pool) at (pages_of o) stage.leaves pool is.pool_is (pages-some o) low.fits low.is_free

    new-is : IsNewLeaf (host_row (length pool)) stage.leaves new-leaf
    new-is = record { valid = new-valid; apart = free; free = new-free }

    pub map-is : (hits : ℕ) → host_map g o perm (host_of stage pool cache hits) ≡ Some (Insert (record { space = host_space g; first = host_page g; order = o; frame = at; perm = perm }))
    map-is hits = rw (lowest-some (length pool) o stage.leaves pool at is.pool_is low) refl

    pub leaf-for : IsLeafFor stage.shape (record { space = host_space g; first = host_page g; order = o; frame = at; perm = perm })
    leaf-for =
        let f = low.fits in let n = is.few in
        record { block = block-of 4 (host_space g) (host_page g) o stage is.stage_is few_spaces place; frames_in = omega arith; frames_aligned = low.aligned }

    pub mapped-kept : IsHost (stage_after (Some (Insert (record { space = host_space g; first = host_page g; order = o; frame = at; perm = perm }))) stage) (marked pool at (pages_of o) false) cache
    unfolding changed
    mapped-kept =
        let taken : IsPoolOf (length pool) (changed (Insert new-leaf) stage.leaves) (marked pool at (pages_of o) false) =
        pool-taken (length pool) new-leaf stage.leaves pool is.pool_is low.fits new-free (λ x i. stays-changed (host_row (length pool)) stage.leaves (Insert new-leaf) x is.mapping new-is i (λ y e s. cc)) in
        let size : length (marked pool at (pages_of o) false) ≡ length pool = taken.size in
        record {
          stage_is = stage-stays 4 (Insert new-leaf) stage is.stage_is;
          few = let f = is.few in omega arith;
          mapping = subst (λ (n : ℕ). IsMapping (host_row n) (changed (Insert new-leaf) stage.leaves)) (sym size) (kept-inserted (host_row (length pool)) new-leaf stage.leaves is.mapping new-valid free new-free);
          pool_is = subst (λ (n : ℕ). IsPoolOf n (changed (Insert new-leaf) stage.leaves) (marked pool at (pages_of o) false)) (sym size) taken;
          fresh = λ x i. stays-changed (host_row (length pool)) stage.leaves (Insert new-leaf) x is.mapping new-is (is.fresh x i) (λ y e s. cc);
        }

    pub given-kept : IsHost stage (marked (marked pool at (pages_of o) false) at (pages_of o) true) cache
    given-kept =
        let given = pool-given (length pool) at (pages_of o) stage.leaves pool is.pool_is low.fits low.is_free in
        let size : length (marked (marked pool at (pages_of o) false) at (pages_of o) true) ≡ length pool = given.size in
        record {
          stage_is = is.stage_is;
          few = let f = is.few in omega arith;
          mapping = subst (λ (n : ℕ). IsMapping (host_row n) stage.leaves) (sym size) is.mapping;
          pool_is = subst (λ (n : ℕ). IsPoolOf n stage.leaves (marked (marked pool at (pages_of o) false) at (pages_of o) true)) (sym size) given;
          fresh = is.fresh;
        }

    taken-size : length (marked pool at (pages_of o) false) ≡ length pool
    unfolding changed
    taken-size =
        let taken = pool-taken (length pool) new-leaf stage.leaves pool is.pool_is low.fits new-free (λ x i. stays-changed (host_row (length pool)) stage.leaves (Insert new-leaf) x is.mapping new-is i (λ y e s. cc)) in
        taken.size

    given-size : length (marked (marked pool at (pages_of o) false) at (pages_of o) true) ≡ length pool
    given-size = (pool-given (length pool) at (pages_of o) stage.leaves pool is.pool_is low.fits low.is_free).size

    -- the result of the map
    pub map-done : (hits : ℕ) (new : Stage) (taken : List Bool) → room_rule (Some (Insert (record { space = host_space g; first = host_page g; order = o; frame = at; perm = perm }))) stage ≡ None
        → new ≡ stage_after (Some (Insert (record { space = host_space g; first = host_page g; order = o; frame = at; perm = perm }))) stage → taken ≡ marked pool at (pages_of o) false
        → (map_rule (host_space g) (host_page g) o (host_map g o perm (host_of stage pool cache hits)) stage ≡ None) × (host_of new taken cache hits ≡ gmapped g o perm (host_of stage pool cache hits))
    unfolding gmapped
    map-done hits new taken room e f = (rw (free, map-is hits) room, rw (map-is hits, e, f, taken-size) refl)

    pub map-undone : (hits : ℕ) (r : NestRefusal) (new : Stage) (given : List Bool) → room_rule (Some (Insert (record { space = host_space g; first = host_page g; order = o; frame = at; perm = perm }))) stage ≡ Some r
        → new ≡ stage → given ≡ marked (marked pool at (pages_of o) false) at (pages_of o) true
        → (map_rule (host_space g) (host_page g) o (host_map g o perm (host_of stage pool cache hits)) stage ≡ Some r) × (host_of new given cache hits ≡ host_of stage pool cache hits)
    map-undone hits r new given room e f = (rw (free, map-is hits) room, rw (e, f, given-size) refl)

  -- a map that finds none
  pub no-frames : (g : ℕ) (o : Order) (perm : Perm) (hits : ℕ) → meets_any (host_space g) (host_page g) o stage.leaves ≡ false → HasNone pool (pages_of o)
      → map_rule (host_space g) (host_page g) o (host_map g o perm (host_of stage pool cache hits)) stage ≡ Some refused.NoFrames
  no-frames g o perm hits free none = rw (free, lowest-none (length pool) o stage.leaves pool is.pool_is none) refl

  -- an unmap
  old-order : (space first : ℕ) (o : Order) (old : Leaf) → leaf_named space first o stage.leaves ≡ Some old → old.order ≡ o
  old-order space first o old e = named-order space first o old (named-is space first o old stage.leaves e)

  pub old-frames : (space first : ℕ) (o : Order) (old : Leaf) → leaf_named space first o stage.leaves ≡ Some old → old.frame + pages_of o ≤ length pool
  old-frames space first o old e =
      subst (λ (q : Order). old.frame + pages_of q ≤ length pool) (old-order space first o old e) (is.mapping.valid old (named-In space first o old stage.leaves e)).frames_in

  old-given : (space first : ℕ) (o : Order) (old : Leaf) → leaf_named space first o stage.leaves ≡ Some old
      → IsPoolOf (length pool) (changed (Remove space first o) stage.leaves) (marked pool old.frame (pages_of o) true)
  old-given space first o old e =
      let P : Order → Type 0 = λ q. IsPoolOf (length pool) (changed (Remove space first o) stage.leaves) (marked pool old.frame (pages_of q) true) in
      subst P (old-order space first o old e) (pool-removed (host_row (length pool)) space first o stage.leaves old pool is.mapping e is.pool_is)

  pub unmapped-kept : (space first : ℕ) (o : Order) (old : Leaf) (new : Cached Leaf) → leaf_named space first o stage.leaves ≡ Some old → new.items ≡ purged (is_leaf space first o) cache.items
      → IsHost (stage_after (Some (Remove space first o)) stage) (marked pool old.frame (pages_of o) true) new
  unmapped-kept space first o old new named e =
      let given = old-given space first o old named in
      let size : length (marked pool old.frame (pages_of o) true) ≡ length pool = given.size in
      record {
        stage_is = stage-stays 4 (Remove space first o) stage is.stage_is;
        few = let f = is.few in omega arith;
        mapping = subst (λ (n : ℕ). IsMapping (host_row n) (changed (Remove space first o) stage.leaves)) (sym size) (kept-removed (host_row (length pool)) space first o stage.leaves is.mapping);
        pool_is = subst (λ (n : ℕ). IsPoolOf n (changed (Remove space first o) stage.leaves) (marked pool old.frame (pages_of o) true)) (sym size) given;
        fresh = λ x i.
            let k = purged-In (is_leaf space first o) x cache.items (subst (λ (xs : List Leaf). In x xs) e i) in
            stays-changed (host_row (length pool)) stage.leaves (Remove space first o) x is.mapping tt (is.fresh x k.0)
            (λ y f s. let t : is_leaf space first o y ≡ true = named-is space first o y stage.leaves f in
            let u : is_leaf space first o x ≡ true = subst (λ (z : Leaf). is_leaf space first o z ≡ true) (sym s) t in
            let w : is_leaf space first o x ≡ false = k.1 in
            absurd (cc));
      }

  -- the result of the unmap
  pub unmap-done : (g : ℕ) (o : Order) (old : Leaf) (hits : ℕ) (new : Stage) (given : List Bool) (left : Cached Leaf) → leaf_named (host_space g) (host_page g) o stage.leaves ≡ Some old
      → new ≡ stage_after (Some (Remove (host_space g) (host_page g) o)) stage → given ≡ marked pool old.frame (pages_of o) true
      → left.width ≡ cache.width → left.items ≡ purged (is_leaf (host_space g) (host_page g) o) cache.items
      → (unmap_rule (host_space g) (host_page g) o stage ≡ None) × (host_of new given left hits ≡ gunmapped g o (host_of stage pool cache hits))
  unfolding gunmapped
  unmap-done g o old hits new given left named e f a b =
      let size : length (marked pool old.frame (pages_of o) true) ≡ length pool = (old-given (host_space g) (host_page g) o old named).size in
      let kept : left ≡ without_items (is_leaf (host_space g) (host_page g) o) cache = purged-as left cache (is_leaf (host_space g) (host_page g) o) a b in
      (rw named refl, rw (e, f, kept, size) refl)

-- the places of guest pages
pub place-in : (g : ℕ) (o : Order) → IsPlace g o (2 ^ 29) → (host_space g < 4) × IsPlace (host_page g) o (2 ^ 27)
place-in g o place = go o place.within place.aligned
  where
    go : (o : Order) → g + pages_of o ≤ 2 ^ 29 → (e : ℕ) × (g ≡ e * pages_of o) → (host_space g < 4) × IsPlace (host_page g) o (2 ^ 27)
    go order.K4 w a = (omega arith, record { within = omega arith; aligned = (host_page g, omega arith) })
    go order.M2 w a = let h : g ≡ a.0 * 512 = a.1 in (omega arith, record { within = omega arith; aligned = (host_page g / 512, omega arith) })
    go order.G1 w a = let h : g ≡ a.0 * 262144 = a.1 in (omega arith, record { within = omega arith; aligned = (host_page g / 262144, omega arith) })
