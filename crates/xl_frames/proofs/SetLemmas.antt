-- What a call leaves in the sets of the frames, of the blocks and of the parts.
use Rattle.xl_frames.proofs.Common.{◌*◌, ◌+◌, ◌/◌, ◌<◌, ◌^◌, ◌∙◌, ◌≡◌, ◌≤◌, ◌⊎◌, add-mul, ap, AreFree, AreMarked, arith, Bool, cases_eq, cases_lt, ext_get_or, false, false≢true, get_or, get_or-replicate, get_or-set_other, get_or-set_same, get_or_past, IfSome, inl, inr, IsFree, IsLowest, length, length-replicate, length-set, List, marked, mul-le-mul_right, None, Option, refl, replicate, set, Some, subst, sym, true, ℕ}
use Rattle.xl_frames.proofs.BlockLemmas.{block_below, block_fits, free_all, free_fits, one_more_block}
use Rattle.xl_frames.proofs.MarkLemmas.{length-marked, marked_above, marked_below, marked_inside}
use Rattle.xl_frames.specs.Blocks.{AreBlocks, IsBlockJoined, IsKept}

-- flags that are marked are those of the definition
pub marked_is : (old new : List Bool) (first count : ℕ) (v : Bool) → first + count ≤ length old → AreMarked old new first count v → new ≡ marked old first count v
marked_is old new first count v l a =
    ext_get_or false new (marked old first count v) (a.len ∙ sym (length-marked old first count v l)) (λ i less.
    elim (cases_lt i first) [
      | inl below ↦ a.below i below ∙ sym (marked_below old first count i v false l below)
      | inr from ↦ elim (cases_lt i (first + count)) [
        | inl to ↦ a.inside i from to ∙ sym (marked_inside old first count i v false l from to)
        | inr above ↦ a.above i above ∙ sym (marked_above old first count i v false l above)
      ]
    ])

pub marked_at : (old new : List Bool) (first count at size : ℕ) (v : Bool) → first ≡ at → count ≡ size → AreMarked old new first count v → AreMarked old new at size v
marked_at old new first count at size v e f a = subst (λ n. AreMarked old new at n v) f (subst (λ n. AreMarked old new n count v) e a)

-- one flag set
pub marked_one : (old new : List Bool) (k : ℕ) (v : Bool) → k < length old → new ≡ set old k v → AreMarked old new k 1 v
marked_one old new k v l e = record {
  len = ap length e ∙ length-set old k v;
  inside = λ i from to. (let same : i ≡ k = omega arith in rw (same, e) (get_or-set_same old k v false l));
  below = λ i less. ap (λ (xs : List Bool). get_or xs i false) e ∙ get_or-set_other old k i v false (λ q. absurd (omega arith));
  above = λ i more. ap (λ (xs : List Bool). get_or xs i false) e ∙ get_or-set_other old k i v false (λ q. absurd (omega arith));
}

-- frames that no mark touches
free_back : (old new : List Bool) (first count at size : ℕ) (v : Bool) → AreMarked old new first count v → (at + size ≤ first) ⊎ (first + count ≤ at) → IsFree new at size → IsFree old at size
free_back old new first count at size v a apart f = record {
  each = λ k l u. elim apart [
    | inl below ↦ sym (a.below k (omega arith)) ∙ f.each k l u
    | inr above ↦ sym (a.above k (omega arith)) ∙ f.each k l u
  ];
}

free_on : (old new : List Bool) (first count at size : ℕ) (v : Bool) → AreMarked old new first count v → (at + size ≤ first) ⊎ (first + count ≤ at) → IsFree old at size → IsFree new at size
free_on old new first count at size v a apart f = record {
  each = λ k l u. elim apart [
    | inl below ↦ a.below k (omega arith) ∙ f.each k l u
    | inr above ↦ a.above k (omega arith) ∙ f.each k l u
  ];
}

-- frames that are made free stay free or become so
free_more : (old new : List Bool) (first count at size : ℕ) → AreMarked old new first count true → IsFree old at size → IsFree new at size
free_more old new first count at size a f = record {
  each = λ k l u. elim (cases_lt k first) [
    | inl below ↦ a.below k below ∙ f.each k l u
    | inr from ↦ elim (cases_lt k (first + count)) [
      | inl to ↦ a.inside k from to
      | inr above ↦ a.above k above ∙ f.each k l u
    ]
  ];
}

-- another block lies below or above
apart_block : (b block size first count : ℕ) → (b ≡ block → ⊥) → block * size ≤ first → first + count ≤ block * size + size → (b * size + size ≤ first) ⊎ (first + count ≤ b * size)
apart_block b block size first count other from to =
    elim (cases_lt b block) [
      | inl l ↦ (let m = one_more_block b block size l in inl (omega arith))
      | inr g ↦ (let m = one_more_block block b size (omega arith) in inr (omega arith))
    ]

-- frames of one block taken
pub part_taken : (size : ℕ) (pool pool' blocks blocks' : List Bool) (block first count : ℕ) → AreBlocks size pool blocks → 0 < count
    → block * size ≤ first → first + count ≤ block * size + size → AreMarked pool pool' first count false → blocks' ≡ set blocks block false → AreBlocks size pool' blocks'
part_taken size pool pool' blocks blocks' block first count a some from to m e = record {
  count = ap length e ∙ length-set blocks block false ∙ a.count ∙ ap (λ n. n / size) (sym m.len);
  flagged = λ b set_. elim (cases_eq b block) [
    | inl same ↦ absurd (false≢true (sym (cleared b same) ∙ set_))
    | inr other ↦ free_on pool pool' first count (b * size) size false m (apart_block b block size first count other from to) (a.flagged b (sym (kept b other) ∙ set_))
  ];
  every = λ b f. elim (cases_eq b block) [
    | inl same ↦ (let p : b * size ≡ block * size = ap (λ n. n * size) same in absurd (false≢true (sym (m.inside first (omega arith) (omega arith)) ∙ f.each first (omega arith) (omega arith))))
    | inr other ↦ kept b other ∙ a.every b (free_back pool pool' first count (b * size) size false m (apart_block b block size first count other from to) f)
  ];
}
  where
    kept : (b : ℕ) → (b ≡ block → ⊥) → get_or blocks' b false ≡ get_or blocks b false
    kept b other = ap (λ (xs : List Bool). get_or xs b false) e ∙ get_or-set_other blocks block b false false other

    cleared : (b : ℕ) → b ≡ block → get_or blocks' b false ≡ false
    cleared b same = elim (cases_lt block (length blocks)) [
      | inl l ↦ rw (same, e) (get_or-set_same blocks block false false l)
      | inr g ↦ get_or_past blocks' b false (let n : length blocks' ≡ length blocks = ap length e ∙ length-set blocks block false in omega arith)
    ]

-- frames of one block freed, and its flag settled
pub part_freed : (size : ℕ) (pool pool' blocks blocks' : List Bool) (block first count : ℕ) → AreBlocks size pool blocks
    → block * size ≤ first → first + count ≤ block * size + size → AreMarked pool pool' first count true → IsBlockJoined size pool' blocks blocks' block → AreBlocks size pool' blocks'
part_freed size pool pool' blocks blocks' block first count a from to m s = record {
  count = s.len ∙ a.count ∙ ap (λ n. n / size) (sym m.len);
  flagged = λ b set_. elim (cases_eq b block) [
    | inl same ↦ elim (s.flagged (ap (λ n. get_or blocks' n false) (sym same) ∙ set_)) [
      | inl before ↦ rw same (free_more pool pool' first count (block * size) size m (a.flagged block before))
      | inr now ↦ rw same now
    ]
    | inr other ↦ free_more pool pool' first count (b * size) size m (a.flagged b (sym (s.others b other) ∙ set_))
  ];
  every = λ b f. elim (cases_eq b block) [
    | inl same ↦ ap (λ n. get_or blocks' n false) same ∙ s.every (subst (λ n. IsFree pool' (n * size) size) same f)
    | inr other ↦ s.others b other ∙ a.every b (free_back pool pool' first count (b * size) size true m (apart_block b block size first count other from to) f)
  ];
}

-- blocks one after another, all freed or all taken
pub run_marked : (size : ℕ) (pool pool' blocks blocks' : List Bool) (block n : ℕ) (v : Bool) → 0 < size → AreBlocks size pool blocks
    → AreMarked pool pool' (block * size) (n * size) v → AreMarked blocks blocks' block n v → AreBlocks size pool' blocks'
run_marked size pool pool' blocks blocks' block n v pos a m s = record {
  count = s.len ∙ a.count ∙ ap (λ n. n / size) (sym m.len);
  flagged = λ b set_. elim (cases_lt b block) [
    | inl below ↦ free_on pool pool' _ _ (b * size) size v m (inl (one_more_block b block size below)) (a.flagged b (sym (s.below b below) ∙ set_))
    | inr from ↦ elim (cases_lt b (block + n)) [
      | inl to ↦ inside_free b from to (sym (s.inside b from to) ∙ set_)
      | inr above ↦ free_on pool pool' _ _ (b * size) size v m (inr (past b above)) (a.flagged b (sym (s.above b above) ∙ set_))
    ]
  ];
  every = λ b f. elim (cases_lt b block) [
    | inl below ↦ s.below b below ∙ a.every b (free_back pool pool' _ _ (b * size) size v m (inl (one_more_block b block size below)) f)
    | inr from ↦ elim (cases_lt b (block + n)) [
      | inl to ↦ s.inside b from to ∙ sym (m.inside (b * size) (mul-le-mul_right {m = block} size from) (last b to)) ∙ f.each (b * size) (omega arith) (omega arith)
      | inr above ↦ s.above b above ∙ a.every b (free_back pool pool' _ _ (b * size) size v m (inr (past b above)) f)
    ]
  ];
}
  where
    past : (b : ℕ) → block + n ≤ b → block * size + n * size ≤ b * size
    past b l = (let e = add-mul block n size in let q = mul-le-mul_right {m = block + n} size l in omega arith)

    last : (b : ℕ) → b < block + n → b * size < block * size + n * size
    last b l = (let e = add-mul block n size in let q = one_more_block b (block + n) size l in omega arith)

    inside_free : (b : ℕ) → block ≤ b → b < block + n → v ≡ true → IsFree pool' (b * size) size
    inside_free b from to is = record {
      each = λ k l u. m.inside k (let q = mul-le-mul_right {m = block} size from in omega arith) (let e = add-mul block n size in let q = one_more_block b (block + n) size to in omega arith) ∙ is;
    }

-- a part is free where its blocks are
pub part_free : (pool blocks : List Bool) (part : ℕ) → AreBlocks 512 pool blocks → IsFree blocks (part * 512) 512 → IsFree pool (part * 262144) 262144
part_free pool blocks part a f = record {
  each = λ k l u. (a.flagged (k / 512) (f.each (k / 512) (omega arith) (omega arith))).each k (omega arith) (omega arith);
}

pub blocks_free : (pool blocks : List Bool) (part : ℕ) → AreBlocks 512 pool blocks → IsFree pool (part * 262144) 262144 → IsFree blocks (part * 512) 512
blocks_free pool blocks part a f = record {
  each = λ b l u. a.every b (record { each = λ k from to. f.each k (omega arith) (omega arith) });
}

pub part_settled : (pool blocks old new : List Bool) (part : ℕ) → AreBlocks 512 pool blocks → IsBlockJoined 512 blocks old new part → IsBlockJoined 262144 pool old new part
part_settled pool blocks old new part a s = record {
  len = s.len;
  others = s.others;
  flagged = λ q. elim (s.flagged q) [ inl before ↦ inl before | inr now ↦ inr (part_free pool blocks part a now) ];
  every = λ f. s.every (blocks_free pool blocks part a f);
}

-- at the beginning all is free
pub all_blocks : (size n : ℕ) → 0 < size → AreBlocks size (replicate n true) (replicate (n / size) true)
all_blocks size n pos = record {
  count = length-replicate (n / size) true ∙ ap (λ k. k / size) (sym (length-replicate n true));
  flagged = λ b f. elim (cases_lt b (n / size)) [
    | inl less ↦ free_all n (b * size) size (block_fits b size n less)
    | inr past ↦ absurd (false≢true (sym (get_or_past (replicate (n / size) true) b false (let l = length-replicate (n / size) true in omega arith)) ∙ f))
  ];
  every = λ b f. (let fits = free_fits (replicate n true) (b * size) size f pos in let l = length-replicate n true in get_or-replicate (n / size) b true false (block_below b size n pos (omega arith)));
}

pub settled_left : (pool old : List Bool) (b : ℕ) → (IsFree pool (b * 512) 512 → ⊥) → IsBlockJoined 512 pool old old b
settled_left pool old b none = record {
  len = refl;
  others = λ i other. refl;
  flagged = λ q. inl q;
  every = λ f. absurd (none f);
}

-- a block of 512 that has no flag is not free
pub past_none : (pool old : List Bool) (b : ℕ) → length old ≡ length pool / 512 → length old ≤ b → IsFree pool (b * 512) 512 → ⊥
past_none pool old b e past f = (let fits = free_fits pool (b * 512) 512 f (omega arith) in omega arith)

pub as_free : (pool : List Bool) (b : ℕ) → IsFree pool (b * 512) 512 → AreFree pool (64 * (b * 8)) (64 * 8)
as_free pool b f = record { each = λ k l u. f.each k (omega arith) (omega arith) }

pub kept_open : (frames blocks parts : List Bool) (n : ℕ) → n ≤ 2 ^ 22 → frames ≡ replicate n true → blocks ≡ replicate (n / 512) true → parts ≡ replicate (n / 262144) true → IsKept frames blocks parts
kept_open frames blocks parts n limit e f g = rw (e, f, g) (record {
  limit = (let l = length-replicate n true in omega arith);
  blocks_are = all_blocks 512 n (omega arith);
  parts_are = all_blocks 262144 n (omega arith);
})

-- what a call leaves of what is kept
module _ {frames blocks parts frames' blocks' parts' : List Bool} (i : IsKept frames blocks parts) where
  kept : (first count : ℕ) (v : Bool) → AreMarked frames frames' first count v → AreBlocks 512 frames' blocks' → AreBlocks 262144 frames' parts' → IsKept frames' blocks' parts'
  kept first count v m b p = record {
    limit = (let n = m.len in let o = i.limit in omega arith);
    blocks_are = b;
    parts_are = p;
  }

  pub frame_taken : (k : ℕ) → k < length frames → frames' ≡ set frames k false → blocks' ≡ set blocks (k / 512) false → parts' ≡ set parts (k / 262144) false → IsKept frames' blocks' parts'
  frame_taken k l e f g =
      let m = marked_one frames frames' k false l e in
      kept k 1 false m
      (part_taken 512 frames frames' blocks blocks' (k / 512) k 1 i.blocks_are (omega arith) (omega arith) (omega arith) m f)
      (part_taken 262144 frames frames' parts parts' (k / 262144) k 1 i.parts_are (omega arith) (omega arith) (omega arith) m g)

  pub block_taken : (b : ℕ) → b < length blocks → AreMarked frames frames' (64 * (b * 8)) (64 * 8) false → blocks' ≡ set blocks b false → parts' ≡ set parts (b / 512) false
      → IsKept frames' blocks' parts'
  block_taken b l n f g =
      let m : AreMarked frames frames' (b * 512) 512 false = marked_at frames frames' _ _ (b * 512) 512 false (omega arith) refl n in
      kept (b * 512) 512 false m
      (run_marked 512 frames frames' blocks blocks' b 1 false (omega arith) i.blocks_are m (marked_one blocks blocks' b false l f))
      (part_taken 262144 frames frames' parts parts' (b / 512) (b * 512) 512 i.parts_are (omega arith) (omega arith) (omega arith) m g)

  pub frame_given : (k : ℕ) → k < length frames → frames' ≡ set frames k true → IsBlockJoined 512 frames' blocks blocks' (k / 512) → IsBlockJoined 512 blocks' parts parts' (k / 262144)
      → IsKept frames' blocks' parts'
  frame_given k l e f g =
      let m = marked_one frames frames' k true l e in
      let b = part_freed 512 frames frames' blocks blocks' (k / 512) k 1 i.blocks_are (omega arith) (omega arith) m f in
      kept k 1 true m b
      (part_freed 262144 frames frames' parts parts' (k / 262144) k 1 i.parts_are (omega arith) (omega arith) m (part_settled frames' blocks' parts parts' (k / 262144) b g))

  pub block_given : (b : ℕ) → b < length blocks → AreMarked frames frames' (64 * (b * 8)) (64 * 8) true → blocks' ≡ set blocks b true → IsBlockJoined 512 blocks' parts parts' (b / 512)
      → IsKept frames' blocks' parts'
  block_given b l n f g =
      let m : AreMarked frames frames' (b * 512) 512 true = marked_at frames frames' _ _ (b * 512) 512 true (omega arith) refl n in
      let a = run_marked 512 frames frames' blocks blocks' b 1 true (omega arith) i.blocks_are m (marked_one blocks blocks' b true l f) in
      kept (b * 512) 512 true m a
      (part_freed 262144 frames frames' parts parts' (b / 512) (b * 512) 512 i.parts_are (omega arith) (omega arith) m (part_settled frames' blocks' parts parts' (b / 512) a g))

-- frames marked one after another
pub marked_none : (pool : List Bool) (first : ℕ) (v : Bool) → AreMarked pool pool first 0 v
marked_none pool first v = record {
  len = refl;
  inside = λ k l u. absurd (omega arith);
  below = λ k l. refl;
  above = λ k l. refl;
}

pub marked_more : (a b c : List Bool) (first n : ℕ) (v : Bool) → AreMarked a b first n v → AreMarked b c (first + n) 1 v → AreMarked a c first (n + 1) v
marked_more a b c first n v p q = record {
  len = q.len ∙ p.len;
  inside = λ k l u. elim (cases_lt k (first + n)) [
    | inl less ↦ q.below k less ∙ p.inside k l less
    | inr last ↦ q.inside k last (omega arith)
  ];
  below = λ k l. q.below k (omega arith) ∙ p.below k l;
  above = λ k l. q.above k (omega arith) ∙ p.above k (omega arith);
}

-- what a take leaves, by the definition
pub taken_marked : (r : Option ℕ) (old new : List Bool) (size : ℕ) → IfSome r (IsLowest old size) → IfSome r (λ at. AreMarked old new at size false) → IfSome r (λ at. new ≡ marked old at size false)
taken_marked (Some at) old new size low m = marked_is old new at size false low.fits m
taken_marked None old new size low m = low
