use Rattle.xl_model_laws.proofs.Common.{◌&&◌, ◌+◌, ◌∙◌, ◌∷◌, ◌≡◌, [], accessed, alone, AnAccessNeedsItsArraysAlone, Answer, answer_of, answered_by, ap, arith, array_filled, array_hit, array_touched, arrays_filled, arrays_for, arrays_hit, asked, at_places, Bool, cond, count_by, count_fills, count_look, count_reply, count_walk, counted, counts_for, false, filled_below, filled_for, filled_where, fills_array, hits_at, is_canonical, Kind, Leaf, leaf_at_page, List, looked, looked_by, looked_where, map, misses_at, nat_lt, None, one_more_where, Option, page_of, refl, Reply, reply_to, RowState, serves_kind, Some, sum_by-cons, sym, table_walked, takes_leaf, takes_order, TlbArray, touched_or, true, walk_filled, walk_made, where_taken, ℕ}
use Rattle.xl_model.specs.declared.leaf.Reply.TheVariants as reply
use Rattle.xl_model_laws.proofs.an_access_needs_its_arrays_alone.Goals as goal

-- An access in a row and in the row with the arrays alone that serve its kind: they are taken out before or after.
module _ (k : Kind) where
  -- touches and fills change no array's spec
  filled-if-serves : (b : Bool) (leaf : Leaf) (a : TlbArray) → serves_kind k (cond b (array_filled leaf a) a) ≡ serves_kind k a
  unfolding array_filled
  filled-if-serves false leaf a = refl
  filled-if-serves true leaf a = go (takes_order a.spec leaf.order)
    where
      go : (taken : Bool) → serves_kind k (filled_where taken leaf a) ≡ serves_kind k a
      go true = refl
      go false = refl

  hit-serves : (answer : Answer) (space page : ℕ) (arrays : List TlbArray)
      → map (serves_kind k) (arrays_hit k answer space page arrays) ≡ map (serves_kind k) arrays
  unfolding arrays_hit array_touched
  hit-serves answer space page [] = refl
  hit-serves answer space page (a ∷ arrays) = go (asked k a space page) (hit-serves answer space page arrays)
    where
      go : (o : Option Leaf) → map (serves_kind k) (arrays_hit k answer space page arrays) ≡ map (serves_kind k) arrays
          → map (serves_kind k) (touched_or o space page a arrays (filled_below k answer.level answer.leaf a ∷ arrays_hit k answer space page arrays))
          ≡ map (serves_kind k) (a ∷ arrays)
      go (Some leaf) next = refl
      go None next =
          ap (λ (b : Bool). b ∷ map (serves_kind k) (arrays_hit k answer space page arrays))
          (filled-if-serves (serves_kind k a && nat_lt a.spec.level answer.level) answer.leaf a)
          ∙ ap (λ (bs : List Bool). serves_kind k a ∷ bs) next

  filled-serves : (leaf : Leaf) (arrays : List TlbArray) → map (serves_kind k) (map (filled_for k leaf) arrays) ≡ map (serves_kind k) arrays
  filled-serves leaf [] = refl
  filled-serves leaf (a ∷ arrays) =
      ap (λ (b : Bool). b ∷ map (serves_kind k) (map (filled_for k leaf) arrays)) (filled-if-serves (serves_kind k a) leaf a)
      ∙ ap (λ (bs : List Bool). serves_kind k a ∷ bs) (filled-serves leaf arrays)

  answer-alone : (arrays : List TlbArray) (space page : ℕ) → answer_of k (arrays_for k arrays) space page ≡ answer_of k arrays space page
  answer-alone [] space page = refl
  answer-alone (a ∷ arrays) space page = go (serves_kind k a) refl (answer-alone arrays space page)
    where
      go : (b : Bool) → serves_kind k a ≡ b → answer_of k (arrays_for k arrays) space page ≡ answer_of k arrays space page
          → answer_of k (cond b (a ∷ arrays_for k arrays) (arrays_for k arrays)) space page
          ≡ answered_by (where_taken b (array_hit a space page)) a.spec.level (answer_of k arrays space page)
      go true t next =
          ap (λ (b : Bool). answered_by (where_taken b (array_hit a space page)) a.spec.level (answer_of k (arrays_for k arrays) space page)) t
          ∙ ap (answered_by (array_hit a space page) a.spec.level) next
      go false t next = next

  hit-alone : (answer : Answer) (space page : ℕ) (arrays : List TlbArray)
      → arrays_for k (arrays_hit k answer space page arrays) ≡ arrays_hit k answer space page (arrays_for k arrays)
  unfolding arrays_hit array_touched
  hit-alone answer space page [] = refl
  hit-alone answer space page (a ∷ arrays) = go (serves_kind k a) (array_hit a space page) refl refl (hit-alone answer space page arrays)
    where
      go : (b : Bool) (o : Option Leaf) → serves_kind k a ≡ b → array_hit a space page ≡ o
          → arrays_for k (arrays_hit k answer space page arrays) ≡ arrays_hit k answer space page (arrays_for k arrays)
          → arrays_for k (touched_or (where_taken b o) space page a arrays
          (cond (b && nat_lt a.spec.level answer.level) (array_filled answer.leaf a) a ∷ arrays_hit k answer space page arrays))
          ≡ arrays_hit k answer space page (cond b (a ∷ arrays_for k arrays) (arrays_for k arrays))
      go true (Some leaf) t h next = rw (t, h) refl
      go true None t h next =
          let same : serves_kind k (cond (nat_lt a.spec.level answer.level) (array_filled answer.leaf a) a) ≡ true =
          filled-if-serves (nat_lt a.spec.level answer.level) answer.leaf a ∙ t in
          rw (t, h, same) (ap (λ (xs : List TlbArray). cond (nat_lt a.spec.level answer.level) (array_filled answer.leaf a) a ∷ xs) next)
      go false o t h next = rw t next

  filled-alone : (leaf : Leaf) (arrays : List TlbArray) → arrays_for k (map (filled_for k leaf) arrays) ≡ map (filled_for k leaf) (arrays_for k arrays)
  filled-alone leaf [] = refl
  filled-alone leaf (a ∷ arrays) = go (serves_kind k a) refl (filled-alone leaf arrays)
    where
      go : (b : Bool) → serves_kind k a ≡ b → arrays_for k (map (filled_for k leaf) arrays) ≡ map (filled_for k leaf) (arrays_for k arrays)
          → arrays_for k (cond b (array_filled leaf a) a ∷ map (filled_for k leaf) arrays) ≡ map (filled_for k leaf) (cond b (a ∷ arrays_for k arrays) (arrays_for k arrays))
      go true t next =
          let same : serves_kind k (array_filled leaf a) ≡ true = filled-if-serves true leaf a ∙ t in
          rw (same, t) (ap (λ (xs : List TlbArray). array_filled leaf a ∷ xs) next)
      go false t next = rw t next

  count-alone : (p : TlbArray → Bool) (arrays : List TlbArray)
      → count_by (λ a. serves_kind k a && p a) (arrays_for k arrays) ≡ count_by (λ a. serves_kind k a && p a) arrays
  count-alone p [] = refl
  count-alone p (a ∷ arrays) =
      go (serves_kind k a) refl (count-alone p arrays) ∙ sym (sum_by-cons (λ x. cond (serves_kind k x && p x) 1 0) a arrays)
    where
      go : (b : Bool) → serves_kind k a ≡ b
          → count_by (λ a. serves_kind k a && p a) (arrays_for k arrays) ≡ count_by (λ a. serves_kind k a && p a) arrays
          → count_by (λ a. serves_kind k a && p a) (cond b (a ∷ arrays_for k arrays) (arrays_for k arrays))
          ≡ cond (b && p a) 1 0 + count_by (λ a. serves_kind k a && p a) arrays
      go true t next =
          sum_by-cons (λ x. cond (serves_kind k x && p x) 1 0) a (arrays_for k arrays)
          ∙ ap (λ (b : Bool). cond (b && p a) 1 0 + count_by (λ a. serves_kind k a && p a) (arrays_for k arrays)) t
          ∙ ap (λ (n : ℕ). cond (p a) 1 0 + n) next
      go false t next = next ∙ omega arith

  counted-none : (p : TlbArray → Bool) (arrays : List TlbArray) → counted p arrays [] ≡ []
  counted-none p [] = refl
  counted-none p (a ∷ arrays) = refl

  counted-alone : (p : TlbArray → Bool) (arrays : List TlbArray) (ns : List ℕ)
      → counts_for k arrays (counted p arrays ns) ≡ counted p (arrays_for k arrays) (counts_for k arrays ns)
  counted-alone p [] ns = refl
  counted-alone p (a ∷ arrays) [] = sym (counted-none p (arrays_for k (a ∷ arrays)))
  counted-alone p (a ∷ arrays) (n ∷ ns) = go (serves_kind k a) (counted-alone p arrays ns)
    where
      go : (b : Bool) → counts_for k arrays (counted p arrays ns) ≡ counted p (arrays_for k arrays) (counts_for k arrays ns)
          → at_places (b ∷ map (serves_kind k) arrays) (one_more_where (p a) n ∷ counted p arrays ns)
          ≡ counted p (cond b (a ∷ arrays_for k arrays) (arrays_for k arrays)) (at_places (b ∷ map (serves_kind k) arrays) (n ∷ ns))
      go true next = ap (λ (ms : List ℕ). one_more_where (p a) n ∷ ms) next
      go false next = next

  -- a state whose arrays and counts of look-ups are others
  abbrev with_looks : RowState → List TlbArray → List ℕ → List ℕ → RowState
  with_looks s xs hs ms = record s { arrays = xs; counts = record s.counts { hits = hs; misses = ms } }

  looks-same : (s : RowState) (xs ys : List TlbArray) (hs gs ms ls : List ℕ) → xs ≡ ys → hs ≡ gs → ms ≡ ls → with_looks s xs hs ms ≡ with_looks s ys gs ls
  looks-same s xs ys hs gs ms ls e f g =
      ap (λ (zs : List TlbArray). with_looks s zs hs ms) e ∙ ap (λ (ns : List ℕ). with_looks s ys ns ms) f ∙ ap (λ (ns : List ℕ). with_looks s ys gs ns) g

  abbrev with_fills : ℕ → RowState → RowState
  with_fills n s = record s { counts = count_fills n s.counts }

  looked-by-alone : (answer : Option Answer) (page : ℕ) (s : RowState) → alone k (looked_by k answer page s) ≡ looked_by k answer page (alone k s)
  unfolding count_look count_fills count_walk arrays_filled table_walked
  looked-by-alone answer page s = by answer
    where
      counts-after : (p : TlbArray → Bool) (after : List TlbArray) (ns : List ℕ) → map (serves_kind k) after ≡ map (serves_kind k) s.arrays
          → counts_for k after (counted p s.arrays ns) ≡ counted p (arrays_for k s.arrays) (counts_for k s.arrays ns)
      counts-after p after ns same = ap (λ (bs : List Bool). at_places bs (counted p s.arrays ns)) same ∙ counted-alone p s.arrays ns

      walked : RowState
      walked = walk_made s.space page s

      by-walk : (found : Option Leaf) → alone k (walk_filled k found (walk_made s.space page (record s { counts = count_look k None s.space page s.arrays s.counts })))
          ≡ walk_filled k found (walk_made s.space page (record s { arrays = arrays_for k s.arrays; counts = count_look k None s.space page (arrays_for k s.arrays) (alone k s).counts }))
      by-walk None =
          looks-same walked (arrays_for k s.arrays) (arrays_for k s.arrays) _ _ _ _ refl
          (counts-after (hits_at k None s.space page) s.arrays s.counts.hits refl)
          (counts-after (misses_at k None s.space page) s.arrays s.counts.misses refl)
      by-walk (Some leaf) =
          ap (with_fills (count_by (takes_leaf k leaf) s.arrays))
          (looks-same walked _ (map (filled_for k leaf) (arrays_for k s.arrays)) _ _ _ _ (filled-alone leaf s.arrays)
          (counts-after (hits_at k None s.space page) (map (filled_for k leaf) s.arrays) s.counts.hits (filled-serves leaf s.arrays))
          (counts-after (misses_at k None s.space page) (map (filled_for k leaf) s.arrays) s.counts.misses (filled-serves leaf s.arrays)))
          ∙ ap (λ (n : ℕ). with_fills n (with_looks walked (map (filled_for k leaf) (arrays_for k s.arrays))
          (counted (hits_at k None s.space page) (arrays_for k s.arrays) (counts_for k s.arrays s.counts.hits))
          (counted (misses_at k None s.space page) (arrays_for k s.arrays) (counts_for k s.arrays s.counts.misses))))
          (sym (count-alone (λ a. takes_order a.spec leaf.order) s.arrays))

      by : (o : Option Answer) → alone k (looked_by k o page s) ≡ looked_by k o page (alone k s)
      by None = by-walk (leaf_at_page s.space page s.table.leaves)
      by (Some a) =
          ap (with_fills (count_by (fills_array k a.level a.leaf) s.arrays))
          (looks-same s _ (arrays_hit k a s.space page (arrays_for k s.arrays)) _ _ _ _ (hit-alone a s.space page s.arrays)
          (counts-after (hits_at k (Some a) s.space page) (arrays_hit k a s.space page s.arrays) s.counts.hits (hit-serves a s.space page s.arrays))
          (counts-after (misses_at k (Some a) s.space page) (arrays_hit k a s.space page s.arrays) s.counts.misses (hit-serves a s.space page s.arrays)))
          ∙ ap (λ (n : ℕ). with_fills n (with_looks s (arrays_hit k a s.space page (arrays_for k s.arrays))
          (counted (hits_at k (Some a) s.space page) (arrays_for k s.arrays) (counts_for k s.arrays s.counts.hits))
          (counted (misses_at k (Some a) s.space page) (arrays_for k s.arrays) (counts_for k s.arrays s.counts.misses))))
          (sym (count-alone (λ b. nat_lt b.spec.level a.level && takes_order b.spec a.leaf.order) s.arrays))

  where-alone : (canonical : Bool) (page : ℕ) (s : RowState) → alone k (looked_where canonical k page s) ≡ looked_where canonical k page (alone k s)
  unfolding looked
  where-alone true page s =
      looked-by-alone (answer_of k s.arrays s.space page) page s
      ∙ ap (λ (o : Option Answer). looked_by k o page (alone k s)) (sym (answer-alone s.arrays s.space page))
  where-alone false page s = refl

  replied-alone : (answer : Reply) (va : ℕ) (t : RowState)
      → alone k (record t { counts = count_reply answer va t.counts }) ≡ (let u : RowState = record (alone k t) { counts = count_reply answer va (alone k t).counts } in u)
  unfolding count_reply
  replied-alone (reply.Frame frame) va t = refl
  replied-alone reply.NotCanonical va t = refl
  replied-alone reply.Unmapped va t = refl
  replied-alone reply.Denied va t = refl

an_access_needs_its_arrays_alone : AnAccessNeedsItsArraysAlone
unfolding accessed reply_to
an_access_needs_its_arrays_alone row va k s =
    replied-alone k (reply_to row s va k) va (looked_where (is_canonical row.mode va) k (page_of row.mode va) s)
    ∙ ap (λ (t : RowState). let u : RowState = record t { counts = count_reply (reply_to row s va k) va t.counts } in u)
    (where-alone k (is_canonical row.mode va) (page_of row.mode va) s)

pub returns : goal.returns
returns c = an_access_needs_its_arrays_alone
