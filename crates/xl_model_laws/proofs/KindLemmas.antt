-- Arrays that serve two kinds of access alike are looked up alike for both, and those that serve others stay.
use Rattle.xl_model_laws.proofs.Common.{◌&&◌, ◌+◌, ◌∙◌, ◌∷◌, ◌≡◌, [], accessed, AnArrayForOthersStays, Answer, answer_of, answered_by, ap, array_filled, array_hit, arrays_filled, arrays_hit, ArraysForAllTakeNoNoteOfKinds, asked, AStoreLooksUpAsALoad, Bool, cond, count_by, count_fills, count_look, count_reply, count_walk, counted, Counts, false, filled_below, filled_for, fills_array, hits_at, In, inl, inr, is_canonical, is_looked, is_some, Kind, Leaf, leaf_at_page, List, looked, looked_by, looked_where, map, misses_at, nat_le, nat_lt, None, not, one_more_where, Option, page_of, refl, Reply, reply_to, RowState, serves_as, serves_kind, slice_get, slice_index_or, Some, StaysAt, subst, suc, sum_by-cons, sym, takes_leaf, takes_order, TlbArray, touched_or, true, walk_filled, walk_made, where_taken, zero, ℕ}
use Rattle.xl_model.specs.declared.row.Serves.{Serves}
use Rattle.xl_model.specs.declared.address.Kind.TheVariants as kind
use Rattle.xl_model.specs.declared.leaf.Reply.TheVariants as reply
use Rattle.xl_model.specs.declared.row.Serves.TheVariants as serves

-- ---- arrays that serve two kinds alike

ServeAlike : Kind → Kind → List TlbArray → Type 0
ServeAlike k other arrays = (a : TlbArray) → In a arrays → serves_kind k a ≡ serves_kind other a

module _ (p q : TlbArray → Bool) where
  counted-each : (arrays : List TlbArray) (ns : List ℕ) → ((a : TlbArray) → In a arrays → p a ≡ q a) → counted p arrays ns ≡ counted q arrays ns
  counted-each [] ns same = refl
  counted-each (a ∷ arrays) [] same = refl
  counted-each (a ∷ arrays) (n ∷ ns) same =
      ap (λ (b : Bool). one_more_where b n ∷ counted p arrays ns) (same a (inl refl))
      ∙ ap (λ (ms : List ℕ). one_more_where (q a) n ∷ ms) (counted-each arrays ns (λ b i. same b (inr i)))

  count-each : (arrays : List TlbArray) → ((a : TlbArray) → In a arrays → p a ≡ q a) → count_by p arrays ≡ count_by q arrays
  count-each [] same = refl
  count-each (a ∷ arrays) same =
      sum_by-cons (λ x. cond (p x) 1 0) a arrays
      ∙ ap (λ (b : Bool). cond b 1 0 + count_by p arrays) (same a (inl refl))
      ∙ ap (λ (n : ℕ). cond (q a) 1 0 + n) (count-each arrays (λ b i. same b (inr i)))
      ∙ sym (sum_by-cons (λ x. cond (q x) 1 0) a arrays)

module _ (k other : Kind) where
  answer-alike : (arrays : List TlbArray) (space page : ℕ) → ServeAlike k other arrays → answer_of k arrays space page ≡ answer_of other arrays space page
  unfolding ServeAlike
  answer-alike [] space page same = refl
  answer-alike (a ∷ arrays) space page same =
      ap (λ (b : Bool). answered_by (where_taken b (array_hit a space page)) a.spec.level (answer_of k arrays space page)) (same a (inl refl))
      ∙ ap (answered_by (asked other a space page) a.spec.level) (answer-alike arrays space page (λ b i. same b (inr i)))

  hit-alike : (answer : Answer) (space page : ℕ) (arrays : List TlbArray) → ServeAlike k other arrays
      → arrays_hit k answer space page arrays ≡ arrays_hit other answer space page arrays
  unfolding ServeAlike arrays_hit
  hit-alike answer space page [] same = refl
  hit-alike answer space page (a ∷ arrays) same =
      ap (λ (b : Bool). touched_or (where_taken b (array_hit a space page)) space page a arrays
      (cond (b && nat_lt a.spec.level answer.level) (array_filled answer.leaf a) a ∷ arrays_hit k answer space page arrays)) (same a (inl refl))
      ∙ ap (λ (xs : List TlbArray). touched_or (asked other a space page) space page a arrays (filled_below other answer.level answer.leaf a ∷ xs))
      (hit-alike answer space page arrays (λ b i. same b (inr i)))

  filled-alike : (leaf : Leaf) (arrays : List TlbArray) → ServeAlike k other arrays → arrays_filled k leaf arrays ≡ arrays_filled other leaf arrays
  unfolding ServeAlike arrays_filled
  filled-alike leaf [] same = refl
  filled-alike leaf (a ∷ arrays) same =
      ap (λ (b : Bool). cond b (array_filled leaf a) a ∷ map (filled_for k leaf) arrays) (same a (inl refl))
      ∙ ap (λ (xs : List TlbArray). filled_for other leaf a ∷ xs) (filled-alike leaf arrays (λ b i. same b (inr i)))

  is-looked-alike : (answer : Option Answer) (a : TlbArray) → serves_kind k a ≡ serves_kind other a → is_looked k answer a ≡ is_looked other answer a
  is-looked-alike None a same = same
  is-looked-alike (Some answer) a same = ap (λ (b : Bool). b && nat_le a.spec.level answer.level) same

  look-alike : (answer : Option Answer) (space page : ℕ) (arrays : List TlbArray) (c : Counts) → ServeAlike k other arrays
      → count_look k answer space page arrays c ≡ count_look other answer space page arrays c
  unfolding ServeAlike count_look
  look-alike answer space page arrays c same =
      let hits : counted (hits_at k answer space page) arrays c.hits ≡ counted (hits_at other answer space page) arrays c.hits =
      counted-each (hits_at k answer space page) (hits_at other answer space page) arrays c.hits
      (λ a i. ap (λ (b : Bool). b && is_some (array_hit a space page)) (is-looked-alike answer a (same a i))) in
      let misses : counted (misses_at k answer space page) arrays c.misses ≡ counted (misses_at other answer space page) arrays c.misses =
      counted-each (misses_at k answer space page) (misses_at other answer space page) arrays c.misses
      (λ a i. ap (λ (b : Bool). b && not (is_some (array_hit a space page))) (is-looked-alike answer a (same a i))) in
      ap (λ (ns : List ℕ). let d : Counts = record c { hits = ns; misses = counted (misses_at k answer space page) arrays c.misses } in d) hits
      ∙ ap (λ (ns : List ℕ). let d : Counts = record c { hits = counted (hits_at other answer space page) arrays c.hits; misses = ns } in d) misses

  walk-alike : (found : Option Leaf) (s : RowState) → ServeAlike k other s.arrays → walk_filled k found s ≡ walk_filled other found s
  unfolding ServeAlike
  walk-alike None s same = refl
  walk-alike (Some leaf) s same =
      let fills : count_by (takes_leaf k leaf) s.arrays ≡ count_by (takes_leaf other leaf) s.arrays =
      count-each (takes_leaf k leaf) (takes_leaf other leaf) s.arrays (λ a i. ap (λ (b : Bool). b && takes_order a.spec leaf.order) (same a i)) in
      ap (λ (xs : List TlbArray). let t : RowState = record s { arrays = xs; counts = count_fills (count_by (takes_leaf k leaf) s.arrays) s.counts } in t)
      (filled-alike leaf s.arrays same)
      ∙ ap (λ (n : ℕ). let t : RowState = record s { arrays = arrays_filled other leaf s.arrays; counts = count_fills n s.counts } in t) fills

  looked-by-alike : (answer : Option Answer) (page : ℕ) (s : RowState) → ServeAlike k other s.arrays → looked_by k answer page s ≡ looked_by other answer page s
  unfolding ServeAlike
  looked-by-alike (Some answer) page s same =
      let fills : count_by (fills_array k answer.level answer.leaf) s.arrays ≡ count_by (fills_array other answer.level answer.leaf) s.arrays =
      count-each (fills_array k answer.level answer.leaf) (fills_array other answer.level answer.leaf) s.arrays
      (λ a i. ap (λ (b : Bool). b && (nat_lt a.spec.level answer.level && takes_order a.spec answer.leaf.order)) (same a i)) in
      let counts : count_fills (count_by (fills_array k answer.level answer.leaf) s.arrays) (count_look k (Some answer) s.space page s.arrays s.counts)
      ≡ count_fills (count_by (fills_array other answer.level answer.leaf) s.arrays) (count_look other (Some answer) s.space page s.arrays s.counts) =
      ap (λ (n : ℕ). count_fills n (count_look k (Some answer) s.space page s.arrays s.counts)) fills
      ∙ ap (count_fills (count_by (fills_array other answer.level answer.leaf) s.arrays)) (look-alike (Some answer) s.space page s.arrays s.counts same) in
      ap (λ (xs : List TlbArray). let t : RowState = record s {
        arrays = xs;
        counts = count_fills (count_by (fills_array k answer.level answer.leaf) s.arrays) (count_look k (Some answer) s.space page s.arrays s.counts);
      } in t) (hit-alike answer s.space page s.arrays same)
      ∙ ap (λ (c : Counts). let t : RowState = record s { arrays = arrays_hit other answer s.space page s.arrays; counts = c } in t) counts
  looked-by-alike None page s same =
      walk-alike (leaf_at_page s.space page s.table.leaves)
      (walk_made s.space page (record s { counts = count_look k None s.space page s.arrays s.counts })) same
      ∙ ap (λ (c : Counts). walk_filled other (leaf_at_page s.space page s.table.leaves) (walk_made s.space page (record s { counts = c })))
      (look-alike None s.space page s.arrays s.counts same)

  looked-alike : (page : ℕ) (s : RowState) → ServeAlike k other s.arrays → looked k page s ≡ looked other page s
  unfolding looked
  looked-alike page s same =
      ap (λ (o : Option Answer). looked_by k o page s) (answer-alike s.arrays s.space page same)
      ∙ looked-by-alike (answer_of other s.arrays s.space page) page s same

pub arrays_for_all_take_no_note_of_kinds : ArraysForAllTakeNoNoteOfKinds
unfolding ServeAlike
arrays_for_all_take_no_note_of_kinds k other page s all =
    looked-alike k other page s (λ a i. ap (λ (v : Serves). serves_as v k) (all a i) ∙ sym (ap (λ (v : Serves). serves_as v other) (all a i)))

data-alike : (v : Serves) → serves_as v kind.Store ≡ serves_as v kind.Load
data-alike serves.All = refl
data-alike serves.Fetch = refl
data-alike serves.Data = refl

pub a_store_looks_up_as_a_load : AStoreLooksUpAsALoad
unfolding ServeAlike
a_store_looks_up_as_a_load page s = looked-alike kind.Store kind.Load page s (λ a i. data-alike a.spec.serves)

-- ---- an array that serves other kinds

counted-other : (p : TlbArray → Bool) (arrays : List TlbArray) (ns : List ℕ) (place : ℕ) (a : TlbArray) → slice_get arrays place ≡ Some a → p a ≡ false
    → slice_index_or (counted p arrays ns) place 0 ≡ slice_index_or ns place 0
counted-other p [] ns place a at none = refl
counted-other p (x ∷ xs) [] place a at none = refl
counted-other p (x ∷ xs) (n ∷ ns) zero a at none =
    let e : x ≡ a = cc in
    ap (λ (b : Bool). one_more_where b n) (ap p e ∙ none)
counted-other p (x ∷ xs) (n ∷ ns) (suc place) a at none = counted-other p xs ns place a at none

module _ (k : Kind) where
  hit-other : (answer : Answer) (space page : ℕ) (arrays : List TlbArray) (place : ℕ) (a : TlbArray) → slice_get arrays place ≡ Some a
      → serves_kind k a ≡ false → slice_get (arrays_hit k answer space page arrays) place ≡ Some a
  unfolding arrays_hit
  hit-other answer space page [] place a at none = at
  hit-other answer space page (x ∷ xs) zero a at none =
      let e : x ≡ a = cc in
      let others : serves_kind k x ≡ false = ap (λ (z : TlbArray). serves_kind k z) e ∙ none in
      subst (λ (b : Bool). slice_get (touched_or (where_taken b (array_hit x space page)) space page x xs
      (cond (b && nat_lt x.spec.level answer.level) (array_filled answer.leaf x) x ∷ arrays_hit k answer space page xs)) 0 ≡ Some a) (sym others) at
  hit-other answer space page (x ∷ xs) (suc place) a at none = go (asked k x space page) (hit-other answer space page xs place a at none)
    where
      go : (o : Option Leaf) → slice_get (arrays_hit k answer space page xs) place ≡ Some a
          → slice_get (touched_or o space page x xs (filled_below k answer.level answer.leaf x ∷ arrays_hit k answer space page xs)) (suc place) ≡ Some a
      go (Some leaf) next = at
      go None next = next

  filled-other : (leaf : Leaf) (arrays : List TlbArray) (place : ℕ) (a : TlbArray) → slice_get arrays place ≡ Some a
      → serves_kind k a ≡ false → slice_get (map (filled_for k leaf) arrays) place ≡ Some a
  filled-other leaf [] place a at none = at
  filled-other leaf (x ∷ xs) zero a at none =
      let e : x ≡ a = cc in
      let others : serves_kind k x ≡ false = ap (λ (z : TlbArray). serves_kind k z) e ∙ none in
      subst (λ (b : Bool). Some (cond b (array_filled leaf x) x) ≡ Some a) (sym others) at
  filled-other leaf (x ∷ xs) (suc place) a at none = filled-other leaf xs place a at none

  not-looked : (answer : Option Answer) (a : TlbArray) → serves_kind k a ≡ false → is_looked k answer a ≡ false
  not-looked None a none = none
  not-looked (Some answer) a none = ap (λ (b : Bool). b && nat_le a.spec.level answer.level) none

  looked-by-stays : (answer : Option Answer) (page : ℕ) (s : RowState) (place : ℕ) (a : TlbArray) → slice_get s.arrays place ≡ Some a
      → serves_kind k a ≡ false → StaysAt place a s (looked_by k answer page s)
  unfolding count_look count_fills count_walk arrays_filled
  looked-by-stays answer page s place a at none = by answer
    where
      hits : (o : Option Answer) → slice_index_or (counted (hits_at k o s.space page) s.arrays s.counts.hits) place 0 ≡ slice_index_or s.counts.hits place 0
      hits o = counted-other (hits_at k o s.space page) s.arrays s.counts.hits place a at
          (ap (λ (b : Bool). b && is_some (array_hit a s.space page)) (not-looked o a none))

      misses : (o : Option Answer) → slice_index_or (counted (misses_at k o s.space page) s.arrays s.counts.misses) place 0 ≡ slice_index_or s.counts.misses place 0
      misses o = counted-other (misses_at k o s.space page) s.arrays s.counts.misses place a at
          (ap (λ (b : Bool). b && not (is_some (array_hit a s.space page))) (not-looked o a none))

      walked : (found : Option Leaf)
          → StaysAt place a s (walk_filled k found (walk_made s.space page (record s { counts = count_look k None s.space page s.arrays s.counts })))
      walked None = record { array = at; hits = hits None; misses = misses None }
      walked (Some leaf) = record { array = filled-other leaf s.arrays place a at none; hits = hits None; misses = misses None }

      by : (o : Option Answer) → StaysAt place a s (looked_by k o page s)
      by None = walked (leaf_at_page s.space page s.table.leaves)
      by (Some found) = record { array = hit-other found s.space page s.arrays place a at none; hits = hits (Some found); misses = misses (Some found) }

  where-stays : (canonical : Bool) (page : ℕ) (s : RowState) (place : ℕ) (a : TlbArray) → slice_get s.arrays place ≡ Some a
      → serves_kind k a ≡ false → StaysAt place a s (looked_where canonical k page s)
  unfolding looked
  where-stays true page s place a at none = looked-by-stays (answer_of k s.arrays s.space page) page s place a at none
  where-stays false page s place a at none = record { array = at; hits = refl; misses = refl }

replied-hits : (answer : Reply) (va : ℕ) (c : Counts) → ((count_reply answer va c).hits ≡ c.hits) × ((count_reply answer va c).misses ≡ c.misses)
unfolding count_reply
replied-hits (reply.Frame frame) va c = (refl, refl)
replied-hits reply.NotCanonical va c = (refl, refl)
replied-hits reply.Unmapped va c = (refl, refl)
replied-hits reply.Denied va c = (refl, refl)

pub an_array_for_others_stays : AnArrayForOthersStays
unfolding accessed
an_array_for_others_stays row va k s place a at none =
    let after : RowState = looked_where (is_canonical row.mode va) k (page_of row.mode va) s in
    let stays : StaysAt place a s after = where-stays k (is_canonical row.mode va) (page_of row.mode va) s place a at none in
    let replied = replied-hits (reply_to row s va k) va after.counts in
    record {
      array = stays.array;
      hits = ap (λ (ns : List ℕ). slice_index_or ns place 0) replied.0 ∙ stays.hits;
      misses = ap (λ (ns : List ℕ). slice_index_or ns place 0) replied.1 ∙ stays.misses;
    }
