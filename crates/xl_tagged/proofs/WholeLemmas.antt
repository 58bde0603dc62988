-- A table of chains as a whole, through each of its calls.
use Rattle.xl_tagged.proofs.Common.{◌%◌, ◌*◌, ◌+◌, ◌/◌, ◌<◌, ◌==◌, ◌^◌, ◌||◌, ◌∙◌, ◌≡◌, ◌≤◌, [], aligned-frame, any-false, any_smaller, ap, AreCounted, AreHeld, AreIn, AreLess, AreMore, arith, before, bit_if, Bool, both, caches_fenced, chained, chains_reads, ChainState, Change, covers, eq-eqb, eqb-true, false, fence_answer, filter-In, filter-passes, find, first_found, Form, found_from, found_in, given_word, group_of, has_tag, HaveRoom, Held, held_leaves, In, In-filter, inl, inr, Insert, is_leaf, is_some, IsAligned, IsAt, IsBlock, IsChange, IsFence, IsFit, IsIn, IsLeafFor, IsLess, IsNamed, IsPage, IsPut, IsSameTable, IsSet, IsTagged, IsTaken, IsWalk, IsWritten, Leaf, leaf_at_page, leaf_key, leaf_named, leaf_read, leaf_tag, leaf_word, length, length-map, level_of, List, loaded_more, MadeWordsReadBack, meets_any, meets_block, named-first, named-order, named-space, nat_tests, no_moves, None, NoneLarge, not, Ok, only_used_tags, Option, Order, orders_tried, pages_of, Perm, plus, Protect, refl, Refused, Remove, Result, slice_index, slot_of, smaller_word, SmallerState, Some, subst, sym, table_fenced, table_in, table_walked, TableState, tag_of, tags_of, true, values_under, walk_answer, walk_loads, walked, with-In, with_leaf, with_tag, without-In, without_leaf, word_at, Work, work_of, ℕ}
use Rattle.xl_chain.specs.declared.shape.ChainShape.{ChainShape}
use Rattle.xl_model.specs.declared.event.Reach.{Reach}
use Rattle.xl_model.specs.declared.work.Walk.{Walk}
use Rattle.xl_model_lemmas.proofs.MappingLemmas.{named-In, named-is}
use Rattle.xl_tagged.proofs.ChainLemmas.{values-none}
use Rattle.xl_tagged.proofs.CountLemmas.{counted-given, counted-less, counted-none, counted-with, has-room, is-in}
use Rattle.xl_tagged.proofs.FindLemmas.{at-page, found-from, from-is, from-only, loads-are, meets-is, none-other, page-found}
use Rattle.xl_tagged.proofs.HeldLemmas.{IsTagWith, IsTagWithout, IsWithout, new-keys, put-held, take-held, with-given, with-new, without-old}
use Rattle.xl_tagged.proofs.PlaceLemmas.{at-one, place-key, slot-low}
use Rattle.xl_tagged.proofs.SlotLemmas.{known-leaves, leaf-some, read-leaf}
use Rattle.xl_tagged.proofs.StateLemmas.{at_to, done, full-up, inserted, is-move, IsMove, IsMoving, no_table, protected, removed, tag-with, used-all, used-but, used-with}
use Rattle.xl_model.specs.declared.address.Order.TheVariants as order

pub named-tag : (group s f : ℕ) (o : Order) (x : Leaf) → is_leaf s f o x ≡ true → leaf_tag group x ≡ tag_of group s o f
named-tag group s f o x h =
    ap (λ a. tag_of group a x.order x.first) (named-space s f o x h) ∙ ap (λ p. tag_of group s p x.first) (named-order s f o x h) ∙ ap (tag_of group s o) (named-first s f o x h)

-- what a change leaves of the chains and counts, and its answer
pub record IsStep (f : Form) (c : Change) (old new : ChainState) (t : SmallerState) (r : Result Work Refused) : Type 0 where
  pub whole : IsTagged f new t
  pub change : IsChange c (table_in f old) r (table_in f new)

-- the answer to it, as code makes it
pub answered : (f : Form) (c : Change) (old new : ChainState) (t : SmallerState) (work : Work) → IsStep f c old new t done → work ≡ work_of no_moves 0
    → IsChange c (table_in f old) (Ok work) (table_in f new)
answered f c old new t work is none = subst (λ r. IsChange c (table_in f old) r (table_in f new)) (ap Ok (sym none)) is.change

table-is : (f : Form) (old new : ChainState) (ys : List Leaf) → held_leaves f new ≡ ys → new.shape ≡ old.shape → new.loads ≡ old.loads
    → chained f old.shape.buckets old.shape.entries old.loads ys (tags_of new.held) ≡ table_in f new
table-is f old new ys leaves shape loads =
    ap (λ zs. chained f old.shape.buckets old.shape.entries old.loads zs (tags_of new.held)) (sym leaves)
    ∙ ap (λ l. chained f old.shape.buckets old.shape.entries l (held_leaves f new) (tags_of new.held)) (sym loads)
    ∙ ap (λ (s : ChainShape). chained f s.buckets s.entries new.loads (held_leaves f new) (tags_of new.held)) (sym shape)

whole-of : MadeWordsReadBack → (f : Form) (old new : ChainState) (s t : SmallerState) (ys : List Leaf) → IsTagged f old s → AreHeld f (values_under new.held) (tags_of new.held) ys
    → IsSameTable f old new → AreCounted ys old.shape.entries t → IsTagged f new t
whole-of back f old new s t ys w h rest counted =
    let leaves : held_leaves f new ≡ ys = known-leaves back f (values_under new.held) (tags_of new.held) ys h in
    let entries : new.shape.entries ≡ old.shape.entries = ap (λ (z : ChainShape). z.entries) rest.shape in
    record {
      held = subst (λ zs. AreHeld f (values_under new.held) (tags_of new.held) zs) (sym leaves) h;
      sized = rest.sized;
      within = (let a = rest.within in omega arith);
      few = (let a = w.few in omega arith);
      counted = subst (λ zs. AreCounted zs new.shape.entries t) (sym leaves) (subst (λ n. AreCounted ys n t) (sym entries) counted);
    }

pub low : (o : Order) (n m : ℕ) → n + pages_of o ≤ m → n < m
low order.K4 n m h = omega arith
low order.M2 n m h = omega arith
low order.G1 n m h = omega arith

pub block-low : (f : Form) (c : ChainState) (space first : ℕ) (o : Order) → IsBlock (table_in f c).shape space first o → first < 2 ^ 45
block-low f c space first o b = low o first (2 ^ 45) b.pages_in

pub fit-of : (f : Form) (c : ChainState) (x : Leaf) → IsLeafFor (table_in f c).shape x → IsFit x
fit-of f c x v = record {
  aligned = record { placed = record { space_in = v.block.space_in; page_in = low x.order x.first (2 ^ 45) v.block.pages_in }; aligned = v.block.aligned };
  frame_in = low x.order x.frame (2 ^ 44) v.frames_in;
  frame_aligned = aligned-frame x.order x.frame v.frames_aligned.0 v.frames_aligned.1;
}

free-of : (x : Leaf) (xs : List Leaf) → meets_any x.space x.first x.order xs ≡ false → (y : Leaf) → In y xs → meets_block x.space x.first x.order y ≡ false
unfolding meets_any
free-of x xs free y i = any-false (meets_block x.space x.first x.order) y xs free i

tags-length : (hs : List Held) → length (tags_of hs) ≡ length hs
tags-length hs = length-map hs (λ (h : Held). h.tag)

-- a leaf that comes
module _ (back : MadeWordsReadBack) (f : Form) (old new : ChainState) (s : SmallerState) (x : Leaf) (w : IsTagged f old s) (valid : IsLeafFor (table_in f old).shape x)
    (free : meets_any x.space x.first x.order (table_in f old).leaves ≡ false) (put : IsPut f (leaf_tag (group_of f) x) (slot_of f x.order x.first) (leaf_word x.frame x.perm) old new) where
  tags-are : IsTagWith (leaf_tag (group_of f) x) (tags_of old.held) (tags_of new.held)
  tags-are = subst (λ ts. IsTagWith (leaf_tag (group_of f) x) (tags_of old.held) ts) (sym put.tags) (tag-with old.shape.buckets (leaf_tag (group_of f) x) (tags_of old.held))

  pub insert-room : HaveRoom x s
  insert-room =
      let a : length (tags_of new.held) ≤ old.shape.entries = (let p = tags-length new.held in let q = put.rest.within in omega arith) in
      let b : length (tags_of old.held) ≤ 2 ^ 20 = (let p = tags-length old.held in let q = w.within in let r = w.few in omega arith) in
      let ts = tags-are in
      record {
        middle = has-room back f order.M2 (values_under old.held) (tags_of old.held) (tags_of new.held) x (held_leaves f old) old.shape.entries s.middle w.held w.counted.middle_is (fit-of f old x valid) ts.stays ts.here a b;
        large = has-room back f order.G1 (values_under old.held) (tags_of old.held) (tags_of new.held) x (held_leaves f old) old.shape.entries s.large w.held w.counted.large_is (fit-of f old x valid) ts.stays ts.here a b;
      }

  pub insert-step : (t : SmallerState) → AreMore x s t → IsStep f (Insert x) old new t done
  insert-step t more =
      let xs : List Leaf = held_leaves f old in
      let ys : List Leaf = with_leaf x xs in
      let fit : IsFit x = fit-of f old x valid in
      let alone : (y : Leaf) → In y xs → meets_block x.space x.first x.order y ≡ false = free-of x xs free in
      let keys : (z : Leaf) → In z xs → leaf_key z ≡ leaf_key x → ⊥ = new-keys f (values_under old.held) (tags_of old.held) x xs w.held fit alone in
      let h : AreHeld f (values_under new.held) (tags_of new.held) ys =
      put-held f (values_under old.held) (values_under new.held) (tags_of old.held) (tags_of new.held) x xs ys w.held fit put.written tags-are (with-new f (values_under old.held) (tags_of old.held) x xs w.held fit alone) in
      let leaves : held_leaves f new ≡ ys = known-leaves back f (values_under new.held) (tags_of new.held) ys h in
      let b : ℕ = old.shape.buckets in
      let e : ℕ = old.shape.entries in
      let room : length (with_tag b (leaf_tag (group_of f) x) (tags_of old.held)) ≤ e = (let p = tags-length new.held in let q = put.rest.within in
      let r : length (tags_of new.held) ≡ length (with_tag b (leaf_tag (group_of f) x) (tags_of old.held)) = ap (λ (ts : List ℕ). length ts) put.tags in omega arith) in
      let is : IsChange (Insert x) (table_in f old) done (chained f b e old.loads ys (with_tag b (leaf_tag (group_of f) x) (tags_of old.held))) =
      inserted f b e old.loads x xs (tags_of old.held) room (used-with (group_of f) b x xs (tags_of old.held) keys w.held.used) in
      record {
        whole = whole-of back f old new s t ys w h put.rest (record {
          middle_is = counted-with order.M2 x xs e s.middle t.middle keys w.counted.middle_is more.middle;
          large_is = counted-with order.G1 x xs e s.large t.large keys w.counted.large_is more.large;
          small = λ h z i. elim (with-In z x xs i) [
            | inl same ↦ ap (λ (q : Leaf). q.order) same ∙ (more.small h).1
            | inr j ↦ w.counted.small (more.small h).0 z j
          ];
        });
        change = subst (λ q. IsChange (Insert x) (table_in f old) done q) (ap (chained f b e old.loads ys) (sym put.tags) ∙ table-is f old new ys leaves put.rest.shape put.rest.loads) is;
      }

-- the slot of a leaf that comes is empty
pub new-slot : (f : Form) (c : ChainState) (s : SmallerState) (x : Leaf) → IsTagged f c s → IsLeafFor (table_in f c).shape x → meets_any x.space x.first x.order (table_in f c).leaves ≡ false
    → (i : ℕ) → i ≡ slot_of f x.order x.first → word_at f (values_under c.held) (leaf_tag (group_of f) x) i ≡ 0
new-slot f c s x w valid free i at =
    let fit : IsFit x = fit-of f c x valid in
    elim (w.held.slot (leaf_tag (group_of f) x) i (subst (λ n. n < group_of f) (sym at) (slot-low f (x.first / pages_of x.order)))) [
      | inl e ↦ e
      | inr r ↦ absurd (new-keys f (values_under c.held) (tags_of c.held) x (held_leaves f c) w.held fit (free-of x (held_leaves f c) free) r.0 r.1
          (place-key r.0 x (at-one f (leaf_tag (group_of f) x) i r.0 x (w.held.fit r.0 r.1).aligned fit.aligned r.2 (record { tag_is = refl; slot_is = sym at }))))
    ]

-- there is no room for it
pub insert-refused : (f : Form) (c : ChainState) (x : Leaf) → has_tag (tags_of c.held) (leaf_tag (group_of f) x) ≡ false → length c.held ≡ c.shape.entries
    → IsChange (Insert x) (table_in f c) no_table (table_in f c)
insert-refused f c x absent full =
    full-up f c.shape.buckets c.shape.entries c.loads x (held_leaves f c) (tags_of c.held) absent (tags-length c.held ∙ full)

-- the leaf of a name
pub record IsNamedLeaf (f : Form) (space first : ℕ) (o : Order) (c : ChainState) : Type 0 where
  pub leaf : Leaf
  pub named : leaf_named space first o (held_leaves f c) ≡ Some leaf
  pub there : In leaf (held_leaves f c)
  pub is : is_leaf space first o leaf ≡ true
  pub at : IsAt f (tag_of (group_of f) space o first) (slot_of f o first) leaf

pub named-leaf : (f : Form) (space first : ℕ) (o : Order) (c : ChainState) → IsNamed space first o (table_in f c).leaves → IsNamedLeaf f space first o c
named-leaf f space first o c h = go (leaf_named space first o (held_leaves f c)) refl
  where
    go : (q : Option Leaf) → leaf_named space first o (held_leaves f c) ≡ q → IsNamedLeaf f space first o c
    go None e = let k : is_some (leaf_named space first o (held_leaves f c)) ≡ false = ap is_some e in absurd (both _ h k)
    go (Some x) e =
        let is : is_leaf space first o x ≡ true = named-is space first o x (held_leaves f c) e in
        record {
          leaf = x;
          named = e;
          there = named-In space first o x (held_leaves f c) e;
          is = is;
          at = record {
            tag_is = named-tag (group_of f) space first o x is;
            slot_is = ap (λ p. slot_of f p x.first) (named-order space first o x is) ∙ ap (slot_of f o) (named-first space first o x is);
          };
        }

-- its space and page
pub record IsLow (space first : ℕ) : Type 0 where
  pub space_in : space < 64
  pub page_in : first < 2 ^ 45

pub named-low : (f : Form) (space first : ℕ) (o : Order) (c : ChainState) (s : SmallerState) → IsTagged f c s → IsNamedLeaf f space first o c → IsLow space first
named-low f space first o c s w n =
    let p = (w.held.fit n.leaf n.there).aligned.placed in
    record { space_in = subst (λ m. m < 64) (named-space space first o n.leaf n.is) p.space_in; page_in = subst (λ m. m < 2 ^ 45) (named-first space first o n.leaf n.is) p.page_in }

-- its word
pub named-word : (f : Form) (space first : ℕ) (o : Order) (c : ChainState) (s : SmallerState) → IsTagged f c s → (n : IsNamedLeaf f space first o c)
    → word_at f (values_under c.held) (tag_of (group_of f) space o first) (slot_of f o first) ≡ leaf_word n.leaf.frame n.leaf.perm
named-word f space first o c s w n =
    ap (λ t. word_at f (values_under c.held) t (slot_of f o first)) (sym n.at.tag_is)
    ∙ ap (word_at f (values_under c.held) (leaf_tag (group_of f) n.leaf)) (sym n.at.slot_is) ∙ w.held.word n.leaf n.there

pub named-found : MadeWordsReadBack → (f : Form) (space first : ℕ) (o : Order) (c : ChainState) (s : SmallerState) → IsTagged f c s → (n : IsNamedLeaf f space first o c)
    → found_in f space first (values_under c.held) o ≡ Some n.leaf
named-found back f space first o c s w n =
    let x : Leaf = n.leaf in
    ap (leaf_read space o (first / pages_of o)) (named-word f space first o c s w n)
    ∙ ap (λ m. leaf_read m o (first / pages_of o) (leaf_word x.frame x.perm)) (sym (named-space space first o x n.is))
    ∙ ap (λ m. leaf_read x.space o (m / pages_of o) (leaf_word x.frame x.perm)) (sym (named-first space first o x n.is))
    ∙ ap (λ p. leaf_read x.space p (x.first / pages_of p) (leaf_word x.frame x.perm)) (sym (named-order space first o x n.is))
    ∙ read-leaf back x (w.held.fit x n.there)

pub bit-low : (p : Bool) (m : ℕ) → bit_if p m ≤ m
bit-low true m = omega arith
bit-low false m = omega arith

pub frame-back : (frame : ℕ) (p : Perm) → frame < 2 ^ 44 → leaf_word frame p / 1024 % 2 ^ 44 ≡ frame
unfolding leaf_word
frame-back frame p h =
    let a = bit-low p.r 2 in
    let b = bit-low p.w 4 in
    let c = bit-low p.x 8 in
    let d = bit-low p.u 16 in
    omega arith

-- a leaf that goes
module _ (back : MadeWordsReadBack) (f : Form) (old : ChainState) (s : SmallerState) (space first : ℕ) (o : Order) (w : IsTagged f old s) (n : IsNamedLeaf f space first o old) where
  same-name : (P : ℕ → ℕ → Order → Type 0) → P n.leaf.space n.leaf.first n.leaf.order → P space first o
  same-name P p =
      subst (λ q. P space first q) (named-order space first o n.leaf n.is)
      (subst (λ q. P space q n.leaf.order) (named-first space first o n.leaf n.is) (subst (λ q. P q n.leaf.first n.leaf.order) (named-space space first o n.leaf n.is) p))

  name-same : (P : ℕ → ℕ → Order → Type 0) → P space first o → P n.leaf.space n.leaf.first n.leaf.order
  name-same P p =
      subst (λ q. P n.leaf.space n.leaf.first q) (sym (named-order space first o n.leaf n.is))
      (subst (λ q. P n.leaf.space q o) (sym (named-first space first o n.leaf n.is)) (subst (λ q. P q first o) (sym (named-space space first o n.leaf n.is)) p))

  pub remove-in : AreIn space first o s
  remove-in =
      let x : Leaf = n.leaf in
      let a = (w.held.fit x n.there).aligned in
      record {
        middle = same-name (λ sp fi q. IsIn order.M2 sp fi q s.middle) (is-in order.M2 x (held_leaves f old) old.shape.entries s.middle w.held.sorted n.there a w.counted.middle_is);
        large = same-name (λ sp fi q. IsIn order.G1 sp fi q s.large) (is-in order.G1 x (held_leaves f old) old.shape.entries s.large w.held.sorted n.there a w.counted.large_is);
      }

  left-tags : (new : ChainState) → IsTaken f (tag_of (group_of f) space o first) (slot_of f o first) old new
      → IsTagWithout f (values_under new.held) (tag_of (group_of f) space o first) (tags_of old.held) (tags_of new.held)
  left-tags new k = elim k.tags [
    | inl a ↦ subst (λ ts. IsTagWithout f (values_under new.held) (tag_of (group_of f) space o first) (tags_of old.held) ts) (sym a.tags) (record {
      out = λ t i. i;
      stays = λ t i other. i;
      used = λ i. (a.slot, a.slot_in, a.used);
      kept = λ i l some j. j;
    })
    | inr b ↦ subst (λ ts. IsTagWithout f (values_under new.held) (tag_of (group_of f) space o first) (tags_of old.held) ts) (sym b.tags) (record {
      out = λ t i. filter-In (λ u. not (u == tag_of (group_of f) space o first)) t (tags_of old.held) i;
      stays = λ t i other. In-filter (λ u. not (u == tag_of (group_of f) space o first)) t (tags_of old.held) i (differs t (tag_of (group_of f) space o first) other);
      used = λ i. absurd (never (tag_of (group_of f) space o first) (filter-passes (λ u. not (u == tag_of (group_of f) space o first)) (tag_of (group_of f) space o first) (tags_of old.held) i));
      kept = λ i l some j. absurd (some (b.unused i l));
    })
  ]
    where
      differs : (t u : ℕ) → (t ≡ u → ⊥) → not (t == u) ≡ true
      differs t u other = elim (t == u) as (λ b. (t == u) ≡ b → not b ≡ true) [ true ↦ λ e. absurd (other (eqb-true t u e)) | false ↦ λ e. refl ] refl

      never : (t : ℕ) → not (t == t) ≡ true → ⊥
      never t h = let e : (t == t) ≡ true = eq-eqb t t refl in grind (arith, nat_tests)

  pub remove-step : (new : ChainState) (t : SmallerState) → IsTaken f (tag_of (group_of f) space o first) (slot_of f o first) old new → AreLess space first o s t
      → IsStep f (Remove space first o) old new t done
  remove-step new t k less =
      let x : Leaf = n.leaf in
      let tag : ℕ = tag_of (group_of f) space o first in
      let xs : List Leaf = held_leaves f old in
      let ys : List Leaf = without_leaf x.space x.first xs in
      let ts : IsTagWithout f (values_under new.held) tag (tags_of old.held) (tags_of new.held) = left-tags new k in
      let l : IsWithout f tag (slot_of f o first) xs ys =
      subst (λ q. IsWithout f q (slot_of f o first) xs ys) n.at.tag_is (subst (λ q. IsWithout f (leaf_tag (group_of f) x) q xs ys) n.at.slot_is (without-old f (values_under old.held) (tags_of old.held) x xs w.held n.there)) in
      let h : AreHeld f (values_under new.held) (tags_of new.held) ys =
      take-held f (values_under old.held) (values_under new.held) (tags_of old.held) (tags_of new.held) tag (slot_of f o first) xs ys w.held (λ z i. leaf-some back z (w.held.fit z i)) k.written ts l in
      let leaves : held_leaves f new ≡ ys = known-leaves back f (values_under new.held) (tags_of new.held) ys h in
      let b : ℕ = old.shape.buckets in
      let e : ℕ = old.shape.entries in
      let tags : only_used_tags (group_of f) ys (tags_of old.held) ≡ tags_of new.held = (elim k.tags [
        | inl a ↦ used-all (group_of f) ys (tags_of old.held) (λ u i. h.used u (subst (λ us. In u us) (sym a.tags) i)) ∙ sym a.tags
        | inr a ↦ used-but (group_of f) tag ys (tags_of old.held) (λ u i other. h.used u (ts.stays u i other))
            (λ z i d. let r = ts.used (subst (λ u. In u (tags_of new.held)) d (h.tagged z i)) in r.2 (a.unused r.0 r.1)) ∙ sym a.tags
      ]) in
      let is : IsChange (Remove space first o) (table_in f old) done (chained f b e old.loads ys (tags_of new.held)) = removed f b e old.loads space first o x xs (tags_of old.held) (tags_of new.held) n.named tags in
      record {
        whole = whole-of back f old new s t ys w h k.rest (record {
          middle_is = counted-less order.M2 x xs e s.middle t.middle w.held.sorted n.there w.counted.middle_is (name-same (λ sp fi q. IsLess order.M2 sp fi q s.middle t.middle) less.middle);
          large_is = counted-less order.G1 x xs e s.large t.large w.held.sorted n.there w.counted.large_is (name-same (λ sp fi q. IsLess order.G1 sp fi q s.large t.large) less.large);
          small = λ h z i. w.counted.small (sym less.small ∙ h) z (without-In z x.space x.first xs i);
        });
        change = subst (λ q. IsChange (Remove space first o) (table_in f old) done q) (table-is f old new ys leaves k.rest.shape k.rest.loads) is;
      }

  -- a leaf with another permission
  pub protect-step : (perm : Perm) (new : ChainState) → IsSet f (tag_of (group_of f) space o first) (slot_of f o first)
      (given_word perm (word_at f (values_under old.held) (tag_of (group_of f) space o first) (slot_of f o first))) old new → IsStep f (Protect space first o perm) old new s done
  protect-step perm new k =
      let x : Leaf = n.leaf in
      let y : Leaf = record x { perm = perm } in
      let xs : List Leaf = held_leaves f old in
      let ys : List Leaf = with_leaf y (without_leaf x.space x.first xs) in
      let fx : IsFit x = w.held.fit x n.there in
      let fit : IsFit y = record { aligned = record { placed = record { space_in = fx.aligned.placed.space_in; page_in = fx.aligned.placed.page_in }; aligned = fx.aligned.aligned }; frame_in = fx.frame_in; frame_aligned = fx.frame_aligned } in
      let word : given_word perm (word_at f (values_under old.held) (tag_of (group_of f) space o first) (slot_of f o first)) ≡ leaf_word y.frame y.perm =
      ap (given_word perm) (named-word f space first o old s w n) ∙ ap (λ m. leaf_word m perm) (frame-back x.frame x.perm fx.frame_in) in
      let written : IsWritten f (values_under old.held) (values_under new.held) (leaf_tag (group_of f) y) (slot_of f y.order y.first) (leaf_word y.frame y.perm) =
      subst (λ q. IsWritten f (values_under old.held) (values_under new.held) q (slot_of f y.order y.first) (leaf_word y.frame y.perm)) (sym n.at.tag_is)
      (subst (λ q. IsWritten f (values_under old.held) (values_under new.held) (tag_of (group_of f) space o first) q (leaf_word y.frame y.perm)) (sym n.at.slot_is)
      (subst (λ q. IsWritten f (values_under old.held) (values_under new.held) (tag_of (group_of f) space o first) (slot_of f o first) q) word k.written)) in
      let same : (u : ℕ) → In u (tags_of old.held) → In u (tags_of new.held) = (λ u i. subst (λ us. In u us) (sym k.tags) i) in
      let tags : IsTagWith (leaf_tag (group_of f) y) (tags_of old.held) (tags_of new.held) = record {
        split = λ u i. inr (subst (λ us. In u us) k.tags i);
        here = same (leaf_tag (group_of f) y) (w.held.tagged x n.there);
        stays = same;
      } in
      let h : AreHeld f (values_under new.held) (tags_of new.held) ys =
      put-held f (values_under old.held) (values_under new.held) (tags_of old.held) (tags_of new.held) y xs ys w.held fit written tags (with-given f (values_under old.held) (tags_of old.held) perm x xs w.held n.there) in
      let leaves : held_leaves f new ≡ ys = known-leaves back f (values_under new.held) (tags_of new.held) ys h in
      let b : ℕ = old.shape.buckets in
      let e : ℕ = old.shape.entries in
      let used : only_used_tags (group_of f) ys (tags_of old.held) ≡ tags_of new.held = used-all (group_of f) ys (tags_of old.held) (λ u i. h.used u (same u i)) ∙ sym k.tags in
      let is : IsChange (Protect space first o perm) (table_in f old) done (chained f b e old.loads ys (tags_of new.held)) = protected f b e old.loads space first o perm x xs (tags_of old.held) (tags_of new.held) n.named used in
      record {
        whole = whole-of back f old new s s ys w h k.rest (record {
          middle_is = counted-given order.M2 perm x xs e s.middle w.held.sorted n.there w.counted.middle_is;
          large_is = counted-given order.G1 perm x xs e s.large w.held.sorted n.there w.counted.large_is;
          small = λ h z i. elim (with-In z y (without_leaf x.space x.first xs) i) [
            | inl same ↦ ap (λ (q : Leaf). q.order) same ∙ w.counted.small h x n.there
            | inr j ↦ w.counted.small h z (without-In z x.space x.first xs j)
          ];
        });
        change = subst (λ q. IsChange (Protect space first o perm) (table_in f old) done q) (table-is f old new ys leaves k.rest.shape k.rest.loads) is;
      }

-- A leaf that moves: it is there, and its new place is free.
pub record CanMove (f : Form) (space first to : ℕ) (o : Order) (old : Leaf) (c : ChainState) : Type 0 where
  pub valid : IsLeafFor (table_in f c).shape (at_to to old)
  pub free : meets_any old.space to old.order (table_in f c).leaves ≡ false
  pub move : (r : Result Work Refused) (between : TableState) → IsChange (Insert (at_to to old)) (table_in f c) r between → IsMove space first to o (table_in f c) r between

pub frame-fits : (o : Order) (frame : ℕ) → frame < 2 ^ 44 → frame % 2 ^ (9 * level_of o) ≡ 0 → (frame + pages_of o ≤ 2 ^ 44) × ((e : ℕ) × (frame ≡ e * pages_of o))
frame-fits order.K4 frame h m = (omega arith, (frame, omega arith))
frame-fits order.M2 frame h m = (omega arith, (frame / 512, omega arith))
frame-fits order.G1 frame h m = (omega arith, (frame / 262144, omega arith))

pub can-move : (f : Form) (space first to : ℕ) (o : Order) (c : ChainState) (s : SmallerState) → IsTagged f c s → (n : IsNamedLeaf f space first o c)
    → IsBlock (table_in f c).shape space to o → meets_any space to o (table_in f c).leaves ≡ false → CanMove f space first to o n.leaf c
can-move f space first to o c s w n block free =
    let x : Leaf = n.leaf in
    let xs : List Leaf = held_leaves f c in
    let B : ℕ → Order → Type 0 = λ q p. IsBlock (table_in f c).shape q to p in
    let F : ℕ → Order → Type 0 = λ q p. meets_any q to p xs ≡ false in
    let here : B x.space x.order = subst (B x.space) (sym (named-order space first o x n.is)) (subst (λ q. B q o) (sym (named-space space first o x n.is)) block) in
    let apart : F x.space x.order = subst (F x.space) (sym (named-order space first o x n.is)) (subst (λ q. F q o) (sym (named-space space first o x n.is)) free) in
    let fx : IsFit x = w.held.fit x n.there in
    let frame = frame-fits x.order x.frame fx.frame_in fx.frame_aligned in
    let valid : IsLeafFor (table_in f c).shape (at_to to x) = record { block = here; frames_in = frame.0; frames_aligned = frame.1 } in
    let fit : IsFit (at_to to x) = fit-of f c (at_to to x) valid in
    let moving : IsMoving (group_of f) space first to o x xs (tags_of c.held) = record {
      sorted = w.held.sorted;
      named = n.named;
      there = n.there;
      is = n.is;
      new = new-keys f (values_under c.held) (tags_of c.held) (at_to to x) xs w.held fit (free-of (at_to to x) xs apart);
      used = w.held.used;
    } in
    record { valid = valid; free = apart; move = λ r between a. is-move f c.shape.buckets c.shape.entries c.loads space first to o x xs (tags_of c.held) moving r between a }

-- a walk
pub walk-step : MadeWordsReadBack → (f : Form) (space page : ℕ) (old new : ChainState) (s : SmallerState) (found : Option Leaf) → IsTagged f old s → IsPage (table_in f old).shape space page
    → found ≡ first_found f space page (values_under old.held) → new ≡ loaded_more (walk_loads f space page old) old
    → IsWalk space page (table_in f old) (record { leaf = found; cache_hits = 0 }) (table_in f new) × IsTagged f new s
unfolding walk_answer table_walked walked
walk-step back f space page old new s found w p h after =
    let xs : List Leaf = held_leaves f old in
    let here : found ≡ leaf_at_page space page xs = h ∙ at-page back f space page (values_under old.held) (tags_of old.held) xs p.space_in p.page_in w.held in
    let reads : walk_loads f space page old ≡ chains_reads (group_of f) old.shape.buckets (tags_of old.held) space page (orders_tried (leaf_at_page space page xs)) =
    loads-are back f space page (values_under old.held) (tags_of old.held) xs p.space_in p.page_in w.held old.shape.buckets in (
      record {
        answer = ap (λ (q : Option Leaf). let r : Walk = record { leaf = q; cache_hits = 0 } in r) here;
        after = ap (table_in f) after ∙ ap (λ m. chained f old.shape.buckets old.shape.entries (plus old.loads m) xs (tags_of old.held)) reads;
      },
      subst (λ c. IsTagged f c s) (sym after) (record { held = w.held; sized = w.sized; within = w.within; few = w.few; counted = w.counted }),
    )

-- a fence finds no caches
pub fence-step : (f : Form) (to : Reach) (c : ChainState) → IsFence to (table_in f c) 0 (table_in f c)
unfolding fence_answer table_fenced caches_fenced
fence-step f to c = record { answer = refl; after = refl }

-- the leaf of a page
pub leaf-step : MadeWordsReadBack → (f : Form) (space page : ℕ) (c : ChainState) (s : SmallerState) → IsTagged f c s → space < 64 → page < 2 ^ 45
    → first_found f space page (values_under c.held) ≡ leaf_at_page space page (table_in f c).leaves
leaf-step back f space page c s w a b = at-page back f space page (values_under c.held) (tags_of c.held) (held_leaves f c) a b w.held

-- where only leaves of 4 KiB were ever counted, no larger leaf is found
pub none-large : MadeWordsReadBack → (f : Form) (space page : ℕ) (c : ChainState) (s : SmallerState) → IsTagged f c s → space < 64 → page < 2 ^ 45
    → NoneLarge f space page (values_under c.held) s.only_small
none-large back f space page c s w a b = λ h. (
  none-other back f space page (values_under c.held) (tags_of c.held) (held_leaves f c) a b w.held (w.counted.small h) order.M2 refl,
  none-other back f space page (values_under c.held) (tags_of c.held) (held_leaves f c) a b w.held (w.counted.small h) order.G1 refl,
)

-- whether a block overlaps a leaf
pub meets-step : MadeWordsReadBack → (f : Form) (space first : ℕ) (o : Order) (c : ChainState) (s : SmallerState) → IsTagged f c s → IsBlock (table_in f c).shape space first o
    → (any_smaller o space first s || is_some (found_from f space first (values_under c.held) o)) ≡ meets_any space first o (table_in f c).leaves
meets-step back f space first o c s w b =
    let xs : List Leaf = held_leaves f c in
    let page : first < 2 ^ 45 = block-low f c space first o b in
    let aligned : (x : Leaf) → In x xs → IsAligned x = (λ x i. (w.held.fit x i).aligned) in
    ap (λ q. any_smaller o space first s || is_some q) (found-from back f space first (values_under c.held) (tags_of c.held) xs b.space_in page w.held o)
    ∙ ap (λ t. t || is_some (from-only o (find (covers space first) xs))) (counts o)
    ∙ from-is o space first b.aligned.0 xs b.space_in page b.aligned.1 aligned
    ∙ ap (λ q. is_some q || not (smaller_word o (space * 2 ^ 45 + first / pages_of o) xs == 0)) (sym (page-found space first xs))
    ∙ meets-is o space first b.aligned.0 xs b.space_in page b.aligned.1 aligned
  where
    counts : (p : Order) → any_smaller p space first s ≡ not (smaller_word p (space * 2 ^ 45 + first / pages_of p) (held_leaves f c) == 0)
    counts order.K4 = refl
    counts order.M2 = ap (λ n. not (n == 0)) (w.counted.middle_is.tied (space * 2 ^ 45 + first / 512))
    counts order.G1 = ap (λ n. not (n == 0)) (w.counted.large_is.tied (space * 2 ^ 45 + first / 262144))

-- an empty table
nothing-held : (f : Form) (values : ℕ → List ℕ) → ((t : ℕ) → values t ≡ []) → AreHeld f values [] []
nothing-held f values none = record {
  sorted = tt;
  fit = λ x i. absurd i;
  word = λ x i. absurd i;
  tagged = λ x i. absurd i;
  slot = λ t i h. inl (ap (λ (vs : List ℕ). slice_index vs (before f + i)) (none t));
  used = λ t i. absurd i;
  apart = λ x y i. absurd i;
}

pub open-step : MadeWordsReadBack → (f : Form) (c : ChainState) (s : SmallerState) → c.held ≡ [] → c.loads ≡ 0 → c.shape.entries ≤ 2 ^ 20 → s.middle.counts ≡ [] → s.large.counts ≡ []
    → s.middle.room ≡ c.shape.entries → s.large.room ≡ c.shape.entries
    → IsTagged f c s × (table_in f c ≡ chained f c.shape.buckets c.shape.entries 0 [] [])
open-step back f c s held loads few m g rm rg =
    let tags : tags_of c.held ≡ [] = ap tags_of held in
    let h : AreHeld f (values_under c.held) (tags_of c.held) [] =
    subst (λ ts. AreHeld f (values_under c.held) ts []) (sym tags) (nothing-held f (values_under c.held) (λ t. ap (λ hs. values_under hs t) held ∙ values-none t)) in
    let leaves : held_leaves f c ≡ [] = known-leaves back f (values_under c.held) (tags_of c.held) [] h in (
      record {
        held = subst (λ zs. AreHeld f (values_under c.held) (tags_of c.held) zs) (sym leaves) h;
        sized = λ t i. absurd (subst (λ ts. In t ts) tags i);
        within = (let n : length c.held ≡ 0 = ap (λ (hs : List Held). length hs) held in omega arith);
        few = few;
        counted = subst (λ zs. AreCounted zs c.shape.entries s) (sym leaves) (record {
          middle_is = counted-none order.M2 c.shape.entries s.middle m rm;
          large_is = counted-none order.G1 c.shape.entries s.large g rg;
          small = λ h z i. absurd i;
        });
      },
      ap (λ l. chained f c.shape.buckets c.shape.entries l (held_leaves f c) (tags_of c.held)) loads
          ∙ ap (λ zs. chained f c.shape.buckets c.shape.entries 0 zs (tags_of c.held)) leaves
          ∙ ap (chained f c.shape.buckets c.shape.entries 0 []) tags,
    )

-- the same of the leaf that a search for the name found
pub moving-leaf : MadeWordsReadBack → (f : Form) (space first to : ℕ) (o : Order) (c : ChainState) (s : SmallerState) (old : Leaf) → IsTagged f c s → IsNamed space first o (table_in f c).leaves
    → found_in f space first (values_under c.held) o ≡ Some old → IsBlock (table_in f c).shape space to o → meets_any space to o (table_in f c).leaves ≡ false → CanMove f space first to o old c
moving-leaf back f space first to o c s old w named found block free =
    let n : IsNamedLeaf f space first o c = named-leaf f space first o c named in
    let e : Some n.leaf ≡ Some old = sym (named-found back f space first o c s w n) ∙ found in
    let same : n.leaf ≡ old = cc in
    subst (λ x. CanMove f space first to o x c) same (can-move f space first to o c s w n block free)
