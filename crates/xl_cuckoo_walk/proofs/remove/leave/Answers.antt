use Rattle.xl_cuckoo_walk.proofs.Common.{◌∙◌, ◌≡◌, ap, AreTied, by_size, counts_of, CountState, CuckooState, HoldsLeaves, IsDropped, IsLeft, IsShared, IsSome, Large, Leaf, leaf_word, leaves_of_ways, List, lit<, MadeWordsReadBack, map, Middle, Order, order_of, page_key, parts_by, refl, RowParts, Size, size_in, SizeParts, Some, subst, sym, table_of, value_of, ways_in, with_counts, without_entry, without_key_in, ℕ}
use Rattle.xl_cuckoo_walk.proofs.CountLemmas.{shared-is}
use Rattle.xl_cuckoo_walk.proofs.HoldLemmas.{entry-key, left-leaf}
use Rattle.xl_cuckoo_walk.proofs.IndexLemmas.{each-size, size-stays, ways-table}
use Rattle.xl_cuckoo_walk.proofs.StepLemmas.{by-name, named-held, NamedLeaf}
use Rattle.xl_model.specs.declared.address.Order.TheVariants as order
use Rattle.xl_cuckoo_walk.proofs.remove.leave.Goals as goal

-- A leaf that goes: it is counted no longer.
module _ (back : MadeWordsReadBack) (p : RowParts) (h : HoldsLeaves p (leaves_of_ways (ways_in p))) (space first : ℕ) (o : Order) (n : NamedLeaf p space first o) where
  abbrev leaves : List Leaf
  leaves = leaves_of_ways (ways_in p)

  named-value : (key : ℕ) → key ≡ page_key o space first → IsSome (value_of key (table_of o p).ways)
  named-value key k =
      let v : value_of key (table_of o p).ways ≡ Some (leaf_word n.leaf.frame n.leaf.perm) = ap (λ m. value_of m (table_of o p).ways) k ∙ ap (value_of (page_key o space first)) (ways-table o p) ∙ n.value in
      subst IsSome (sym v) refl

  shared : (size : Order) (c : CountState) → AreTied size leaves c → IsShared size space first o c
  shared size c t =
      by-name (λ s f w. IsShared size s f w c) p space first o n (shared-is size n.leaf leaves c (h.held.fit n.leaf n.there).aligned.placed h.held.sorted n.there t.are t.tied)

  shared-now : (z : Size) (q : RowParts) (key : ℕ) → q ≡ without_key_in o key p → IsShared (order_of z) space first o (counts_of q z)
  shared-now z q key same =
      let out : CuckooState = record (table_of o p) { ways = map (without_entry key) (table_of o p).ways } in
      subst (λ (s : SizeParts). IsShared (order_of z) space first o s.counts) (sym (ap (size_in z) same ∙ size-stays o out p z))
      (shared (order_of z) (counts_of p z) (h.tied z))

  -- what the code makes of it
  taken-left : (q : RowParts) (key : ℕ) → key ≡ page_key o space first → q ≡ without_key_in o key p → (middle large : CountState) → IsDropped order.M2 space first o q.middle.counts middle
      → IsDropped order.G1 space first o q.large.counts large → IsLeft space first o p (with_counts (by_size middle large) q)
  taken-left q key k same middle large a b =
      let counts : Size → CountState = by_size middle large in
      let D : ℕ → ℕ → Order → Type 0 = λ s f w. (z : Size) → IsDropped (order_of z) s f w (counts_of p z) (counts z) in
      let T : ℕ → ℕ → Order → Type 0 = λ s f w. D s f w → IsLeft s f w p (with_counts counts (without_key_in w (page_key w s f) p)) in
      let own : T n.leaf.space n.leaf.first n.leaf.order = λ d.
      subst (λ m. IsLeft n.leaf.space n.leaf.first n.leaf.order p (with_counts counts (without_key_in n.leaf.order m p))) (entry-key n.leaf) (left-leaf back p h n.leaf n.there counts d) in
      let is : IsLeft space first o p (with_counts counts (without_key_in o (page_key o space first) p)) =
      by-name T p space first o n own
      (each-size (λ z. IsDropped (order_of z) space first o (counts_of p z) (counts z))
      (subst (λ (u : RowParts). IsDropped order.M2 space first o u.middle.counts middle) same a) (subst (λ (u : RowParts). IsDropped order.G1 space first o u.large.counts large) same b)) in
      subst (λ z. IsLeft space first o p (with_counts counts z)) (sym (same ∙ ap (λ m. without_key_in o m p) k)) is

pub section-requires : goal.section-requires
section-requires g c =
    let a = c.args in
    let n = named-held c.words_read_back.ensures a.parts.now c.requires.holds a.space a.first a.order c.requires.named in
    record { space_in = n.space_in; page_in = n.page_in }

pub take-requires : goal.take-requires
take-requires g c =
    let a = c.args in
    let n : NamedLeaf a.parts.now a.space a.first a.order = named-held c.words_read_back.ensures a.parts.now c.requires.holds a.space a.first a.order c.requires.named in
    let held = named-value c.words_read_back.ensures a.parts.now c.requires.holds a.space a.first a.order n c.section.result c.section.ensures in
    (lit< tt, held)

pub drop_leaf-requires : goal.drop_leaf-requires
drop_leaf-requires g c =
    let a = c.args in
    let s = c.parts.inside in
    let n : NamedLeaf a.parts.now a.space a.first a.order = named-held c.words_read_back.ensures a.parts.now c.requires.holds a.space a.first a.order c.requires.named in
    shared-now c.words_read_back.ensures a.parts.now c.requires.holds a.space a.first a.order n Middle (parts_by s.k4 s.m2 s.g1 s.middle s.large s.middle_cache s.large_cache) c.section.result
    (subst (λ z. z ≡ without_key_in a.order c.section.result a.parts.now) (sym c.parts.view_is) c.take.ensures)

pub drop_leaf-requires-2 : goal.drop_leaf-requires-2
drop_leaf-requires-2 g c =
    let a = c.args in
    let s = c.parts.inside in
    let n : NamedLeaf a.parts.now a.space a.first a.order = named-held c.words_read_back.ensures a.parts.now c.requires.holds a.space a.first a.order c.requires.named in
    shared-now c.words_read_back.ensures a.parts.now c.requires.holds a.space a.first a.order n Large (parts_by s.k4 s.m2 s.g1 s.middle s.large s.middle_cache s.large_cache) c.section.result
    (subst (λ z. z ≡ without_key_in a.order c.section.result a.parts.now) (sym c.parts.view_is) c.take.ensures)

pub returns : goal.returns
returns g c =
    let a = c.args in
    let s = c.parts.inside in
    let n : NamedLeaf a.parts.now a.space a.first a.order = named-held c.words_read_back.ensures a.parts.now c.requires.holds a.space a.first a.order c.requires.named in
    taken-left c.words_read_back.ensures a.parts.now c.requires.holds a.space a.first a.order n (parts_by s.k4 s.m2 s.g1 s.middle s.large s.middle_cache s.large_cache) c.section.result c.section.ensures
    (subst (λ z. z ≡ without_key_in a.order c.section.result a.parts.now) (sym c.parts.view_is) c.take.ensures)
    c.drop_leaf.new.counts c.drop_leaf-2.new.counts c.drop_leaf.ensures c.drop_leaf-2.ensures
