-- What a search for a page's tag says of the word in its slot, and the loads that it makes.
use Rattle.xl_tagged.proofs.Common.{◌%◌, ◌+◌, ◌/◌, ◌^◌, ◌∙◌, ◌≡◌, ap, AreSingle, arith, bucket_of, chain_of, chain_reads, ChainState, examined, false, found_of, has_tag, Held, held_with, List, loads_after, One, one_if, Order, order_loads, pages_of, plus, Sixteen, slice_index, slot_of, sym, tag_of, tags_of, true, value_of, values_under, word_at, word_found, ℕ}
use Rattle.xl_tagged.proofs.ChainLemmas.{found-under}
use Rattle.xl_tagged.proofs.StepLemmas.{absent-values, value-under, word-first}
use Rattle.xl_chain.specs.declared.shape.Seek.TheVariants as seek

-- there is one slot
pub slot-one : (o : Order) (page : ℕ) → 0 ≡ slot_of One o page
slot-one o page = none (page / pages_of o)
  where
    none : (n : ℕ) → 0 ≡ n % 1
    none n = omega arith

-- the word that a search for a page's tag finds, where there is one slot
pub found-one : (space page tag word : ℕ) (o : Order) (hs : List Held) → tag ≡ tag_of 1 space o page → word ≡ word_found (found_of (held_with tag hs))
    → word ≡ word_at One (values_under hs) (tag_of 1 space o page) (slot_of One o page)
found-one space page tag word o hs t w =
    w ∙ word-first tag hs ∙ ap (λ n. word_at One (values_under hs) n 0) t ∙ ap (word_at One (values_under hs) (tag_of 1 space o page)) (slot-one o page)

pub loads-one : (space page tag : ℕ) (o : Order) (c : ChainState) → tag ≡ tag_of 1 space o page → loads_after tag c ≡ plus c.loads (order_loads One space page c o)
loads-one space page tag o c t = ap (λ n. loads_after n c) t ∙ ap (plus c.loads) (none (examined (tag_of 1 space o page) (chain_of c.shape.buckets (bucket_of c.shape.buckets (tag_of 1 space o page)) (tags_of c.held))))
  where
    none : (n : ℕ) → 1 + n ≡ 1 + (n + 0)
    none n = omega arith

-- no word under a tag that isn't held
pub absent-word : (tag slot : ℕ) (hs : List Held) → has_tag (tags_of hs) tag ≡ false → word_at Sixteen (values_under hs) tag slot ≡ 0
absent-word tag slot hs absent = ap (λ (vs : List ℕ). slice_index vs (1 + slot)) (absent-values hs tag absent)

-- the word of a slot
pub slot-value : (tag e v slot : ℕ) (hs : List Held) → AreSingle hs → found_of (held_with tag hs) ≡ seek.Found e v → value_of e (slot + 1) hs ≡ word_at Sixteen (values_under hs) tag slot
slot-value tag e v slot hs s f = value-under tag e v (slot + 1) hs s (found-under tag hs e v f) ∙ ap (slice_index (values_under hs tag)) (turn slot)
  where
    turn : (n : ℕ) → n + 1 ≡ 1 + n
    turn n = omega arith

-- the loads of a search that finds the block, and of one that doesn't
pub loads-found : (tag : ℕ) (c : ChainState) → has_tag (tags_of c.held) tag ≡ true → plus (loads_after tag c) 1 ≡ plus c.loads (chain_reads 16 c.shape.buckets (tags_of c.held) tag)
loads-found tag c held =
    sum c.loads (examined tag (chain_of c.shape.buckets (bucket_of c.shape.buckets tag) (tags_of c.held)))
    ∙ ap (λ b. plus c.loads (1 + (examined tag (chain_of c.shape.buckets (bucket_of c.shape.buckets tag) (tags_of c.held)) + one_if b))) (sym held)
  where
    sum : (l n : ℕ) → ((l + (1 + n)) % 2 ^ 64 + 1) % 2 ^ 64 ≡ (l + (1 + (n + 1))) % 2 ^ 64
    sum l n = omega arith

pub loads-absent : (tag : ℕ) (c : ChainState) → has_tag (tags_of c.held) tag ≡ false → loads_after tag c ≡ plus c.loads (chain_reads 16 c.shape.buckets (tags_of c.held) tag)
loads-absent tag c held =
    ap (plus c.loads) (none (examined tag (chain_of c.shape.buckets (bucket_of c.shape.buckets tag) (tags_of c.held))))
    ∙ ap (λ b. plus c.loads (1 + (examined tag (chain_of c.shape.buckets (bucket_of c.shape.buckets tag) (tags_of c.held)) + one_if b))) (sym held)
  where
    none : (n : ℕ) → 1 + n ≡ 1 + (n + 0)
    none n = omega arith
