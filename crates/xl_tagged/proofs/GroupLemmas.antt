-- What every change of a table's chains finds.
use Rattle.xl_tagged.proofs.Common.{◌/◌, ◌^◌, ◌∙◌, ◌≡◌, ◌≤◌, ap, arith, ChainState, Err, false, Form, has_tag, Held, IsTagged, Leaf, length, List, MadeWordsReadBack, most_tags, Ok, One, OnErr, Order, pages_of, Result, Sixteen, slot_of, SmallerState, sym, tags_of, values_under, word_at, ℕ}
use Rattle.xl_model.specs.declared.work.Full.{Full}
use Rattle.xl_tagged.proofs.PlaceLemmas.{slot-low}
use Rattle.xl_tagged.proofs.SlotLemmas.{leaf-some}
use Rattle.xl_tagged.proofs.WholeLemmas.{IsNamedLeaf, named-word}
use Rattle.xl_tagged.specs.Groups.{IsFull, IsReady, IsWhole, word_for}

-- the chains of a whole table
pub ready : MadeWordsReadBack → (f : Form) (keeps : List Held → Type 0) (c : ChainState) (s : SmallerState) → IsWhole f keeps c s → IsReady f keeps c
ready back f keeps c s w = record {
  sized = w.tagged.sized;
  within = w.tagged.within;
  used = λ t i.
      let u = w.tagged.held.used t i in
      let x : Leaf = u.0 in (
        slot_of f x.order x.first,
        slot-low f (x.first / pages_of x.order),
        λ e. leaf-some back x (w.tagged.held.fit x u.1)
            (sym (w.tagged.held.word x u.1) ∙ ap (λ n. word_at f (values_under c.held) n (slot_of f x.order x.first)) u.2 ∙ e),
      );
  kept = w.kept;
}

-- the slot of a leaf that is named is in use
pub named-used : MadeWordsReadBack → (f : Form) (space first : ℕ) (o : Order) (c : ChainState) (s : SmallerState) → IsTagged f c s → IsNamedLeaf f space first o c
    → word_for f c space o first ≡ 0 → ⊥
named-used back f space first o c s w n e = leaf-some back n.leaf (w.held.fit n.leaf n.there) (sym (named-word f space first o c s w n) ∙ e)

-- a form has room for no more than 2^20 tags
pub most-low : (f : Form) (n : ℕ) → n ≤ most_tags f → n ≤ 2 ^ 20
most-low One n h = h
most-low Sixteen n h = omega arith

-- a tag that isn't held, and chains that are full
pub full-of : (tag : ℕ) (r : Result (Unit {0}) Full) (c : ChainState) → OnErr r (length c.held ≡ c.shape.entries) → has_tag (tags_of c.held) tag ≡ false → OnErr r (IsFull tag c)
full-of tag (Ok u) c full absent = tt
full-of tag (Err e) c full absent = record { absent = absent; full = full }
