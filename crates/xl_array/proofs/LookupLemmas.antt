-- What stays known of an array that was touched or filled with a tag.
use Rattle.xl_array.proofs.Common.{◌∙◌, ◌≡◌, ap, Bool, filled-spec, hit_touched, IfNone, IfSome, Leaf, leaf_hit, leaves_in_sets, None, Option, Order, refl, small_leaf, Some, sym, TlbArray, TlbSpec, touched-spec, ℕ}
unfoldable use Rattle.xl_model.specs.Tlb.{array_touched}
use Rattle.xl_array.specs.Touches.{IsPageTouch}
use Rattle.xl_array.proofs.HeldLemmas.{touched-held, word-held}
use Rattle.xl_array.proofs.SmallLemmas.{filled-small, touched-small, word-small}
use Rattle.xl_array.proofs.SpecLemmas.{spec_word}
use Rattle.xl_array.specs.Held.{Counts, IsKnown}
use Rattle.xl_array.specs.Lookup.{IsFilled, IsTouched}
use Rattle.xl_array.specs.declared.coding.Hit.{Hit}
use Rattle.xl_array.specs.declared.lookup.Lookup.{Lookup}
use Rattle.xl_model.specs.declared.address.Order.TheVariants as order

pub known_touched : (held : ℕ) (large : Bool) (spec : TlbSpec) (o : Order) (s : Lookup) (word : Option ℕ) (a b : TlbArray) → IsTouched o s a word b → IsKnown held large spec a → IsKnown held large spec b
known_touched held large spec o s word a b is known = record {
  counts = rw (word-held s.space s.page o word a b is.some is.none) known.counts;
  smalls = λ none. word-small s.space s.page o word a b is.some is.none (known.smalls none);
  spec_is = known.spec_is ∙ sym (spec_word s.space s.page o word a b is.some is.none);
  some = known.some;
}

-- and of one of which a leaf came to the front of its set
known_moved : (held : ℕ) (large : Bool) (spec : TlbSpec) (space page : ℕ) (leaf : Leaf) (a b : TlbArray) → b ≡ array_touched space page leaf a → IsKnown held large spec a → IsKnown held large spec b
known_moved held large spec space page leaf a b moved known = record {
  counts = λ less. ap (λ (z : TlbArray). leaves_in_sets z.sets) moved ∙ touched-held space page leaf a ∙ known.counts less;
  smalls = λ less. rw moved (touched-small space page leaf a (known.smalls less));
  spec_is = known.spec_is ∙ sym (ap (λ (z : TlbArray). z.spec) moved ∙ touched-spec space page leaf a);
  some = known.some;
}

pub known_hit : (held : ℕ) (large : Bool) (spec : TlbSpec) (space page : ℕ) (found : Option Hit) (a b : TlbArray) → IfSome found (λ h. b ≡ hit_touched space page h a) → IfNone found (b ≡ a) → IsKnown held large spec a → IsKnown held large spec b
known_hit held large spec space page None a b some none known = rw none known
known_hit held large spec space page (Some h) a b some none known = known_moved held large spec space page (leaf_hit space page h) a b some known

pub known_paged : (held : ℕ) (large : Bool) (spec : TlbSpec) (space page : ℕ) (found : Option ℕ) (a b : TlbArray) → IfSome found (λ w. IsPageTouch space page w a b) → IfNone found (b ≡ a) → IsKnown held large spec a → IsKnown held large spec b
known_paged held large spec space page None a b some none known = rw none known
known_paged held large spec space page (Some w) a b some none known = known_moved held large spec space page some.leaf a b some.moved known

pub known_filled : (held now : ℕ) (large : Bool) (spec : TlbSpec) (s : Lookup) (word : ℕ) (grown : Bool) (a b : TlbArray) → IsFilled order.K4 s word a grown b → IsKnown held large spec a → Counts now (leaves_in_sets b.sets) → IsKnown now large spec b
known_filled held now large spec s word grown a b is known counts =
    let leaf = small_leaf s.space s.page word in
    record {
      counts = counts;
      smalls = λ none. rw is.array (filled-small leaf a refl (known.smalls none));
      spec_is = known.spec_is ∙ sym (ap (λ (z : TlbArray). z.spec) is.array ∙ filled-spec leaf a);
      some = known.some;
    }
