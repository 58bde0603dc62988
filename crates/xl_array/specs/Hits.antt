-- The result of a look at an array: the word of a leaf of the space that covers the page.
use Rattle.std.specs.Prelude.{ℕ, Option, None, Some}
use Rattle.xl_model.specs.declared.address.Order.{Order}
use Rattle.xl_model.specs.declared.leaf.Leaf.{Leaf}
use Rattle.xl_model.specs.Tlb.{TlbArray, array_touched}
use Rattle.xl_array.specs.declared.coding.Hit.{Hit}
use Rattle.xl_model.specs.LeafWords.{leaf_with}

-- The leaf that was hit.
abbrev pub leaf_hit : ℕ → ℕ → Hit → Leaf
leaf_hit space page h = leaf_with space page h.order h.word

-- The leaf that was hit, if one was.
abbrev pub hit_leaf : ℕ → ℕ → Option Hit → Option Leaf
hit_leaf space page None = None
hit_leaf space page (Some h) = Some (leaf_hit space page h)

-- The leaf of the order with this word, if there is one.
abbrev pub word_leaf : ℕ → ℕ → Order → Option ℕ → Option Leaf
word_leaf space page o None = None
word_leaf space page o (Some word) = Some (leaf_with space page o word)

-- The array after the leaf of the order with this word was brought to the front.
abbrev pub word_touched : ℕ → ℕ → Order → ℕ → TlbArray → TlbArray
word_touched space page o word a = array_touched space page (leaf_with space page o word) a

-- The array after the leaf that was hit was brought to the front.
abbrev pub hit_touched : ℕ → ℕ → Hit → TlbArray → TlbArray
hit_touched space page h a = array_touched space page (leaf_hit space page h) a
