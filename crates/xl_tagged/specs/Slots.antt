-- The leaves in the slots under tags, and the table of such chains.
use Rattle.std.specs.Prelude.{ℕ, zero, suc, ◌≡◌, ◌+◌, ◌*◌, ◌/◌, ◌%◌, ◌^◌, Bool, true, List, [], ◌∷◌, ◌++◌, Option, None, Some}
use Rattle.xl_model.specs.declared.address.Order.{Order}
use Rattle.xl_model.specs.declared.address.Order.TheVariants as order
use Rattle.xl_model.specs.declared.leaf.Leaf.{Leaf}
use Rattle.xl_model.specs.declared.work.Walk.{Walk}
use Rattle.xl_model.specs.Addresses.{level_of, pages_of, order_at}
use Rattle.xl_model.specs.Base.{plus}
use Rattle.xl_model.specs.Caches.{NoCaches}
use Rattle.xl_model.specs.Chains.{tag_of}
use Rattle.xl_model.specs.LeafWords.{small_leaf}
use Rattle.xl_model.specs.Shapes.{Chained}
use Rattle.xl_model.specs.Structures.{TableState}
use Rattle.xl_model.specs.Walks.{chain_reads}
use Rattle.xl_model_lemmas.specs.Entries.{with_some, or_leaf}
use Rattle.xl_model_lemmas.specs.Kept.{mapping_of}
use Rattle.xl_pte.specs.declared.word.Pte.{Pte}
use Rattle.xl_pte.specs.declared.word.Pte.TheVariants as pte
use Rattle.xl_pte.specs.Decode.{decode_of}
use Rattle.xl_chain.specs.Held.{ChainState, tags_of}
use Rattle.xl_tagged.specs.Forms.{Form, group_of, slot_of, values_under, word_at}

-- the leaf that a word says, which is number n of the leaves of its space and order
abbrev pub leaf_said : ℕ → Order → ℕ → Pte → Option Leaf
leaf_said space o n (pte.Leaf frame perm) =
    Some (record { space = space; first = n * pages_of o; order = o; frame = frame; perm = perm })
leaf_said space o n pte.Invalid = None
leaf_said space o n (pte.Pointer node) = None
leaf_said space o n pte.Reserved = None
leaf_said space o n pte.Misaligned = None

-- the leaf that a word reads as
abbrev pub leaf_read : ℕ → Order → ℕ → ℕ → Option Leaf
leaf_read space o n word = leaf_said space o n (decode_of word (level_of o))

-- the leaf of 4 KiB of a page that has this word, if there is one
abbrev pub small_known : ℕ → ℕ → Option ℕ → Option Leaf
small_known space page None = None
small_known space page (Some word) = Some (small_leaf space page word)

-- the leaf of a slot: the tag has the order, the space and, with the slot, the number
unfoldable pub leaf_in : Form → ℕ → ℕ → ℕ → Option Leaf
leaf_in f tag i word =
    leaf_read (tag / 2 ^ 45 % 2 ^ 15) (order_at (tag / 2 ^ 60)) (tag % 2 ^ 45 * group_of f + i) word

-- the leaves in the first n slots under a tag
unfoldable pub slot_leaves : Form → (ℕ → List ℕ) → ℕ → ℕ → List Leaf
slot_leaves f values tag zero = []
slot_leaves f values tag (suc n) = with_some (leaf_in f tag n (word_at f values tag n)) (slot_leaves f values tag n)

-- the leaves under all tags
unfoldable pub leaves_under : Form → (ℕ → List ℕ) → List ℕ → List Leaf
leaves_under f values [] = []
leaves_under f values (t ∷ ts) = slot_leaves f values t (group_of f) ++ leaves_under f values ts

-- the mapping of what chains hold
abbrev pub held_leaves : Form → ChainState → List Leaf
held_leaves f c = mapping_of (leaves_under f (values_under c.held) (tags_of c.held))

-- a table of chains, with these leaves, tags and loads, and without caches
abbrev pub chained : Form → ℕ → ℕ → ℕ → List Leaf → List ℕ → TableState
chained f buckets entries loads leaves tags = record {
  leaves = leaves;
  shape = Chained (group_of f) buckets entries tags;
  caches = NoCaches;
  loads = loads;
}

-- the table that chains are
abbrev pub table_in : Form → ChainState → TableState
table_in f c = chained f c.shape.buckets c.shape.entries c.loads (held_leaves f c) (tags_of c.held)

-- the leaf of this order that is found for a page, under the page's tag, in its slot
abbrev pub found_in : Form → ℕ → ℕ → (ℕ → List ℕ) → Order → Option Leaf
found_in f space page values o =
    leaf_read space o (page / pages_of o) (word_at f values (tag_of (group_of f) space o page) (slot_of f o page))

-- the leaf that is found for a page: the orders are tried from the smallest on
abbrev pub first_found : Form → ℕ → ℕ → (ℕ → List ℕ) → Option Leaf
first_found f space page values =
    or_leaf (found_in f space page values order.K4)
    (or_leaf (found_in f space page values order.M2) (found_in f space page values order.G1))

-- the leaf that is found for a page among those of this order and of larger ones
abbrev pub found_from : Form → ℕ → ℕ → (ℕ → List ℕ) → Order → Option Leaf
found_from f space page values order.K4 = first_found f space page values
found_from f space page values order.M2 = or_leaf (found_in f space page values order.M2) (found_in f space page values order.G1)
found_from f space page values order.G1 = found_in f space page values order.G1

-- where this is so, no leaf above 4 KiB is found for a page
abbrev pub NoneLarge : Form → ℕ → ℕ → (ℕ → List ℕ) → Bool → Type 0
NoneLarge f space page values only_small =
    only_small ≡ true → (found_in f space page values order.M2 ≡ None) × (found_in f space page values order.G1 ≡ None)

-- the loads of a search for a page's tag of this order
abbrev pub order_loads : Form → ℕ → ℕ → ChainState → Order → ℕ
order_loads f space page c o = chain_reads (group_of f) c.shape.buckets (tags_of c.held) (tag_of (group_of f) space o page)

-- the loads of a walk that finds this for 4 KiB, and this for 2 MiB
abbrev pub loads_by : Option Leaf → Option Leaf → ℕ → ℕ → ℕ → ℕ
loads_by (Some leaf) other a b c = a
loads_by None (Some leaf) a b c = a + b
loads_by None None a b c = a + b + c

-- the loads of a walk of a page
abbrev pub walk_loads : Form → ℕ → ℕ → ChainState → ℕ
walk_loads f space page c =
    loads_by (found_in f space page (values_under c.held) order.K4) (found_in f space page (values_under c.held) order.M2)
    (order_loads f space page c order.K4) (order_loads f space page c order.M2) (order_loads f space page c order.G1)

-- the loads of a search for 2 MiB that finds this, and for 1 GiB where it finds none
abbrev pub large_by : Option Leaf → ℕ → ℕ → ℕ
large_by (Some leaf) b c = b
large_by None b c = b + c

-- the loads of a walk of a page after the search for 4 KiB
abbrev pub large_loads : Form → ℕ → ℕ → ChainState → ℕ
large_loads f space page c =
    large_by (found_in f space page (values_under c.held) order.M2) (order_loads f space page c order.M2) (order_loads f space page c order.G1)

-- what a walk without caches returns, where it finds this
abbrev pub walk_without_tlb : Option Leaf → Walk
walk_without_tlb leaf = record { leaf = leaf; cache_hits = 0 }

-- chains with n loads more
abbrev pub loaded_more : ℕ → ChainState → ChainState
loaded_more n c = record c { loads = plus c.loads n }
