-- The blocks of guest pages of the G cache's two newest leaves, which are looked at before its list.
use Rattle.std.specs.Prelude.{ℕ, ◌≡◌, ◌+◌, ◌-◌, ◌*◌, ◌^◌, ◌<◌, ◌≤◌, ◌⊎◌, nat_le, nat_lt, Bool, true, false, ◌&&◌, List, [], ◌∷◌, find, map, Option, None, Some, IfSome}
use Rattle.xl_model.specs.declared.leaf.Leaf.{Leaf}
use Rattle.xl_model.specs.Caches.{Cached}
use Rattle.xl_model.specs.Recency.{touched}
use Rattle.xl_nested_model.specs.Stages.{covers_guest, host_page}
use Rattle.xl_nested.specs.declared.block.Block.{Block}
use Rattle.xl_nested.specs.declared.front_cache.Fronts.{Fronts}
use Rattle.xl_recency.specs.declared.item.Item.{Item}
use Rattle.xl_nested.specs.Coding.{leaf_of, IsFound, IsPageWord}

-- The block has this guest page.
abbrev pub has_page : Block → ℕ → Bool
has_page b g = nat_le b.first g && nat_lt (g - b.first) b.pages

-- The word of a guest page that the block has.
abbrev pub word_at : Block → ℕ → ℕ
word_at b g = b.word + (g - b.first) * 16

-- The numbers of a block are small.
pub record IsSmallBlock (b : Block) : Type 0 where
  pub first_in : b.first < 2 ^ 29
  pub pages_in : b.pages ≤ 2 ^ 18
  pub word_in : b.word < 2 ^ 48

-- The block has the guest pages that a leaf covers, and says the word of each.
pub record IsBlockOf (b : Block) (leaf : Leaf) : Type 0 where
  pub some : 0 < b.pages
  pub covers : (g : ℕ) → covers_guest g leaf ≡ has_page b g
  pub says : (g : ℕ) → has_page b g ≡ true → IsPageWord (host_page g) (word_at b g) leaf

-- A block is found where a leaf is, and is the leaf's.
abbrev pub IsFoundBlock : Option Block → Option Leaf → Type 0
IsFoundBlock None None = Unit {0}
IsFoundBlock None (Some leaf) = ⊥
IsFoundBlock (Some b) None = ⊥
IsFoundBlock (Some b) (Some leaf) = IsBlockOf b leaf

-- A guest page was looked for in a list: the block of the leaf that covers it is found where one does, and the leaf is
-- the newest.
pub record IsTouchedBlock (g : ℕ) (block : Option Block) (old new : Cached Item) : Type 0 where
  pub found : IsFoundBlock block (find (covers_guest g) (map leaf_of old.items))
  pub moved : map leaf_of new.items ≡ touched (covers_guest g) (map leaf_of old.items)
  pub width : new.width ≡ old.width
  pub small : IfSome block IsSmallBlock

-- Leaves with the second in front of the first.
abbrev pub exchanged : List Leaf → List Leaf
exchanged [] = []
exchanged (x ∷ []) = x ∷ []
exchanged (x ∷ (y ∷ rest)) = y ∷ (x ∷ rest)

-- The same, where they are said to be swapped.
abbrev pub in_order : Bool → List Leaf → List Leaf
in_order false leaves = leaves
in_order true leaves = exchanged leaves

-- A list in the order that is said of its first two leaves.
abbrev pub seen_as : Bool → Cached Leaf → Cached Leaf
seen_as swapped c = record { width = c.width; items = in_order swapped c.items }

-- A block is that of the first leaf, where it has pages.
abbrev pub IsFirst : Block → List Leaf → Type 0
IsFirst b [] = b.pages ≡ 0
IsFirst b (x ∷ rest) = 0 < b.pages → IsBlockOf b x

-- A block is that of the second leaf, where it has pages.
abbrev pub IsSecond : Block → List Leaf → Type 0
IsSecond b [] = b.pages ≡ 0
IsSecond b (x ∷ rest) = IsFirst b rest

-- Two blocks are those of the first two leaves of a list, as far as they have pages. They have no page in common. The
-- second is known only beside the first, and only known leaves are swapped.
pub record IsFronts (f : Fronts) (leaves : List Leaf) : Type 0 where
  pub first_small : IsSmallBlock f.first
  pub second_small : IsSmallBlock f.second
  pub first_is : IsFirst f.first leaves
  pub second_is : IsSecond f.second leaves
  pub apart : (g : ℕ) → has_page f.first g ≡ true → has_page f.second g ≡ false
  pub beside : 0 < f.second.pages → 0 < f.first.pages
  pub known : f.swapped ≡ true → 0 < f.second.pages

-- The block of a touched leaf is the first; the one that was the first is the second, or none is known.
pub record IsPushed (b : Block) (f new : Fronts) : Type 0 where
  pub first_is : new.first ≡ b
  pub straight : new.swapped ≡ false
  pub second_small : IsSmallBlock new.second
  pub second_was : 0 < new.second.pages → new.second ≡ f.first
  pub apart : (g : ℕ) → has_page b g ≡ true → has_page new.second g ≡ false

-- The block of a touched leaf is the first, or none is.
pub record IsKept (b : Block) (f new : Fronts) : Type 0 where
  pub first_is : (new.first ≡ b) ⊎ (new.first ≡ f.first)
  pub second_is : new.second ≡ f.second
  pub swapped_is : new.swapped ≡ f.swapped

-- A guest page was looked for: its word is found where a leaf covers it, the leaf is the newest, and the blocks are
-- those of the first two leaves again.
pub record IsTouched (g : ℕ) (word : Option ℕ) (f new_f : Fronts) (leaves new : List Leaf) : Type 0 where
  pub found : IsFound (host_page g) word (find (covers_guest g) (in_order f.swapped leaves))
  pub moved : in_order new_f.swapped new ≡ touched (covers_guest g) (in_order f.swapped leaves)
  pub fronts : IsFronts new_f new
  pub small : IfSome word (λ word. word < 2 ^ 49)
