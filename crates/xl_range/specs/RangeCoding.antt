-- How a range is kept in an item of a recency list: its key in the tag, its pages, and in one word its
-- frame, order and permission.
use Rattle.std.specs.Prelude.{ℕ, ◌≡◌, ◌+◌, ◌-◌, ◌*◌, ◌/◌, ◌%◌, ◌^◌, ◌<◌, ◌≤◌, nat_lt, Bool, List, [], ◌∷◌, map, take, Option, None, Some}
use Rattle.xl_model.specs.declared.event.Reach.{Reach}
use Rattle.xl_model.specs.declared.leaf.Range.{Range}
use Rattle.xl_model.specs.Addresses.{level_of, order_at}
use Rattle.xl_model.specs.Ranges.{range_key, holds_page}
use Rattle.xl_model.specs.Caches.{Cached, reaches_range}
use Rattle.xl_list_lemmas.specs.Members.{In}
use Rattle.xl_range.specs.declared.range_coding.RangeItem.{RangeItem}
use Rattle.xl_model.specs.LeafWords.{perm_code, perm_at}

-- A range that a range TLB can keep: some pages, a space below 64, all pages below 2^52 and all frames
-- below 2^44.
pub record IsKeepable (r : Range) : Type 0 where
  pub some : 0 < r.pages
  pub space_in : r.space < 64
  pub pages_in : r.start + r.pages ≤ 2 ^ 52
  pub frames_in : r.frame + r.pages ≤ 2 ^ 44

-- The item that keeps a range.
unfoldable pub item_of_range : Range → RangeItem
item_of_range r = record {
  tag = range_key r;
  pages = r.pages;
  word = (r.frame * 4 + level_of r.order) * 16 + perm_code r.perm;
}

-- The range that an item keeps: every item keeps one.
unfoldable pub range_of : RangeItem → Range
range_of i = record {
  space = i.tag / 2 ^ 52;
  start = i.tag % 2 ^ 52;
  pages = i.pages;
  frame = i.word / 16 / 4;
  order = order_at (i.word / 16 % 4);
  perm = perm_at i.word;
}

-- The range that an item keeps, if there is one.
abbrev pub range_kept : Option RangeItem → Option Range
range_kept None = None
range_kept (Some i) = Some (range_of i)

-- The ranges that a list of items keeps, with its width.
abbrev pub ranges_of : Cached RangeItem → Cached Range
ranges_of c = record { width = c.width; items = map range_of c.items }

-- The item's range holds the page of the space.
abbrev pub item_holds : ℕ → ℕ → RangeItem → Bool
item_holds space page i = holds_page space page (range_of i)

-- From the range's first page on to the page with this key there are fewer pages than the range has:
-- the difference of keys wraps at 2^64.
abbrev pub item_at : ℕ → RangeItem → Bool
item_at key i = nat_lt ((key + (2 ^ 64 - i.tag)) % 2 ^ 64) i.pages

-- The item's range ends within its space.
pub record IsWithin (i : RangeItem) : Type 0 where
  pub space_in : i.tag < 2 ^ 58
  pub pages_in : i.tag % 2 ^ 52 + i.pages ≤ 2 ^ 52

-- Each of the items' ranges does.
abbrev pub AllWithin : List RangeItem → Type 0
AllWithin items = (i : RangeItem) → In i items → IsWithin i

-- A fence reaches the item's range.
abbrev pub item_reached : Reach → RangeItem → Bool
item_reached to i = reaches_range to (range_of i)

-- A range with pages is the first of these.
abbrev pub IsNewest : Range → List Range → Type 0
IsNewest r rs = 0 < r.pages → take 1 rs ≡ r ∷ []
