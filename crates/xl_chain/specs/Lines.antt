-- What chains hold, by their words.
use Rattle.std.specs.Prelude.{ℕ, ◌≡◌, ◌+◌, ◌*◌, ◌<◌, ◌==◌, List, length, map, filter, true, slice_index}
use Rattle.std.specs.List.{list_any}
use Rattle.xl_model.specs.Chains.{bucket_of}
use Rattle.xl_list_lemmas.specs.Members.{In}
use Rattle.xl_chain.specs.declared.shape.ChainShape.{ChainShape}
use Rattle.xl_chain.specs.Layout.{base_at, place_of_value}
use Rattle.xl_chain.specs.Back.{chain_back, chain_loads}
use Rattle.xl_chain.specs.Held.{Held, ChainState, next_in, is_entry, held_with, found_of, search_loads}
use Rattle.xl_chain.specs.Kept.{IsChain}

-- what is held in a bucket, newest first
unfoldable pub in_bucket : ℕ → ℕ → List Held → List Held
in_bucket buckets b hs = filter (λ h. bucket_of buckets h.tag == b) hs

-- the words of an entry are its tag, the next word, its value 0, and 0; then come its other values
pub record AreLines (s : ChainShape) (words : List ℕ) (h : Held) : Type 0 where
  pub inside : h.entry < s.entries
  pub count : length h.values + 3 ≡ 4 * s.lines
  pub tag : slice_index words (base_at s h.entry) ≡ h.tag
  pub fourth : slice_index words (base_at s h.entry + 3) ≡ 0
  pub values : (i : ℕ) → i < length h.values → slice_index words (place_of_value s h.entry i) ≡ slice_index h.values i

-- The words say what is held: the words of a bucket lead to the entries that it holds, newest
-- first, and then to none; each entry has its lines; and a search of the words finds what is held,
-- by as many loads as are counted of it.
pub record WordsReadBack (c : ChainState) : Type 0 where
  pub size : length c.words ≡ base_at c.shape c.shape.entries
  pub chains : (b : ℕ) → b < c.shape.buckets
      → IsChain (next_in c.shape c.words) (slice_index c.words b) (map (λ h. h.entry) (in_bucket c.shape.buckets b c.held))
  pub lines : (h : Held) → In h c.held → AreLines c.shape c.words h
  pub found : (tag : ℕ) → chain_back c.words c.shape tag ≡ found_of (held_with tag c.held)
  pub loads : (tag : ℕ) → chain_loads c.words c.shape tag ≡ search_loads tag c

-- no two tags have one entry, and no two entries one tag
pub record AreSingle (hs : List Held) : Type 0 where
  pub by_entry : (g h : Held) → In g hs → In h hs → g.entry ≡ h.entry → g ≡ h
  pub by_tag : (g h : Held) → In g hs → In h hs → g.tag ≡ h.tag → g ≡ h

-- the entry holds this tag, and no other
pub record IsOwn (tag entry : ℕ) (hs : List Held) : Type 0 where
  pub held : list_any (is_entry entry) hs ≡ true
  pub only : (h : Held) → In h hs → h.entry ≡ entry → h.tag ≡ tag
