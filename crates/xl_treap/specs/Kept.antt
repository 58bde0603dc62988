-- What the words of a treap, and the numbers of its free nodes, keep.
use Rattle.std.specs.Prelude.{ℕ, zero, suc, ◌≡◌, ◌+◌, ◌*◌, ◌^◌, ◌<◌, ◌≤◌, List, [], ◌∷◌, ◌++◌, length, find}
use Rattle.xl_model.specs.Ranges.{holds_page, range_reads}
use Rattle.xl_list_lemmas.specs.Members.{In, Once}
use Rattle.xl_phys.specs.Lines.{counted}
use Rattle.xl_treap.specs.Treaps.{TreapState, IsApart}
use Rattle.xl_treap.specs.Back.{tree_back, tree_loads, end_of}
use Rattle.xl_treap.specs.Trees.{Tree, ranges, tree_at, IsAt, IsHeap}
use Rattle.xl_treap.specs.Steps.{IsTree, IsEmpty}

-- the numbers below this one
abbrev pub upto : ℕ → List ℕ
upto zero = []
upto (suc n) = upto n ++ n ∷ []

-- a treap with these words
abbrev pub seen_in : List ℕ → ℕ → ℕ → ℕ → TreapState
seen_in words root nodes loads =
    record { seen = record { kept = ranges (tree_at nodes words root); nodes = nodes; loads = loads }; words = words; root = root }

-- a treap after a load
abbrev pub after_load : TreapState → TreapState
after_load t = record t { seen = record t.seen { loads = counted t.seen.loads } }

-- A treap's words: a tree, and nodes that are free.
pub record IsTreap (words : List ℕ) (root nodes : ℕ) (free : List ℕ) (t : Tree) : Type 0 where
  pub placed : IsTree words root t
  pub size : length words ≡ 4 * nodes
  pub count : length (ranges t) + length free ≡ nodes
  pub free_once : Once free
  pub empty : (e : ℕ) → In e free → IsEmpty words e

-- What a treap keeps: its words, its number of nodes, and room for the number of each node among
-- the free ones.
abbrev pub IsKept : List ℕ → ℕ → ℕ → List ℕ → ℕ → Type 0
IsKept words root nodes free room =
    IsTreap words root nodes free (tree_at nodes words root) × (nodes ≤ 2 ^ 16 + 1) × (nodes ≤ room)

-- The words say what is held: they are a tree of the ranges whose keys rise from left to right and
-- whose priorities rise downwards, and a search of them finds what is held, by as many loads as
-- there are ranges to read.
pub record WordsReadBack (t : TreapState) : Type 0 where
  pub size : length t.words ≡ 4 * t.seen.nodes
  pub tree : (tree : Tree) × IsAt t.words t.root tree × IsHeap tree × (ranges tree ≡ t.seen.kept)
  pub apart : IsApart 0 t.seen.kept
  pub found : (space page : ℕ) → space < 64 → page < 2 ^ 52
      → tree_back t.words t.root t.seen.nodes space page ≡ end_of (find (holds_page space page) t.seen.kept)
  pub loads : (space page : ℕ) → space < 64 → page < 2 ^ 52
      → tree_loads t.words t.root t.seen.nodes space page ≡ range_reads t.seen.kept space page
