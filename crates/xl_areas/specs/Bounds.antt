-- An index of areas: keys in rising order, between which one area serves or none.
use Rattle.std.specs.Prelude.{ℕ, suc, ◌≡◌, ◌+◌, ◌*◌, ◌^◌, ◌<◌, ◌≤◌, Bool, ◌&&◌, cond, nat_le, nat_lt, List, [], ◌∷◌, ⊤, length, find, Option, None, Some}
use Rattle.std.specs.List.{All}
use Rattle.xl_model.specs.declared.script.Area.{Area}
use Rattle.xl_areas.specs.declared.bounds.Bound.{Bound}

-- The key of a page: those of a space follow one another, and the spaces lie further apart than an
-- area is long.
abbrev pub key_at : ℕ → ℕ → ℕ
key_at space page = space * 2 ^ 65 + page

-- A key lies in an area.
abbrev pub has_key : ℕ → Area → Bool
has_key key area = nat_le (key_at area.space area.page) key && nat_lt key (key_at area.space area.page + area.pages)

-- The area that serves a key: that of the last bound at or below it, and before the first bound the
-- one given.
unfoldable pub answer_at : ℕ → Option Area → List Bound → Option Area
answer_at key before [] = before
answer_at key before (b ∷ bounds) = cond (nat_le b.key key) (answer_at key b.area bounds) before

-- How many bounds lie at or below a key.
unfoldable pub count_to : ℕ → List Bound → ℕ
count_to key [] = 0
count_to key (b ∷ bounds) = cond (nat_le b.key key) (suc (count_to key bounds)) 0

-- The bounds with one more at a key, which changes no answer.
unfoldable pub cut_at : ℕ → Option Area → List Bound → List Bound
cut_at key before [] = record { key = key; area = before } ∷ []
cut_at key before (b ∷ bounds) = cond (nat_le b.key key) (b ∷ cut_at key b.area bounds) (record { key = key; area = before } ∷ b ∷ bounds)

-- An answer, or where there is none a later area that has the key.
abbrev pub or_later : ℕ → Area → Option Area → Option Area
or_later key area (Some earlier) = Some earlier
or_later key area None = cond (has_key key area) (Some area) None

-- A bound, with a later area where it has none.
abbrev pub with_later : Area → Bound → Bound
with_later area b = record { key = b.key; area = or_later b.key area b.area }

-- The keys rise from one on.
abbrev pub AreRising : ℕ → List Bound → Type 0
AreRising key [] = ⊤
AreRising key (b ∷ bounds) = (key ≤ b.key) × AreRising b.key bounds

-- An area ends below the keys of the next space.
abbrev pub IsPlaced : Area → Type 0
IsPlaced area = area.page + area.pages < 2 ^ 65

-- The bounds answer each key by the first area that has it.
pub record IsIndex (areas : List Area) (bounds : List Bound) : Type 0 where
  pub placed : All IsPlaced areas
  pub rising : AreRising 0 bounds
  pub first : (key : ℕ) → answer_at key None bounds ≡ find (has_key key) areas
  pub two : length bounds ≡ 2 * length areas
