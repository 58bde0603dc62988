-- Recency lists (LRU): newest first. Each TLB set, each walk cache and the range TLB is one.
use Rattle.std.specs.Prelude.{ℕ, Bool, not, if◌then◌else◌, List, [], ◌∷◌, find, filter, take, Option, None, Some}

-- the list without its newest item that passes the test
abbrev pub without_first : {A : Type 0} → (A → Bool) → List A → List A
without_first p [] = []
without_first p (x ∷ xs) = if p x then xs else (x ∷ without_first p xs)

-- An item, if there is one, in front of others.
abbrev pub in_front : {A : Type 0} → Option A → List A → List A
in_front None xs = xs
in_front (Some x) xs = x ∷ xs

-- A touch moves the newest item that passes the test to the front. Where none does, nothing
-- changes.
abbrev pub touched : {A : Type 0} → (A → Bool) → List A → List A
touched p xs = in_front (find p xs) (without_first p xs)

-- A fill puts an item in front, and keeps as many as the width says.
abbrev pub with_newest : {A : Type 0} → ℕ → A → List A → List A
with_newest width x xs = take width (x ∷ xs)

-- A purge keeps the items that don't pass the test, in order.
abbrev pub purged : {A : Type 0} → (A → Bool) → List A → List A
purged p xs = filter (λ x. not (p x)) xs
