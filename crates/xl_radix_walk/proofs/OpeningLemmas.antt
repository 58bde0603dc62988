-- A row at its opening.
use Rattle.xl_radix_walk.proofs.Common.{◌+◌, ◌-◌, ◌∷◌, ◌≡◌, ◌≤◌, [], ap, AreNumbered, arith, Bool, Cached, caches_in, drop, empty_cache, empty_caches, IsRow, Item, length, length-map, List, list_all, map, Node, Numbered, opening_caches, opening_nodes, opening_shape, opening_table, Option, refl, row_of, row_table, suc, Table, take, true, zero, ℕ}
use Rattle.xl_model.proofs.BoolLemmas.{both-so}

pub all-taken : (p : ℕ → Bool) (n : ℕ) (xs : List ℕ) → list_all p xs ≡ true → list_all p (take n xs) ≡ true
all-taken p zero [] h = refl
all-taken p zero (x ∷ xs) h = refl
all-taken p (suc n) [] h = refl
all-taken p (suc n) (x ∷ xs) h = let b = both-so (p x) (list_all p xs) h in rw (b.0, all-taken p n xs b.1) refl

pub all-dropped : (p : ℕ → Bool) (n : ℕ) (xs : List ℕ) → list_all p xs ≡ true → list_all p (drop n xs) ≡ true
all-dropped p zero xs h = h
all-dropped p (suc n) [] h = refl
all-dropped p (suc n) (x ∷ xs) h = all-dropped p n xs (both-so (p x) (list_all p xs) h).1

empty-in : (level n : ℕ) (ws : List ℕ) → caches_in level (map empty_cache (take n ws)) ≡ empty_caches n ws
empty-in level zero [] = refl
empty-in level zero (w ∷ ws) = refl
empty-in level (suc n) [] = refl
empty-in level (suc n) (w ∷ ws) = ap (λ (l : List (Cached Numbered)). empty_cache w ∷ l) (empty-in (level + 1) n ws)

empty-numbered : (level : ℕ) (nodes : List (Option Node)) (ws : List ℕ) → AreNumbered level nodes (map empty_cache ws)
empty-numbered level nodes [] = tt
empty-numbered level nodes (w ∷ ws) = (λ i j. absurd j, empty-numbered (level + 1) nodes ws)

pub opening-row : (top : ℕ) (t : Table) (ws : List ℕ) → 3 ≤ top → top ≤ 5 → length ws ≡ top - 1 → IsRow top (row_of t (map empty_cache ws))
opening-row top t ws high low size = record { high = high; low = low; caches = omega (arith, length-map ws (empty_cache {A = Item}), size, high); numbered = empty-numbered 0 t.nodes ws }

pub opening-is : (top frames spaces : ℕ) (t : Table) (ws : List ℕ) → t.leaves ≡ [] → t.nodes ≡ opening_nodes top spaces frames → t.spaces ≡ spaces → t.loads ≡ 0
    → row_table top (row_of t (map empty_cache (take (top - 1) ws))) ≡ opening_table top frames spaces ws
unfolding opening_shape opening_caches
opening-is top frames spaces t ws l o s d = rw (l, o, s, d, empty-in 0 (top - 1) ws) refl
