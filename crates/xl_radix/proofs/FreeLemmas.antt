-- The free numbers beside the nodes by number.
use Rattle.xl_radix.proofs.Common.{◌++◌, ◌+◌, ◌-◌, ◌<◌, ◌∙◌, ◌∷◌, ◌≡◌, ◌≤◌, [], ap, arith, Bool, false, free_count, IfNone, IfSome, is_none, List, map, Node, None, opening_nodes, Option, position, position_from, position_from-zero, put_first, refl, replicate, roots, slice_index_or, slice_set, Some, subst, suc, sym, true, zero, ℕ}
use Rattle.xl_numbers.specs.Free.{HasNone, IsLowest}
use Rattle.xl_radix.proofs.OpeningLemmas.{none-node, opening-count}
use Rattle.xl_radix.proofs.SlotLemmas.{free-none}

set-free : (nodes : List (Option Node)) (k : ℕ) (y : Option Node) → slice_set (map is_none nodes) k (is_none y) ≡ map is_none (slice_set nodes k y)
set-free [] k y = refl
set-free (x ∷ xs) zero y = refl
set-free (x ∷ xs) (suc k) y = ap (λ (l : List Bool). is_none x ∷ l) (set-free xs k y)

first-free : (xs : List (Option Node)) (b k : ℕ) → slice_index_or (map is_none xs) k false ≡ true → ((j : ℕ) → j < k → slice_index_or (map is_none xs) j false ≡ false) → position_from is_none b xs ≡ Some (b + k)
first-free [] b k e below = cc
first-free (x ∷ xs) b zero e below = let d : b + 0 ≡ b = omega arith in rw (e, d) refl
first-free (x ∷ xs) b (suc k) e below =
    let f : is_none x ≡ false = below 0 (omega arith) in
    let d : b + suc k ≡ b + 1 + k = omega arith in
    rw (f, d) (first-free xs (b + 1) k e (λ j h. below (suc j) (omega arith)))

not-free : (xs : List (Option Node)) (b : ℕ) → ((j : ℕ) → slice_index_or (map is_none xs) j false ≡ false) → position_from is_none b xs ≡ None
not-free [] b all = refl
not-free (x ∷ xs) b all = let f : is_none x ≡ false = all 0 in rw f (not-free xs (b + 1) (λ j. all (suc j)))

-- The lowest free number is the first one that no node has.
pub lowest-position : (nodes : List (Option Node)) (free : List Bool) (k : ℕ) → free ≡ map is_none nodes → IsLowest free k → position is_none nodes ≡ Some k
lowest-position nodes free k e low =
    let r = subst (λ (l : List Bool). IsLowest l k) e low in
    position_from-zero is_none nodes ∙ first-free nodes 0 k r.is_free r.least ∙ ap Some (let z : 0 + k ≡ k = omega arith in z)

pub none-position : (nodes : List (Option Node)) (free : List Bool) → free ≡ map is_none nodes → HasNone free → position is_none nodes ≡ None
none-position nodes free e none = position_from-zero is_none nodes ∙ not-free nodes 0 (subst (λ (l : List Bool). HasNone l) e none)

-- A number taken or given back in both.
pub put-free : (nodes : List (Option Node)) (free : List Bool) (k : ℕ) (y : Option Node) (v : Bool) → free ≡ map is_none nodes → is_none y ≡ v → slice_set free k v ≡ map is_none (slice_set nodes k y)
put-free nodes free k y v e f = ap (λ (l : List Bool). slice_set l k v) e ∙ ap (slice_set (map is_none nodes) k) (sym f) ∙ set-free nodes k y

pub not-none : (nodes : List (Option Node)) (r : Option ℕ) → IfNone r (position is_none nodes ≡ None) → ((n : ℕ) → r ≡ Some n → ⊥) → 0 < free_count nodes → ⊥
not-none nodes None e not h = free-none nodes e h
not-none nodes (Some n) e not h = not n refl

pub taken-by : (nodes new : List (Option Node)) (x : Node) (r : Option ℕ) → IfSome r (λ k. new ≡ put_first x nodes) → IfNone r (position is_none nodes ≡ None) → 0 < free_count nodes → new ≡ put_first x nodes
taken-by nodes new x None a b h = absurd (free-none nodes b h)
taken-by nodes new x (Some k) a b h = a

map-none : (n : ℕ) → replicate n true ≡ map is_none (replicate n none-node)
map-none zero = refl
map-none (suc n) = ap (λ (l : List Bool). true ∷ l) (map-none n)

pub all-free : (nodes : List (Option Node)) (free : List Bool) (n : ℕ) → nodes ≡ replicate n None → free ≡ replicate n true → free ≡ map is_none nodes
all-free nodes free n e f = f ∙ map-none n ∙ ap (map is_none) (sym e)

root-put : (levels s k m t : ℕ) → t ≡ s + k → put_first (record { space = t; level = levels - 1; prefix = 0 }) (roots levels s k ++ replicate (suc m) None) ≡ roots levels s (suc k) ++ replicate m None
root-put levels s zero m t d = let e : t ≡ s = omega arith in rw e refl
root-put levels s (suc k) m t d =
    ap (λ (l : List (Option Node)). Some (record { space = s; level = levels - 1; prefix = 0 }) ∷ l) (root-put levels (s + 1) k m t (omega arith))

pub root-taken : (levels space frames spaces : ℕ) (nodes new : List (Option Node)) (x : Node) (r : Option ℕ) → nodes ≡ opening_nodes levels space frames → space < spaces → spaces ≤ frames → x ≡ record { space = space; level = levels - 1; prefix = 0 } →
    IfSome r (λ k. new ≡ put_first x nodes) → IfNone r (position is_none nodes ≡ None) → new ≡ opening_nodes levels (space + 1) frames
unfolding opening_nodes
root-taken levels space frames spaces nodes new x r e low high ex a b =
    let count = opening-count levels space frames in
    let free : 0 < free_count nodes = rw e (omega (arith, count)) in
    let m : frames - space ≡ suc (frames - (space + 1)) = omega arith in
    let n : space + 1 ≡ suc space = omega arith in
    let d : nodes ≡ roots levels 0 space ++ replicate (suc (frames - (space + 1))) None = e ∙ ap (λ (v : ℕ). roots levels 0 space ++ replicate v none-node) m in
    let p = root-put levels 0 space (frames - (space + 1)) space (omega arith) in
    taken-by nodes new x r a b free ∙ ap (put_first x) d ∙ ap (λ (y : Node). put_first y (roots levels 0 space ++ replicate (suc (frames - (space + 1))) None)) ex ∙ p ∙ ap (λ (v : ℕ). roots levels 0 v ++ replicate (frames - (space + 1)) none-node) (sym n)

pub opened : (levels frames : ℕ) (nodes : List (Option Node)) → nodes ≡ replicate frames None → nodes ≡ opening_nodes levels 0 frames
unfolding opening_nodes
opened levels frames nodes e = let m : frames - 0 ≡ frames = omega arith in rw m e
