-- Where the accesses of a reference are in their list.
use Rattle.xl_lackey.proofs.Common.{◌*◌, ◌++◌, ◌+◌, ◌/◌, ◌<◌, ◌∙◌, ◌∷◌, ◌≡◌, ◌≤◌, [], ap, arith, borders, each, Kind, length, List, None, places, refl, slice_get, Some, starts, suc, sym, zero, ℕ}

get-starts : (kind : Kind) (n page i : ℕ) → i < n → slice_get (each kind (starts n page)) i ≡ Some ((page + i) * 4096, kind)
get-starts kind zero page i h = absurd (omega arith)
get-starts kind (suc n) page zero h = let e : page + 0 ≡ page = omega arith in rw e refl
get-starts kind (suc n) page (suc i) h =
    let e : page + 1 + i ≡ page + suc i = omega arith in
    get-starts kind n (page + 1) i (omega arith) ∙ ap (λ (p : ℕ). Some (p * 4096, kind)) e

none-starts : (kind : Kind) (n page i : ℕ) → n ≤ i → slice_get (each kind (starts n page)) i ≡ None
none-starts kind zero page i h = refl
none-starts kind (suc n) page zero h = absurd (omega arith)
none-starts kind (suc n) page (suc i) h = none-starts kind n (page + 1) i (omega arith)

pub get_later : (kind : Kind) (addr size i : ℕ) → 0 < i → i ≤ borders addr size
    → slice_get (each kind (places addr size)) i ≡ Some ((addr / 4096 + i) * 4096, kind)
get_later kind addr size zero h k = absurd (omega arith)
get_later kind addr size (suc i) h k =
    let e : addr / 4096 + 1 + i ≡ addr / 4096 + suc i = omega arith in
    get-starts kind (borders addr size) (addr / 4096 + 1) i (omega arith) ∙ ap (λ (p : ℕ). Some (p * 4096, kind)) e

pub get_none : (kind : Kind) (addr size i : ℕ) → borders addr size < i → slice_get (each kind (places addr size)) i ≡ None
get_none kind addr size zero h = absurd (omega arith)
get_none kind addr size (suc i) h = none-starts kind (borders addr size) (addr / 4096 + 1) i (omega arith)

length_starts : (kind : Kind) (n page : ℕ) → length (each kind (starts n page)) ≡ n
length_starts kind zero page = refl
length_starts kind (suc n) page = ap suc (length_starts kind n (page + 1))

get_front : (xs ys : List (ℕ × Kind)) (i : ℕ) → i < length xs → slice_get (xs ++ ys) i ≡ slice_get xs i
get_front [] ys i h = absurd (omega arith)
get_front (x ∷ xs) ys zero h = refl
get_front (x ∷ xs) ys (suc i) h = get_front xs ys i (omega arith)

get_back : (xs ys : List (ℕ × Kind)) (i : ℕ) → slice_get (xs ++ ys) (length xs + i) ≡ slice_get ys i
get_back [] ys i = let e : 0 + i ≡ i = omega arith in rw e refl
get_back (x ∷ xs) ys i = let e : suc (length xs) + i ≡ suc (length xs + i) = omega arith in rw e (get_back xs ys i)

pub get_first_going : (a b : Kind) (addr size i : ℕ) → i ≤ borders addr size
    → slice_get (each a (places addr size)) i ≡ slice_get (each a (places addr size) ++ each b (places addr size)) i
get_first_going a b addr size i h =
    let e = length_starts a (borders addr size) (addr / 4096 + 1) in
    sym (get_front (each a (places addr size)) (each b (places addr size)) i (omega arith))

pub get_second_going : (a b : Kind) (addr size i j : ℕ) → j + (borders addr size + 1) ≡ i
    → slice_get (each b (places addr size)) j ≡ slice_get (each a (places addr size) ++ each b (places addr size)) i
get_second_going a b addr size i j h =
    let e = length_starts a (borders addr size) (addr / 4096 + 1) in
    let k : length (each a (places addr size)) + j ≡ i = omega arith in
    sym (get_back (each a (places addr size)) (each b (places addr size)) j)
    ∙ ap (slice_get (each a (places addr size) ++ each b (places addr size))) k
