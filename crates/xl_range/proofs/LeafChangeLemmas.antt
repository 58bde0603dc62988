-- What the four changes leave of a sorted list of leaves, and whether a table of ranges has room for that.
use Rattle.xl_range.proofs.Common.{◌&&◌, ◌==◌, ◌∙◌, ◌∷◌, ◌≡◌, ◌≤◌, [], any-find, ap, arith, at_page, Bool, brought, Change, changed, cond, false, find, has_room, In, In-any, inl, inr, Insert, is_leaf, IsNamed, Leaf, leaf_key, leaf_named, length, List, named-first, named-is, named-space, nat_le, nat_lt, nat_tests, None, Option, Order, Perm, Protect, ranges_of, refl, Relocate, Remove, room_for, Runs, Some, sym, true, with_both, with_leaf, with_new, with_perm, without_leaf, without_old, ℕ}
use Rattle.xl_model_lemmas.proofs.InsertionLemmas.{In-with}

-- A test that a new leaf doesn't pass finds what it found.
pub finds-with : (p : Leaf → Bool) (x : Leaf) (xs : List Leaf) → p x ≡ false → ((z : Leaf) → In z xs → leaf_key z ≡ leaf_key x → ⊥) → find p (with_leaf x xs) ≡ find p xs
finds-with p x [] fails other = rw fails refl
finds-with p x (y ∷ ys) fails other =
    elim (leaf_key x == leaf_key y) as (λ b. (leaf_key x == leaf_key y) ≡ b → find p (cond b (x ∷ ys) (cond (nat_lt (leaf_key x) (leaf_key y)) (x ∷ y ∷ ys) (y ∷ with_leaf x ys))) ≡ find p (y ∷ ys)) [
      | true ↦ λ t. let e : leaf_key y ≡ leaf_key x = grind (arith, nat_tests) in absurd (other y (inl refl) e)
      | false ↦ λ t. elim (nat_lt (leaf_key x) (leaf_key y)) as (λ b. find p (cond b (x ∷ y ∷ ys) (y ∷ with_leaf x ys)) ≡ find p (y ∷ ys)) [
        | true ↦ rw fails refl
        | false ↦ ap (λ (o : Option Leaf). cond (p y) (Some y) o) (finds-with p x ys fails (λ z i. other z (inr i)))
      ]
    ] refl

-- A leaf that is there is named by its place.
named-own : (x : Leaf) (xs : List Leaf) → In x xs → IsNamed x.space x.first x.order xs
unfolding leaf_named
named-own x xs i =
    let same : is_leaf x.space x.first x.order x ≡ true = grind (arith, nat_tests) in
    sym (any-find (is_leaf x.space x.first x.order) xs) ∙ In-any (is_leaf x.space x.first x.order) x xs i same

-- So is one where it was put in, and one that covers a page.
pub new-named : (x : Leaf) (xs : List Leaf) → IsNamed x.space x.first x.order (with_leaf x xs)
new-named x xs = named-own x (with_leaf x xs) (In-with x xs)

-- Another leaf that is named stays so.
pub still-named : (space first : ℕ) (o : Order) (x : Leaf) (xs : List Leaf) → (x.first ≡ first → ⊥) → ((z : Leaf) → In z xs → leaf_key z ≡ leaf_key x → ⊥)
    → leaf_named space first o (with_leaf x xs) ≡ leaf_named space first o xs
unfolding leaf_named
still-named space first o x xs other keys = finds-with (is_leaf space first o) x xs (out (is_leaf space first o x) refl) keys
  where
    out : (b : Bool) → is_leaf space first o x ≡ b → is_leaf space first o x ≡ false
    out true t = absurd (other (named-first space first o x t))
    out false t = t

-- What the changes leave, by the leaf that is named.
old-is : (space first : ℕ) (o : Order) (x : Leaf) (leaves : List Leaf) → leaf_named space first o leaves ≡ Some x → without_old (leaf_named space first o leaves) leaves ≡ without_leaf space first leaves
old-is space first o x leaves e =
    let t : is_leaf space first o x ≡ true = named-is space first o x leaves e in
    ap (λ (q : Option Leaf). without_old q leaves) e
    ∙ ap (λ (s : ℕ). without_leaf s x.first leaves) (named-space space first o x t)
    ∙ ap (λ (f : ℕ). without_leaf space f leaves) (named-first space first o x t)

pub insert-changed : (leaf : Leaf) (leaves : List Leaf) → changed (Insert leaf) leaves ≡ with_leaf leaf leaves
unfolding changed
insert-changed leaf leaves = refl

pub remove-changed : (space first : ℕ) (o : Order) (x : Leaf) (leaves : List Leaf) → leaf_named space first o leaves ≡ Some x → changed (Remove space first o) leaves ≡ without_leaf space first leaves
unfolding changed
remove-changed space first o x leaves e = old-is space first o x leaves e

pub protect-changed : (space first : ℕ) (o : Order) (perm : Perm) (x : Leaf) (leaves : List Leaf) → leaf_named space first o leaves ≡ Some x
    → changed (Protect space first o perm) leaves ≡ with_leaf (record x { perm = perm }) (without_leaf space first leaves)
unfolding changed
protect-changed space first o perm x leaves e =
    ap (λ (q : Option Leaf). with_new (with_perm perm q) (without_old (leaf_named space first o leaves) leaves)) e
    ∙ ap (with_leaf (record x { perm = perm })) (old-is space first o x leaves e)

pub relocate-changed : (space first to : ℕ) (o : Order) (x : Leaf) (leaves : List Leaf) → leaf_named space first o leaves ≡ Some x
    → changed (Relocate space first to o) leaves ≡ with_leaf (record x { first = to }) (without_leaf space first leaves)
unfolding changed
relocate-changed space first to o x leaves e =
    ap (λ (q : Option Leaf). with_new (at_page to q) (without_old (leaf_named space first o leaves) leaves)) e
    ∙ ap (with_leaf (record x { first = to })) (old-is space first o x leaves e)

-- Room, on the ranges of what a change leaves.
and-same : (b : Bool) → (b && b) ≡ b
and-same true = refl
and-same false = refl

pub insert-room : (leaf : Leaf) (leaves : List Leaf) (n : ℕ) → has_room (Insert leaf) leaves (Runs n) ≡ nat_le (length (ranges_of (with_leaf leaf leaves))) n
unfolding has_room changed with_both
insert-room leaf leaves n = and-same _

pub remove-room : (space first : ℕ) (o : Order) (leaves : List Leaf) (n : ℕ) → has_room (Remove space first o) leaves (Runs n) ≡ nat_le (length (ranges_of (changed (Remove space first o) leaves))) n
unfolding has_room
remove-room space first o leaves n = refl

pub protect-room : (space first : ℕ) (o : Order) (perm : Perm) (leaves : List Leaf) (n : ℕ) → has_room (Protect space first o perm) leaves (Runs n) ≡ nat_le (length (ranges_of (changed (Protect space first o perm) leaves))) n
unfolding has_room
protect-room space first o perm leaves n = refl

pub relocate-room : (space first to : ℕ) (o : Order) (x : Leaf) (leaves : List Leaf) (n : ℕ) → leaf_named space first o leaves ≡ Some x
    → has_room (Relocate space first to o) leaves (Runs n)
    ≡ (nat_le (length (ranges_of (with_leaf (record x { first = to }) leaves))) n && nat_le (length (ranges_of (changed (Relocate space first to o) leaves))) n)
unfolding has_room with_both
relocate-room space first to o x leaves n e =
    ap (λ (q : Option Leaf). room_for (at_page to q) (Relocate space first to o) leaves (Runs n)) e
    ∙ ap (λ (q : Option Leaf). nat_le (length (ranges_of (with_new (at_page to q) leaves))) n && nat_le (length (ranges_of (changed (Relocate space first to o) leaves))) n) e

-- Where there is room, what a change leaves has few enough ranges.
pub room-few : (c : Change) (leaves : List Leaf) (n : ℕ) → has_room c leaves (Runs n) ≡ true → length (ranges_of (changed c leaves)) ≤ n
unfolding has_room
room-few c leaves n t = few (brought c leaves) t
  where
    few : (o : Option Leaf) → room_for o c leaves (Runs n) ≡ true → length (ranges_of (changed c leaves)) ≤ n
    few None t = grind (arith, nat_tests)
    few (Some x) t = grind (arith, nat_tests)
