-- Arrays that hold leaves of 4 KiB alone.
use Rattle.xl_array.proofs.Common.{◌∙◌, ◌∷◌, ◌≡◌, [], All, ap, Bool, false, find, get_or, List, map, None, Option, refl, replicate, Some, subst, suc, sym, true, zero, ℕ}
unfoldable use Rattle.xl_model.specs.Tlb.{array_filled, array_hit, array_touched}
use Rattle.xl_model.specs.Tlb.{array_without, covers_as, filled_where, first_found, found_as, set_at, set_number, takes_order, TlbArray, where_taken}
use Rattle.std.specs.Option.{IfNone, IfSome}
use Rattle.xl_model.specs.Recency.{in_front, purged, touched, with_newest, without_first}
use Rattle.xl_array.specs.Held.{IsSmall}
use Rattle.xl_model.specs.declared.leaf.Leaf.{Leaf}
use Rattle.xl_model.specs.LeafWords.{leaf_with}
use Rattle.xl_model.specs.declared.address.Order.{Order}
use Rattle.xl_model.specs.Addresses.{same_order}
use Rattle.xl_array.specs.Hits.{word_touched}
use Rattle.std.proofs.lemmas.List.Elements.{All-cons, All-filter, All-head, All-nil, All-replicate, All-set, All-tail, All-take}
use Rattle.xl_model.specs.declared.address.Order.TheVariants as order

-- the leaves of one set
pub smalls-at : (sets : List (List Leaf)) (i : ℕ) → All (All IsSmall) sets → All IsSmall (get_or sets i [])
smalls-at [] i h = All-nil IsSmall
smalls-at (s ∷ sets) zero h = All-head (All IsSmall) s sets h
smalls-at (s ∷ sets) (suc i) h = smalls-at sets i (All-tail (All IsSmall) s sets h)

-- no larger leaf is found among small ones
other-order : (o : Order) (leaf : Leaf) (space page : ℕ) → same_order order.K4 o ≡ false → IsSmall leaf → covers_as space page o leaf ≡ false
other-order o leaf space page h small = rw (small, h) refl

none-larger : (o : Order) (space page : ℕ) (xs : List Leaf) → same_order order.K4 o ≡ false → All IsSmall xs → find (covers_as space page o) xs ≡ None
none-larger o space page [] h s = refl
none-larger o space page (x ∷ xs) h s =
    rw (other-order o x space page h (All-head IsSmall x xs s)) (none-larger o space page xs h (All-tail IsSmall x xs s))

taken-none : (b : Bool) → where_taken b None ≡ None
taken-none true = refl
taken-none false = refl

pub found-none : (a : TlbArray) (space page : ℕ) (o : Order) → same_order order.K4 o ≡ false → All (All IsSmall) a.sets → found_as a space page o ≡ None
found-none a space page o h s =
    ap (where_taken (takes_order a.spec o)) (none-larger o space page (set_at a o page) h (smalls-at a.sets (set_number a.spec o page) s))
    ∙ taken-none (takes_order a.spec o)

none-above : (a : TlbArray) (space page : ℕ) → All (All IsSmall) a.sets
    → first_found (found_as a space page order.M2) (found_as a space page order.G1) ≡ None
none-above a space page s =
    ap (λ (o : Option Leaf). first_found o (found_as a space page order.G1)) (found-none a space page order.M2 refl s) ∙ found-none a space page order.G1 refl s

first-none : (o : Option Leaf) → first_found o None ≡ o
first-none None = refl
first-none (Some leaf) = refl

pub hit-small : (a : TlbArray) (space page : ℕ) → All (All IsSmall) a.sets → array_hit a space page ≡ found_as a space page order.K4
unfolding array_hit
hit-small a space page s = ap (first_found (found_as a space page order.K4)) (none-above a space page s) ∙ first-none (found_as a space page order.K4)

-- a touch, a fill and a purge leave small leaves alone
find-all : (p : Leaf → Bool) (xs : List Leaf) → All IsSmall xs → IfSome (find p xs) IsSmall
find-all p [] s = tt
find-all p (x ∷ xs) s = go (p x) refl (find-all p xs (All-tail IsSmall x xs s))
  where
    go : (b : Bool) → p x ≡ b → IfSome (find p xs) IsSmall → IfSome (find p (x ∷ xs)) IsSmall
    go true e rest = rw e (All-head IsSmall x xs s)
    go false e rest = rw e rest

without-all : (p : Leaf → Bool) (xs : List Leaf) → All IsSmall xs → All IsSmall (without_first p xs)
without-all p [] s = s
without-all p (x ∷ xs) s = go (p x) refl (without-all p xs (All-tail IsSmall x xs s))
  where
    go : (b : Bool) → p x ≡ b → All IsSmall (without_first p xs) → All IsSmall (without_first p (x ∷ xs))
    go true e rest = rw e (All-tail IsSmall x xs s)
    go false e rest = rw e (All-cons IsSmall x (without_first p xs) (All-head IsSmall x xs s) rest)

front-all : (o : Option Leaf) (xs : List Leaf) → IfSome o IsSmall → All IsSmall xs → All IsSmall (in_front o xs)
front-all None xs h s = s
front-all (Some x) xs h s = All-cons IsSmall x xs h s

pub touched-small : (space page : ℕ) (leaf : Leaf) (a : TlbArray) → All (All IsSmall) a.sets → All (All IsSmall) (array_touched space page leaf a).sets
unfolding array_touched
touched-small space page leaf a s =
    let i : ℕ = set_number a.spec leaf.order page in
    let p : Leaf → Bool = covers_as space page leaf.order in
    let xs : List Leaf = set_at a leaf.order page in
    let small = smalls-at a.sets i s in
    All-set (All IsSmall) a.sets i (touched p xs) (front-all (find p xs) (without_first p xs) (find-all p xs small) (without-all p xs small)) s

filled-by : (b : Bool) (leaf : Leaf) (a : TlbArray) → IsSmall leaf → All (All IsSmall) a.sets → All (All IsSmall) (filled_where b leaf a).sets
filled-by false leaf a h s = s
filled-by true leaf a h s =
    let i : ℕ = set_number a.spec leaf.order leaf.first in
    let xs : List Leaf = set_at a leaf.order leaf.first in
    All-set (All IsSmall) a.sets i (with_newest a.spec.width leaf xs) (All-take IsSmall a.spec.width (leaf ∷ xs) (All-cons IsSmall leaf xs h (smalls-at a.sets i s))) s

pub filled-small : (leaf : Leaf) (a : TlbArray) → IsSmall leaf → All (All IsSmall) a.sets → All (All IsSmall) (array_filled leaf a).sets
unfolding array_filled
filled-small leaf a h s = filled-by (takes_order a.spec leaf.order) leaf a h s

purged-all : (p : Leaf → Bool) (sets : List (List Leaf)) → All (All IsSmall) sets → All (All IsSmall) (map (purged p) sets)
purged-all p [] s = s
purged-all p (x ∷ sets) s =
    All-cons (All IsSmall) (purged p x) (map (purged p) sets) (All-filter _ IsSmall x (All-head (All IsSmall) x sets s)) (purged-all p sets (All-tail (All IsSmall) x sets s))

pub purged-small : (p : Leaf → Bool) (a : TlbArray) → All (All IsSmall) a.sets → All (All IsSmall) (array_without p a).sets
purged-small p a s = purged-all p a.sets s

pub opened-small : (n : ℕ) → All (All IsSmall) (replicate n [])
opened-small n = All-replicate (All IsSmall) n [] (All-nil IsSmall)

pub word-small : (space page : ℕ) (o : Order) (found : Option ℕ) (a b : TlbArray) → IfSome found (λ w. b ≡ word_touched space page o w a) → IfNone found (b ≡ a) → All (All IsSmall) a.sets → All (All IsSmall) b.sets
word-small space page o None a b h n s = subst (λ (z : TlbArray). All (All IsSmall) z.sets) (sym n) s
word-small space page o (Some w) a b h n s = subst (λ (z : TlbArray). All (All IsSmall) z.sets) (sym h) (touched-small space page (leaf_with space page o w) a s)
