-- How many leaves an array holds after a touch and after a fill, and a purge of none.
use Rattle.xl_array.proofs.Common.{◌+◌, ◌<◌, ◌∙◌, ◌∷◌, ◌≡◌, [], ap, arith, Bool, drop, false, find, get_or, length, List, map, None, Option, refl, replicate, set, Some, suc, sym, take, true, zero, ℕ}
unfoldable use Rattle.xl_model.specs.Tlb.{array_hit, array_touched}
use Rattle.xl_model.specs.Tlb.{array_without, found_as, leaves_in_sets, set_number, takes_order, TlbArray, where_taken}
use Rattle.std.specs.Option.{IfNone, IfSome}
use Rattle.xl_model.specs.Recency.{in_front, purged, touched, with_newest, without_first}
use Rattle.xl_recency.specs.declared.item.Item.{Item}
use Rattle.xl_recency.specs.Lists.{items_in}
use Rattle.xl_model.specs.declared.leaf.Leaf.{Leaf}
use Rattle.xl_model.specs.LeafWords.{leaf_with}
use Rattle.xl_array.specs.Coding.{leaves_of}
use Rattle.std.proofs.lemmas.List.{length-map}
use Rattle.xl_model.specs.Base.{one_if}
use Rattle.xl_model.specs.declared.address.Order.{Order}
use Rattle.xl_array.specs.Hits.{word_touched}
use Rattle.std.specs.Prelude.{is_none, option_to_list}
use Rattle.xl_array.proofs.DropLemmas.{counted_items}
use Rattle.xl_model.specs.declared.address.Order.TheVariants as order

pub none_held : (n : ℕ) → leaves_in_sets (replicate n []) ≡ 0
none_held zero = refl
none_held (suc n) = omega (arith, none_held n)

-- a touch moves one
moved : (o : Option Leaf) (y : Leaf) (xs : List Leaf) → length (in_front o (y ∷ xs)) ≡ suc (length (in_front o xs))
moved None y xs = refl
moved (Some x) y xs = refl

touched-length : (p : Leaf → Bool) (xs : List Leaf) → length (touched p xs) ≡ length xs
touched-length p [] = refl
touched-length p (y ∷ xs) = go (p y) refl (touched-length p xs)
  where
    go : (b : Bool) → p y ≡ b → length (touched p xs) ≡ length xs → length (touched p (y ∷ xs)) ≡ suc (length xs)
    go true t e = rw t refl
    go false t e = rw t (moved (find p xs) y (without_first p xs) ∙ ap suc e)

same-held : (sets : List (List Leaf)) (k : ℕ) (ys : List Leaf) → length ys ≡ length (get_or sets k []) → leaves_in_sets (set sets k ys) ≡ leaves_in_sets sets
same-held [] zero ys e = refl
same-held [] (suc k) ys e = refl
same-held (s ∷ sets) zero ys e = ap (λ (n : ℕ). n + leaves_in_sets sets) e
same-held (s ∷ sets) (suc k) ys e = ap (λ (n : ℕ). length s + n) (same-held sets k ys e)

pub touched-held : (space page : ℕ) (leaf : Leaf) (a : TlbArray) → leaves_in_sets (array_touched space page leaf a).sets ≡ leaves_in_sets a.sets
unfolding array_touched
touched-held space page leaf a = same-held a.sets _ _ (touched-length _ _)

-- a fill adds one where none left
parted : {A : Type 0} (n : ℕ) (xs : List A) → length (take n xs) + length (drop n xs) ≡ length xs
parted zero xs = omega arith
parted (suc n) [] = refl
parted (suc n) (x ∷ xs) = let e = parted n xs in omega arith

one-left : (o : Option Item) → one_if (is_none o) + length (option_to_list o) ≡ 1
one-left None = refl
one-left (Some x) = refl

items-set : (sets : List (List Item)) (k n : ℕ) (ys : List Item) → k < length sets → length ys ≡ n + length (get_or sets k []) → items_in (set sets k ys) ≡ n + items_in sets
items-set [] k n ys h e = absurd (omega arith)
items-set (s ∷ sets) zero n ys h e = let f : length ys ≡ n + length s = e in omega arith
items-set (s ∷ sets) (suc k) n ys h e = let m = items-set sets k n ys (omega arith) e in omega arith

pub filled-held : (sets new : List (List Item)) (k width : ℕ) (x : Item) (left : Option Item) → k < length (map leaves_of sets)
    → new ≡ set sets k (with_newest width x (get_or sets k [])) → option_to_list left ≡ drop width (x ∷ get_or sets k [])
    → leaves_in_sets (map leaves_of new) ≡ one_if (is_none left) + leaves_in_sets (map leaves_of sets)
filled-held sets new k width x left h e f =
    let old : List Item = get_or sets k [] in
    let both = parted width (x ∷ old) in
    let gone : length (option_to_list left) ≡ length (drop width (x ∷ old)) = ap length f in
    let one = one-left left in
    let within : k < length sets = rw (length-map sets leaves_of) at h in
    let grown : length (with_newest width x old) ≡ one_if (is_none left) + length old = omega arith in
    counted_items new ∙ ap items_in e ∙ items-set sets k (one_if (is_none left)) (with_newest width x old) within grown
    ∙ ap (λ (n : ℕ). one_if (is_none left) + n) (sym (counted_items sets))

-- where nothing is held, nothing is found, and nothing leaves
empty-set : (sets : List (List Leaf)) (k : ℕ) → leaves_in_sets sets ≡ 0 → get_or sets k [] ≡ []
empty-set [] zero e = refl
empty-set [] (suc k) e = refl
empty-set ([] ∷ sets) zero e = refl
empty-set ([] ∷ sets) (suc k) e = empty-set sets k (omega (arith, e))
empty-set ((x ∷ xs) ∷ sets) k e = absurd (omega arith)

none-taken : (b : Bool) → where_taken b None ≡ None
none-taken true = refl
none-taken false = refl

none-found : (a : TlbArray) (space page : ℕ) (o : Order) → leaves_in_sets a.sets ≡ 0 → found_as a space page o ≡ None
none-found a space page o e = rw (empty-set a.sets (set_number a.spec o page) e) (none-taken (takes_order a.spec o))

pub empty-misses : (a : TlbArray) (space page : ℕ) → leaves_in_sets a.sets ≡ 0 → None ≡ array_hit a space page
unfolding array_hit
empty-misses a space page e =
    rw (none-found a space page order.K4 e, none-found a space page order.M2 e, none-found a space page order.G1 e) refl

unpurged : (p : Leaf → Bool) (sets : List (List Leaf)) → leaves_in_sets sets ≡ 0 → map (purged p) sets ≡ sets
unpurged p [] e = refl
unpurged p ([] ∷ sets) e = ap (λ (zs : List (List Leaf)). [] ∷ zs) (unpurged p sets (omega (arith, e)))
unpurged p ((x ∷ xs) ∷ sets) e = absurd (omega arith)

pub none-leaves : (p : Leaf → Bool) (a : TlbArray) → leaves_in_sets a.sets ≡ 0 → a ≡ array_without p a
none-leaves p a e = ap (λ (zs : List (List Leaf)). record a { sets = zs }) (sym (unpurged p a.sets e))

-- a look for a leaf of one order too
pub word-held : (space page : ℕ) (order : Order) (o : Option ℕ) (a b : TlbArray) → IfSome o (λ w. b ≡ word_touched space page order w a) → IfNone o (b ≡ a) → leaves_in_sets b.sets ≡ leaves_in_sets a.sets
word-held space page order None a b h n = ap (λ (z : TlbArray). leaves_in_sets z.sets) n
word-held space page order (Some w) a b h n = ap (λ (z : TlbArray). leaves_in_sets z.sets) h ∙ touched-held space page (leaf_with space page order w) a
