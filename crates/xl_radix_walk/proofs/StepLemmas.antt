-- What a word says is a step of the walk.
use Rattle.xl_radix_walk.proofs.Common.{◌%◌, ◌*◌, ◌+◌, ◌-◌, ◌/◌, ◌<◌, ◌==◌, ◌^◌, ◌∙◌, ◌∷◌, ◌≡◌, [], ap, arith, bit, Bool, cond, decode_of, end_at, entered, entering, false, GoesTo, is_there, IsStep, IsWord, leaf_at, length, List, nat_tests, None, Option, place_of, pointer_at, ppn_of, Pte, radix_back, radix_path, reading, refl, says, slice_index, Some, step_of, subst, suc, sym, true, WalkEnd, word_in, zero, ℕ}
use Rattle.xl_model.specs.declared.perm.Perm.{Perm}
use Rattle.xl_pte.specs.declared.word.Pte.TheVariants as pte
use Rattle.xl_radix.specs.declared.walk_end.WalkEnd.TheVariants as end

-- a walk by what its first word says
back_by : Option Pte → List ℕ → ℕ → ℕ → WalkEnd
back_by None words level page = end.OutOfBus level
back_by (Some p) words level page = end_at p level (λ next. reading words level next page)

back-is : (words : List ℕ) (level node page : ℕ) → radix_back words level node page ≡ back_by (word_in words level node page) words level page
unfolding radix_back back_by
back-is words level node page = go (is_there words (place_of level node page))
  where
    go : (b : Bool) → cond b (end_at (decode_of (slice_index words (place_of level node page)) level) level (λ next. reading words level next page)) (end.OutOfBus level)
        ≡ back_by (cond b (Some (decode_of (slice_index words (place_of level node page)) level)) None) words level page
    go true = refl
    go false = refl

path_by : Option Pte → List ℕ → ℕ → ℕ → List ℕ
path_by None words level page = []
path_by (Some p) words level page = entered p (λ next. entering words level next page)

path-is : (words : List ℕ) (level node page : ℕ) → radix_path words level node page ≡ path_by (word_in words level node page) words level page
unfolding radix_path path_by
path-is words level node page = go (is_there words (place_of level node page))
  where
    go : (b : Bool) → cond b (entered (decode_of (slice_index words (place_of level node page)) level) (λ next. entering words level next page)) []
        ≡ path_by (cond b (Some (decode_of (slice_index words (place_of level node page)) level)) None) words level page
    go true = refl
    go false = refl

-- the numbers that words point to, and where
Points : Pte → ℕ → Type 0
Points (pte.Pointer node) level = (node < 2 ^ 44) × (0 < level)
Points pte.Invalid level = Unit {0}
Points (pte.Leaf frame perm) level = Unit {0}
Points pte.Reserved level = Unit {0}
Points pte.Misaligned level = Unit {0}

pointer-points : (level number : ℕ) → number < 2 ^ 44 → Points (pointer_at level number) level
unfolding Points
pointer-points level number h = go (level == 0) refl
  where
    go : (b : Bool) → (level == 0) ≡ b → Points (cond b pte.Reserved (pte.Pointer number)) level
    go true t = tt
    go false t = (h, grind (arith, nat_tests))

leaf-points : (level number : ℕ) (p : Perm) → Points (leaf_at level number p) level
unfolding Points
leaf-points level number p = go (number % 2 ^ (9 * level) == 0)
  where
    go : (b : Bool) → Points (cond b (pte.Leaf number p) pte.Misaligned) level
    go true = tt
    go false = tt

says-points : (r w x u : Bool) (level number : ℕ) → number < 2 ^ 44 → Points (says r w x u level number) level
unfolding Points
says-points false true x u level number h = tt
says-points false false false u level number h = pointer-points level number h
says-points false false true u level number h = leaf-points level number _
says-points true w x u level number h = leaf-points level number _

decode-points : (word level : ℕ) → Points (decode_of word level) level
unfolding Points decode_of
decode-points word level = go (bit word 0) (word / 2 ^ 54 == 0)
  where
    go : (a b : Bool) → Points (cond a (cond b (says (bit word 1) (bit word 2) (bit word 3) (bit word 4) level (ppn_of word)) pte.Reserved) pte.Invalid) level
    go true true = says-points (bit word 1) (bit word 2) (bit word 3) (bit word 4) level (ppn_of word) (omega arith)
    go true false = tt
    go false b = tt

entered-none : (words : List ℕ) (page : ℕ) (p : Pte) → Points p 0 → entered p (λ next. entering words 0 next page) ≡ []
unfolding Points
entered-none words page (pte.Pointer next) points = absurd (let h = points.1 in omega arith)
entered-none words page pte.Invalid points = refl
entered-none words page (pte.Leaf frame perm) points = refl
entered-none words page pte.Reserved points = refl
entered-none words page pte.Misaligned points = refl

-- a walk ends at level 0
pub path-none : (words : List ℕ) (node page : ℕ) → radix_path words 0 node page ≡ []
unfolding radix_path
path-none words node page = go (is_there words (place_of 0 node page))
  where
    go : (b : Bool) → cond b (entered (decode_of (slice_index words (place_of 0 node page)) 0) (λ next. entering words 0 next page)) [] ≡ []
    go true = entered-none words page (decode_of (slice_index words (place_of 0 node page)) 0) (decode-points (slice_index words (place_of 0 node page)) 0)
    go false = refl

word-points : (words : List ℕ) (level node page : ℕ) (p : Pte) → word_in words level node page ≡ Some p → Points p level
word-points words level node page p h = go (is_there words (place_of level node page)) h
  where
    go : (b : Bool) → cond b (Some (decode_of (slice_index words (place_of level node page)) level)) None ≡ Some p → Points p level
    go true k = let e : decode_of (slice_index words (place_of level node page)) level ≡ p = cc in
        let P : Pte → Type 0 = λ q. Points q level in subst P e (decode-points (slice_index words (place_of level node page)) level)
    go false k = absurd (cc)

on : (words : List ℕ) (level node page next : ℕ) → 0 < level → next < 2 ^ 44 → radix_back words level node page ≡ reading words level next page
    → radix_path words level node page ≡ next ∷ entering words level next page → GoesTo words level node page next
unfolding radix_back radix_path
on words zero node page next above small e p = absurd (omega arith)
on words (suc level) node page next above small e p =
    let same : suc level - 1 ≡ level = omega arith in
    let Q : ℕ → Type 0 = λ l. radix_path words (suc level) node page ≡ next ∷ radix_path words l next page in
    record { above = above; end = subst (λ (l : ℕ). radix_back words (suc level) node page ≡ radix_back words l next page) (sym same) e; path = subst Q (sym same) p; small = small }

by-word : (words : List ℕ) (level node page : ℕ) (o : Option Pte) → word_in words level node page ≡ o → IsStep words level node page (step_of o level)
unfolding back_by path_by Points
by-word words level node page None h = record { end = back-is words level node page ∙ ap (λ (o : Option Pte). back_by o words level page) h; path = path-is words level node page ∙ ap (λ (o : Option Pte). path_by o words level page) h; level_is = refl }
by-word words level node page (Some pte.Invalid) h = record { end = back-is words level node page ∙ ap (λ (o : Option Pte). back_by o words level page) h; path = path-is words level node page ∙ ap (λ (o : Option Pte). path_by o words level page) h; level_is = refl }
by-word words level node page (Some (pte.Leaf frame perm)) h = record { end = back-is words level node page ∙ ap (λ (o : Option Pte). back_by o words level page) h; path = path-is words level node page ∙ ap (λ (o : Option Pte). path_by o words level page) h; level_is = refl }
by-word words level node page (Some pte.Reserved) h = record { end = back-is words level node page ∙ ap (λ (o : Option Pte). back_by o words level page) h; path = path-is words level node page ∙ ap (λ (o : Option Pte). path_by o words level page) h; level_is = refl }
by-word words level node page (Some pte.Misaligned) h = record { end = back-is words level node page ∙ ap (λ (o : Option Pte). back_by o words level page) h; path = path-is words level node page ∙ ap (λ (o : Option Pte). path_by o words level page) h; level_is = refl }
by-word words level node page (Some (pte.Pointer next)) h =
    let points : Points (pte.Pointer next) level = word-points words level node page (pte.Pointer next) h in
    on words level node page next points.1 points.0
    (back-is words level node page ∙ ap (λ (o : Option Pte). back_by o words level page) h)
    (path-is words level node page ∙ ap (λ (o : Option Pte). path_by o words level page) h)

pub is_step : (words : List ℕ) (level node page : ℕ) (o : Option Pte) → o ≡ word_in words level node page → IsStep words level node page (step_of o level)
is_step words level node page o h = by-word words level node page o (sym h)

-- the word of a page in a node, from the bus
pub word-there : (words : List ℕ) (level node page place word : ℕ) → place ≡ place_of level node page → IsWord words place word → word_in words level node page ≡ Some (decode_of word level)
word-there words level node page place word e is =
    let t : is_there words (place_of level node page) ≡ true = grind (arith, nat_tests, is.there, e) in
    let w : slice_index words (place_of level node page) ≡ word = sym (is.same ∙ ap (λ (n : ℕ). slice_index words n) e) in
    rw (t, w) refl

pub word-gone : (words : List ℕ) (level node page place : ℕ) → place ≡ place_of level node page → length words < 4 * (place / 4) + 4 → word_in words level node page ≡ None
word-gone words level node page place e h =
    let t : is_there words (place_of level node page) ≡ false = grind (arith, nat_tests, h, e) in
    rw t refl
