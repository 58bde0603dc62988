-- The orders of leaves, and places in pages and frames that leaves share or a command names.
use Rattle.xl_model_lemmas.proofs.Common.{◌%◌, ◌*◌, ◌+◌, ◌/◌, ◌<◌, ◌^◌, ◌≡◌, ◌≤◌, arith, covers, false, holds_frames, is_aligned, is_leaf, Leaf, leaf_key, level_of, levels_of, meets_block, Mode, nat_le, nat_tests, Order, page_of, pages_of, refl, true, ℕ}
use Rattle.xl_model.proofs.OrderLemmas.{same-level}
use Rattle.xl_model.specs.declared.address.Mode.TheVariants as mode
use Rattle.xl_model.specs.declared.address.Order.TheVariants as order

pub level-low : (o : Order) → level_of o ≤ 2
level-low order.K4 = omega arith
level-low order.M2 = omega arith
level-low order.G1 = omega arith

pub pages-some : (o : Order) → 0 < pages_of o
pages-some order.K4 = omega arith
pages-some order.M2 = omega arith
pages-some order.G1 = omega arith

-- a leaf covers its first page
pub first-covered : (x : Leaf) → covers x.space x.first x ≡ true
first-covered x = let p : 0 < pages_of x.order = pages-some x.order in grind (arith, nat_tests)

-- two leaves that cover one page of a space: each overlaps the other's block
pub covers-meets : (space page : ℕ) (x y : Leaf) → covers space page x ≡ true → covers space page y ≡ true
    → meets_block x.space x.first x.order y ≡ true
covers-meets space page x y a b = grind (arith, nat_tests)

-- a leaf that overlaps another's block covers a page with it
pub meets-covers : (x y : Leaf) → meets_block x.space x.first x.order y ≡ true
    → (page : ℕ) × (covers x.space page x ≡ true) × (covers x.space page y ≡ true)
meets-covers x y h =
    elim (nat_le x.first y.first) as (λ b. nat_le x.first y.first ≡ b → (page : ℕ) × (covers x.space page x ≡ true) × (covers x.space page y ≡ true)) [
      | true ↦ λ t. (y.first, meets-first x y h t, meets-own x y h)
      | false ↦ λ t. (x.first, first-covered x, meets-second x y h t)
    ] refl
  where
    meets-first : (x y : Leaf) → meets_block x.space x.first x.order y ≡ true → nat_le x.first y.first ≡ true → covers x.space y.first x ≡ true
    meets-first x y h t = grind (arith, nat_tests)

    meets-own : (x y : Leaf) → meets_block x.space x.first x.order y ≡ true → covers x.space y.first y ≡ true
    meets-own x y h = let p : 0 < pages_of y.order = pages-some y.order in grind (arith, nat_tests)

    meets-second : (x y : Leaf) → meets_block x.space x.first x.order y ≡ true → nat_le x.first y.first ≡ false → covers x.space x.first y ≡ true
    meets-second x y h t = grind (arith, nat_tests)

-- two leaves that hold one frame: each holds a frame of the other's block
pub holds-meets : (frame : ℕ) (x y : Leaf) → holds_frames frame 1 x ≡ true → holds_frames frame 1 y ≡ true
    → holds_frames x.frame (pages_of x.order) y ≡ true
holds-meets frame x y a b = grind (arith, nat_tests)

-- a leaf that holds a frame of another's block holds one with it
pub frame-shared : (x y : Leaf) → holds_frames x.frame (pages_of x.order) y ≡ true
    → (frame : ℕ) × (holds_frames frame 1 x ≡ true) × (holds_frames frame 1 y ≡ true)
frame-shared x y h =
    elim (nat_le x.frame y.frame) as (λ b. nat_le x.frame y.frame ≡ b → (frame : ℕ) × (holds_frames frame 1 x ≡ true) × (holds_frames frame 1 y ≡ true)) [
      | true ↦ λ t. (y.frame, first-held x y h t, own-frame y)
      | false ↦ λ t. (x.frame, own-frame x, second-held x y h t)
    ] refl
  where
    own-frame : (x : Leaf) → holds_frames x.frame 1 x ≡ true
    own-frame x = let p : 0 < pages_of x.order = pages-some x.order in grind (arith, nat_tests)

    first-held : (x y : Leaf) → holds_frames x.frame (pages_of x.order) y ≡ true → nat_le x.frame y.frame ≡ true → holds_frames y.frame 1 x ≡ true
    first-held x y h t = grind (arith, nat_tests)

    second-held : (x y : Leaf) → holds_frames x.frame (pages_of x.order) y ≡ true → nat_le x.frame y.frame ≡ false → holds_frames x.frame 1 y ≡ true
    second-held x y h t = grind (arith, nat_tests)

-- a leaf that is named has the name's key
pub named-key : (space first : ℕ) (o : Order) (x : Leaf) → is_leaf space first o x ≡ true → leaf_key x ≡ space * 2 ^ 52 + first
named-key space first o x h =
    let a : x.space ≡ space = grind (arith, nat_tests) in
    let b : x.first ≡ first = grind (arith, nat_tests) in
    rw (a, b) refl

pub named-space : (space first : ℕ) (o : Order) (x : Leaf) → is_leaf space first o x ≡ true → x.space ≡ space
named-space space first o x h = grind (arith, nat_tests)

pub named-first : (space first : ℕ) (o : Order) (x : Leaf) → is_leaf space first o x ≡ true → x.first ≡ first
named-first space first o x h = grind (arith, nat_tests)

pub named-order : (space first : ℕ) (o : Order) (x : Leaf) → is_leaf space first o x ≡ true → x.order ≡ o
named-order space first o x h = same-level x.order o (grind (arith, nat_tests))

-- the page of an aligned address is a multiple of the block's pages
page-aligned-in : (n page : ℕ) (o : Order) → (va : ℕ) → is_aligned o va ≡ true → va / 4096 % pages_of o ≡ 0
page-aligned-in n page order.K4 va h = omega arith
page-aligned-in n page order.M2 va h = let e : va % 2097152 ≡ 0 = grind (arith, nat_tests) in omega arith
page-aligned-in n page order.G1 va h = let e : va % 1073741824 ≡ 0 = grind (arith, nat_tests) in omega arith

-- below a power of two that the size divides, a multiple of the size leaves room for a block
block-in : (o : Order) (m : Mode) (n : ℕ) → n % pages_of o ≡ 0
    → (n % 2 ^ (9 * levels_of m) + pages_of o ≤ 2 ^ (9 * levels_of m)) × (n % 2 ^ (9 * levels_of m) ≡ n % 2 ^ (9 * levels_of m) / pages_of o * pages_of o)
block-in order.K4 mode.Sv39 n h = (omega arith, omega arith)
block-in order.K4 mode.Sv48 n h = (omega arith, omega arith)
block-in order.K4 mode.Sv57 n h = (omega arith, omega arith)
block-in order.M2 mode.Sv39 n h = (omega arith, omega arith)
block-in order.M2 mode.Sv48 n h = (omega arith, omega arith)
block-in order.M2 mode.Sv57 n h = (omega arith, omega arith)
block-in order.G1 mode.Sv39 n h = (omega arith, omega arith)
block-in order.G1 mode.Sv48 n h = (omega arith, omega arith)
block-in order.G1 mode.Sv57 n h = (omega arith, omega arith)

pub page-block : (m : Mode) (o : Order) (va : ℕ) → is_aligned o va ≡ true
    → (page_of m va + pages_of o ≤ 2 ^ (9 * levels_of m)) × ((e : ℕ) × (page_of m va ≡ e * pages_of o))
unfolding page_of
page-block m o va h =
    let is = block-in o m (va / 4096) (page-aligned-in 0 0 o va h) in
    (is.0, (va / 4096 % 2 ^ (9 * levels_of m) / pages_of o, is.1))

-- a leaf that the table can take
pub aligned-frame : (o : Order) (frame e : ℕ) → frame ≡ e * pages_of o → frame % 2 ^ (9 * level_of o) ≡ 0
aligned-frame order.K4 frame e h = omega arith
aligned-frame order.M2 frame e h = omega arith
aligned-frame order.G1 frame e h = omega arith
