-- Eight bytes side by side, as lanes.
use Rattle.xl_lackey.proofs.Common.{if◌then◌else◌, ◌%◌, ◌*◌, ◌+◌, ◌<◌, ◌==◌, ◌^◌, ◌||◌, ◌∙◌, ◌∷◌, ◌≡◌, [], ap, ap₂, arith, bit_and, Bool, Each1, false, Fits, hex_digit, hex_value, is_below, lane_value, length, less, List, map, nat_le, nat_tests, None, number_l, number_of, Option, option_and_then, plus, refl, replicate, sel_l, Some, subst, suc, sym, top, true, w8, zero, zip2, ℕ}
use Rattle.std.proofs.lemmas.Grind.{and_high_numeral}
use Rattle.std.proofs.lemmas.Nat.{and_block}
use Rattle.xl_lackey.proofs.TableLemmas.{both_hold}

-- a fact of any eight elements is one of a list of eight
pub by_eight : (P : List ℕ → Type 0) → ((a b c d e f g h : ℕ) → P (a ∷ b ∷ c ∷ d ∷ e ∷ f ∷ g ∷ h ∷ [])) → (xs : List ℕ) → length xs ≡ 8 → P xs
by_eight P q [] k = absurd (omega arith)
by_eight P q (a ∷ []) k = absurd (omega arith)
by_eight P q (a ∷ b ∷ []) k = absurd (omega arith)
by_eight P q (a ∷ b ∷ c ∷ []) k = absurd (omega arith)
by_eight P q (a ∷ b ∷ c ∷ d ∷ []) k = absurd (omega arith)
by_eight P q (a ∷ b ∷ c ∷ d ∷ e ∷ []) k = absurd (omega arith)
by_eight P q (a ∷ b ∷ c ∷ d ∷ e ∷ f ∷ []) k = absurd (omega arith)
by_eight P q (a ∷ b ∷ c ∷ d ∷ e ∷ f ∷ g ∷ []) k = absurd (omega arith)
by_eight P q (a ∷ b ∷ c ∷ d ∷ e ∷ f ∷ g ∷ h ∷ []) k = q a b c d e f g h
by_eight P q (a ∷ b ∷ c ∷ d ∷ e ∷ f ∷ g ∷ h ∷ i ∷ rest) k = absurd (omega arith)

-- all lanes at once, as the vectors' operations give them
abbrev pub tests : List ℕ → List ℕ → List Bool
tests xs ys = map (top 7) (zip2 is_below xs ys)

abbrev pub smalls : List ℕ → List ℕ → List ℕ
smalls xs ys = sel_l (tests xs ys) xs ys

abbrev pub larges : List ℕ → List ℕ → List ℕ
larges xs ys = sel_l (tests xs ys) ys xs

abbrev pub read_lanes : List ℕ → List ℕ
read_lanes xs =
    smalls (zip2 plus (larges (zip2 less xs (replicate 8 58)) (replicate 8 6)) (replicate 8 10))
    (zip2 plus (smalls (zip2 less xs (replicate 8 97)) (replicate 8 118)) (replicate 8 10))

pub lanes_read : (xs : List ℕ) → length xs ≡ 8 → read_lanes xs ≡ map lane_value xs
lanes_read xs k = by_eight (λ xs. read_lanes xs ≡ map lane_value xs) (λ a b c d e f g h. refl) xs k

-- a lane below 16 is the byte's value, for all 256 bytes at once
abbrev right_at : ℕ → ℕ → Option ℕ → Bool
right_at b v None = nat_le 16 v
right_at b v (Some d) = nat_le 16 v || v == d

abbrev all_right : ℕ → ℕ → Bool
all_right zero b = true
all_right (suc n) b = if right_at b (lane_value b) (hex_digit b) then all_right n (suc b) else false

all_bytes : all_right 256 0 ≡ true
all_bytes = refl

right_of : (n b k : ℕ) → all_right n b ≡ true → k < n → right_at (b + k) (lane_value (b + k)) (hex_digit (b + k)) ≡ true
right_of zero b k h l = absurd (omega arith)
right_of (suc n) b zero h l =
    let z : b + 0 ≡ b = omega arith in
    rw z ((both_hold (right_at b (lane_value b) (hex_digit b)) (all_right n (suc b)) h).0)
right_of (suc n) b (suc k) h l =
    let t = both_hold (right_at b (lane_value b) (hex_digit b)) (all_right n (suc b)) h in
    let s : suc b + k ≡ b + suc k = omega arith in
    subst (λ (m : ℕ). right_at m (lane_value m) (hex_digit m) ≡ true) s (right_of n (suc b) k t.1 (omega arith))

by_right : (b v : ℕ) (o : Option ℕ) → right_at b v o ≡ true → v < 16 → o ≡ Some v
by_right b v None h l = absurd (grind (arith, nat_tests))
by_right b v (Some d) h l = let e : v ≡ d = grind (arith, nat_tests) in ap Some (sym e)

pub lane_digit : (b : ℕ) → b < 256 → lane_value b < 16 → hex_digit b ≡ Some (lane_value b)
lane_digit b h l =
    let z : 0 + b ≡ b = omega arith in
    by_right b (lane_value b) (hex_digit b) (subst (λ (m : ℕ). right_at m (lane_value m) (hex_digit m) ≡ true) z (right_of 256 0 b all_bytes h)) l

-- so digits in all lanes are the bytes' number
pub lanes_number : (value : ℕ) (bs : List ℕ) → Each1 (Fits w8) bs → Each1 (λ d. d < 16) (map lane_value bs) → hex_value value bs ≡ Some (number_of value (map lane_value bs))
lanes_number value [] f h = refl
lanes_number value (b ∷ bs) f h =
    ap (option_and_then (λ d. hex_value (value * 16 + d) bs)) (lane_digit b f.0.fits h.0)
    ∙ lanes_number (value * 16 + lane_value b) bs f.1 h.1

-- eight bytes as a number
pub word_small : (xs : List ℕ) → length xs ≡ 8 → Each1 (Fits w8) xs → number_l 256 xs < 2 ^ 64
word_small xs k s =
    by_eight (λ xs. Each1 (Fits w8) xs → number_l 256 xs < 2 ^ 64)
    (λ a b c d e f g h s. omega (arith, s.0.fits, s.1.0.fits, s.1.1.0.fits, s.1.1.1.0.fits, s.1.1.1.1.0.fits, s.1.1.1.1.1.0.fits, s.1.1.1.1.1.1.0.fits, s.1.1.1.1.1.1.1.0.fits)) xs k s

-- bytes without upper halves are below 16
pub halves_clear : (xs : List ℕ) → Each1 (Fits w8) xs → bit_and (number_l 256 xs) (number_l 256 (replicate (length xs) 240)) ≡ 0 → Each1 (λ d. d < 16) xs
halves_clear [] s h = tt
halves_clear (x ∷ xs) s h =
    let rest : ℕ = number_l 256 xs in
    let mask : ℕ = number_l 256 (replicate (length xs) 240) in
    let apart : bit_and (rest * 2 ^ 8 + x) (mask * 2 ^ 8 + 240) ≡ bit_and rest mask * 2 ^ 8 + bit_and x 240 = and_block 8 rest mask x 240 s.0.fits (omega arith) in
    let whole : bit_and (x + 256 * rest) (240 + 256 * mask) ≡ bit_and (rest * 2 ^ 8 + x) (mask * 2 ^ 8 + 240) =
    ap₂ (λ (m n : ℕ). bit_and m n) (omega arith) (omega arith) in
    let none : bit_and rest mask * 2 ^ 8 + bit_and x 240 ≡ 0 = sym apart ∙ sym whole ∙ h in
    let upper : bit_and x 240 + x % 2 ^ 4 ≡ x = and_high_numeral x 239 refl s.0.fits in
    (omega arith, halves_clear xs s.1 (omega arith))
