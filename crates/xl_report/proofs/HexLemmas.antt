-- The hexadecimal digits of a number, made of its bytes side by side.
use Rattle.xl_report.proofs.Common.{◌%◌, ◌++◌, ◌+◌, ◌/◌, ◌<◌, ◌^◌, ◌∙◌, ◌∷◌, ◌≡◌, [], ap, ap₂, arith, bit_and, digits_l, Each1, hex_digits, hex_glyph, length, List, map, map-append, pick_l, refl, replicate, sel_l, suc, top, zero, zip2, ℕ}
use Rattle.std.proofs.lemmas.Bool.Decides.{nat_tests}
use Rattle.std.proofs.lemmas.Nat.{and_mask}
use Rattle.std.specs.Prelude.{if◌then◌else◌, nat_le, nat_lt}
use Rattle.xl_report.specs.Halves.{halves_of}

-- a fact of any eight elements is one of a list of eight
by_eight : (P : List ℕ → Type 0) → ((a b c d e f g h : ℕ) → P (a ∷ b ∷ c ∷ d ∷ e ∷ f ∷ g ∷ h ∷ [])) → (xs : List ℕ) → length xs ≡ 8 → P xs
by_eight P q [] k = absurd (omega arith)
by_eight P q (a ∷ []) k = absurd (omega arith)
by_eight P q (a ∷ b ∷ []) k = absurd (omega arith)
by_eight P q (a ∷ b ∷ c ∷ []) k = absurd (omega arith)
by_eight P q (a ∷ b ∷ c ∷ d ∷ []) k = absurd (omega arith)
by_eight P q (a ∷ b ∷ c ∷ d ∷ e ∷ []) k = absurd (omega arith)
by_eight P q (a ∷ b ∷ c ∷ d ∷ e ∷ f ∷ []) k = absurd (omega arith)
by_eight P q (a ∷ b ∷ c ∷ d ∷ e ∷ f ∷ g ∷ []) k = absurd (omega arith)
by_eight P q (a ∷ b ∷ c ∷ d ∷ e ∷ f ∷ g ∷ h ∷ []) k = q a b c d e f g h
by_eight P q (a ∷ b ∷ c ∷ d ∷ e ∷ f ∷ g ∷ h ∷ i ∷ rest) k = absurd (omega arith)

-- a byte divided by a power of two, as a shift gives it
abbrev pub down : ℕ → ℕ → ℕ
down a b = a / 2 ^ b

lowers : (n : ℕ) (xs : List ℕ) → length xs ≡ n → zip2 bit_and xs (replicate n 15) ≡ map (λ x. x % 16) xs
lowers n [] k = refl
lowers zero (x ∷ xs) k = absurd (omega arith)
lowers (suc n) (x ∷ xs) k = ap₂ (λ (y : ℕ) (ys : List ℕ). y ∷ ys) (and_mask x 4) (lowers n xs (omega arith))

-- the places of the halves, the last byte's first, among the upper halves and then the lower ones
abbrev pub places : List ℕ
places = 7 ∷ 15 ∷ 6 ∷ 14 ∷ 5 ∷ 13 ∷ 4 ∷ 12 ∷ 3 ∷ 11 ∷ 2 ∷ 10 ∷ 1 ∷ 9 ∷ 0 ∷ 8 ∷ []

abbrev pub uppers : List ℕ → List ℕ
uppers xs = zip2 down xs (replicate 8 4)

pub halves_picked : (xs : List ℕ) → length xs ≡ 8 → pick_l 0 (uppers xs ++ zip2 bit_and xs (replicate 8 15)) places ≡ halves_of xs
halves_picked xs k =
    ap (λ (ys : List ℕ). pick_l 0 (uppers xs ++ ys) places) (lowers 8 xs k)
    ∙ by_eight (λ xs. pick_l 0 (uppers xs ++ map (λ x. x % 16) xs) places ≡ halves_of xs) (λ a b c d e f g h. refl) xs k

-- digits side by side, as the vectors' operations give them
abbrev pub is_below : ℕ → ℕ → ℕ
is_below a b = if nat_lt a b then 255 else 0

abbrev pub plus : ℕ → ℕ → ℕ
plus a b = (a + b) % 2 ^ 8

abbrev pub bases : ℕ → List ℕ → List ℕ
bases n xs = sel_l (map (top 7) (zip2 is_below xs (replicate n 10))) (replicate n 48) (replicate n 87)

glyph : (d : ℕ) → d < 16 → plus d (if nat_le 128 (is_below d 10) then 48 else 87) ≡ hex_glyph d
glyph d h = grind (arith, nat_tests)

pub glyphs_made : (n : ℕ) (xs : List ℕ) → length xs ≡ n → Each1 (λ d. d < 16) xs → zip2 plus xs (bases n xs) ≡ map hex_glyph xs
glyphs_made n [] k h = refl
glyphs_made zero (x ∷ xs) k h = absurd (omega arith)
glyphs_made (suc n) (x ∷ xs) k h = ap₂ (λ (y : ℕ) (ys : List ℕ). y ∷ ys) (glyph x h.0) (glyphs_made n xs (omega arith) h.1)

-- the halves of bytes are below 16
both : (xs ys : List ℕ) → Each1 (λ d. d < 16) xs → Each1 (λ d. d < 16) ys → Each1 (λ d. d < 16) (xs ++ ys)
both [] ys h k = k
both (x ∷ xs) ys h k = (h.0, both xs ys h.1 k)

pub halves_small : (xs : List ℕ) → Each1 (λ b. b < 256) xs → Each1 (λ d. d < 16) (halves_of xs)
halves_small [] h = tt
halves_small (b ∷ bs) h = both (halves_of bs) (b / 16 ∷ b % 16 ∷ []) (halves_small bs h.1) (omega (arith, h.0), (omega arith, tt))

pub bytes_small : (k n : ℕ) → Each1 (λ b. b < 256) (digits_l 256 k n)
bytes_small zero n = tt
bytes_small (suc k) n = (omega arith, bytes_small k (n / 256))

two_more : (xs : List ℕ) (a b : ℕ) → xs ++ a ∷ b ∷ [] ≡ (xs ++ a ∷ []) ++ b ∷ []
two_more [] a b = refl
two_more (x ∷ xs) a b = ap (λ (ys : List ℕ). x ∷ ys) (two_more xs a b)

-- the digits of a number, two a byte
abbrev pub twice : ℕ → ℕ
twice zero = zero
twice (suc k) = suc (suc (twice k))

pub digits_made : (k n : ℕ) → map hex_glyph (halves_of (digits_l 256 k n)) ≡ hex_digits (twice k) n
digits_made zero n = refl
digits_made (suc k) n =
    let above : n / 256 ≡ n / 16 / 16 = omega arith in
    let upper : n % 256 / 16 ≡ n / 16 % 16 = omega arith in
    let lower : n % 256 % 16 ≡ n % 16 = omega arith in
    map-append hex_glyph (halves_of (digits_l 256 k (n / 256))) (n % 256 / 16 ∷ n % 256 % 16 ∷ [])
    ∙ ap₂ (λ (xs ys : List ℕ). xs ++ ys)
    (digits_made k (n / 256) ∙ ap (λ (m : ℕ). hex_digits (twice k) m) above)
    (ap₂ (λ (u l : ℕ). hex_glyph u ∷ hex_glyph l ∷ []) upper lower)
    ∙ two_more (hex_digits (twice k) (n / 16 / 16)) (hex_glyph (n / 16 % 16)) (hex_glyph (n % 16))
