-- Lines that are made one after another.
use Rattle.xl_made.proofs.Common.{◌*◌, ◌++◌, ◌+◌, ◌-◌, ◌<◌, ◌≡◌, address_of, after, ap, arith, hex_digits, Lcg, length, length-append, Letter, letter_of, List, record_line, record_lines, refl, size_of, size_text, suc, usual_front, with_unmap, with_unmaps, word, zero, ℕ}
use Rattle.xl_lackey.specs.declared.reference.Letter.TheVariants as letter

-- every line has 14 bytes
line_by : (l : Letter) (address size : ℕ) → length (usual_front l ++ hex_digits 8 address ++ size_text size) ≡ 14
line_by letter.I address size = refl
line_by letter.L address size = refl
line_by letter.S address size = refl
line_by letter.M address size = refl

pub line-length : (r : ℕ) → length (record_line r) ≡ 14
unfolding record_line
line-length r = line_by (letter_of r) (address_of r) (size_of r)

pub lines-length : (n : ℕ) (g : Lcg) → length (record_lines n g) ≡ n * 14
lines-length zero g = refl
lines-length (suc n) g = omega (arith, length-append (record_line (word g)) (record_lines n (after g)), line-length (word g), lines-length n (after g))

-- the first line, and the others
pub line_made : (left : ℕ) (g : Lcg) → 0 < left → record_lines left g ≡ record_line (word g) ++ record_lines (left - 1) (after g)
line_made zero g l = absurd (omega arith)
line_made (suc n) g l = let less : n ≡ suc n - 1 = omega arith in ap (λ (k : ℕ). record_line (word g) ++ record_lines k (after g)) less

-- the lines for one word more
pub next_unmap : (script : List ℕ) (n i : ℕ) (g : Lcg) → i < n → with_unmaps (n - i) g script ≡ with_unmaps (n - (i + 1)) (after g) (with_unmap (word g) script)
next_unmap script n i g h =
    let e : n - i ≡ suc (n - (i + 1)) = omega arith in
    ap (λ (k : ℕ). with_unmaps k g script) e
