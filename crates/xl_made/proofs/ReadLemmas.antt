-- What the lines of made records are read as.
use Rattle.xl_made.proofs.Common.{◌%◌, ◌*◌, ◌++◌, ◌+◌, ◌-◌, ◌/◌, ◌<◌, ◌^◌, ◌∙◌, ◌∷◌, ◌≡◌, ◌≤◌, ◌⊎◌, [], accesses_in, accesses_in_page, address_of, after, ap, arith, Bool, false, first_kind, Follows, hex_digits, hex_glyph, inl, inr, is_modify, IsFirst, IsFirstOf, Lcg, length, length-append, Letter, letter_of, List, nat_lt, page_of, pair, record_line, record_lines, record_of_word, refl, size_of, size_text, subst, suc, sym, Takes, takes_more, TakesFirst, true, usual_front, word, zero, ℕ}
use Rattle.std.proofs.lemmas.Bool.Decides.{nat_tests}
use Rattle.std.specs.Prelude.{if◌then◌else◌, map, Some}
use Rattle.xl_lackey.proofs.AddressLemmas.{hex_more}
use Rattle.xl_lackey.proofs.FirstLineLemmas.{first_record}
use Rattle.xl_lackey.proofs.NearLineLemmas.{comma_at, near_fits}
use Rattle.xl_lackey.specs.Accesses.{accesses_at, borders, starts}
use Rattle.xl_lackey.specs.Answers.{with_record}
use Rattle.xl_lackey.specs.Digits.{hex_digit, hex_value}
use Rattle.xl_lackey.specs.Lines.{address_in}
use Rattle.xl_lackey.specs.Stream.{next_line, records}
use Rattle.xl_lackey.specs.declared.skim.Access.{Access}
use Rattle.xl_model.specs.declared.address.Kind.{Kind}
use Rattle.xl_text.specs.Texts.{lines_of}
use Rattle.xl_made.proofs.MadeLemmas.{line-length, line_made}
use Rattle.xl_lackey.specs.declared.reference.Letter.TheVariants as letter

-- digits that are written are read
glyph_read : (d : ℕ) → d < 16 → hex_digit (hex_glyph d) ≡ Some d
glyph_read d h = grind (arith, nat_tests)

-- what n digits leave of a number
abbrev above : ℕ → ℕ → ℕ
above zero n = n
above (suc k) n = above k (n / 16)

digits_read : (k n : ℕ) → above k n ≡ 0 → hex_value 0 (hex_digits k n) ≡ Some n
digits_read zero n h = ap Some (sym h)
digits_read (suc k) n h =
    let whole : n / 16 * 16 + n % 16 ≡ n = omega arith in
    hex_more 0 (n / 16) (hex_digits k (n / 16)) (hex_glyph (n % 16)) (n % 16) (digits_read k (n / 16) h) (glyph_read (n % 16) (omega arith)) ∙ ap Some whole

-- the address in front of a text
address_read : (a : ℕ) (rest : List ℕ) → a < 2 ^ 32 → address_in (hex_digits 8 a ++ 44 ∷ rest) ≡ Some (a, rest)
address_read a rest h =
    let none : above 8 a ≡ 0 = omega arith in
    sym (comma_at (hex_digits 8 a ++ 44 ∷ rest) a 8 (digits_read 8 a none) (omega arith) (omega arith) (omega arith) refl)

-- the record that a line of a size is read as, in front of those of the lines that are left
abbrev ReadsAs : ℕ → Letter → ℕ → ℕ → List ℕ → List ℕ → Type 0
ReadsAs n l a s text rest = records n (lines_of text) ≡ with_record (record { letter = l; addr = a; size = s; line = next_line n }) (records (next_line n) (lines_of rest))

-- a line of a size that made records have
line_of_4 : (n : ℕ) (l : Letter) (a : ℕ) (rest : List ℕ) → a < 2 ^ 32 → ReadsAs n l a 4 (usual_front l ++ (hex_digits 8 a ++ 44 ∷ 52 ∷ 10 ∷ rest)) rest
line_of_4 n l a rest h =
    first_record n l (hex_digits 8 a ++ 44 ∷ 52 ∷ 10 ∷ rest) (52 ∷ 10 ∷ rest) rest a 4 1 (address_read a (52 ∷ 10 ∷ rest) h) refl refl (near_fits a 4 (omega (arith, h)) (omega arith))

line_of_8 : (n : ℕ) (l : Letter) (a : ℕ) (rest : List ℕ) → a < 2 ^ 32 → ReadsAs n l a 8 (usual_front l ++ (hex_digits 8 a ++ 44 ∷ 56 ∷ 10 ∷ rest)) rest
line_of_8 n l a rest h =
    first_record n l (hex_digits 8 a ++ 44 ∷ 56 ∷ 10 ∷ rest) (56 ∷ 10 ∷ rest) rest a 8 1 (address_read a (56 ∷ 10 ∷ rest) h) refl refl (near_fits a 8 (omega (arith, h)) (omega arith))

-- the parts of a line, one after another
abbrev line_with : Letter → ℕ → ℕ → List ℕ → List ℕ
line_with l a s rest = (usual_front l ++ hex_digits 8 a ++ size_text s) ++ rest

parts : (l : Letter) (a s : ℕ) (rest : List ℕ) → line_with l a s rest ≡ usual_front l ++ (hex_digits 8 a ++ size_text s ++ rest)
parts letter.I a s rest = refl
parts letter.L a s rest = refl
parts letter.S a s rest = refl
parts letter.M a s rest = refl

line_read : (n : ℕ) (l : Letter) (a : ℕ) (rest : List ℕ) (short : Bool) → a < 2 ^ 32
    → ReadsAs n l a (if short then 4 else 8) (line_with l a (if short then 4 else 8) rest) rest
line_read n l a rest true h = ap (λ (bs : List ℕ). records n (lines_of bs)) (parts l a 4 rest) ∙ line_of_4 n l a rest h
line_read n l a rest false h = ap (λ (bs : List ℕ). records n (lines_of bs)) (parts l a 8 rest) ∙ line_of_8 n l a rest h

page_low : (r : ℕ) (t : Bool) → (if t then r / 8 % 64 else r / 8 % 4096) ≤ 4095
page_low r true = omega arith
page_low r false = omega arith

pub address_low : (r : ℕ) → address_of r < 2 ^ 32
unfolding address_of page_of
address_low r = let p = page_low r (nat_lt (r / 2 ^ 28) 12) in omega arith

-- the line of a record is read as the record
pub record_read : (r n : ℕ) (rest : List ℕ) → records n (lines_of (record_line r ++ rest)) ≡ with_record (record_of_word r (next_line n)) (records (next_line n) (lines_of rest))
unfolding record_line size_of
record_read r n rest = line_read n (letter_of r) (address_of r) rest (nat_lt (r % 8) 3) (address_low r)

-- the first record of a made trace
pub first_made : (left : ℕ) (g : Lcg) → 0 < left → IsFirstOf (word g) (record_lines left g) (record_lines (left - 1) (after g))
first_made left g l =
    let e = line_made left g l in
    let size = ap (λ (bs : List ℕ). length bs) e in record {
      reads = λ n. ap (λ (bs : List ℕ). records n (lines_of bs)) e ∙ record_read (word g) n (record_lines (left - 1) (after g));
      fewer = omega (arith, size, length-append (record_line (word g)) (record_lines (left - 1) (after g)), line-length (word g));
    }

-- a record lies in one page
borders_none : (a s : ℕ) → a % 8 ≡ 0 → (s ≡ 4) ⊎ (s ≡ 8) → borders a s ≡ 0
borders_none a s h (inl e) = rw e (omega arith)
borders_none a s h (inr e) = rw e (omega arith)

abbrev size_by : Bool → ℕ
size_by t = if t then 4 else 8

size_either : (t : Bool) → (size_by t ≡ 4) ⊎ (size_by t ≡ 8)
size_either true = inl refl
size_either false = inr refl

record_in_page : (r : ℕ) → borders (address_of r) (size_of r) ≡ 0
unfolding address_of size_of
record_in_page r = borders_none (address_of r) (size_of r) (omega arith) (size_either (nat_lt (r % 8) 3))

-- its accesses there
accesses_there : (l : Letter) (a : ℕ) → accesses_at l (a ∷ []) ≡ map pair (accesses_in_page (is_modify l) a (first_kind l))
accesses_there letter.I a = refl
accesses_there letter.L a = refl
accesses_there letter.S a = refl
accesses_there letter.M a = refl

pub accesses_are : (r line : ℕ) → accesses_in (record_of_word r line) ≡ map pair (accesses_in_page (is_modify (letter_of r)) (address_of r) (first_kind (letter_of r)))
accesses_are r line =
    ap (λ (n : ℕ). accesses_at (letter_of r) (address_of r ∷ starts n (address_of r / 4096 + 1))) (record_in_page r) ∙ accesses_there (letter_of r) (address_of r)

-- one record more was taken
pub takes_first : (n : ℕ) (old mid new : List ℕ) (xs ys zs : List Access) (count : ℕ) → Takes n old mid xs ys count → TakesFirst mid new ys zs → Takes n old new xs zs (count + 1)
takes_first n old mid new xs ys zs count k f =
    let m : ℕ = next_line ((n + count) % 2 ^ 64) in
    subst (λ (all : List Access). Takes n old new xs all (count + 1)) (sym f.follows.follow)
    (takes_more n old mid new xs ys f.follows.got count (record_of_word f.word m) k (f.first.reads ((n + count) % 2 ^ 64)) (f.follows.each m))

-- what is put after the accesses that are there
pub follows_put : (r : ℕ) (before after : List Access) (m : Bool) (a : ℕ) (k : Kind) → m ≡ is_modify (letter_of r) → a ≡ address_of r → k ≡ first_kind (letter_of r)
    → after ≡ before ++ accesses_in_page m a k → Follows r before after
follows_put r before after m a k em ea ek h = record {
  got = accesses_in_page (is_modify (letter_of r)) (address_of r) (first_kind (letter_of r));
  follow =
      h
      ∙ ap (λ (t : Bool). before ++ accesses_in_page t a k) em
      ∙ ap (λ (n : ℕ). before ++ accesses_in_page (is_modify (letter_of r)) n k) ea
      ∙ ap (λ (j : Kind). before ++ accesses_in_page (is_modify (letter_of r)) (address_of r) j) ek;
  each = accesses_are r;
}

-- the first record, by what is drawn
pub first_given : (left : ℕ) (g h : Lcg) (w : ℕ) (now : List ℕ) (l : Letter) (a s : ℕ) → 0 < left → record_lines left g ≡ now → w ≡ word g → h ≡ after g
    → l ≡ letter_of w → a ≡ address_of w → s ≡ size_of w → IsFirst l a s now (record_lines (left - 1) h)
first_given left g h w now l a s some is drawn moved el ea es =
    rw (el ∙ ap letter_of drawn, ea ∙ ap address_of drawn, es ∙ ap size_of drawn, sym is, moved) (first_made left g some)
