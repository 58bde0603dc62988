-- Lines whose pages are kept: what the bytes of a page say of a line that has the same.
use Rattle.xl_lackey.proofs.Common.{◌*◌, ◌++◌, ◌+◌, ◌/◌, ◌<◌, ◌^◌, ◌∙◌, ◌∷◌, ◌≡◌, ◌≤◌, ◌⊎◌, [], accesses_at, All-drop, All-from_recursion, All-head, All-tail, All-take, ap, append_assoc, ap₂, arith, borders, codes, drop, drop-append-add, drop-take, false, Fetch, first_kind, Found, four_bytes, get_or, get_or-drop, get_or-take, hex_digit, hex_value, IfSome, inl, inr, is_modify, IsBeginning, IsFirstLine, IsPrefix, IsRecordLine, Kind, length, length-append, length-drop, length-take-le, Letter, List, number_l, Option, option_and_then, places, Prefix, refl, same_Some, size_in, slice_index, Some, subst, sym, take, take-add, take-append-add, take-append-drop, take-take, take_more, usual_front, ℕ}
use Rattle.std.specs.List.{All}
use Rattle.xl_lackey.proofs.AddressLemmas.{digit_and_rest, hex_more}
use Rattle.xl_lackey.proofs.NearLineLemmas.{comma_at, near_fits, numbers_at}
use Rattle.xl_lackey.proofs.OwnFormLemmas.{front_length}
use Rattle.xl_lackey.proofs.TableLemmas.{digit_bound}
use Rattle.xl_lackey.specs.declared.reference.Letter.TheVariants as letter

abbrev pub IsByte : ℕ → Type 0
IsByte b = b < 256

-- bytes with the same number are the same
number_same : (xs ys : List ℕ) → All IsByte xs → All IsByte ys → length xs ≡ length ys → number_l 256 xs ≡ number_l 256 ys → xs ≡ ys
number_same [] [] p q l e = refl
number_same [] (y ∷ ys) p q l e = absurd (omega (arith, l))
number_same (x ∷ xs) [] p q l e = absurd (omega (arith, l))
number_same (x ∷ xs) (y ∷ ys) p q l e =
    let a : x < 256 = All-head IsByte x xs p in
    let b : y < 256 = All-head IsByte y ys q in
    let sum : x + 256 * number_l 256 xs ≡ y + 256 * number_l 256 ys = e in
    let first : x ≡ y = omega (arith, sum, a, b) in
    let others : number_l 256 xs ≡ number_l 256 ys = omega (arith, sum, a, b) in
    ap₂ (λ (z : ℕ) (zs : List ℕ). z ∷ zs) first (number_same xs ys (All-tail IsByte x xs p) (All-tail IsByte y ys q) (omega (arith, l)) others)

four_same : (xs ys : List ℕ) → 4 ≤ length xs → 4 ≤ length ys → All IsByte xs → All IsByte ys → four_bytes xs ≡ four_bytes ys → take 4 xs ≡ take 4 ys
four_same [] ys m n p q e = absurd (omega (arith, m))
four_same (a ∷ []) ys m n p q e = absurd (omega (arith, m))
four_same (a ∷ b ∷ []) ys m n p q e = absurd (omega (arith, m))
four_same (a ∷ b ∷ c ∷ []) ys m n p q e = absurd (omega (arith, m))
four_same (a ∷ b ∷ c ∷ d ∷ xs) [] m n p q e = absurd (omega (arith, n))
four_same (a ∷ b ∷ c ∷ d ∷ xs) (k ∷ []) m n p q e = absurd (omega (arith, n))
four_same (a ∷ b ∷ c ∷ d ∷ xs) (k ∷ l ∷ []) m n p q e = absurd (omega (arith, n))
four_same (a ∷ b ∷ c ∷ d ∷ xs) (k ∷ l ∷ o ∷ []) m n p q e = absurd (omega (arith, n))
four_same (a ∷ b ∷ c ∷ d ∷ xs) (k ∷ l ∷ o ∷ u ∷ ys) m n p q e =
    number_same (a ∷ b ∷ c ∷ d ∷ []) (k ∷ l ∷ o ∷ u ∷ []) (All-take IsByte 4 (a ∷ b ∷ c ∷ d ∷ xs) p) (All-take IsByte 4 (k ∷ l ∷ o ∷ u ∷ ys) q) refl (omega (arith, e))

front_same : (extra : ℕ) (xs ys : List ℕ) → extra ≤ 4 → 4 ≤ length xs → 4 ≤ length ys → All IsByte xs → All IsByte ys
    → (extra ≡ 0) ⊎ (four_bytes xs ≡ four_bytes ys) → take extra xs ≡ take extra ys
front_same extra xs ys few m n p q (inl e) = ap (λ (k : ℕ). take k xs) e ∙ sym (ap (λ (k : ℕ). take k ys) e)
front_same extra xs ys few m n p q (inr e) =
    sym (take-take extra 4 xs few) ∙ ap (take extra) (four_same xs ys m n p q e) ∙ take-take extra 4 ys few

-- a line that has a page's bytes begins as the page's lines do
pub begins_same : (extra : ℕ) (text head : List ℕ) → extra ≤ 4 → 8 + extra ≤ length text → length head ≡ 8 + extra → All IsByte text → All IsByte head
    → number_l 256 (take 8 (drop extra text)) ≡ number_l 256 (drop extra head) → (extra ≡ 0) ⊎ (four_bytes text ≡ four_bytes head) → take (8 + extra) text ≡ head
begins_same extra text head few long many p q word front =
    let k : 8 + extra ≡ extra + 8 = omega arith in
    let size : length (take 8 (drop extra text)) ≡ length (drop extra head) =
    length-take-le 8 (drop extra text) (omega (arith, long, length-drop extra text)) ∙ omega (arith, many, length-drop extra head) in
    let last : take 8 (drop extra text) ≡ drop extra head =
    number_same (take 8 (drop extra text)) (drop extra head) (All-take IsByte 8 (drop extra text) (All-drop IsByte extra text p)) (All-drop IsByte extra head q) size word in
    ap (λ (n : ℕ). take n text) k ∙ take-add extra 8 text
    ∙ ap₂ (λ (xs ys : List ℕ). xs ++ ys) (front_same extra text head few (omega (arith, long)) (omega (arith, many)) p q front) last
    ∙ take-append-drop extra head

pub kept_begins : (extra : ℕ) (kept : Prefix) (text : List ℕ) (is : IsPrefix extra kept) → extra ≤ 4 → 8 + extra ≤ length text → All IsByte text
    → kept.word ≡ number_l 256 (take 8 (drop extra text)) → (extra ≡ 0) ⊎ (kept.front ≡ four_bytes text) → IsBeginning extra (take (8 + extra) text) kept.kind is.page
kept_begins extra kept text is few long bytes word front =
    let b = is.begins in
    let many : length is.head ≡ 8 + extra = omega (arith, ap length b.parts, length-append (usual_front b.letter) b.high, front_length b.letter, b.many) in
    let same : (extra ≡ 0) ⊎ (four_bytes text ≡ four_bytes is.head) = elim front [ inl e ↦ inl e | inr e ↦ inr (sym e ∙ is.front) ] in
    subst (λ (h : List ℕ). IsBeginning extra h kept.kind is.page)
    (sym (begins_same extra text is.head few long many bytes is.bytes (sym word ∙ is.word) same)) b

four_taken : (n : ℕ) (xs : List ℕ) → 4 ≤ n → four_bytes (take n xs) ≡ four_bytes xs
four_taken n xs h =
    rw (get_or-take n xs 0 0 (omega (arith, h)), get_or-take n xs 1 0 (omega (arith, h)), get_or-take n xs 2 0 (omega (arith, h)), get_or-take n xs 3 0 (omega (arith, h))) refl

-- a page as it is kept
pub page_kept : (extra : ℕ) (text : List ℕ) (kind : Kind) (page word front : ℕ) → 8 + extra ≤ length text → All IsByte text → IsBeginning extra (take (8 + extra) text) kind page
    → word ≡ number_l 256 (take 8 (drop extra text)) → front ≡ four_bytes text → IsPrefix extra (record { word = word; front = front; addr = page * 4096; kind = kind })
page_kept extra text kind page word front long bytes b w f = record {
  head = take (8 + extra) text;
  page = page;
  begins = b;
  bytes = All-take IsByte (8 + extra) text bytes;
  word = w ∙ ap (number_l 256) (sym (drop-take extra 8 text) ∙ ap (λ (k : ℕ). drop extra (take k text)) (omega arith));
  front = f ∙ sym (four_taken (8 + extra) text (omega arith));
  addr = refl;
}

-- more digits after those that were read
pub hex_then : (u v : ℕ) (xs ys : List ℕ) → hex_value u xs ≡ Some v → hex_value u (xs ++ ys) ≡ hex_value v ys
hex_then u v [] ys h = ap (λ (k : ℕ). hex_value k ys) (same_Some u v h)
hex_then u v (x ∷ xs) ys h =
    let parts = digit_and_rest (hex_digit x) (λ d. hex_value (u * 16 + d) xs) v h in
    ap (option_and_then (λ d. hex_value (u * 16 + d) (xs ++ ys))) parts.1 ∙ hex_then (u * 16 + parts.0) v xs ys parts.2

-- digits that were read, without the last
digit_under : (b d : ℕ) → hex_digit b ≡ Some d → d < 16
digit_under b d e = subst (λ (o : Option ℕ). IfSome o (λ k. k < 16)) e (digit_bound b)

hex_but_one : (u n b : ℕ) (xs : List ℕ) → hex_value u (xs ++ b ∷ []) ≡ Some n → hex_value u xs ≡ Some (n / 16)
hex_but_one u n b [] h =
    let parts = digit_and_rest (hex_digit b) (λ d. Some (u * 16 + d)) n h in
    ap Some (omega (arith, same_Some (u * 16 + parts.0) n parts.2, digit_under b parts.0 parts.1))
hex_but_one u n b (x ∷ xs) h =
    let parts = digit_and_rest (hex_digit x) (λ d. hex_value (u * 16 + d) (xs ++ b ∷ [])) n h in
    ap (option_and_then (λ d. hex_value (u * 16 + d) xs)) parts.1 ∙ hex_but_one (u * 16 + parts.0) n b xs parts.2

pub hex_less : (text : List ℕ) (count n : ℕ) → hex_value 0 (take (count + 1) text) ≡ Some n → count < length text → hex_value 0 (take count text) ≡ Some (n / 16)
hex_less text count n h within = hex_but_one 0 n (get_or text count 0) (take count text) (ap (hex_value 0) (sym (take_more text count 0 within)) ∙ h)

-- one digit more
pub hex_next : (text : List ℕ) (count v d : ℕ) → hex_value 0 (take count text) ≡ Some v → count < length text → hex_digit (get_or text count 0) ≡ Some d
    → hex_value 0 (take (count + 1) text) ≡ Some (v * 16 + d)
hex_next text count v d h within e = ap (hex_value 0) (take_more text count 0 within) ∙ hex_more 0 v (take count text) (get_or text count 0) d h e

-- how a line begins
pub line_begins : (extra : ℕ) (text numbers : List ℕ) (l : Letter) (kind : Kind) (page : ℕ) → text ≡ usual_front l ++ numbers → 5 + extra ≤ length numbers
    → hex_value 0 (take (5 + extra) numbers) ≡ Some page → page < 2 ^ 36 → kind ≡ first_kind l → is_modify l ≡ false
    → IsBeginning extra (take (8 + extra) text) kind page
line_begins extra text numbers l kind page e long value small first sole = record {
  letter = l;
  high = take (5 + extra) numbers;
  parts =
      ap (take (8 + extra)) e ∙ ap (λ (k : ℕ). take k (usual_front l ++ numbers)) (omega (arith, front_length l))
      ∙ take-append-add (usual_front l) numbers (5 + extra);
  many = length-take-le (5 + extra) numbers long;
  value = value;
  small = small;
  first = first;
  sole = sole;
}

-- the first page of all, of addresses of eight digits, of ten and of twelve
pub first_of_eight : IsPrefix 0 (record { word = 3472328296226627657; front = 807411785; addr = 0; kind = Fetch })
first_of_eight = record {
  head = codes "I  00000";
  page = 0;
  begins = record { letter = letter.I; high = codes "00000"; parts = refl; many = refl; value = refl; small = omega arith; first = refl; sole = refl };
  bytes = All-from_recursion IsByte (codes "I  00000") (omega arith, (omega arith, (omega arith, (omega arith, (omega arith, (omega arith, (omega arith, (omega arith, tt))))))));
  word = refl;
  front = refl;
  addr = refl;
}

pub first_of_ten : IsPrefix 2 (record { word = 3472328296227680288; front = 807411785; addr = 0; kind = Fetch })
first_of_ten = record {
  head = codes "I  0000000";
  page = 0;
  begins = record { letter = letter.I; high = codes "0000000"; parts = refl; many = refl; value = refl; small = omega arith; first = refl; sole = refl };
  bytes = All-from_recursion IsByte (codes "I  0000000") (omega arith, (omega arith, (omega arith, (omega arith, (omega arith, (omega arith, (omega arith, (omega arith, (omega arith, (omega arith, tt))))))))));
  word = refl;
  front = refl;
  addr = refl;
}

pub first_of_twelve : IsPrefix 4 (record { word = 3472328296227680304; front = 807411785; addr = 0; kind = Fetch })
first_of_twelve = record {
  head = codes "I  000000000";
  page = 0;
  begins = record { letter = letter.I; high = codes "000000000"; parts = refl; many = refl; value = refl; small = omega arith; first = refl; sole = refl };
  bytes = All-from_recursion IsByte (codes "I  000000000") (omega arith, (omega arith, (omega arith, (omega arith, (omega arith, (omega arith, (omega arith, (omega arith, (omega arith, (omega arith, (omega arith, (omega arith, tt))))))))))));
  word = refl;
  front = refl;
  addr = refl;
}

-- a record in one page is its sole access, where it is no modify
sole_access : (l : Letter) (kind : Kind) (addr size : ℕ) → kind ≡ first_kind l → is_modify l ≡ false → borders addr size ≡ 0
    → accesses_at l (places addr size) ≡ (addr, kind) ∷ []
sole_access letter.I kind addr size k m h = rw (h, k) refl
sole_access letter.L kind addr size k m h = rw (h, k) refl
sole_access letter.S kind addr size k m h = rw (h, k) refl
sole_access letter.M kind addr size k m h = cc

-- the line that a page and three digits give
pub kept_line : (extra : ℕ) (text low_text size_text : List ℕ) (kept : Prefix) (at above size digits : ℕ) (is : IsPrefix extra kept) → extra ≤ 4 → 19 ≤ length text
    → All IsByte text → kept.word ≡ number_l 256 (take 8 (drop extra text)) → (extra ≡ 0) ⊎ (kept.front ≡ four_bytes text)
    → low_text ≡ drop (8 + extra) text → (at < 4096 → (v : ℕ) → hex_value v (take 3 low_text) ≡ Some (v * 4096 + at)) → slice_index text (11 + extra) ≡ 44
    → size_text ≡ drop (12 + extra) text → Some (size, digits) ≡ size_in size_text → size ≡ above + 1 → at + above < 4096 → size < 100 → digits ≤ 2
    → slice_index size_text digits ≡ 10
    → IsRecordLine text (13 + extra + digits) (record { va = kept.addr + at; kind = kept.kind } ∷ [])
kept_line extra text low_text size_text kept at above size digits is few long bytes word front low_is low comma size_is sizes some fits little d newline =
    let page = is.page in
    let b = kept_begins extra kept text is few (omega (arith, long, few)) bytes word front in
    let small : at < 4096 = omega (arith, fits) in
    let rest : List ℕ = drop (8 + extra) text in
    let numbers : List ℕ = b.high ++ rest in
    let addr : ℕ = page * 4096 + at in
    let l = b.letter in
    let whole : text ≡ usual_front l ++ numbers =
    sym (take-append-drop (8 + extra) text) ∙ ap (λ (xs : List ℕ). xs ++ rest) b.parts ∙ append_assoc (usual_front l) b.high rest in
    let following : (n : ℕ) → drop (3 + n) text ≡ drop n numbers =
    λ n. ap (drop (3 + n)) whole ∙ ap (λ (k : ℕ). drop (k + n) (usual_front l ++ numbers)) (sym (front_length l)) ∙ drop-append-add (usual_front l) numbers n in
    let count : length b.high + 3 ≡ 8 + extra = omega (arith, b.many) in
    let first : take (8 + extra) numbers ≡ b.high ++ take 3 rest = ap (λ (k : ℕ). take k numbers) (sym count) ∙ take-append-add b.high rest 3 in
    let value : hex_value 0 (take (8 + extra) numbers) ≡ Some addr = ap (hex_value 0) first ∙ hex_then 0 page b.high (take 3 rest) b.value
    ∙ ap (λ (xs : List ℕ). hex_value page (take 3 xs)) (sym low_is) ∙ low small page in
    let size_numbers : length numbers ≡ length b.high + length rest = length-append b.high rest in
    let enough : 8 + extra + digits + 2 ≤ length numbers = omega (arith, size_numbers, b.many, few, d, long, length-drop (8 + extra) text) in
    let in_page : borders addr (above + 1) ≡ 0 = omega (arith, fits, small) in
    let at_comma : get_or numbers (8 + extra) 0 ≡ 44 =
    ap (λ (xs : List ℕ). get_or xs (8 + extra) 0) (sym (following 0)) ∙ get_or-drop 3 text (8 + extra) 0 ∙ ap (λ (k : ℕ). get_or text k 0) (omega arith) ∙ comma in
    let address = comma_at numbers addr (8 + extra) value (omega (arith, size_numbers, b.many, long, length-drop (8 + extra) text)) (omega arith) (omega (arith, few)) at_comma in
    let tail : size_text ≡ drop (8 + extra + 1) numbers = size_is ∙ ap (λ (k : ℕ). drop k text) (omega arith) ∙ following (8 + extra + 1) in
    let found = numbers_at numbers size_text addr (8 + extra) size above digits enough tail some little
    (near_fits addr size (omega (arith, b.small, small)) little) address sizes newline in
    let as_text : IsFirstLine text (8 + extra + digits + 5) (Found l addr (above + 1)) =
    subst (λ (t : List ℕ). IsFirstLine t (8 + extra + digits + 5) (Found l addr (above + 1))) (sym whole) (found.line l) in
    let line : IsFirstLine text (13 + extra + digits) (Found l addr (above + 1)) =
    subst (λ (k : ℕ). IsFirstLine text k (Found l addr (above + 1))) (omega arith) as_text in
    let record_line : IsRecordLine text (13 + extra + digits) (record { va = addr; kind = kept.kind } ∷ []) = record {
      verdict = Found l addr (above + 1);
      line = line;
      accesses_are = sole_access l kept.kind addr (above + 1) b.first b.sole in_page;
    } in
    subst (λ (a : ℕ). IsRecordLine text (13 + extra + digits) (record { va = a + at; kind = kept.kind } ∷ [])) (sym is.addr) record_line
