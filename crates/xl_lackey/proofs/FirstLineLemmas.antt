-- The records of a text whose first line has Lackey's own form.
use Rattle.xl_lackey.proofs.Common.{◌++◌, ◌∙◌, ◌∷◌, ◌≡◌, [], address_in, ap, append-nil, drop, fits, Found, Letter, lines_by, lines_of, List, next_line, records, refl, size_in, Some, sym, true, usual_front, with_record, ℕ}
use Rattle.xl_lackey.proofs.OwnFormLemmas.{own_line}
use Rattle.xl_lackey.proofs.SplitLemmas.{first_is, IsFirst, records_step}

pub first_record : (n : ℕ) (l : Letter) (text u rest : List ℕ) (addr size count : ℕ) → address_in text ≡ Some (addr, u) → size_in u ≡ Some (size, count)
    → drop count u ≡ 10 ∷ rest → fits addr size ≡ true
    → records n (lines_of (usual_front l ++ text)) ≡ with_record (record { letter = l; addr = addr; size = size; line = next_line n }) (records (next_line n) (lines_of rest))
first_record n l text u rest addr size count address sizes newline within =
    let line = usual_front l ++ text in
    let first : IsFirst line rest (Found l addr size) = first_is line rest (Found l addr size) (own_line l text u rest addr size count address sizes newline within) in
    ap (λ (bs : List ℕ). records n (lines_by true bs)) (sym (append-nil line))
    ∙ sym (records_step true n (next_line n) line [] first.line rest (Found l addr size) _ first.parts refl refl first.verdict)
    ∙ ap (λ (bs : List ℕ). with_record (record { letter = l; addr = addr; size = size; line = next_line n }) (records (next_line n) (lines_by true bs))) (append-nil rest)
