-- What the reader's answer says of the records that are left.
use Rattle.xl_serving.proofs.Common.{◌%◌, ◌++◌, ◌+◌, ◌<◌, ◌^◌, ◌∙◌, ◌∷◌, ◌≡◌, ◌≤◌, [], Accesses, accesses_of, ahead, ap, arith, Bool, cases_lt, drop, drop_all, due, false, false_from_ne_true, fault_of, Gives, inl, InputFault, inr, IsFedFrom, IsUnfed, IsWithin, KeepsLeft, Left, left, left_by, left_of, length, limit, List, MayCome, next_number, None, numbered, Option, Progress, Record, refl, Some, State, sym, take, TraceTooLong, Trail, trail, true, with_record, with_records, ℕ}
use Rattle.xl_serving.proofs.PieceLemmas.{long, short}

-- a file past the limit isn't at its end
unfinished : (file : List ℕ) (p : Progress) → IsWithin file p → limit < length file → p.reader.finished ≡ false
unfinished file p w h = false_from_ne_true p.reader.finished (λ t. let a = w.all t in let m = w.most in omega arith)

may_come : (file : List ℕ) (p : Progress) → IsWithin file p → MayCome true p.reader (drop p.at file)
may_come file p w t = let a = w.all t in drop_all p.at file (omega arith)

pub same_within : (file : List ℕ) (old new : Progress) → IsWithin file old → new.at ≡ old.at → new.reader.finished ≡ old.reader.finished → IsWithin file new
same_within file old new w a f =
    let part = w.part in
    let most = w.most in record { part = omega arith; most = omega arith; all = λ h. a ∙ w.all (sym f ∙ h) }

-- records in front of others are numbered first
pub numbered_on : (n : ℕ) (rs later : List Record) → n < 2 ^ 64
    → numbered n (rs ++ later) ≡ numbered n rs ++ numbered ((n + length rs) % 2 ^ 64) later
numbered_on n [] later h = let e : n ≡ (n + 0) % 2 ^ 64 = omega arith in ap (λ (k : ℕ). numbered k later) e
numbered_on n (r ∷ rs) later h =
    let e : (next_number n + length rs) % 2 ^ 64 ≡ (n + length (r ∷ rs)) % 2 ^ 64 = omega arith in
    ap (λ (xs : List Accesses). accesses_of n r ∷ xs)
    (numbered_on (next_number n) rs later (omega arith) ∙ ap (λ (k : ℕ). numbered (next_number n) rs ++ numbered k later) e)

-- numbered records in front of those that are left
abbrev pub with_numbered : ℕ → List Record → Trail → Trail
with_numbered n rs t = record t { records = numbered n rs ++ t.records }

pub trail_on : (n : ℕ) (rs : List Record) (later : Left) (end : Option InputFault) → n < 2 ^ 64
    → trail n (with_records rs later) end ≡ with_numbered n rs (trail ((n + length rs) % 2 ^ 64) later end)
trail_on n rs later end h =
    ap (λ (xs : List Accesses). record { records = xs; fault = fault_of later.1 end }) (numbered_on n rs later.0 h)

-- what a reader gives, the trace gives
abbrev GivesAll : List Record → State → State → Type 0
GivesAll rs old new = (last : Bool) (rest : List ℕ) → MayCome last old rest → left_by last old rest ≡ with_records rs (left_by last new rest)

module _ (file : List ℕ) (rs : List Record) (old new : Progress) (w : IsWithin file old) (below : old.number < 2 ^ 64) (g : GivesAll rs old.reader new.reader) (a : new.at ≡ old.at)
    (m : new.number ≡ (old.number + length rs) % 2 ^ 64) where
  gives_long : limit < length file → ahead file old ≡ with_numbered old.number rs (ahead file new)
  gives_long h =
      long file old h
      ∙ ap (λ (l : Left). trail old.number l (Some TraceTooLong)) (g false (drop old.at (take limit file)) (unfinished file old w h))
      ∙ trail_on old.number rs (due new.reader (drop old.at (take limit file))) (Some TraceTooLong) below
      ∙ ap (λ (k : ℕ). with_numbered old.number rs (trail ((old.number + length rs) % 2 ^ 64) (due new.reader (drop k (take limit file))) (Some TraceTooLong))) (sym a)
      ∙ ap (λ (k : ℕ). with_numbered old.number rs (trail k (due new.reader (drop new.at (take limit file))) (Some TraceTooLong))) (sym m)
      ∙ ap (with_numbered old.number rs) (sym (long file new h))

  gives_short : length file ≤ limit → ahead file old ≡ with_numbered old.number rs (ahead file new)
  gives_short h =
      short file old h
      ∙ ap (λ (l : Left). trail old.number l None) (g true (drop old.at file) (may_come file old w))
      ∙ trail_on old.number rs (left new.reader (drop old.at file)) None below
      ∙ ap (λ (k : ℕ). with_numbered old.number rs (trail ((old.number + length rs) % 2 ^ 64) (left new.reader (drop k file)) None)) (sym a)
      ∙ ap (λ (k : ℕ). with_numbered old.number rs (trail k (left new.reader (drop new.at file)) None)) (sym m)
      ∙ ap (with_numbered old.number rs) (sym (short file new h))

  pub gives_all : ahead file old ≡ with_numbered old.number rs (ahead file new)
  gives_all = elim (cases_lt limit (length file)) [ inl h ↦ gives_long h | inr h ↦ gives_short h ]

-- a record that a reader gives, the trace gives; of a file that isn't there none was read
pub gives_record : (file : Option (List ℕ)) (r : Record) (old new : Progress) → old.number < 2 ^ 64 → Gives r old.reader new.reader → new.at ≡ old.at
    → new.number ≡ next_number old.number → IsFedFrom file old → IsFedFrom file new × (left_of file old ≡ with_record (accesses_of old.number r) (left_of file new))
gives_record None r old new below g a m u = absurd (some_left (left old.reader []) (left new.reader []) (g.reads true [] (λ _. refl)) u.none)
  where
    some_left : (l later : Left) → l ≡ (r ∷ later.0, later.1) → ¬ (l ≡ ([], None))
    some_left l later e none = let f : r ∷ later.0 ≡ [] = ap (λ (x : Left). x.0) (sym e ∙ none) in cc
gives_record (Some file) r old new below g a m w =
    (same_within file old new w a g.finished, gives_all file (r ∷ []) old new w below g.reads a m)

-- What is left is still the same; nothing was fed of a file that isn't there.
abbrev pub Still : Option (List ℕ) → Progress → Progress → Type 0
Still None old new = IsUnfed new
Still (Some file) old new = KeepsLeft file old new
