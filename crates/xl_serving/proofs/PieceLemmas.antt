-- What is left of a file when its next piece was fed, and where it ends.
use Rattle.xl_serving.proofs.Common.{if◌then◌else◌, ◌++◌, ◌+◌, ◌<◌, ◌∙◌, ◌≡◌, ◌≤◌, ◌⊎◌, [], ahead, ap, append_assoc, arith, at_end, at_first, Bool, cases_lt, drop, drop-drop, drop-take, drop_all, due, EndsBy, false, false≢true, Feeds, FeedsOf, Fills, HasMore, inl, inr, IsFedFrom, IsWithin, KeepsLeft, Left, left, left_by, left_of, length, length-take, limit, lines_by, List, nat_lt, nat_tests, None, Option, Progress, refl, Some, State, sym, take, take-append-drop, take-take, TraceTooLong, trail, true, unless_bad, ℕ}
use Rattle.xl_course.specs.declared.stop.Stop.TheVariants as why

-- a file past the limit, and one within it
pub long : (file : List ℕ) (p : Progress) → limit < length file → ahead file p ≡ trail p.number (due p.reader (drop p.at (take limit file))) (Some TraceTooLong)
long file p h =
    let e : nat_lt limit (length file) ≡ true = grind (arith, nat_tests) in
    ap (λ (t : Bool). if t then trail p.number (due p.reader (drop p.at (take limit file))) (Some TraceTooLong) else trail p.number (left p.reader (drop p.at file)) None) e

pub short : (file : List ℕ) (p : Progress) → length file ≤ limit → ahead file p ≡ trail p.number (left p.reader (drop p.at file)) None
short file p h =
    let e : nat_lt limit (length file) ≡ false = grind (arith, nat_tests) in
    ap (λ (t : Bool). if t then trail p.number (due p.reader (drop p.at (take limit file))) (Some TraceTooLong) else trail p.number (left p.reader (drop p.at file)) None) e

-- nothing was read yet
pub fed_first : (file : Option (List ℕ)) → IsFedFrom file at_first
fed_first None = record { none = refl; unfinished = refl; first = refl }
fed_first (Some file) = record { part = omega arith; most = omega arith; all = λ h. absurd (false≢true h) }

-- a piece of a file, and what follows it
piece_whole : (n at : ℕ) (file : List ℕ) → take n (drop at file) ++ drop (at + n) file ≡ drop at file
piece_whole n at file =
    ap (λ (bs : List ℕ). take n (drop at file) ++ bs) (sym (drop-drop n at file)) ∙ take-append-drop n (drop at file)

piece_part : (n at most : ℕ) (file : List ℕ) → at + n ≤ most → take n (drop at file) ++ drop (at + n) (take most file) ≡ drop at (take most file)
piece_part n at most file h =
    let same : take n (drop at file) ≡ take n (drop at (take most file)) =
    sym (drop-take at n file) ∙ ap (drop at) (sym (take-take (at + n) most file h)) ∙ drop-take at n (take most file) in
    ap (λ (bs : List ℕ). bs ++ drop (at + n) (take most file)) same ∙ piece_whole n at (take most file)

left_fed : (last : Bool) (old new : State) (piece rest : List ℕ) → new ≡ record old { held = old.held ++ piece } → left_by last new rest ≡ left_by last old (piece ++ rest)
left_fed last old new piece rest e =
    ap (λ (s : State). left_by last s rest) e ∙ ap (λ (bs : List ℕ). unless_bad old.bad old.lines (lines_by last bs)) (append_assoc old.held piece rest)

fed_long : (file : List ℕ) (n : ℕ) (old new : Progress) → new.reader ≡ record old.reader { held = old.reader.held ++ take n (drop old.at file) }
    → new.at ≡ old.at + n → new.number ≡ old.number → old.at + n ≤ limit → limit < length file → ahead file new ≡ ahead file old
fed_long file n old new e a m most h =
    long file new h
    ∙ ap (λ (l : Left). trail new.number l (Some TraceTooLong))
    (ap (λ (k : ℕ). due new.reader (drop k (take limit file))) a
    ∙ left_fed false old.reader new.reader (take n (drop old.at file)) (drop (old.at + n) (take limit file)) e
    ∙ ap (due old.reader) (piece_part n old.at limit file most))
    ∙ ap (λ (k : ℕ). trail k (due old.reader (drop old.at (take limit file))) (Some TraceTooLong)) m
    ∙ sym (long file old h)

fed_short : (file : List ℕ) (n : ℕ) (old new : Progress) → new.reader ≡ record old.reader { held = old.reader.held ++ take n (drop old.at file) }
    → new.at ≡ old.at + n → new.number ≡ old.number → length file ≤ limit → ahead file new ≡ ahead file old
fed_short file n old new e a m h =
    short file new h
    ∙ ap (λ (l : Left). trail new.number l None)
    (ap (λ (k : ℕ). left new.reader (drop k file)) a
    ∙ left_fed true old.reader new.reader (take n (drop old.at file)) (drop (old.at + n) file) e
    ∙ ap (left old.reader) (piece_whole n old.at file))
    ∙ ap (λ (k : ℕ). trail k (left old.reader (drop old.at file)) None) m
    ∙ sym (short file old h)

part_fed : (at n m len : ℕ) → at ≤ len → m ≡ at + n → (at + n ≤ len) ⊎ (n ≡ 0) → m ≤ len
part_fed at n m len h e w = elim w [ inl k ↦ omega arith | inr k ↦ omega arith ]

keeps_fed : (file : List ℕ) (n : ℕ) (old new : Progress) → IsWithin file old → Feeds file old.at n old.reader new.reader
    → new.at ≡ old.at + n → new.number ≡ old.number → old.at + n ≤ limit → new.reader.finished ≡ false → KeepsLeft file old new
keeps_fed file n old new w f a m most open_still = record {
  same = elim (cases_lt limit (length file)) [ inl h ↦ fed_long file n old new f.fed a m most h | inr h ↦ fed_short file n old new f.fed a m h ];
  within = record {
    part = part_fed old.at n new.at (length file) w.part a f.within;
    most = omega arith;
    all = λ h. absurd (false≢true (sym open_still ∙ h));
  };
}

-- the reader learned that the file has ended
abbrev finished : Progress → Progress
finished p = record p { reader = record p.reader { finished = true } }

keeps_finished : (file : List ℕ) (old new : Progress) → IsWithin file old → length file ≤ old.at → new ≡ finished old → KeepsLeft file old new
keeps_finished file old new w h e =
    let at = ap (λ (p : Progress). p.at) e in
    let part = w.part in
    let most = w.most in record {
      same = ap (ahead file) e;
      within = record { part = omega arith; most = omega arith; all = λ _. omega arith };
    }

pub keeps_both : (file : List ℕ) (old mid new : Progress) → KeepsLeft file old mid → KeepsLeft file mid new → KeepsLeft file old new
keeps_both file old mid new h k = record { same = k.same ∙ h.same; within = k.within }

-- at the limit: the file ends there, or it is too long
at_limit : (file : List ℕ) (p : Progress) → p.at ≡ limit → due p.reader [] ≡ ([], None) → limit < length file → ahead file p ≡ at_end (Some TraceTooLong)
at_limit file p a none h =
    let e : drop p.at (take limit file) ≡ [] = drop_all p.at (take limit file) (omega (arith, length-take limit file)) in
    long file p h ∙ ap (λ (bs : List ℕ). trail p.number (due p.reader bs) (Some TraceTooLong)) e ∙ ap (λ (l : Left). trail p.number l (Some TraceTooLong)) none

below_of_test : (m n : ℕ) → true ≡ nat_lt m n → m < n
below_of_test m n h = grind (arith, nat_tests)

pub fills_on : (file : Option (List ℕ)) (n : ℕ) (old new : Progress) → IsFedFrom file old → FeedsOf file old.at n old.reader new.reader
    → new.at ≡ old.at + n → new.number ≡ old.number → old.at + n ≤ limit → new.reader.finished ≡ false → Fills file old new
fills_on None n old new w f a m most u = absurd f
fills_on (Some file) n old new w f a m most u = keeps_fed file n old new w f a m most u

pub fills_to_end : (file : Option (List ℕ)) (n : ℕ) (old mid new : Progress) → IsFedFrom file old → FeedsOf file old.at n old.reader mid.reader
    → mid.at ≡ old.at + n → mid.number ≡ old.number → old.at + n ≤ limit → mid.reader.finished ≡ false → n ≡ 0 → new ≡ finished mid → Fills file old new
fills_to_end None n old mid new w f a m most u z e = absurd f
fills_to_end (Some file) n old mid new w f a m most u z e =
    let k = keeps_fed file n old mid w f a m most u in
    let end = f.end z in keeps_both file old mid new k (keeps_finished file mid new k.within (omega arith) e)

pub too_long : (file : Option (List ℕ)) (p : Progress) (more : Bool) → HasMore file limit more → more ≡ true → p.at ≡ limit
    → due p.reader [] ≡ ([], None) → EndsBy (why.Input TraceTooLong) (left_of file p)
too_long None p more h t a none = absurd h
too_long (Some file) p more h t a none = at_limit file p a none (below_of_test limit _ (sym t ∙ h))
