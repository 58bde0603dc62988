-- What the steps of a reader do to what is left for it.
use Rattle.xl_lackey.proofs.Common.{◌++◌, ◌+◌, ◌-◌, ◌<◌, ◌∙◌, ◌≡◌, ◌≤◌, [], Answers, ap, append-nil, ap₂, arith, Bad, Bool, cases_lt, drop, drop-take, drop_all, due, Ends, false, Gives, inl, inr, judge, Left, left, left_by, length, length-append, length-drop, length-take, length-take-le, lines_by, lines_of, List, MayCome, min, next_line, None, Option, parted, Record, records, Refuses, Skipped, Some, State, subst, sym, take, take-append-add, take-take, take_all, true, unless_bad, Verdict, with_record, with_verdict, ℕ}
use Rattle.xl_lackey.proofs.LongLineLemmas.{last_line, let_go, none_ended, parted_take}
use Rattle.xl_lackey.specs.declared.fault.Fault.{Fault}
use Rattle.xl_lackey.specs.declared.next.Next.{Next}
use Rattle.xl_lackey.specs.declared.next.Next.TheVariants as answer

take_short : (m n : ℕ) (l : List ℕ) → m < n → take (min n m) l ≡ take m (take n l)
take_short m n l h = let e : min n m ≡ m = omega arith in rw e (sym (take-take m n l (omega arith)))

take_long : (m n : ℕ) (l : List ℕ) → n ≤ m → take (min n m) l ≡ take m (take n l)
take_long m n l h =
    let e : min n m ≡ n = omega arith in rw e (sym (take_all m (take n l) (omega (arith, length-take n l))))

take_least : (m n : ℕ) (l : List ℕ) → take (min n m) l ≡ take m (take n l)
take_least m n l = elim (cases_lt m n) [ inl k ↦ take_short m n l k | inr k ↦ take_long m n l k ]

-- the first bytes of a part of a buffer
pub take_part : (n start end : ℕ) (buf : List ℕ) → drop start (take (min end (start + n)) buf) ≡ take n (drop start (take end buf))
take_part n start end buf =
    ap (drop start) (take_least (start + n) end buf) ∙ drop-take start n (take end buf)

pub part_length : (start end : ℕ) (buf : List ℕ) → end ≤ length buf → length (drop start (take end buf)) ≡ end - start
part_length start end buf h = length-drop start (take end buf) ∙ ap (λ (n : ℕ). n - start) (length-take-le end buf h)

-- bytes that were put in front of a buffer, and n of those after them
pub put_after : (n count : ℕ) (held piece new : List ℕ) → new ≡ held ++ drop (length held) piece → n ≡ length piece → count + length held ≤ length piece
    → take (length held + count) (take n (new ++ drop (length new) piece)) ≡ held ++ take count (drop (length held) piece)
put_after n count held piece new e same fits =
    let size : length new ≡ length piece = omega (arith, ap length e, length-append held (drop (length held) piece), length-drop (length held) piece) in
    rw (drop_all (length new) piece (omega arith), append-nil new, take_all n new (omega arith), e) (take-append-add held (drop (length held) piece) count)

-- a state at which all is read up to here, and no bad line was returned
left_good : (last : Bool) (s : State) (rest : List ℕ) → s.bad ≡ None → left_by last s rest ≡ records s.lines (lines_by last (s.held ++ rest))
left_good last s rest h = ap (λ (b : Option Fault). unless_bad b s.lines (lines_by last (s.held ++ rest))) h

-- lines that are passed, whatever they give before what comes after them
pub left_passed : (last : Bool) (s t : State) (text : List ℕ) (before used n : ℕ) (gives : Left → Left) → s.bad ≡ None → text ≡ s.held → before ≡ s.lines
    → ((rest : List ℕ) → records before (lines_by last (text ++ rest)) ≡ gives (records n (lines_by last (drop used text ++ rest))))
    → t ≡ record s { lines = n; held = drop used s.held } → (rest : List ℕ) → left_by last s rest ≡ gives (left_by last t rest)
left_passed last s t text before used n gives h a b reads e rest =
    left_good last s rest h
    ∙ sym (ap₂ (λ (m : ℕ) (bs : List ℕ). records m (lines_by last (bs ++ rest))) b a)
    ∙ reads rest
    ∙ ap (λ (bs : List ℕ). gives (records n (lines_by last (drop used bs ++ rest)))) a
    ∙ sym (ap gives (ap (λ (u : State). left_by last u rest) e
    ∙ ap (λ (c : Option Fault). unless_bad c n (lines_by last (drop used s.held ++ rest))) h))

-- bytes of a long line that are dropped
pub left_kept : (last : Bool) (s t : State) → s.bad ≡ None → parted 10 s.held ≡ None → t ≡ record s { held = take 258 s.held }
    → (rest : List ℕ) → left_by last t rest ≡ left_by last s rest
left_kept last s t h none e rest =
    ap (λ (u : State). left_by last u rest) e
    ∙ ap (λ (b : Option Fault). unless_bad b s.lines (lines_by last (take 258 s.held ++ rest))) h
    ∙ let_go last s.lines s.held rest none ∙ sym (left_good last s rest h)

pub due_none : (s t : State) → s.bad ≡ None → parted 10 s.held ≡ None → t ≡ record s { held = take 258 s.held } → due t [] ≡ ([], None)
due_none s t h none e =
    ap (λ (u : State). due u []) e
    ∙ ap (λ (b : Option Fault). unless_bad b s.lines (lines_by false (take 258 s.held ++ []))) h
    ∙ ap (records s.lines) (none_ended (take 258 s.held) (parted_take 258 s.held none))

-- the last line
pub left_last : (s : State) (n : ℕ) (v : Verdict) → s.bad ≡ None → parted 10 s.held ≡ None → 0 < length s.held → v ≡ judge s.held → n ≡ next_line s.lines
    → left s [] ≡ with_verdict n v ([], None)
left_last s n v h none k e f =
    rw (e, f) (left_good true s [] h ∙ ap (records s.lines) (last_line s.held none k))

-- bytes that may follow at a state may follow at another whose input has ended where its has
may_come : (last : Bool) (s t : State) (rest : List ℕ) → t.finished ≡ s.finished → MayCome last s rest → MayCome last t rest
may_come true s t rest f m = λ q. m (sym f ∙ q)
may_come false s t rest f m = f ∙ m

-- an answer after lines that were skipped
pub answers_on : (r : Next) (old mid new : State) → ((last : Bool) (rest : List ℕ) → left_by last old rest ≡ left_by last mid rest)
    → mid.finished ≡ old.finished → length mid.held ≤ length old.held → Answers r mid new → Answers r old new
answers_on (answer.Found r) old mid new same f k h = record {
  reads = λ last rest m. same last rest ∙ h.reads last rest (may_come last old mid rest f m);
  fewer = omega (arith, h.fewer);
  finished = h.finished ∙ f;
  good = h.good;
}
answers_on answer.More old mid new same f k h = record {
  reads = λ last rest. h.reads last rest ∙ sym (same last rest);
  none = h.none;
  unfinished = h.unfinished;
  good = h.good;
  room = h.room;
  no_more = omega (arith, h.no_more);
}
answers_on answer.End old mid new same f k h = record {
  finished = sym f ∙ h.finished;
  reads = same true [] ∙ h.reads;
  stays = h.stays;
  still = h.still;
}
answers_on (answer.BadLine n why) old mid new same f k h = record {
  reads = λ last rest m. same last rest ∙ h.reads last rest (may_come last old mid rest f m);
  stays = h.stays;
  kept = h.kept;
  finished = h.finished ∙ f;
}

-- the last line, judged: nothing comes after it
abbrev passed : State → ℕ → State
passed s n = record s { lines = n; held = drop (length s.held) s.held }

left_emptied : (s t : State) (n : ℕ) → s.bad ≡ None → t ≡ passed s n → left t [] ≡ ([], None)
left_emptied s t n h p =
    ap (λ (u : State). left u []) p ∙ ap (λ (c : Option Fault). unless_bad c n (lines_of (drop (length s.held) s.held ++ []))) h
    ∙ ap (λ (bs : List ℕ). records n (lines_of (bs ++ []))) (drop_all (length s.held) s.held (omega arith))

-- at the end of the input nothing may come, and a last line counts
at_end : (s : State) (rest : List ℕ) (P : Bool → List ℕ → Type 0) → s.finished ≡ true → P true [] → (last : Bool) → MayCome last s rest → P last rest
at_end s rest P w h true m = subst (P true) (sym (m w)) h
at_end s rest P w h false m = absurd (true≢false (sym w ∙ m))
  where
    true≢false : ¬ (true ≡ false)
    true≢false e = cc

pub last_skipped : (s t : State) (n : ℕ) → s.bad ≡ None → s.finished ≡ true → parted 10 s.held ≡ None → 0 < length s.held
    → Skipped ≡ judge s.held → n ≡ next_line s.lines → t ≡ passed s n → Ends s t
last_skipped s t n h w none k e f p = record {
  finished = w;
  reads = left_last s n Skipped h none k e f;
  stays = left_emptied s t n h p;
  still = ap (λ (u : State). u.finished) p ∙ w;
}

pub last_found : (s t : State) (n : ℕ) (v : Verdict) (r : Record) → s.bad ≡ None → s.finished ≡ true → parted 10 s.held ≡ None → 0 < length s.held
    → v ≡ judge s.held → n ≡ next_line s.lines → t ≡ passed s n
    → ((later : Left) → with_verdict n v later ≡ with_record r later) → Gives r s t
last_found s t n v r h w none k e f p same = record {
  reads = λ last rest m.
      at_end s rest (λ last bs. left_by last s bs ≡ with_record r (left_by last t bs)) w
      (left_last s n v h none k e f ∙ same ([], None) ∙ sym (ap (with_record r) (left_emptied s t n h p))) last m;
  fewer =
      let size : length t.held ≡ length (drop (length s.held) s.held) = ap (λ (u : State). length u.held) p in
      omega (arith, size, length-drop (length s.held) s.held);
  finished = ap (λ (u : State). u.finished) p;
  good = ap (λ (u : State). u.bad) p ∙ h;
}

pub last_bad : (s t u : State) (n why : ℕ) → s.bad ≡ None → s.finished ≡ true → parted 10 s.held ≡ None → 0 < length s.held
    → Bad why ≡ judge s.held → n ≡ next_line s.lines → t ≡ passed s n → u ≡ record t { bad = Some (record { line = n; reason = why }) }
    → Refuses (record { line = n; reason = why }) s u
last_bad s t u n why h w none k e f p q = record {
  reads = λ last rest m.
      at_end s rest (λ last bs. left_by last s bs ≡ ([], Some (record { line = n; reason = why }))) w
      (left_last s n (Bad why) h none k e f) last m;
  stays = λ rest. ap (λ (x : State). left x rest) q;
  kept = ap (λ (x : State). x.bad) q;
  finished = ap (λ (x : State). x.finished) q ∙ ap (λ (x : State). x.finished) p;
}

-- all bytes held are passed
pub emptied : (s t : State) (used n : ℕ) → used ≡ length s.held → t ≡ record s { lines = n; held = drop used s.held } → t ≡ passed s n
emptied s t used n h p = p ∙ ap (λ (k : ℕ). record s { lines = n; held = drop k s.held }) h
