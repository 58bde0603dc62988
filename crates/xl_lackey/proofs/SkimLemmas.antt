-- Records taken one after another.
use Rattle.xl_lackey.proofs.Common.{◌++◌, ◌+◌, ◌<◌, ◌^◌, ◌∙◌, ◌∷◌, ◌≡◌, ◌≤◌, [], Access, accesses_in, accesses_in_page, all_accesses, ap, append-nil, append_assoc, ap₂, arith, Bad, Bool, drop, drop-drop, false, Found, Gives, HasAccesses, IsFirstLine, IsRecordLine, IsSure, Kind, Left, length, length-append, length-drop, length-set, Letter, lines_after, lines_by, lines_of, List, map, map-append, next_line, None, pair, Record, records, refl, Run, Runs, runs_both, set, Skimmed, Skims, Skipped, State, Store, sym, take, take-set-le, take_more_set, Taken, Takes, true, Verdict, with_record, with_records, ℕ}
use Rattle.xl_model.specs.Base.{one_if}
use Rattle.xl_lackey.proofs.SplitLemmas.{first_is, IsFirst, on_from, records_step}
use Rattle.xl_lackey.proofs.StepLemmas.{left_passed}

-- no record was taken
pub taken_none : (xs : List Access) → Taken xs xs 0
taken_none xs = record { taken = []; got = []; follow = sym (append-nil xs); each = refl; many = refl }

pub runs_none : (text : List ℕ) (xs : List Access) → Runs text xs xs (record { used = 0; taken = 0 })
unfolding taken_none
runs_none text xs n h =
    let same : n ≡ lines_after n 0 = omega (arith, h) in
    record { within = omega arith; of = taken_none xs; reads = λ last rest. ap (λ (k : ℕ). records k (lines_by last (text ++ rest))) same }

-- records, and others after them
all-both : (rs qs : List Record) → all_accesses (rs ++ qs) ≡ all_accesses rs ++ all_accesses qs
all-both [] qs = refl
all-both (r ∷ rs) qs = ap (λ (xs : List (ℕ × Kind)). accesses_in r ++ xs) (all-both rs qs) ∙ sym (append_assoc (accesses_in r) (all_accesses rs) (all_accesses qs))

taken_both : (xs ys zs : List Access) (m k : ℕ) → Taken xs ys m → Taken ys zs k → Taken xs zs (m + k)
taken_both xs ys zs m k a b = record {
  taken = a.taken ++ b.taken;
  got = a.got ++ b.got;
  follow = b.follow ∙ ap (λ (us : List Access). us ++ b.got) a.follow ∙ append_assoc xs a.got b.got;
  each = all-both a.taken b.taken ∙ ap₂ (λ (us vs : List (ℕ × Kind)). us ++ vs) a.each b.each ∙ sym (map-append pair a.got b.got);
  many = omega (arith, a.many, b.many, length-append a.taken b.taken);
}

-- one record more was taken
taken_more : (xs ys more : List Access) (r : Record) (count : ℕ) → Taken xs ys count → accesses_in r ≡ map pair more → Taken xs (ys ++ more) (count + 1)
taken_more xs ys more r count k e =
    taken_both xs ys (ys ++ more) count 1 k (record { taken = r ∷ []; got = more; follow = refl; each = append-nil (accesses_in r) ∙ e; many = refl })

-- records before records before what comes after them
with_both : (rs qs : List Record) (later : Left) → with_records rs (with_records qs later) ≡ with_records (rs ++ qs) later
with_both rs qs later = ap (λ (all : List Record). (all, later.1)) (sym (append_assoc rs qs later.0))

skim_by : (n : ℕ) (text : List ℕ) (xs ys more : List Access) (run : Run) (count : ℕ) (v : Verdict) → Skims n text xs ys run → IsFirstLine (drop run.used text) count v
    → HasAccesses v more → Skims n text xs (ys ++ more) (record { used = run.used + count; taken = run.taken + 1 })
unfolding taken_more taken_both
skim_by n text xs ys more run count Skipped k line e = absurd e
skim_by n text xs ys more run count (Bad reason) k line e = absurd e
skim_by n text xs ys more run count (Found l addr size) k line e =
    let m = next_line (lines_after n run.taken) in
    let next : m ≡ lines_after n (run.taken + 1) = omega arith in
    let r : Record = record { letter = l; addr = addr; size = size; line = m } in
    let from = drop run.used text in
    let after = drop (run.used + count) text in
    let first : IsFirst from after (Found l addr size) = first_is from after (Found l addr size) (on_from run.used count text line.line) in record {
      within = omega (arith, line.within, k.within, length-drop run.used text);
      of = taken_more xs ys more r run.taken k.of e;
      reads = λ last rest.
          k.reads last rest
          ∙ ap (with_records k.of.taken) (sym (records_step last (lines_after n run.taken) m from rest first.line after (Found l addr size) _ first.parts refl refl first.verdict))
          ∙ with_both k.of.taken (r ∷ []) (records m (lines_by last (after ++ rest)))
          ∙ ap (λ (j : ℕ). with_records (k.of.taken ++ r ∷ []) (records j (lines_by last (after ++ rest)))) next;
    }

pub runs_more : (text : List ℕ) (xs ys more : List Access) (run : Run) (count : ℕ) → Runs text xs ys run → IsRecordLine (drop run.used text) count more
    → Runs text xs (ys ++ more) (record { used = run.used + count; taken = run.taken + 1 })
runs_more text xs ys more run count k h n small = skim_by n text xs ys more run count h.verdict (k n small) h.line h.accesses_are

-- lines that were read, and more after them
skim_then : (n : ℕ) (text : List ℕ) (xs ys zs : List Access) (r more : Run) → Skims n text xs ys r → Skims (lines_after n r.taken) (drop r.used text) ys zs more
    → Skims n text xs zs (runs_both r more)
unfolding taken_both
skim_then n text xs ys zs r more k m =
    let following : drop more.used (drop r.used text) ≡ drop (r.used + more.used) text = drop-drop more.used r.used text in
    let lines : lines_after (lines_after n r.taken) more.taken ≡ lines_after n (r.taken + more.taken) = omega arith in record {
      within = omega (arith, k.within, m.within, length-drop r.used text);
      of = taken_both xs ys zs r.taken more.taken k.of m.of;
      reads = λ last rest.
          k.reads last rest ∙ ap (with_records k.of.taken) (m.reads last rest)
          ∙ with_both k.of.taken m.of.taken (records (lines_after (lines_after n r.taken) more.taken) (lines_by last (drop more.used (drop r.used text) ++ rest)))
          ∙ ap₂ (λ (j : ℕ) (bs : List ℕ). with_records (k.of.taken ++ m.of.taken) (records j (lines_by last (bs ++ rest)))) lines following;
    }

pub runs_then : (text : List ℕ) (xs ys zs : List Access) (r more : Run) → Runs text xs ys r → Runs (drop r.used text) ys zs more → Runs text xs zs (runs_both r more)
runs_then text xs ys zs r more k m n small = skim_then n text xs ys zs r more (k n small) (m (lines_after n r.taken) (omega arith))

-- a reader that skims what it holds
pub skimmed : (old new : State) (text : List ℕ) (n : ℕ) (xs ys : List Access) (run : Run) → old.bad ≡ None → text ≡ old.held → n ≡ old.lines → n < 2 ^ 64 → Runs text xs ys run
    → new ≡ record old { lines = lines_after n run.taken; held = drop run.used old.held } → Skimmed old new xs ys run.taken
skimmed old new text n xs ys run h a b small runs e =
    let k = runs n small in
    let size = ap (λ (u : State). length u.held) e in record {
      of = k.of;
      reads = λ last rest m. left_passed last old new text n run.used (lines_after n run.taken) (with_records k.of.taken) h a b (k.reads last) e rest;
      no_more = omega (arith, size, length-drop run.used old.held);
      finished = ap (λ (u : State). u.finished) e;
    }

-- a reader that gives the record of the first line that it holds
pub gives_first : (old new : State) (text : List ℕ) (used n : ℕ) (l : Letter) (addr size : ℕ) → old.bad ≡ None → text ≡ old.held → n ≡ next_line old.lines
    → IsFirstLine text used (Found l addr size) → new ≡ record old { lines = n; held = drop used old.held }
    → Gives (record { letter = l; addr = addr; size = size; line = n }) old new
gives_first old new text used n l addr size h a b line e =
    let r : Record = record { letter = l; addr = addr; size = size; line = n } in
    let v : Verdict = Found l addr size in
    let after = drop used text in
    let first : IsFirst text after v = first_is text after v line.line in
    let left = ap (λ (u : State). length u.held) e in record {
      reads = λ last rest m. left_passed last old new text old.lines used n (with_record r) h a refl
          (λ bs. sym (records_step last old.lines n text bs first.line after v _ first.parts refl b first.verdict)) e rest;
      fewer = omega (arith, left, length-drop used old.held, line.some, line.within, ap length a);
      finished = ap (λ (u : State). u.finished) e;
      good = ap (λ (u : State). u.bad) e ∙ h;
    }

pub skimmed_none : (s : State) (xs : List Access) → Skimmed s s xs xs 0
unfolding taken_none
skimmed_none s xs = record { of = taken_none xs; reads = λ last rest m. refl; no_more = omega arith; finished = refl }

-- records taken of a text's lines
pub takes_none : (n : ℕ) (text : List ℕ) (xs : List Access) → n < 2 ^ 64 → Takes n text text xs xs 0
unfolding taken_none
takes_none n text xs h = record {
  of = taken_none xs;
  reads = let same : n ≡ lines_after n 0 = omega (arith, h) in ap (λ (k : ℕ). records k (lines_of text)) same;
}

pub takes_more : (n : ℕ) (old mid new : List ℕ) (xs ys more : List Access) (count : ℕ) (r : Record) → Takes n old mid xs ys count
    → records (lines_after n count) (lines_of mid) ≡ with_record r (records (next_line (lines_after n count)) (lines_of new)) → accesses_in r ≡ map pair more
    → Takes n old new xs (ys ++ more) (count + 1)
unfolding taken_more taken_both
takes_more n old mid new xs ys more count r k h e =
    let m : ℕ = next_line (lines_after n count) in
    let line : m ≡ lines_after n (count + 1) = omega arith in
    record {
      of = taken_more xs ys more r count k.of e;
      reads =
          k.reads ∙ ap (with_records k.of.taken) h ∙ with_both k.of.taken (r ∷ []) (records m (lines_of new))
          ∙ ap (λ (j : ℕ). with_records (k.of.taken ++ r ∷ []) (records j (lines_of new))) line;
    }

-- one record of one access less is sure
pub sure_less : (more sure later rest used : ℕ) (xs : List Access) (a : Access) → IsSure sure rest xs → more + 1 ≡ sure → used ≤ 19 → later + used ≡ rest
    → IsSure more later (xs ++ a ∷ [])
sure_less more sure later rest used xs a is e few parts = record {
  text = omega (arith, is.text, e, few, parts);
  room = omega (arith, is.room, e, length-append xs (a ∷ []));
}

-- an access and a store behind it, which counts where the record is a modify
put_both : (slots : List Access) (at : ℕ) (a b : Access) → at + 2 ≤ length slots → take (at + 2) (set (set slots at a) (at + 1) b) ≡ take at slots ++ a ∷ b ∷ []
put_both slots at a b h =
    let first : List Access = set slots at a in
    let within : at + 1 < length first = omega (arith, h, length-set slots at a) in
    let count : at + 2 ≡ at + 1 + 1 = omega arith in
    ap (λ (n : ℕ). take n (set first (at + 1) b)) count ∙ take_more_set first (at + 1) b within
    ∙ ap (λ (xs : List Access). xs ++ b ∷ []) (take_more_set slots at a (omega (arith, h))) ∙ append_assoc (take at slots) (a ∷ []) (b ∷ [])

put_first : (slots : List Access) (at : ℕ) (a b : Access) → at + 2 ≤ length slots → take (at + 1) (set (set slots at a) (at + 1) b) ≡ take at slots ++ a ∷ []
put_first slots at a b h = take-set-le (at + 1) (set slots at a) (at + 1) b (omega arith) ∙ take_more_set slots at a (omega (arith, h))

pub put_counted : (slots : List Access) (at count va : ℕ) (kind : Kind) (modify : Bool) → at + 2 ≤ length slots → count ≡ 1 + one_if modify
    → take (at + count) (set (set slots at (record { va = va; kind = kind })) (at + 1) (record { va = va; kind = Store })) ≡ take at slots ++ accesses_in_page modify va kind
put_counted slots at count va kind true h e =
    let a : Access = record { va = va; kind = kind } in
    let b : Access = record { va = va; kind = Store } in
    ap (λ (n : ℕ). take (at + n) (set (set slots at a) (at + 1) b)) e ∙ put_both slots at a b h
put_counted slots at count va kind false h e =
    let a : Access = record { va = va; kind = kind } in
    let b : Access = record { va = va; kind = Store } in
    ap (λ (n : ℕ). take (at + n) (set (set slots at a) (at + 1) b)) e ∙ put_first slots at a b h
