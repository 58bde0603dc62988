-- What the steps of a run say of its account.
use Rattle.xl_course.proofs.Common.{◌++◌, ◌+◌, ◌-◌, ◌∙◌, ◌≡◌, ◌≤◌, Account, account, ap, append-nil, arith, before, Bool, Course, EndAfter, ended, Ends, Err, false, front_of_more, InputFault, inr, is_all_put, joined, last_where, length, length-append, List, Meaning, None, Ok, Option, printed_by, printings, Proceeds, proceeds_same, Reached, refl, Result, Serves, sink_then, SinkAfter, SinkMeaning, Some, states_after, Stop, StopsServing, subst, sym, text_of, true, with_more, WroteFront, ℕ}
use Rattle.xl_course.proofs.MeaningLemmas.{printed-append, printings-append}
use Rattle.xl_course.specs.declared.stop.Stop.TheVariants as why

-- a course of which all items were served
abbrev whole : {I : Type 0} → List I → Option InputFault → Course I
whole xs f = record { items = xs; fault = f }

whole-is : {I : Type 0} (c : Course I) (xs : List I) (f : Option InputFault) → c ≡ before xs (ended f) → c ≡ whole xs f
whole-is {I} c xs f h = h ∙ ap (λ (ys : List I). whole ys f) (append-nil xs)

-- what was written is the front of the text
pub front_text : (a : Account) (before after : Option (List ℕ)) → WroteFront before (joined a.lines) after → WroteFront before (text_of a) after
front_text a before after h = front_of_more before after (joined a.lines) (last_where a.fault a.last) h

fits_text : (a : Account) → length (joined a.lines) ≤ length (text_of a)
fits_text a = let e = length-append (joined a.lines) (last_where a.fault a.last) in omega arith

module _ {K C I S : Type 0} (m : Meaning C I S) (sink : SinkMeaning K) (answers : Bool) (last : S → List ℕ) (late : Bool) where
  -- the account of a course
  abbrev Of : Course I → S → Account
  Of c p = account m answers last late c p

  -- the text of some first items fits where the text of all does
  fits_done : (done left items : List I) (p : S) → items ≡ done ++ left → length (printed_by m answers done p) ≤ length (printed_by m answers items p)
  fits_done done left items p h =
      let e : length (printed_by m answers items p) ≡ length (printed_by m answers done p) + length (printed_by m answers left (states_after m done p)) =
      ap (λ (xs : List I). length (printed_by m answers xs p)) h ∙ ap (λ (t : List ℕ). length t) (printed-append m answers done left p)
      ∙ length-append (printed_by m answers done p) (printed_by m answers left (states_after m done p)) in
      omega arith

  -- serving stopped
  pub serve_ends : (c : Course I) (p q : S) (k l : K) (stop : Stop) (left : Type 0)
      → Serves {A = Unit {0}} m sink answers c (ended None) p q k l (Err stop)
      → Ends (Err stop) (Of c p) sink.roomy (sink.taken k) (sink.taken l) k l left
  serve_ends c p q k l why.WriteFault left x = record {
    as_said = front_text (Of c p) (sink.taken k) (sink.taken l) x.writes.took;
    room = λ room h n.
        let f = fits_text (Of c p) in
        let calm = x.writes.calm room h (omega arith) in (calm.0, (room - length (printed_by m answers c.items p), calm.1));
    served = tt;
  }
  serve_ends c p q k l why.ReadFault left x =
      let done = x.reached.done in
      let split = ap (λ (z : Course I). z.items) x.reached.split in
      record {
        as_said = record {
          done = printings m answers done p;
          left = printings m answers x.left.items (states_after m done p);
          split = ap (λ (xs : List I). printings m answers xs p) split ∙ printings-append m answers done x.left.items p;
          wrote = x.reached.served.writes.took;
        };
        room = λ room h n.
            let f = fits_text (Of c p) in
            let e = fits_done done x.left.items c.items p split in
            (refl, (room - length (printed_by m answers done p), (x.reached.served.writes.calm room h (omega arith)).1));
        served = tt;
      }
  serve_ends c p q k l why.NoMemory left x = absurd x
  serve_ends c p q k l (why.Input f) left x =
      let e : text_of (Of (whole x.done (Some f)) p) ≡ printed_by m answers x.done p = append-nil (printed_by m answers x.done p) in
      subst (λ (z : Course I). Ends (Err (why.Input f)) (Of z p) sink.roomy (sink.taken k) (sink.taken l) k l left) (sym (whole-is c x.done (Some f) x.split))
      (record {
        as_said = (refl, x.served.writes.took ∙ ap (with_more (sink.taken k)) (sym e));
        room = λ room h n.
            let size = ap (λ (t : List ℕ). length t) e in
            (refl, (room - length (printed_by m answers x.done p), (x.served.writes.calm room h (omega (arith, size))).1));
        served = tt;
      })

  -- the lines written, and the end of the report after them
  text_then : (c : Course I) (p q : S) (k l n : K) (all : Bool) (x : Reached m sink answers c (ended None) p q k l)
      → SinkAfter sink (last q) l n all → SinkAfter sink (text_of (Of (whole x.done None) p)) k n all
  text_then c p q k l n all x y =
      sink_then sink (printed_by m answers x.done p) (last (states_after m x.done p)) k l n all x.served.writes
      (subst (λ (t : S). SinkAfter sink (last t) l n all) x.served.state_is y)

  -- all was served, and what is held of the state
  pub all_held : (holds : S → Type 0) (c : Course I) (p q : S) (k l : K) → Reached m sink answers c (ended None) p q k l
      → holds q → holds (states_after m c.items p)
  all_held holds c p q k l x h =
      subst (λ (d : Course I). holds (states_after m d.items p)) (sym (whole-is c x.done None x.split)) (subst holds x.served.state_is h)

  pub report_written : (holds : S → Type 0) (c : Course I) (p q : S) (k l n : K) → Reached m sink answers c (ended None) p q k l
      → SinkAfter sink (last q) l n true → holds q → Ends (Ok tt) (Of c p) sink.roomy (sink.taken k) (sink.taken n) k n (holds (states_after m c.items p))
  report_written holds c p q k l n x y h =
      let z = text_then c p q k l n true x y in
      subst (λ (d : Course I). Ends (Ok tt) (Of d p) sink.roomy (sink.taken k) (sink.taken n) k n (holds (states_after m d.items p))) (sym (whole-is c x.done None x.split))
      (record {
        as_said = (refl, z.took);
        room = λ room g n. (refl, (_, (z.calm room g n).1));
        served = subst holds x.served.state_is h;
      })

  pub report_cut : (c : Course I) (p q : S) (k l n : K) (stop : Stop) (left : Type 0) (x : Reached m sink answers c (ended None) p q k l)
      → EndAfter sink late (last q) l n (Err stop) → Ends (Err stop) (Of c p) sink.roomy (sink.taken k) (sink.taken n) k n left
  report_cut c p q k l n why.WriteFault left x y =
      let z = text_then c p q k l n false x y in
      subst (λ (d : Course I). Ends (Err why.WriteFault) (Of d p) sink.roomy (sink.taken k) (sink.taken n) k n left) (sym (whole-is c x.done None x.split))
      (record { as_said = z.took; room = λ room h n. ((z.calm room h n).0, (_, (z.calm room h n).1)); served = tt })
  report_cut c p q k l n why.ReadFault left x y = absurd y
  report_cut c p q k l n (why.Input f) left x y = absurd y
  report_cut c p q k l n why.NoMemory left x y =
      subst (λ (d : Course I). Ends (Err why.NoMemory) (Of d p) sink.roomy (sink.taken k) (sink.taken n) k n left) (sym (whole-is c x.done None x.split))
      (record {
        as_said = inr (y.0, refl, ap sink.taken y.1 ∙ x.served.writes.took);
        room = λ room h n.
            let known = printed_by m answers x.done p in
            let size = length-append known (last (states_after m x.done p)) in
            let calm = x.served.writes.calm room h (omega (arith, size)) in
            (refl, (room - length known, subst (λ (d : K). sink.roomy d (room - length known)) (sym y.1) calm.1));
        served = tt;
      })

  -- the end of the report was written, or not to its end
  pub report_done : (holds : S → Type 0) (c : Course I) (p q : S) (k l n : K) (r : Result (Unit {0}) Stop) → Reached m sink answers c (ended None) p q k l
      → EndAfter sink late (last q) l n r → holds q → Ends r (Of c p) sink.roomy (sink.taken k) (sink.taken n) k n (holds (states_after m c.items p))
  report_done holds c p q k l n (Ok u) x y h = report_written holds c p q k l n x y h
  report_done holds c p q k l n (Err stop) x y h = report_cut c p q k l n stop _ x y

-- and so the sink continues
pub end_proceeds : {K : Type 0} (sink : SinkMeaning K) (late : Bool) (text : List ℕ) (a b : K) (r : Result (Unit {0}) Stop)
    → EndAfter sink late text a b r → Proceeds (is_all_put r) (sink.outside a) (sink.outside b)
end_proceeds sink late text a b (Ok u) x = x.proceeds
end_proceeds sink late text a b (Err why.WriteFault) x = x.proceeds
end_proceeds sink late text a b (Err why.ReadFault) x = absurd x
end_proceeds sink late text a b (Err (why.Input f)) x = absurd x
end_proceeds sink late text a b (Err why.NoMemory) x = subst (λ k. Proceeds true (sink.outside a) (sink.outside k)) (sym x.1) (proceeds_same (sink.outside a))

-- NoMemory ends a report only where its end is made in memory
pub late_of : {K : Type 0} (sink : SinkMeaning K) (late : Bool) (text : List ℕ) (a b : K) (r : Result (Unit {0}) Stop)
    → EndAfter sink late text a b r → r ≡ Err why.NoMemory → late ≡ true
late_of sink late text a b r x e = (subst (EndAfter sink late text a b) e x).0

-- and serving never
pub served_still : (stop : Stop) → StopsServing stop → (r : Result (Unit {0}) Stop) → r ≡ Err stop → r ≡ Err why.NoMemory → ⊥
served_still why.NoMemory h r e f = h
served_still (why.Input g) h r e f = cc
served_still why.ReadFault h r e f = cc
served_still why.WriteFault h r e f = cc
