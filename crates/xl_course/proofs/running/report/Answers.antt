use Rattle.xl_course.proofs.Common.{◌∙◌, ◌≡◌, ◌⊎◌, Account, account, ap, arith, Bool, course, end_flushed, Ends, EndsAs, Err, false, Files, FlushAfter, FlushesEnd, front_of_more, front_written, inl, inr, is_all_put, IsFlushed, IsMore, joined, length, List, Ok, Option, Outside, Proceeds, proceeds_then, refl, Result, SinkMeaning, states_after, Stop, subst, sym, take_all, text_of, true, with_more, WroteFront, ℕ}
use Rattle.xl_outside.specs.Fronts.{with_none}
use Rattle.xl_course.proofs.EndLemmas.{front_text}
use Rattle.xl_course.proofs.KnownLemmas.{known_one}
use Rattle.xl_course.proofs.MeaningLemmas.{joined-append}
use Rattle.xl_course.specs.declared.stop.Stop.TheVariants as why
use Rattle.xl_course.proofs.running.report.Goals as goal

-- What a flush makes of the end of a run.
whole_front : (before after : Option (List ℕ)) (text : List ℕ) → after ≡ with_more before text → WroteFront before text after
whole_front before after text h = (length text, omega arith, h ∙ ap (with_more before) (sym (take_all (length text) text (omega arith))))

-- however a run ends, what it put is the front of its text
ends_front : (r : Result (Unit {0}) Stop) (w : Account) (b a : Option (List ℕ)) → EndsAs r w b a → WroteFront b (text_of w) a
ends_front (Ok u) w b a h = whole_front b a (text_of w) h.1
ends_front (Err (why.Input f)) w b a h = whole_front b a (text_of w) h.1
ends_front (Err why.WriteFault) w b a h = h
ends_front (Err why.ReadFault) w b a h =
    let all = ap joined h.split ∙ joined-append h.done h.left in
    front_text w b a
    (subst (λ (t : List ℕ). WroteFront b t a) (sym all) (front_of_more b a (joined h.done) (joined h.left) (whole_front b a (joined h.done) h.wrote)))
ends_front (Err why.NoMemory) w b a (inl h) = (0, omega arith, h ∙ with_none b)
ends_front (Err why.NoMemory) w b a (inr h) = front_text w b a (whole_front b a (joined w.lines) h.2)

module _ {K : Type 0} (sink : SinkMeaning K) (w : Account) (a b : K) (rows : Type 0)
    (e : IsFlushed sink a) where
  -- a put failed, and the sink is as it was then
  cut_ends : Ends (Err why.WriteFault) w sink.roomy (sink.taken a) (sink.taken b) a b rows → Proceeds false (sink.outside a) (sink.outside b) → IsMore (sink.outside b).written (sink.taken b)
      → Ends (Err why.WriteFault) w sink.roomy (sink.outside a).written (sink.outside b).written a b rows
  cut_ends x goes law = record {
    as_said = front_written (sink.outside a).written (sink.taken b) (sink.outside b).written (text_of w) (subst (λ (t : Option (List ℕ)). WroteFront t (text_of w) (sink.taken b)) (sym e) x.as_said) goes.stays law;
    room = x.room;
    served = tt;
  }

  -- the sink was flushed, or a put failed in that
  flush_ends : (end : Result (Unit {0}) Stop) (c : K) (whole : Bool) → Ends end w sink.roomy (sink.taken a) (sink.taken b) a b rows → Proceeds true (sink.outside a) (sink.outside b)
      → FlushAfter sink b c whole → IsMore (sink.outside c).written (sink.taken c)
      → Ends (end_flushed whole end) w sink.roomy (sink.outside a).written (sink.outside c).written a c rows
  flush_ends end c true x goes y law = record {
    as_said = subst (λ (t : Option (List ℕ)). EndsAs end w t (sink.outside c).written) (sym e) (subst (λ (t : Option (List ℕ)). EndsAs end w (sink.taken a) t) (sym (y.flushed ∙ y.keeps)) x.as_said);
    room = λ room h n. let left = x.room room h n in (left.0, (left.1.0, (y.calm left.1.0 left.1.1).1));
    served = x.served;
  }
  flush_ends end c false x goes y law =
      let front = subst (λ (t : Option (List ℕ)). WroteFront t (text_of w) (sink.taken c)) (sym e)
      (subst (λ (t : Option (List ℕ)). WroteFront (sink.taken a) (text_of w) t) (sym y.keeps) (ends_front end w (sink.taken a) (sink.taken b) x.as_said)) in
      record {
        as_said = front_written (sink.outside a).written (sink.taken c) (sink.outside c).written (text_of w) front (proceeds_then false (sink.outside a) (sink.outside b) (sink.outside c) goes y.proceeds).stays law;
        room = λ room h n. let left = (x.room room h n).1 in let calm = y.calm left.0 left.1 in (calm.0, (left.0, calm.1));
        served = tt;
      }

-- a flush at the end of a run: there is none, or one
abbrev FlushKind : {K : Type 0} (sink : SinkMeaning K) (b c : K) → Result (Unit {0}) Stop → Result (Unit {0}) Stop → Type 0
FlushKind sink b c end after =
    ((end ≡ Err why.WriteFault) × (c ≡ b) × (after ≡ Err why.WriteFault))
    ⊎ ((is_all_put end ≡ true) × (whole : Bool) × FlushAfter sink b c whole × (after ≡ end_flushed whole end))

flush_kind : {K : Type 0} (sink : SinkMeaning K) (b c : K) (end after : Result (Unit {0}) Stop)
    → FlushesEnd sink b c end after → FlushKind sink b c end after
flush_kind sink b c (Ok u) after h = inr (refl, h.0, h.1, h.2)
flush_kind sink b c (Err (why.Input f)) after h = inr (refl, h.0, h.1, h.2)
flush_kind sink b c (Err why.ReadFault) after h = inr (refl, h.0, h.1, h.2)
flush_kind sink b c (Err why.WriteFault) after h = inl (refl, h.0, h.1)
flush_kind sink b c (Err why.NoMemory) after h = inr (refl, h.0, h.1, h.2)

-- the end of a run and the flush after it, where there is one
module _ {K : Type 0} (sink : SinkMeaning K) (w : Account) (a b c : K) (rows : Type 0)
    (e : IsFlushed sink a) (law : IsMore (sink.outside c).written (sink.taken c)) where
  end_by : (end after : Result (Unit {0}) Stop) → Ends end w sink.roomy (sink.taken a) (sink.taken b) a b rows → Proceeds (is_all_put end) (sink.outside a) (sink.outside b)
      → FlushKind sink b c end after → Ends after w sink.roomy (sink.outside a).written (sink.outside c).written a c rows
  end_by end after x goes (inl (p, q, r)) =
      subst (λ (z : Result (Unit {0}) Stop). Ends z w sink.roomy (sink.outside a).written (sink.outside c).written a c rows) (sym r)
      (subst (λ (d : K). Ends (Err why.WriteFault) w sink.roomy (sink.outside a).written (sink.outside d).written a d rows) (sym q)
      (cut_ends sink w a b rows e
      (subst (λ (z : Result (Unit {0}) Stop). Ends z w sink.roomy (sink.taken a) (sink.taken b) a b rows) p x)
      (subst (λ (z : Result (Unit {0}) Stop). Proceeds (is_all_put z) (sink.outside a) (sink.outside b)) p goes)
      (subst (λ (d : K). IsMore (sink.outside d).written (sink.taken d)) q law)))
  end_by end after x goes (inr (t, whole, y, is)) =
      subst (λ (z : Result (Unit {0}) Stop). Ends z w sink.roomy (sink.outside a).written (sink.outside c).written a c rows) (sym is)
      (flush_ends sink w a b rows e end c whole x (subst (λ (z : Bool). Proceeds z (sink.outside a) (sink.outside b)) t goes) y law)

  end_then : (end after : Result (Unit {0}) Stop) → FlushesEnd sink b c end after → Proceeds (is_all_put end) (sink.outside a) (sink.outside b)
      → Ends end w sink.roomy (sink.taken a) (sink.taken b) a b rows → Ends after w sink.roomy (sink.outside a).written (sink.outside c).written a c rows
  end_then end after h goes x = end_by end after x goes (flush_kind sink b c end after h)

proceeds_whole : (whole : Bool) (end : Result (Unit {0}) Stop) (o p : Outside) → is_all_put end ≡ true → Proceeds whole o p → Proceeds (is_all_put (end_flushed whole end)) o p
proceeds_whole true end o p t h = subst (λ (z : Bool). Proceeds z o p) (sym t) h
proceeds_whole false end o p t h = h

-- what becomes of the sink outside, and of the folder
module _ {K : Type 0} (sink : SinkMeaning K) (a b c : K) (end after : Result (Unit {0}) Stop) where
  proceeds_by : Proceeds (is_all_put end) (sink.outside a) (sink.outside b) → FlushKind sink b c end after → Proceeds (is_all_put after) (sink.outside a) (sink.outside c)
  proceeds_by goes (inl (p, q, r)) =
      subst (λ (z : Result (Unit {0}) Stop). Proceeds (is_all_put z) (sink.outside a) (sink.outside c)) (p ∙ sym r) (subst (λ (d : K). Proceeds (is_all_put end) (sink.outside a) (sink.outside d)) (sym q) goes)
  proceeds_by goes (inr (t, whole, y, is)) =
      subst (λ (z : Result (Unit {0}) Stop). Proceeds (is_all_put z) (sink.outside a) (sink.outside c)) (sym is)
      (proceeds_whole whole end (sink.outside a) (sink.outside c) t
      (proceeds_then whole (sink.outside a) (sink.outside b) (sink.outside c) (subst (λ (z : Bool). Proceeds z (sink.outside a) (sink.outside b)) t goes) y.proceeds))

  proceeds_flushed : FlushesEnd sink b c end after → Proceeds (is_all_put end) (sink.outside a) (sink.outside b) → Proceeds (is_all_put after) (sink.outside a) (sink.outside c)
  proceeds_flushed h goes = proceeds_by goes (flush_kind sink b c end after h)

-- a flush that fails is a failed put, so NoMemory is from before the flush
unflushed : (whole : Bool) (end : Result (Unit {0}) Stop) → end_flushed whole end ≡ Err why.NoMemory → end ≡ Err why.NoMemory
unflushed true end h = h
unflushed false end h = cc

no_memory_before : {K : Type 0} (sink : SinkMeaning K) (b c : K) (end after : Result (Unit {0}) Stop)
    → FlushesEnd sink b c end after → after ≡ Err why.NoMemory → end ≡ Err why.NoMemory
no_memory_before sink b c end after h e = by_kind (flush_kind sink b c end after h)
  where
    by_kind : FlushKind sink b c end after → end ≡ Err why.NoMemory
    by_kind (inl (p, q, r)) = p ∙ sym r ∙ e
    by_kind (inr (t, whole, y, is)) = unflushed whole end (sym is ∙ e)

pub returns-clause-known : goal.returns-clause-known
returns-clause-known g c =
    let a = c.args in
    let m = g.D.Form.meaning in
    let of = λ (fs : Files). account m (g.C.Orders.answers a.orders.now) (g.D.Form.last (g.C.Orders.end a.orders.now)) (g.D.Form.late (g.C.Orders.end a.orders.now)) (course m (g.C.Orders.steps a.orders.now) (g.T.Source.left a.source.now fs)) (g.D.Form.state a.form.now a.rack.now) in
    let left = λ (fs : Files). g.D.Form.holds c.replay-end.new.rack (states_after m (course m (g.C.Orders.steps a.orders.now) (g.T.Source.left a.source.now fs)).items (g.D.Form.state a.form.now a.rack.now)) in
    known_one (g.F.Folder.folder.files a.folder.now)
    (λ fs. g.T.Source.reads_from a.source.now fs → Ends c.replay-end.result (of fs) g.K.Sink.sink.roomy (g.K.Sink.sink.taken a.out.now) (g.K.Sink.sink.taken c.replay-end.new.out) a.out.now c.replay-end.new.out (left fs)) _
    c.replay-end.ensures.known
    (λ fs h s. end_then g.K.Sink.sink (of fs) a.out.now c.replay-end.new.out c.flushed.new.out (left fs) c.requires.flushed (g.met.K.Sink.fronts c.flushed.new.out)
    c.replay-end.result c.flushed.result c.flushed.ensures c.replay-end.ensures.proceeds (h s))

pub returns-clause-proceeds : goal.returns-clause-proceeds
returns-clause-proceeds g c =
    proceeds_flushed g.K.Sink.sink c.args.out.now c.replay-end.new.out c.flushed.new.out c.replay-end.result c.flushed.result
    c.flushed.ensures c.replay-end.ensures.proceeds

pub returns-clause-early : goal.returns-clause-early
returns-clause-early g c e =
    c.replay-end.ensures.early (no_memory_before g.K.Sink.sink c.replay-end.new.out c.flushed.new.out c.replay-end.result c.flushed.result c.flushed.ensures e)
