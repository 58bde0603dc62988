-- Texts that are written to a sink, in parts and one after another.
use Rattle.xl_outside.proofs.Common.{◌++◌, ◌+◌, ◌-◌, ◌∙◌, ◌≡◌, ◌≤◌, [], ap, append_assoc, append_cancel_left, arith, Bool, Counted, drop, false, FlushAfter, inl, inr, IsFlushed, IsMore, length, length-append, length-drop, List, more_none, more_then, None, Option, Outside, Proceeds, refl, SentAfter, SinkAfter, SinkMeaning, Some, subst, sym, take, take-add, take-append-add, take-append-drop, take-append-le, take-append_seam, take_all, take_rest, true, with_more, with_more-twice, with_none, WriteCounts, Wrote, WroteFront, ℕ}

-- the first `a`, and `n` of the rest as a slice of it is written
take-on : (bs : List ℕ) (a n : ℕ) → take a bs ++ take n (take (length bs - a) (drop a bs)) ≡ take (a + n) bs
take-on bs a n = rw take_rest (sym (take-add a n bs))

pub length-rest : (bs : List ℕ) (a : ℕ) → a ≤ length bs → length (take (length bs - a) (drop a bs)) + a ≡ length bs
length-rest bs a h = rw take_rest (omega (arith, length-drop a bs))

-- what is written so far continues by the next part
pub written_on : (before now after : Option (List ℕ)) (bs : List ℕ) (a n : ℕ)
    → now ≡ with_more before (take a bs) → after ≡ with_more now (take n (take (length bs - a) (drop a bs)))
    → after ≡ with_more before (take (a + n) bs)
written_on before now after bs a n h k =
    k ∙ ap (λ (w : Option (List ℕ)). with_more w (take n (take (length bs - a) (drop a bs)))) h
    ∙ with_more-twice before (take a bs) (take n (take (length bs - a) (drop a bs)))
    ∙ ap (with_more before) (take-on bs a n)

-- a sink as it was
pub proceeds_same : (o : Outside) → Proceeds true o o
proceeds_same o = record { stays = more_none o.written; counts = refl }

-- nothing is put
pub sink_same : {D : Type 0} (sink : SinkMeaning D) (a : D) → SinkAfter sink [] a a true
sink_same sink a = record {
  took = with_none (sink.taken a);
  proceeds = proceeds_same (sink.outside a);
  calm = λ room h k. (refl, subst (sink.roomy a) (let e : room ≡ room - 0 = omega arith in e) h);
}

wrote_then : (whole : Bool) (a b c : Option (List ℕ)) (xs ys : List ℕ) → b ≡ with_more a xs → Wrote whole b ys c → Wrote whole a (xs ++ ys) c
wrote_then true a b c xs ys h k = k ∙ ap (λ (w : Option (List ℕ)). with_more w ys) h ∙ with_more-twice a xs ys
wrote_then false a b c xs ys h k =
    let fits : k.0 ≤ length ys = k.1 in
    let size : length (xs ++ ys) ≡ length xs + length ys = length-append xs ys in (
      length xs + k.0,
      omega arith,
      k.2 ∙ ap (λ (w : Option (List ℕ)). with_more w (take k.0 ys)) h ∙ with_more-twice a xs (take k.0 ys) ∙ ap (with_more a) (sym (take-append-add xs ys k.0)),
    )

counts_then : (whole : Bool) (a b c : ℕ) → b ≡ a → WriteCounts whole b c → WriteCounts whole a c
counts_then true a b c h k = k ∙ h
counts_then false a b c h (k, inl l) = (omega arith, inl (omega arith))
counts_then false a b c h (k, inr l) = (omega arith, inr l)

-- one call after another that went well
pub proceeds_then : (whole : Bool) (a b c : Outside) → Proceeds true a b → Proceeds whole b c → Proceeds whole a c
proceeds_then whole a b c h k = record {
  stays = more_then a.written b.written c.written h.stays k.stays;
  counts = counts_then whole a.faults b.faults c.faults h.counts k.counts;
}

-- a whole text, and another after it
pub sink_then : {D : Type 0} (sink : SinkMeaning D) (xs ys : List ℕ) (a b c : D) (whole : Bool)
    → SinkAfter sink xs a b true → SinkAfter sink ys b c whole → SinkAfter sink (xs ++ ys) a c whole
sink_then sink xs ys a b c whole x y = record {
  took = wrote_then whole (sink.taken a) (sink.taken b) (sink.taken c) xs ys x.took y.took;
  proceeds = proceeds_then whole (sink.outside a) (sink.outside b) (sink.outside c) x.proceeds y.proceeds;
  calm = λ room h k.
      let size : length (xs ++ ys) ≡ length xs + length ys = length-append xs ys in
      let s = x.calm room h (omega arith) in
      let t = y.calm (room - length xs) s.1 (omega arith) in
      let e : (room - length xs) - length ys ≡ room - length (xs ++ ys) = omega arith in
      (t.0, subst (sink.roomy c) e t.1);
}

pub front_of_more : (a c : Option (List ℕ)) (xs ys : List ℕ) → WroteFront a xs c → WroteFront a (xs ++ ys) c
front_of_more a c xs ys k =
    let size : length (xs ++ ys) ≡ length xs + length ys = length-append xs ys in
    let fits : k.0 ≤ length xs = k.1 in
    (k.0, omega arith, k.2 ∙ ap (with_more a) (sym (take-append-le k.0 xs ys fits)))

-- where a put of the first text failed, the second never came
pub sink_cut : {D : Type 0} (sink : SinkMeaning D) (xs ys : List ℕ) (a b : D)
    → SinkAfter sink xs a b false → SinkAfter sink (xs ++ ys) a b false
sink_cut sink xs ys a b x = record {
  took = front_of_more (sink.taken a) (sink.taken b) xs ys x.took;
  proceeds = x.proceeds;
  calm = λ room h k.
      let size : length (xs ++ ys) ≡ length xs + length ys = length-append xs ys in
      let s = x.calm room h (omega arith) in absurd (let e : false ≡ true = s.0 in grind arith);
}

-- a put that took some, or had nothing to take
pub put_proceeds : (a b : Outside) → IsMore a.written b.written → b.faults ≡ a.faults → Proceeds true a b
put_proceeds a b h k = record { stays = h; counts = k }

-- a put that failed, or took nothing
pub put_stops : (a b c : Outside) → Proceeds true a b → IsMore b.written c.written → Counted b.faults c.faults → Proceeds false a c
put_stops a b c h k l = proceeds_then false a b c h (record { stays = k; counts = l })

abbrev text_or : Option (List ℕ) → List ℕ
text_or None = []
text_or (Some text) = text

-- the front of a text that was taken, as far as it was written
pub front_written : (before taken written : Option (List ℕ)) (text : List ℕ) → WroteFront before text taken
    → IsMore before written → IsMore written taken → WroteFront before text written
front_written None taken written text k h l = (0, omega arith, h.1)
front_written (Some x) taken written text (n, few, k) (more, h) (rest, l) =
    let m = length more in
    let same : Some (x ++ take n text) ≡ Some (x ++ (more ++ rest)) =
    sym k ∙ l ∙ ap (λ (w : Option (List ℕ)). with_more w rest) h ∙ ap Some (append_assoc x more rest) in
    let cut : take n text ≡ more ++ rest = append_cancel_left x (take n text) (more ++ rest) (ap text_or same) in
    let all : text ≡ more ++ (rest ++ drop n text) =
    sym (take-append-drop n text) ∙ ap (λ (t : List ℕ). t ++ drop n text) cut ∙ append_assoc more rest (drop n text) in
    let size : length text ≡ m + length (rest ++ drop n text) = ap (λ (t : List ℕ). length t) all ∙ length-append more (rest ++ drop n text) in
    let front : take m text ≡ more = ap (take m) all ∙ take-append_seam more (rest ++ drop n text) in
    (m, omega arith, h ∙ ap (λ (t : List ℕ). Some (x ++ t)) (sym front))

-- a text that was put, and then flushed, by a sink that held nothing
pub sent_flushed : {D : Type 0} (sink : SinkMeaning D) (text : List ℕ) (a b c : D) (whole : Bool)
    → IsFlushed sink a → SinkAfter sink text a b true → FlushAfter sink b c whole
    → IsMore (sink.outside c).written (sink.taken c) → SentAfter sink text a c whole
sent_flushed sink text a b c true e x y l = record {
  wrote = y.flushed ∙ y.keeps ∙ x.took ∙ ap (λ (w : Option (List ℕ)). with_more w text) (sym e);
  counts = (proceeds_then true (sink.outside a) (sink.outside b) (sink.outside c) x.proceeds y.proceeds).counts;
  calm = λ room h k. refl;
}
sent_flushed sink text a b c false e x y l =
    let front : WroteFront (sink.taken a) text (sink.taken c) = (length text, omega arith, y.keeps ∙ x.took ∙ ap (with_more (sink.taken a)) (sym (take_all (length text) text (omega arith)))) in
    let goes = proceeds_then false (sink.outside a) (sink.outside b) (sink.outside c) x.proceeds y.proceeds in record {
      wrote = front_written (sink.outside a).written (sink.taken c) (sink.outside c).written text (subst (λ (w : Option (List ℕ)). WroteFront w text (sink.taken c)) (sym e) front) goes.stays l;
      counts = goes.counts;
      calm = λ room h k. (y.calm (room - length text) (x.calm room h k).1).0;
    }

-- a text of which a put failed
pub sent_cut : {D : Type 0} (sink : SinkMeaning D) (text : List ℕ) (a b : D)
    → IsFlushed sink a → SinkAfter sink text a b false → IsMore (sink.outside b).written (sink.taken b)
    → SentAfter sink text a b false
sent_cut sink text a b e x l = record {
  wrote = front_written (sink.outside a).written (sink.taken b) (sink.outside b).written text (subst (λ (w : Option (List ℕ)). WroteFront w text (sink.taken b)) (sym e) x.took) x.proceeds.stays l;
  counts = x.proceeds.counts;
  calm = λ room h k. (x.calm room h k).0;
}
