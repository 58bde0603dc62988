use Rattle.xl_recency.proofs.Common.{◌<◌, ◌∙◌, ◌∷◌, ◌≡◌, ◌≤◌, arith, ext_get_or, get_or, length, length-set, nat_tests, remove, sym}
use Rattle.xl_recency.proofs.MarkLemmas.{carried_more, front_length, front_moved, front_past, unwritten, written}
use Rattle.xl_recency.proofs.marks.put_byte_in_front.Goals.{else-place-after-ge128, then-place-after-ge128}
use Rattle.xl_recency.proofs.marks.put_byte_in_front.Goals as goal

pub loop-place-preserved : goal.loop-place-preserved
loop-place-preserved g c =
    let old = c.args.bytes.now in
    let bytes = c.loop-place.bytes in
    let place = c.loop-place.place in
    let at = c.args.at in
    let byte = c.args.byte in
    let new = c.if-place-after-ge128.bytes in
    let i = c.loop-place.invariant in
    let l : at < length old = omega arith in
    let m : place < length bytes = omega (arith, i.count, c.loop-place-test.true) in
    let is : new ≡ get_or (byte ∷ remove old at) place 0 =
    elim c.if-place-after-ge128.branch [
      | then-place-after-ge128 w ↦
          let before : place ≤ at = grind (arith, nat_tests, w.if-place-after-ge128.true) in
          w.bytes-is ∙ i.next ∙ sym (front_moved byte old at place 0 l before)
      | else-place-after-ge128 w ↦
          let past : at < place = grind (arith, nat_tests, w.if-place-after-ge128.false) in
          w.bytes-is ∙ i.rest place (omega arith) ∙ sym (front_past byte old at place 0 l past)
    ] in
    record {
      count = length-set bytes place new ∙ i.count;
      done = written bytes place new 0 (λ k. get_or (byte ∷ remove old at) k 0) m is i.done;
      rest = unwritten bytes old place new 0 i.rest;
      next = i.rest place (omega arith) ∙ carried_more byte old place 0;
    }

pub returns : goal.returns
returns g c =
    let old = c.args.bytes.now in
    let i = c.loop-place.invariant in
    let l : c.args.at < length old = omega arith in
    ext_get_or 0 c.loop-place.bytes (c.args.byte ∷ remove old c.args.at)
    (i.count ∙ sym (front_length c.args.byte old c.args.at l))
    (λ k m. i.done k (omega (arith, m, i.count, c.loop-place-test.false)))
