use Rattle.xl_numbers.proofs.Common.{◌*◌, ◌+◌, ◌≡◌, AreWords, rules, subst, sym}
use Rattle.xl_numbers.proofs.LevelLemmas.{part-one, parts-more}
use Rattle.xl_numbers.proofs.bits.put_parts.Goals.{else-this-eq64, then-this-eq64}
use Rattle.xl_numbers.proofs.bits.put_parts.Goals as goal

pub loop-i-preserved : goal.loop-i-preserved
loop-i-preserved g c =
    let a = c.args in
    let l = c.loop-i in
    let n = g.row.SIZE in
    elim c.if-this-eq64.branch [
      | then-this-eq64 w ↦
          let e : n ≡ 64 = search rules in
          let part = subst (λ s. AreWords l.low w.put_group.new.low (s * (a.first + l.i)) s a.word) (sym e) w.put_group.ensures.words in
          rw (w.low-is, w.middle-is, w.top-is) (w.put_group.ensures.stack, parts-more a.low.now l.low _ n a.first l.i a.word l.invariant.1 part)
      | else-this-eq64 w ↦
          let part = part-one l.low w.put_word.new.low n (a.first + l.i) a.word (search rules) w.put_word.ensures.word in
          rw (w.low-is, w.middle-is, w.top-is) (w.put_word.ensures.stack, parts-more a.low.now l.low _ n a.first l.i a.word l.invariant.1 part)
    ]
