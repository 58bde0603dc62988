use mir.Val.{bool_byte}
use Rattle.xl_recency.proofs.Common.{arith, Bool, has_tag, nat_tests, not, refl}
use Rattle.xl_recency.proofs.ScanLemmas.{near}
use Rattle.xl_recency.proofs.kernel.touch_near.Goals as goal

pub returns-then-item-tag : goal.returns-then-item-tag
returns-then-item-tag g c =
    near (has_tag c.args.tag) (λ (b : Bool). bool_byte (not b)) _ c.args.slots.now _ c.args.len _ refl refl refl c.if-len-at.false (omega arith)
    (let e = c.if-item-tag.true in grind (arith, nat_tests)) c.put_of_two_in_front.ensures
