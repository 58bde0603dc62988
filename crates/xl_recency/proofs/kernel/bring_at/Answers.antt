use Rattle.xl_recency.proofs.Common.{◌<◌, ◌∙◌, ◌≤◌, arith, FnReturnsAt, get_or-take, length, length-take-le, sym, take, take-append-le, take_all}
use Rattle.xl_recency.proofs.ScanLemmas.{found, moved, none_found, none_moved, scanned_first, scanned_none}
use Rattle.xl_recency.proofs.kernel.bring_at.Goals as goal

pub returns-then-at-len : goal.returns-then-at-len
returns-then-at-len g c =
    let none = scanned_none (FnReturnsAt g.P.Fn c.args._test.now) c.args.slots.now c.args.len (omega arith) c.args.at (omega arith) c.requires.first.before in
    λ q test. record { found = none_found _ q test _ none; moved = none_moved _ q test _ none }

pub returns : goal.returns
returns g c =
    let slots = c.args.slots.now in
    let at = c.args.at in
    let item = c.index-slots-at.result in
    let same = c.index-slots-at.is in
    let fits : c.args.len ≤ length slots = omega arith in
    let first = scanned_first (FnReturnsAt g.P.Fn c.args._test.now) slots c.args.len fits at item (omega arith) same (c.requires.first.meets item) c.requires.first.before in
    let within : at < length (take c.args.len slots) = rw (length-take-le c.args.len slots fits) (omega arith) in
    let is = same ∙ sym (get_or-take c.args.len slots at item (omega arith)) in
    rw (← same) (λ q test. record {
      found = found _ q test (take c.args.len slots) at item within first is;
      moved = take-append-le c.args.len c.put_in_front.new.items _ (omega (arith, c.put_in_front.auto.items)) ∙ take_all c.args.len c.put_in_front.new.items (omega (arith, c.put_in_front.auto.items))
          ∙ (rw (← same) at c.put_in_front.ensures) ∙ moved _ q test (take c.args.len slots) at item within first is;
    })
