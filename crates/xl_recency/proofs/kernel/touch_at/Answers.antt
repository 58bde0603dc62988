use Rattle.xl_recency.proofs.Common.{◌∙◌}
use Rattle.xl_recency.proofs.ScanLemmas.{found, moved, none_found, none_moved, stays}
use Rattle.xl_recency.proofs.kernel.touch_at.Goals as goal

pub returns-then-at-eq0 : goal.returns-then-at-eq0
returns-then-at-eq0 g c =
    let within = rw c.in-Some.is at c.requires.within in
    let first = rw c.in-Some.is at c.requires.some in
    λ q test. record {
      found = found _ q test c.args.items.now c.in-Some.at c.index-items-at.result within first c.index-items-at.is;
      moved = stays _ q test c.args.items.now c.in-Some.at c.index-items-at.result within first c.index-items-at.is c.if-at-eq0.true;
    }

pub returns-else-at-eq0 : goal.returns-else-at-eq0
returns-else-at-eq0 g c =
    let within = rw c.in-Some.is at c.requires.within in
    let first = rw c.in-Some.is at c.requires.some in
    λ q test. record {
      found = found _ q test c.args.items.now c.in-Some.at c.index-items-at.result within first c.index-items-at.is;
      moved = c.put_in_front.ensures ∙ moved _ q test c.args.items.now c.in-Some.at c.index-items-at.result within first c.index-items-at.is;
    }

pub returns-in-None : goal.returns-in-None
returns-in-None g c =
    let none = rw c.in-None.is at c.requires.none in
    λ q test. record {
      found = none_found _ q test c.args.items.now none;
      moved = none_moved _ q test c.args.items.now none;
    }
