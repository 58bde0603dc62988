use Rattle.xl_recency.proofs.Common.{◌≤◌, arith, length}
use Rattle.xl_recency.proofs.ScanLemmas.{first_following, first_within, none_within}
use Rattle.xl_recency.proofs.kernel.place_of.Goals.{else-this-le8, then-this-le8}
use Rattle.xl_recency.proofs.kernel.place_of.Goals as goal

pub returns-in-Some-clause-some : goal.returns-in-Some-clause-some
returns-in-Some-clause-some g c =
    let more : c.args.len ≤ c.if-this-le8.end = elim c.if-this-le8.branch [ then-this-le8 w ↦ omega arith | else-this-le8 w ↦ omega arith ] in
    first_within (_) c.args.slots.now c.args.len c.if-this-le8.end (omega arith) more c.in-Some.at c.if-at-len.true c.in-Some.ensures.some

pub returns-in_default-clause-none : goal.returns-in_default-clause-none
returns-in_default-clause-none g c =
    let more : c.args.len ≤ c.if-this-le8.end = elim c.if-this-le8.branch [ then-this-le8 w ↦ omega arith | else-this-le8 w ↦ omega arith ] in
    first_following (_) c.args.slots.now c.args.len c.if-this-le8.end (omega arith) more c.in-Some.at (omega arith) c.in-Some.ensures.some

pub returns-in_default-2-clause-none : goal.returns-in_default-2-clause-none
returns-in_default-2-clause-none g c =
    let more : c.args.len ≤ c.if-this-le8.end = elim c.if-this-le8.branch [ then-this-le8 w ↦ omega arith | else-this-le8 w ↦ omega arith ] in
    let whole : c.if-this-le8.end ≤ length c.args.slots.now = elim c.if-this-le8.branch [ then-this-le8 w ↦ omega arith | else-this-le8 w ↦ omega arith ] in
    none_within (_) c.args.slots.now c.args.len c.if-this-le8.end (omega arith) more whole (rw c.in_default.is at c.first_place.ensures.none)
