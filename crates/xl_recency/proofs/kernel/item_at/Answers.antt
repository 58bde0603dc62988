use Rattle.xl_recency.proofs.ScanLemmas.{found, none_found}
use Rattle.xl_recency.proofs.kernel.item_at.Goals as goal

pub returns-in-Some : goal.returns-in-Some
returns-in-Some g c =
    λ q test. found _ q test c.args.items.now c.in-Some.at c.index-items-at.result (rw c.in-Some.is at c.requires.within) (rw c.in-Some.is at c.requires.some) c.index-items-at.is

pub returns-in-None : goal.returns-in-None
returns-in-None g c = λ q test. none_found _ q test c.args.items.now (rw c.in-None.is at c.requires.none)
