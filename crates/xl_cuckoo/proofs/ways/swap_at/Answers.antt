use Rattle.xl_cuckoo.proofs.Common.{◌∙◌, ap, get_or, get_or_read_under, length, no_way, refl, sym, WayState}
use Rattle.xl_cuckoo.proofs.KickLemmas.{back-is}
use Rattle.xl_cuckoo.proofs.ways.swap_at.Goals as goal

pub returns-clause-back : goal.returns-clause-back
returns-clause-back c =
    let ws = c.args.ways.now in
    back-is ws c.args.at (get_or ws c.args.at c.index-ways-at.result) c.swap.new.self c.swap.result c.requires.within
    (sym c.index-ways-at.is ∙ get_or_read_under ws c.args.at (length ws) c.index-ways-at.result no_way c.index-ways-at.is c.requires.within refl)
    (ap (λ (w : WayState). w.loads) c.swap.ensures.shape) c.swap.ensures.back
