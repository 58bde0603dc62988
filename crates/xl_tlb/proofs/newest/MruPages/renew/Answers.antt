use Rattle.xl_tlb.proofs.newest.MruPages.renew.Goals as goal

pub returns-clause-known : goal.returns-clause-known
returns-clause-known c old new knows stay front = c.keep.ensures.known new (c.forget_place.ensures.known old new knows stay) front

pub returns-clause-others : goal.returns-clause-others
returns-clause-others c other arrays few apart known = c.keep.ensures.others other arrays few apart (c.forget_place.ensures.others other arrays few apart known)
