use Rattle.xl_tlb.proofs.Common.{refl, sym}
use Rattle.xl_tlb.proofs.FrontLemmas.{level_hits, level_misses}
use Rattle.xl_tlb.proofs.in_turn.+count_level.Goals as goal

pub returns-then-is_above-clause-hits : goal.returns-then-is_above-clause-hits
returns-then-is_above-clause-hits t c = sym (level_hits c.args.request.kind c.args.level c.args.request.space c.args.request.page c.args.arrays.now c.args.hits.now (c.if-is_above.ensures.above refl))

pub returns-then-is_above-clause-misses : goal.returns-then-is_above-clause-misses
returns-then-is_above-clause-misses t c = sym (level_misses c.args.request.kind c.args.level c.args.request.space c.args.request.page c.args.arrays.now c.args.misses.now (c.if-is_above.ensures.above refl))
