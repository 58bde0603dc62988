use Rattle.xl_tlb.proofs.Common.{rules}
use Rattle.xl_tlb.proofs.TlbLemmas.{fill_empty, look_empty, none_there}
use Rattle.xl_tlb.proofs.levels.Levels.lacks_tlb.Goals as goal

pub returns-clause-looked : goal.returns-clause-looked
returns-clause-looked c bare kind space page =
    let t = c.self.inside in
    let none = none_there t.arrays.items t.arrays.len c.is_empty.result t.arrays.ok.0 c.is_empty.ensures bare in
    rw (← c.self.view_is) (look_empty t.arrays.items t.hits t.misses t.fills none kind space page)

pub returns-clause-filled : goal.returns-clause-filled
returns-clause-filled c bare kind leaf =
    let t = c.self.inside in
    let none = none_there t.arrays.items t.arrays.len c.is_empty.result t.arrays.ok.0 c.is_empty.ensures bare in
    rw (← c.self.view_is) (fill_empty t.arrays.items t.hits t.misses t.fills none kind leaf (search rules))
