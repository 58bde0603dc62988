use Rattle.xl_harts.proofs.Common.{sym}
use Rattle.xl_harts.proofs.AccessLemmas.{hit-is-seen}
use Rattle.xl_harts.proofs.LargeLemmas.{small_seen}
use Rattle.xl_harts.proofs.hart.Hart.look.Goals as goal

pub invariant_of-self-2 : goal.invariant_of-self-2
invariant_of-self-2 c = λ none. small_seen c.self.inside.space c.args.page c.in_ok-word.word c.self.inside.array c.look_page.new.self c.in_ok-word.ensures.some (c.self.invariant none)

pub returns-clause-some : goal.returns-clause-some
returns-clause-some c =
    let i = c.self.inside in
    let seen = c.in_ok-word.ensures.some in
    rw (← c.self.view_is) (hit-is-seen c.args.page c.in_ok-word.word seen.leaf i.space i.array c.look_page.new.self i.waiting i.counts c.hit.new.self
    (sym seen.found) seen.says seen.moved c.hit.ensures)
