use Rattle.xl_tagged.proofs.Common.{◌||◌, ◌∙◌, ap, ChainState, Form, found_from, is_some, NoneLarge, subst, sym, values_under}
use Rattle.xl_tagged.proofs.WholeLemmas.{block-low, meets-step, none-large}
use Rattle.xl_tagged.proofs.steps.is_met.Goals as goal

pub look_from-requires-clause-large : goal.look_from-requires-clause-large
look_from-requires-clause-large g c =
    let a = c.args in
    let f : Form = g.G.Chains.Slots.form in
    let old : ChainState = g.G.Chains.Slots.state a.chains.now in
    subst (λ b. NoneLarge f a.space a.first (values_under old.held) b) (sym c.only_small-only_small.ensures)
    (none-large c.words_read_back.ensures f a.space a.first old a.smaller.now c.requires.whole.tagged c.requires.block.space_in (block-low f old a.space a.first a.order c.requires.block))

pub returns-then-any : goal.returns-then-any
returns-then-any g c =
    let a = c.args in
    let f : Form = g.G.Chains.Slots.form in
    let old : ChainState = g.G.Chains.Slots.state a.chains.now in
    c.if-any.true ∙ ap (λ b. b || is_some (found_from f a.space a.first (values_under old.held) a.order)) (sym c.if-any.true ∙ c.any.ensures)
    ∙ meets-step c.words_read_back.ensures f a.space a.first a.order old a.smaller.now c.requires.whole.tagged c.requires.block

pub returns-else-any : goal.returns-else-any
returns-else-any g c =
    let a = c.args in
    let f : Form = g.G.Chains.Slots.form in
    let old : ChainState = g.G.Chains.Slots.state a.chains.now in
    c.is_some.ensures ∙ ap is_some c.look_from.ensures
    ∙ ap (λ b. b || is_some (found_from f a.space a.first (values_under old.held) a.order)) (sym c.if-any.false ∙ c.any.ensures)
    ∙ meets-step c.words_read_back.ensures f a.space a.first a.order old a.smaller.now c.requires.whole.tagged c.requires.block
