use Rattle.xl_tagged.proofs.Common.{◌∙◌, ChainState, Form, NoneLarge, subst, sym, values_under}
use Rattle.xl_tagged.proofs.WholeLemmas.{leaf-step, none-large}
use Rattle.xl_tagged.proofs.steps.leaf_of_page.Goals as goal

pub look_all-requires-clause-large : goal.look_all-requires-clause-large
look_all-requires-clause-large g c =
    let a = c.args in
    let f : Form = g.G.Chains.Slots.form in
    let old : ChainState = g.G.Chains.Slots.state a.chains.now in
    subst (λ b. NoneLarge f a.space a.page (values_under old.held) b) (sym c.only_small.ensures)
    (none-large c.words_read_back.ensures f a.space a.page old a.smaller.now c.requires.whole.tagged c.requires.page.space_in c.requires.page.page_in)

pub returns : goal.returns
returns g c =
    let a = c.args in
    let f : Form = g.G.Chains.Slots.form in
    let old : ChainState = g.G.Chains.Slots.state a.chains.now in
    c.look_all.ensures ∙ leaf-step c.words_read_back.ensures f a.space a.page old a.smaller.now c.requires.whole.tagged c.requires.page.space_in c.requires.page.page_in
