use Rattle.xl_tagged.proofs.Common.{ChainState, first_found, Form, refl, subst, sym, values_under}
use Rattle.xl_tagged.proofs.WholeLemmas.{walk-step}
use Rattle.xl_tagged.proofs.steps.walk_page.Goals as goal

pub returns : goal.returns
returns g c =
    let a = c.args in
    let f : Form = g.G.Chains.Slots.form in
    let old : ChainState = g.G.Chains.Slots.state a.chains.now in
    let new : ChainState = g.G.Chains.Slots.state c.walk_all.new.slots in
    let r = walk-step c.words_read_back.ensures f a.space a.page old new a.smaller.now (first_found f a.space a.page (values_under old.held)) c.requires.whole.tagged c.requires.page refl c.walk_all.ensures.after in
    record {
      whole = record { tagged = r.1; kept = subst (λ (d : ChainState). g.G.Grouping.kept d.held) (sym c.walk_all.ensures.after) c.requires.whole.kept };
      walks = rw c.walk_all.ensures.walk r.0;
    }
