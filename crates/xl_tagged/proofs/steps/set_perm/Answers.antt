use Rattle.xl_tagged.proofs.Common.{ChainState, Form, Protect}
use Rattle.xl_tagged.proofs.GroupLemmas.{named-used, ready}
use Rattle.xl_tagged.proofs.StateLemmas.{done}
use Rattle.xl_tagged.proofs.WholeLemmas.{answered, IsNamedLeaf, IsStep, named-leaf, named-low, protect-step}
use Rattle.xl_tagged.proofs.steps.set_perm.Goals as goal

pub give-requires : goal.give-requires
give-requires g c =
    let a = c.args in
    let f : Form = g.G.Chains.Slots.form in
    let old : ChainState = g.G.Chains.Slots.state a.chains.now in
    let low = named-low f a.space a.first a.order old a.smaller.now c.requires.whole.tagged (named-leaf f a.space a.first a.order old c.requires.named) in
    record {
      place = (low.space_in, low.page_in);
      ready = ready c.words_read_back.ensures g.G.Chains.Slots.form g.G.Grouping.kept (g.G.Chains.Slots.state c.args.chains.now) c.args.smaller.now c.requires.whole;
      used = named-used c.words_read_back.ensures f a.space a.first a.order old a.smaller.now c.requires.whole.tagged (named-leaf f a.space a.first a.order old c.requires.named);
    }

pub returns : goal.returns
returns g c =
    let a = c.args in
    let f : Form = g.G.Chains.Slots.form in
    let old : ChainState = g.G.Chains.Slots.state a.chains.now in
    let new : ChainState = g.G.Chains.Slots.state c.give.new.chains in
    let n : IsNamedLeaf f a.space a.first a.order old = named-leaf f a.space a.first a.order old c.requires.named in
    let step : IsStep f (Protect a.space a.first a.order a.perm) old new a.smaller.now done =
    protect-step c.words_read_back.ensures f old a.smaller.now a.space a.first a.order c.requires.whole.tagged n a.perm new c.give.ensures.given in
    record {
      whole = record { tagged = step.whole; kept = c.give.ensures.kept };
      changes = answered f (Protect a.space a.first a.order a.perm) old new a.smaller.now c.none.result step c.none.ensures;
    }
