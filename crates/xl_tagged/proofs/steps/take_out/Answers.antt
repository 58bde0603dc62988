use Rattle.xl_tagged.proofs.Common.{ChainState, Form, Remove}
use Rattle.xl_tagged.proofs.GroupLemmas.{named-used, ready}
use Rattle.xl_tagged.proofs.StateLemmas.{done}
use Rattle.xl_tagged.proofs.WholeLemmas.{answered, IsNamedLeaf, IsStep, named-leaf, named-low, remove-in, remove-step}
use Rattle.xl_tagged.proofs.steps.take_out.Goals as goal

pub take-requires : goal.take-requires
take-requires g c =
    let a = c.args in
    let f : Form = g.G.Chains.Slots.form in
    let old : ChainState = g.G.Chains.Slots.state a.chains.now in
    let low = named-low f a.space a.first a.order old a.smaller.now c.requires.whole.tagged (named-leaf f a.space a.first a.order old c.requires.named) in
    record {
      place = (low.space_in, low.page_in);
      ready = ready c.words_read_back.ensures g.G.Chains.Slots.form g.G.Grouping.kept (g.G.Chains.Slots.state c.args.chains.now) c.args.smaller.now c.requires.whole;
      used = named-used c.words_read_back.ensures f a.space a.first a.order old a.smaller.now c.requires.whole.tagged (named-leaf f a.space a.first a.order old c.requires.named);
    }

pub drop_at-requires : goal.drop_at-requires
drop_at-requires g c =
    let a = c.args in
    let f : Form = g.G.Chains.Slots.form in
    let old : ChainState = g.G.Chains.Slots.state a.chains.now in
    remove-in c.words_read_back.ensures f old a.smaller.now a.space a.first a.order c.requires.whole.tagged (named-leaf f a.space a.first a.order old c.requires.named)

pub returns : goal.returns
returns g c =
    let a = c.args in
    let f : Form = g.G.Chains.Slots.form in
    let old : ChainState = g.G.Chains.Slots.state a.chains.now in
    let new : ChainState = g.G.Chains.Slots.state c.take.new.chains in
    let n : IsNamedLeaf f a.space a.first a.order old = named-leaf f a.space a.first a.order old c.requires.named in
    let step : IsStep f (Remove a.space a.first a.order) old new c.drop_at.new.self done =
    remove-step c.words_read_back.ensures f old a.smaller.now a.space a.first a.order c.requires.whole.tagged n new c.drop_at.new.self c.take.ensures.taken c.drop_at.ensures in
    record {
      whole = record { tagged = step.whole; kept = c.take.ensures.kept };
      changes = answered f (Remove a.space a.first a.order) old new c.drop_at.new.self c.none.result step c.none.ensures;
    }
