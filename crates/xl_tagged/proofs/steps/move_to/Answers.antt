use Rattle.xl_tagged.proofs.Common.{◌∙◌, ◌≡◌, ChainState, Form, None, Some, sym}
use Rattle.xl_tagged.proofs.WholeLemmas.{CanMove, IsNamedLeaf, moving-leaf, named-found, named-leaf, named-low}
use Rattle.xl_tagged.proofs.steps.move_to.Goals as goal

pub look-requires-clause-page_in : goal.look-requires-clause-page_in
look-requires-clause-page_in g c =
    let a = c.args in
    let f : Form = g.G.Chains.Slots.form in
    let old : ChainState = g.G.Chains.Slots.state a.chains.now in
    (named-low f a.space a.first a.order old a.smaller.now c.requires.whole.tagged (named-leaf f a.space a.first a.order old c.requires.named)).page_in

pub unreachable-requires : goal.unreachable-requires
unreachable-requires g c =
    let a = c.args in
    let f : Form = g.G.Chains.Slots.form in
    let old : ChainState = g.G.Chains.Slots.state a.chains.now in
    let n : IsNamedLeaf f a.space a.first a.order old = named-leaf f a.space a.first a.order old c.requires.named in
    let bad : None ≡ Some n.leaf = sym c.in-None.is ∙ c.look.ensures ∙ named-found c.words_read_back.ensures f a.space a.first a.order old a.smaller.now c.requires.whole.tagged n in
    absurd (cc)

pub add-requires-clause-valid : goal.add-requires-clause-valid
add-requires-clause-valid g c =
    let a = c.args in
    let f : Form = g.G.Chains.Slots.form in
    let old : ChainState = g.G.Chains.Slots.state a.chains.now in
    let m : CanMove f a.space a.first a.to a.order c.in-Some.old old =
    moving-leaf c.words_read_back.ensures f a.space a.first a.to a.order old a.smaller.now c.in-Some.old c.requires.whole.tagged c.requires.named (sym c.look.ensures ∙ c.in-Some.is) c.requires.block c.requires.free in
    m.valid

pub add-requires-clause-free : goal.add-requires-clause-free
add-requires-clause-free g c =
    let a = c.args in
    let f : Form = g.G.Chains.Slots.form in
    let old : ChainState = g.G.Chains.Slots.state a.chains.now in
    let m : CanMove f a.space a.first a.to a.order c.in-Some.old old =
    moving-leaf c.words_read_back.ensures f a.space a.first a.to a.order old a.smaller.now c.in-Some.old c.requires.whole.tagged c.requires.named (sym c.look.ensures ∙ c.in-Some.is) c.requires.block c.requires.free in
    m.free

pub take_out-requires-clause-named : goal.take_out-requires-clause-named
take_out-requires-clause-named g c =
    let a = c.args in
    let f : Form = g.G.Chains.Slots.form in
    let old : ChainState = g.G.Chains.Slots.state a.chains.now in
    let m : CanMove f a.space a.first a.to a.order c.in-Some.old old =
    moving-leaf c.words_read_back.ensures f a.space a.first a.to a.order old a.smaller.now c.in-Some.old c.requires.whole.tagged c.requires.named (sym c.look.ensures ∙ c.in-Some.is) c.requires.block c.requires.free in
    (m.move c.add.result _ c.add.ensures.changes).there c.in-Ok.field-0 c.in-Ok.is

pub returns-in-Err-clause-changes : goal.returns-in-Err-clause-changes
returns-in-Err-clause-changes g c =
    let a = c.args in
    let f : Form = g.G.Chains.Slots.form in
    let old : ChainState = g.G.Chains.Slots.state a.chains.now in
    let m : CanMove f a.space a.first a.to a.order c.in-Some.old old =
    moving-leaf c.words_read_back.ensures f a.space a.first a.to a.order old a.smaller.now c.in-Some.old c.requires.whole.tagged c.requires.named (sym c.look.ensures ∙ c.in-Some.is) c.requires.block c.requires.free in
    (m.move c.add.result _ c.add.ensures.changes).refused c.in-Err.refused c.in-Err.is

pub returns-in-Ok-clause-changes : goal.returns-in-Ok-clause-changes
returns-in-Ok-clause-changes g c =
    let a = c.args in
    let f : Form = g.G.Chains.Slots.form in
    let old : ChainState = g.G.Chains.Slots.state a.chains.now in
    let m : CanMove f a.space a.first a.to a.order c.in-Some.old old =
    moving-leaf c.words_read_back.ensures f a.space a.first a.to a.order old a.smaller.now c.in-Some.old c.requires.whole.tagged c.requires.named (sym c.look.ensures ∙ c.in-Some.is) c.requires.block c.requires.free in
    (m.move c.add.result _ c.add.ensures.changes).made c.in-Ok.field-0 c.take_out.result _ c.in-Ok.is c.take_out.ensures.changes
