use Rattle.xl_tagged.proofs.Common.{ap, ChainState, Err, Form, Insert, IsChange, refl, slot_of, subst, sym, table_in}
use Rattle.xl_tagged.proofs.GroupLemmas.{ready}
use Rattle.xl_tagged.proofs.StateLemmas.{done, no_table}
use Rattle.xl_tagged.proofs.WholeLemmas.{answered, insert-refused, insert-room, insert-step, IsStep, new-slot}
use Rattle.xl_tagged.proofs.steps.add.Goals as goal

pub put-requires-clause-ready : goal.put-requires-clause-ready
put-requires-clause-ready g c =
    ready c.words_read_back.ensures g.G.Chains.Slots.form g.G.Grouping.kept (g.G.Chains.Slots.state c.args.chains.now) c.args.smaller.now c.requires.whole

pub put-requires-clause-empty : goal.put-requires-clause-empty
put-requires-clause-empty g c =
    let a = c.args in
    let f : Form = g.G.Chains.Slots.form in
    let old : ChainState = g.G.Chains.Slots.state a.chains.now in
    let x = a.leaf in
    new-slot f old a.smaller.now x c.requires.whole.tagged c.requires.valid c.requires.free (slot_of f x.order x.first) refl

pub note-requires : goal.note-requires
note-requires g c =
    let a = c.args in
    let f : Form = g.G.Chains.Slots.form in
    let old : ChainState = g.G.Chains.Slots.state a.chains.now in
    insert-room c.words_read_back.ensures f old (g.G.Chains.Slots.state c.put.new.chains) a.smaller.now a.leaf c.requires.whole.tagged c.requires.valid c.requires.free c.in-Ok.ensures.ok

pub returns-in-Ok : goal.returns-in-Ok
returns-in-Ok g c =
    let a = c.args in
    let f : Form = g.G.Chains.Slots.form in
    let old : ChainState = g.G.Chains.Slots.state a.chains.now in
    let new : ChainState = g.G.Chains.Slots.state c.put.new.chains in
    let step : IsStep f (Insert a.leaf) old new c.note.new.self done =
    insert-step c.words_read_back.ensures f old new a.smaller.now a.leaf c.requires.whole.tagged c.requires.valid c.requires.free c.in-Ok.ensures.ok c.note.new.self c.note.ensures in
    record {
      whole = record { tagged = step.whole; kept = c.in-Ok.ensures.kept };
      changes = answered f (Insert a.leaf) old new c.note.new.self c.none.result step c.none.ensures;
    }

pub returns-in-Err-clause-changes : goal.returns-in-Err-clause-changes
returns-in-Err-clause-changes g c =
    let a = c.args in
    let f : Form = g.G.Chains.Slots.form in
    let old : ChainState = g.G.Chains.Slots.state a.chains.now in
    let is : IsChange (Insert a.leaf) (table_in f old) no_table (table_in f old) = insert-refused f old a.leaf c.in-Err.ensures.full.absent c.in-Err.ensures.full.full in
    subst (λ d. IsChange (Insert a.leaf) (table_in f old) (Err c.full_table.result) (table_in f d)) (sym c.in-Err.ensures.same)
    (subst (λ r. IsChange (Insert a.leaf) (table_in f old) r (table_in f old)) (ap Err (sym c.full_table.ensures)) is)
