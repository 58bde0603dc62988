use Rattle.xl_tagged.proofs.Common.{◌^◌, ◌∙◌, ◌≤◌, [], ap, arith, chained, ChainState, Form, sym}
use Rattle.xl_tagged.proofs.GroupLemmas.{most-low}
use Rattle.xl_tagged.proofs.WholeLemmas.{open-step}
use Rattle.xl_tagged.proofs.grouped.Grouped.open.Goals as goal

pub invariant_of-result : goal.invariant_of-result
invariant_of-result g c =
    let f : Form = g.G.Chains.Slots.form in
    let d : ChainState = g.G.Chains.Slots.state c.in_ok-chains.chains in
    let e = c.in_ok-chains.ensures in
    let s = c.in_ok-smaller.ensures in
    let few : d.shape.entries ≤ 2 ^ 20 = (let n = e.entries in let m = most-low f c.args.tags c.requires.tags_in.1 in omega arith) in
    record {
      tagged = (open-step c.words_read_back.ensures f d c.in_ok-smaller.smaller e.held e.loads few s.middle s.large (s.middle_room ∙ sym e.entries) (s.large_room ∙ sym e.entries)).0;
      kept = e.kept;
    }

pub returns : goal.returns
returns g c =
    let f : Form = g.G.Chains.Slots.form in
    let d : ChainState = g.G.Chains.Slots.state c.in_ok-chains.chains in
    let e = c.in_ok-chains.ensures in
    let s = c.in_ok-smaller.ensures in
    let few : d.shape.entries ≤ 2 ^ 20 = (let n = e.entries in let m = most-low f c.args.tags c.requires.tags_in.1 in omega arith) in
    (open-step c.words_read_back.ensures f d c.in_ok-smaller.smaller e.held e.loads few s.middle s.large (s.middle_room ∙ sym e.entries) (s.large_room ∙ sym e.entries)).1
    ∙ ap (λ n. chained f n d.shape.entries 0 [] []) e.buckets ∙ ap (λ n. chained f c.args.buckets n 0 [] []) e.entries
