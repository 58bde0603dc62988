use Rattle.xl_tlb.proofs.Common.{Bool, eqb, IsOfPair, IsPairFill, not, subst, sym, TlbArray}
use Rattle.xl_tlb.proofs.PairLemmas.{at_pair, pair_are, parted}
use Rattle.xl_tlb.proofs.paired.fill_paired.Goals as goal

pub fill_pair-requires-clause-first : goal.fill_pair-requires-clause-first
fill_pair-requires-clause-first g c =
    let split : Bool = not (eqb g.row.SPLIT 0) in
    let firsts = c.split_at_mut-firsts.result.0.now in
    let s = c.first_and_rest-second.result.0.now in
    let a = c.index-firsts-first_of.result in
    let is = parted split c.args.kind c.args.arrays.now firsts _ s _ a _ _ c.split_at_mut-firsts.ensures.value c.first_and_rest-second.ensures.parts.0 c.split_at_mut-firsts.ensures.front_len c.first_count.ensures c.index-firsts-first_of.is c.first_of.ensures c.requires.paired in
    subst (λ (z : TlbArray). IsOfPair z.spec) c.index-firsts-first_of.is (pair_are split c.args.kind c.args.arrays.now firsts s _ a is).0

pub fill_pair-requires-clause-second : goal.fill_pair-requires-clause-second
fill_pair-requires-clause-second g c =
    let split : Bool = not (eqb g.row.SPLIT 0) in
    let firsts = c.split_at_mut-firsts.result.0.now in
    let s = c.first_and_rest-second.result.0.now in
    let a = c.index-firsts-first_of.result in
    let is = parted split c.args.kind c.args.arrays.now firsts _ s _ a _ _ c.split_at_mut-firsts.ensures.value c.first_and_rest-second.ensures.parts.0 c.split_at_mut-firsts.ensures.front_len c.first_count.ensures c.index-firsts-first_of.is c.first_of.ensures c.requires.paired in
    (pair_are split c.args.kind c.args.arrays.now firsts s _ a is).1

pub returns : goal.returns
returns g c =
    let split : Bool = not (eqb g.row.SPLIT 0) in
    let firsts = c.split_at_mut-firsts.result.0.now in
    let s = c.first_and_rest-second.result.0.now in
    let a = c.index-firsts-first_of.result in
    let is = parted split c.args.kind c.args.arrays.now firsts _ s _ a _ _ c.split_at_mut-firsts.ensures.value c.first_and_rest-second.ensures.parts.0 c.split_at_mut-firsts.ensures.front_len c.first_count.ensures c.index-firsts-first_of.is c.first_of.ensures c.requires.paired in
    let q = c.args.lookup in
    rw c.first_of.ensures (at_pair (IsPairFill q.space q.page c.args.word) split c.args.kind c.args.arrays.now firsts s _ a c.fill_pair.new.first c.fill_pair.new.second is
    (subst (λ (z : TlbArray). IsPairFill q.space q.page c.args.word z s c.fill_pair.new.first c.fill_pair.new.second) (sym c.index-firsts-first_of.is) c.fill_pair.ensures))
