use Rattle.xl_tlb.proofs.Common.{Bool, eqb, IsOfPair, IsPairLook, LacksSmall, not, subst, sym, TlbArray}
use Rattle.xl_tlb.proofs.PairLemmas.{at_pair, pair_are, pair_lacks, parted}
use Rattle.xl_tlb.proofs.paired.look_paired.Goals as goal

pub look_pair-requires-clause-first : goal.look_pair-requires-clause-first
look_pair-requires-clause-first g c =
    let split : Bool = not (eqb g.row.SPLIT 0) in
    let firsts = c.split_at_mut-firsts.result.0.now in
    let s = c.first_and_rest-second.result.0.now in
    let a = c.index-firsts-first_of.result in
    let is = parted split c.args.kind c.args.arrays.now firsts _ s _ a _ _ c.split_at_mut-firsts.ensures.value c.first_and_rest-second.ensures.parts.0 c.split_at_mut-firsts.ensures.front_len c.first_count.ensures c.index-firsts-first_of.is c.first_of.ensures c.requires.paired in
    subst (λ (z : TlbArray). IsOfPair z.spec) c.index-firsts-first_of.is (pair_are split c.args.kind c.args.arrays.now firsts s _ a is).0

pub look_pair-requires-clause-second : goal.look_pair-requires-clause-second
look_pair-requires-clause-second g c =
    let split : Bool = not (eqb g.row.SPLIT 0) in
    let firsts = c.split_at_mut-firsts.result.0.now in
    let s = c.first_and_rest-second.result.0.now in
    let a = c.index-firsts-first_of.result in
    let is = parted split c.args.kind c.args.arrays.now firsts _ s _ a _ _ c.split_at_mut-firsts.ensures.value c.first_and_rest-second.ensures.parts.0 c.split_at_mut-firsts.ensures.front_len c.first_count.ensures c.index-firsts-first_of.is c.first_of.ensures c.requires.paired in
    (pair_are split c.args.kind c.args.arrays.now firsts s _ a is).1

pub look_pair-requires-clause-lacks : goal.look_pair-requires-clause-lacks
look_pair-requires-clause-lacks g c = λ above.
    let split : Bool = not (eqb g.row.SPLIT 0) in
    let firsts = c.split_at_mut-firsts.result.0.now in
    let s = c.first_and_rest-second.result.0.now in
    let a = c.index-firsts-first_of.result in
    let is = parted split c.args.kind c.args.arrays.now firsts _ s _ a _ _ c.split_at_mut-firsts.ensures.value c.first_and_rest-second.ensures.parts.0 c.split_at_mut-firsts.ensures.front_len c.first_count.ensures c.index-firsts-first_of.is c.first_of.ensures c.requires.paired in
    let q = c.args.lookup in
    subst (LacksSmall q.space q.page) c.index-firsts-first_of.is (pair_lacks split c.args.kind c.args.arrays.now firsts s _ a is q.space q.page (c.requires.lacks above))

pub returns : goal.returns
returns g c =
    let split : Bool = not (eqb g.row.SPLIT 0) in
    let firsts = c.split_at_mut-firsts.result.0.now in
    let s = c.first_and_rest-second.result.0.now in
    let a = c.index-firsts-first_of.result in
    let is = parted split c.args.kind c.args.arrays.now firsts _ s _ a _ _ c.split_at_mut-firsts.ensures.value c.first_and_rest-second.ensures.parts.0 c.split_at_mut-firsts.ensures.front_len c.first_count.ensures c.index-firsts-first_of.is c.first_of.ensures c.requires.paired in
    let q = c.args.lookup in
    rw c.first_of.ensures (at_pair (IsPairLook q.space q.page c.look_pair.result) split c.args.kind c.args.arrays.now firsts s _ a c.look_pair.new.first c.look_pair.new.second is
    (subst (λ (z : TlbArray). IsPairLook q.space q.page c.look_pair.result z s c.look_pair.new.first c.look_pair.new.second) (sym c.index-firsts-first_of.is) c.look_pair.ensures))
