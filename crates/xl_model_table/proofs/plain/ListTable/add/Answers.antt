use Rattle.xl_model_table.proofs.Common.{◌<◌, ◌∙◌, ◌≡◌, ◌≤◌, ap, arith, in_front, insert, IsKept, length, subst, sym, vec_len}
use Rattle.xl_model_table.proofs.FrontLemmas.{kept-front}
use Rattle.xl_model_table.proofs.TableLemmas.{coming, insert-made, insert-refused, IsComing}
use Rattle.xl_model_table.proofs.plain.ListTable.add.Goals as goal

pub place_of-place-requires-clause-new : goal.place_of-place-requires-clause-new
place_of-place-requires-clause-new c =
    let s = c.self.inside in
    let k : IsComing c.args.leaf s.leaves.items = coming s.buckets s.entries s.loads c.args.leaf s.leaves.items c.args.self.now c.self.view_is c.self.invariant.kept c.requires.valid c.requires.free in
    k.placed

pub returns-then-len-self : goal.returns-then-len-self
returns-then-len-self c =
    let s = c.self.inside in
    let n : length s.leaves.items ≡ vec_len s.leaves = sym s.leaves.ok.0 in
    let full : s.entries ≤ length s.leaves.items = omega arith in
    let k : IsComing c.args.leaf s.leaves.items = coming s.buckets s.entries s.loads c.args.leaf s.leaves.items c.args.self.now c.self.view_is c.self.invariant.kept c.requires.valid c.requires.free in
    record { changes = insert-refused s.buckets s.entries s.loads c.args.leaf s.leaves.items c.args.self.now c.none.result c.none.ensures c.self.view_is c.self.invariant.kept k full }

pub invariant_of-self : goal.invariant_of-self
invariant_of-self c =
    let s = c.self.inside in
    let xs = s.leaves.items in
    let k : IsComing c.args.leaf xs = coming s.buckets s.entries s.loads c.args.leaf xs c.args.self.now c.self.view_is c.self.invariant.kept c.requires.valid c.requires.free in
    let is : c.insert.new.self.items ≡ in_front s.buckets c.args.leaf xs =
    c.in-Ok.ensures.items ∙ ap (λ ys. insert ys c.place_of-place.result c.args.leaf) (sym c.deref.ensures.value) ∙ c.place_of-place.ensures.place ∙ ap (in_front s.buckets c.args.leaf) c.deref.ensures.value in
    record {
      kept = subst IsKept (sym is) (kept-front s.buckets c.args.leaf xs c.self.invariant.kept k.placed k.new);
      some_buckets = c.self.invariant.some_buckets;
      few = c.self.invariant.few;
      within = (let e = c.in-Ok.ensures.len in omega arith);
      room = (let e = c.in-Ok.ensures.capacity in let f = c.self.invariant.room in omega arith);
    }

pub returns : goal.returns
returns c =
    let s = c.self.inside in
    let xs = s.leaves.items in
    let k : IsComing c.args.leaf xs = coming s.buckets s.entries s.loads c.args.leaf xs c.args.self.now c.self.view_is c.self.invariant.kept c.requires.valid c.requires.free in
    let n : length xs ≡ vec_len s.leaves = sym s.leaves.ok.0 in
    let room : length xs < s.entries = omega arith in
    let is : c.insert.new.self.items ≡ in_front s.buckets c.args.leaf xs =
    c.in-Ok.ensures.items ∙ ap (λ ys. insert ys c.place_of-place.result c.args.leaf) (sym c.deref.ensures.value) ∙ c.place_of-place.ensures.place ∙ ap (in_front s.buckets c.args.leaf) c.deref.ensures.value in
    record { changes = insert-made s.buckets s.entries s.loads c.args.leaf xs c.insert.new.self.items c.args.self.now c.none-in-Ok.result c.none-in-Ok.ensures c.self.view_is c.self.invariant.kept k room is }
