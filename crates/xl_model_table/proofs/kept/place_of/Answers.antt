use Rattle.xl_model_table.proofs.Common.{◌++◌, ◌∙◌, ◌∷◌, ◌≡◌, [], ap, arith, bucket_of, drop, drop_all, in_front, length, sym, take, take_all}
use Rattle.xl_model_table.proofs.ScanLemmas.{front-none, place-here, place-past}
use Rattle.xl_model_table.proofs.kept.place_of.Goals as goal

pub returns-then-bucket-bucket_of-clause-place : goal.returns-then-bucket-bucket_of-clause-place
returns-then-bucket-bucket_of-clause-place c =
    place-here c.args.buckets c.args.leaf.now c.index-items-i.result c.args.items.now c.loop-i.i c.bucket_of-bucket.result c.bucket_of.result
    c.loop-i-test.true c.index-items-i.is
    (c.bucket_of-bucket.ensures ∙ ap (bucket_of c.args.buckets) c.leaf_tag.ensures)
    (c.bucket_of.ensures ∙ ap (bucket_of c.args.buckets) c.leaf_tag-in-loop-i.ensures)
    c.if-bucket-bucket_of.true c.loop-i.invariant

pub loop-i-preserved : goal.loop-i-preserved
loop-i-preserved c =
    place-past c.args.buckets c.args.leaf.now c.index-items-i.result c.args.items.now c.loop-i.i c.bucket_of-bucket.result c.bucket_of.result
    c.loop-i-test.true c.index-items-i.is
    (c.bucket_of-bucket.ensures ∙ ap (bucket_of c.args.buckets) c.leaf_tag.ensures)
    (c.bucket_of.ensures ∙ ap (bucket_of c.args.buckets) c.leaf_tag-in-loop-i.ensures)
    c.if-bucket-bucket_of.false c.loop-i.invariant

pub returns-clause-place : goal.returns-clause-place
returns-clause-place c =
    let xs = c.args.items.now in
    let i = c.loop-i.i in
    let none : drop (length xs) xs ≡ [] = drop_all (length xs) xs (omega arith) in
    let rest : drop i xs ≡ [] = drop_all i xs (omega arith) in
    let all : take (length xs) xs ≡ xs = take_all (length xs) xs (omega arith) in
    let here : take i xs ≡ xs = take_all i xs (omega arith) in
    let one = front-none c.args.buckets c.args.leaf.now in
    ap (λ ys. take (length xs) xs ++ c.args.leaf.now ∷ ys) none
    ∙ ap (λ ys. ys ++ c.args.leaf.now ∷ []) (all ∙ sym here)
    ∙ ap (λ ys. take i xs ++ ys) (sym one ∙ ap (in_front c.args.buckets c.args.leaf.now) (sym rest))
    ∙ c.loop-i.invariant
