use Rattle.xl_model_table.proofs.Common.{◌+◌, ◌∙◌, ◌≡◌, ◌≤◌, ap, arith, drop, drop_all, suc, ℕ}
use Rattle.xl_model_table.proofs.ScanLemmas.{searched, searched-here, searched-more, searched-none, searched-other}
use Rattle.xl_model_table.proofs.kept.loads_of.Goals.{else-bucket_of-bucket, then-bucket_of-bucket+else-other-tag}
use Rattle.xl_model_table.proofs.kept.loads_of.Goals as goal

sum-one : (m k n : ℕ) → m + k ≡ 1 + n → k ≡ 1 → m + 1 ≡ 1 + n
sum-one m k n e f = omega arith

sum-same : (m k k' n : ℕ) → m + k ≡ 1 + n → k ≡ k' → m + k' ≡ 1 + n
sum-same m k k' n e f = omega arith

sum-more : (m k k' n : ℕ) → m + k ≡ 1 + n → k ≡ suc k' → m + 1 + k' ≡ 1 + n
sum-more m k k' n e f = omega arith

sum-none : (m k n : ℕ) → m + k ≡ 1 + n → k ≡ 0 → m ≡ 1 + n
sum-none m k n e f = omega arith

pub returns-then-other-tag-clause-loads : goal.returns-then-other-tag-clause-loads
returns-then-other-tag-clause-loads c =
    let xs = c.args.items.now in
    let b = c.args.buckets in
    sum-one _ _ _ c.loop-leaf.invariant.0
    (searched-here b c.bucket_of-bucket.result c.args.tag xs c.loop-leaf.leaf-index c.leaf-item.result c.bucket_of.result c.leaf_tag-other.result
    c.loop-leaf-test.true c.leaf-item.is c.leaf_tag-other.ensures c.bucket_of.ensures c.if-bucket_of-bucket.true c.if-other-tag.true)
    ∙ ap (λ k. 1 + searched b k c.args.tag xs) c.bucket_of-bucket.ensures

pub loop-leaf-preserved : goal.loop-leaf-preserved
loop-leaf-preserved c =
    let xs = c.args.items.now in
    let b = c.args.buckets in
    let i = c.loop-leaf.leaf-index in
    let le : c.loop-leaf.loads ≤ i + 1 = c.loop-leaf.invariant.1 in
    elim c.if-bucket_of-bucket.branch [
      | then-bucket_of-bucket+else-other-tag w ↦ (
        ap (λ k. k + searched b c.bucket_of-bucket.result c.args.tag (drop (i + 1) xs)) w.loads-is
            ∙ sum-more _ _ _ _ c.loop-leaf.invariant.0
            (searched-more b c.bucket_of-bucket.result c.args.tag xs i c.leaf-item.result c.bucket_of.result c.leaf_tag-other.result
            c.loop-leaf-test.true c.leaf-item.is c.leaf_tag-other.ensures c.bucket_of.ensures w.if-bucket_of-bucket.true w.if-other-tag.false),
        (let e = w.loads-is in omega arith),
      )
      | else-bucket_of-bucket w ↦ (
        ap (λ k. k + searched b c.bucket_of-bucket.result c.args.tag (drop (i + 1) xs)) w.loads-is
            ∙ sum-same _ _ _ _ c.loop-leaf.invariant.0
            (searched-other b c.bucket_of-bucket.result c.args.tag xs i c.leaf-item.result c.bucket_of.result c.leaf_tag-other.result
            c.loop-leaf-test.true c.leaf-item.is c.leaf_tag-other.ensures c.bucket_of.ensures w.if-bucket_of-bucket.false),
        (let e = w.loads-is in omega arith),
      )
    ]

pub returns-clause-loads : goal.returns-clause-loads
returns-clause-loads c =
    let xs = c.args.items.now in
    let b = c.args.buckets in
    sum-none _ _ _ c.loop-leaf.invariant.0
    (ap (searched b c.bucket_of-bucket.result c.args.tag) (drop_all c.loop-leaf.leaf-index xs (omega arith)) ∙ searched-none b c.bucket_of-bucket.result c.args.tag)
    ∙ ap (λ k. 1 + searched b k c.args.tag xs) c.bucket_of-bucket.ensures
