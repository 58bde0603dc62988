use Rattle.xl_range.proofs.Common.{◌≡◌, [], Cached, empty_cache, opening_table, Range, refl, row_of, spread, TreapView, ℕ}
use Rattle.xl_range.proofs.ranges.Ranges.open.Goals as goal

opens-as : (n width : ℕ) (t : TreapView) (k : Cached Range) → t.kept ≡ [] → t.loads ≡ 0 → k ≡ empty_cache width → row_of n t k ≡ opening_table n width
unfolding spread
opens-as n width t k e f g = rw (e, f, g) refl

pub returns : goal.returns
returns c = opens-as c.args.ranges c.args.range_tlb c.in_ok-treap.treap.seen c.in_ok-tlb.tlb c.in_ok-treap.ensures.kept c.in_ok-treap.ensures.loads c.in_ok-tlb.ensures.empty
