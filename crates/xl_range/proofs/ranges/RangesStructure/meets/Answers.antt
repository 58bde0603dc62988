use Rattle.xl_range.proofs.Common.{◌&&◌, ◌+◌, ◌<◌, ◌==◌, ◌^◌, ◌||◌, ◌∙◌, ◌∷◌, ◌≡◌, ◌≤◌, [], ap, arith, Bool, cond, end_key, false, IsHeld, IsRange, key_at, last_below, last_or, List, list_any, meets_any, meets_range, meets_where, nat_lt, nat_tests, None, of_space, Option, Order, pages_of, Range, range_key, refl, row_table, Some, spread, sym, TableState, true, ℕ}
use Rattle.xl_range.proofs.MeetRangeLemmas.{any-spread}
use Rattle.xl_range.proofs.NeighbourLemmas.{by-option, IsPrev, last-prev}
use Rattle.xl_range.proofs.RowLemmas.{seen-block}
use Rattle.xl_range.proofs.TouchLemmas.{some-pages}
use Rattle.xl_range.proofs.ranges.RangesStructure.meets.Goals as goal

-- Whether a leaf overlaps a block, by the last range that begins below the block's end.
or-false : (a b : Bool) → b ≡ false → (a || b) ≡ a
or-false true b h = refl
or-false false b h = h

none-meets : (low space f e : ℕ) (rs : List Range) → IsHeld low rs → key_at space e ≤ low → list_any (meets_range space f e) rs ≡ false
unfolding meets_range
none-meets low space f e [] h le = refl
none-meets low space f e (r ∷ rs) (above, is, stops, rest) le =
    let out : ((r.space == space) && (nat_lt r.start e && nat_lt f (r.start + r.pages))) ≡ false = grind (arith, nat_tests) in
    let tail : list_any (meets_range space f e) rs ≡ false = none-meets (end_key r) space f e rs rest (omega arith) in
    rw (out, tail) refl

last-alone : (space f e : ℕ) (r : Range) → IsRange r → range_key r < key_at space e → e ≤ 2 ^ 52 → meets_range space f e r ≡ meets_where f (of_space space (Some r))
unfolding meets_range
last-alone space f e r is less limit =
    elim (r.space == space) as (λ b. (r.space == space) ≡ b → (b && (nat_lt r.start e && nat_lt f (r.start + r.pages))) ≡ meets_where f (cond b (Some r) None)) [
      | true ↦ λ t.
          let same : r.space ≡ space = grind (arith, nat_tests) in
          let below : nat_lt r.start e ≡ true = grind (arith, nat_tests) in
          rw below refl
      | false ↦ λ t. refl
    ] refl

last-after : (space f e : ℕ) (r z : Range) → IsRange r → IsRange z → end_key r ≤ range_key z → range_key z < key_at space e → e ≤ 2 ^ 52
    → meets_range space f e r ≡ true → meets_where f (of_space space (Some z)) ≡ true
unfolding meets_range
last-after space f e r z is also after below limit h =
    let same : r.space ≡ space = grind (arith, nat_tests) in
    let reach : f < r.start + r.pages = grind (arith, nat_tests) in
    let some : 0 < z.pages = some-pages z also in
    let z_in : z.start + z.pages ≤ 2 ^ 52 = also.pages_in in
    let r_in : r.start + r.pages ≤ 2 ^ 52 = is.pages_in in
    let z_same : z.space ≡ space = omega arith in
    let t : (z.space == space) ≡ true = grind (arith, nat_tests) in
    let u : nat_lt f (z.start + z.pages) ≡ true = grind (arith, nat_tests) in
    rw (t, u) refl

or-absorbed : (a b : Bool) → (a ≡ true → b ≡ true) → (a || b) ≡ b
or-absorbed true b h = sym (h refl)
or-absorbed false b h = refl

any-last : (low space f e : ℕ) (rs : List Range) → IsHeld low rs → e ≤ 2 ^ 52
    → list_any (meets_range space f e) rs ≡ meets_where f (of_space space (last_below (key_at space e) rs))
any-last low space f e [] h limit = refl
any-last low space f e (r ∷ rs) (above, is, stops, rest) limit =
    let k : ℕ = key_at space e in
    let tail : list_any (meets_range space f e) rs ≡ meets_where f (of_space space (last_below k rs)) = any-last (end_key r) space f e rs rest limit in
    elim (nat_lt (range_key r) k) as (λ b. nat_lt (range_key r) k ≡ b → (meets_range space f e r || list_any (meets_range space f e) rs) ≡ meets_where f (of_space space (cond b (Some (last_or r (last_below k rs))) None))) [
      | true ↦ λ t.
          let less : range_key r < k = grind (arith, nat_tests) in
          let G : Option Range → Type 0 = λ o. (meets_range space f e r || meets_where f (of_space space o)) ≡ meets_where f (of_space space (Some (last_or r o))) in
          ap (λ (b : Bool). meets_range space f e r || b) tail
          ∙ by-option G (last_below k rs)
          (λ n. or-false (meets_range space f e r) false refl ∙ last-alone space f e r is less limit)
          (λ z m. let p : IsPrev (end_key r) k z rs = last-prev (end_key r) k rs z rest m in
          or-absorbed _ _ (λ h. last-after space f e r z is p.range p.low_in p.below limit h))
      | false ↦ λ t.
          let le : k ≤ range_key r = grind (arith, nat_tests) in
          none-meets (range_key r) space f e (r ∷ rs) (omega arith, is, stops, rest) le
    ] refl

meets-is : (space f : ℕ) (o : Order) (rs : List Range) → IsHeld 0 rs → f + pages_of o ≤ 2 ^ 52
    → meets_any space f o (spread rs) ≡ meets_where f (of_space space (last_below (key_at space (f + pages_of o)) rs))
unfolding meets_any
meets-is space f o rs h limit = any-spread 0 space f o rs h ∙ any-last 0 space f (f + pages_of o) rs h limit

pub returns : goal.returns
returns c =
    let block = seen-block c.args.space c.args.first c.args.order c.self.inside.ranges c.self.inside.treap.seen c.self.inside.tlb (row_table c.args.self.now) (ap row_table c.self.view_is) c.requires in
    let limit : c.args.first + pages_of c.args.order ≤ 2 ^ 52 = (let l = block.pages_in in omega arith) in
    c.reaches_in.ensures ∙ ap (meets_where c.args.first) (c.before-2.ensures ∙ ap (λ e. of_space c.args.space (last_below (key_at c.args.space (c.args.first + e)) c.self.inside.treap.seen.kept)) c.pages.ensures)
    ∙ sym (meets-is c.args.space c.args.first c.args.order c.self.inside.treap.seen.kept c.self.invariant.whole.held limit)
    ∙ ap (λ (t : TableState). meets_any c.args.space c.args.first c.args.order t.leaves) (ap row_table c.self.view_is)
