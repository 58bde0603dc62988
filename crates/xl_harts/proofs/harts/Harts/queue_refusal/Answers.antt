use Rattle.xl_harts.proofs.Common.{◌-◌, ◌<◌, ◌==◌, ◌||◌, ◌∙◌, ◌∷◌, ◌≡◌, ◌≤◌, [], ap, arith, Bool, false, Hart, HartSpec, HartsState, is_full, IsKept, le-max_left, le-max_right, length, List, list_any, longest, max, max-le, nat_tests, not, refl, refused_unless, row_table, state_of, sym, true, ℕ}
use Rattle.xl_hart_model.specs.declared.hart.HartRefusal.TheVariants as why
use Rattle.xl_harts.proofs.harts.Harts.queue_refusal.Goals as goal

-- two queues, no longer than a full one
full-of-two : (a b q : ℕ) → a ≤ q → b ≤ q → ((a == q) || (b == q)) ≡ (max a b == q)
full-of-two a b q few less =
    let m = le-max_left a b in
    let n = le-max_right a b in
    let most : max a b ≤ q = max-le {a = a} {b = b} {k = q} few less in
    go (a == q) (b == q) refl refl m n most
  where
    go : (c d : Bool) → (a == q) ≡ c → (b == q) ≡ d → a ≤ max a b → b ≤ max a b → max a b ≤ q → (c || d) ≡ (max a b == q)
    go true d e f m n most = grind (arith, nat_tests)
    go false true e f m n most = grind (arith, nat_tests)
    go false false e f m n most =
        let x : a < q = grind (arith, nat_tests) in
        let y : b < q = grind (arith, nat_tests) in
        let z : max a b ≤ q - 1 = max-le {a = a} {b = b} {k = q - 1} (omega arith) (omega arith) in
        grind (arith, nat_tests)

-- some queue is full where the longest is
some-full : (spec : HartSpec) (hs : List Hart) → 1 ≤ spec.queue → longest hs ≤ spec.queue → list_any (is_full spec) hs ≡ (longest hs == spec.queue)
some-full spec [] some most = grind (arith, nat_tests)
some-full spec (h ∷ hs) some most =
    let a = le-max_left h.waiting (longest hs) in
    let b = le-max_right h.waiting (longest hs) in
    let e : list_any (is_full spec) hs ≡ (longest hs == spec.queue) = some-full spec hs some (omega arith) in
    rw e (full-of-two h.waiting (longest hs) spec.queue (omega arith) (omega arith))

-- refusal 10, by whether there are as many requests as a queue holds
refused-by-full : (s : HartsState) → IsKept s → (capacity : ℕ) → capacity ≡ s.spec.queue → (b : Bool) → b ≡ (length s.requests == capacity)
    → refused_unless (not b) why.QueueFull ≡ refused_unless (not (list_any (is_full s.spec) s.harts)) why.QueueFull
refused-by-full s kept capacity room b is =
    let a = kept.longest_is in
    let c = kept.short in
    let e = some-full s.spec s.harts kept.spec_is.some_queue (omega arith) ∙ ap (λ (n : ℕ). n == s.spec.queue) a in
    ap (λ (full : Bool). refused_unless (not full) why.QueueFull) (is ∙ ap (λ (n : ℕ). length s.requests == n) room ∙ sym e)

pub returns-then-is_full : goal.returns-then-is_full
returns-then-is_full c =
    let i = c.self.inside in
    rw (← c.self.view_is) (refused-by-full (state_of i.spec (row_table 3 i.table) i.requests.items i.harts.items i.current i.accepted i.refused) c.self.invariant.kept i.requests.capacity c.self.invariant.room true
    (sym c.if-is_full.true ∙ c.is_full.ensures))

pub returns : goal.returns
returns c =
    let i = c.self.inside in
    rw (← c.self.view_is) (refused-by-full (state_of i.spec (row_table 3 i.table) i.requests.items i.harts.items i.current i.accepted i.refused) c.self.invariant.kept i.requests.capacity c.self.invariant.room false
    (sym c.if-is_full.false ∙ c.is_full.ensures))
