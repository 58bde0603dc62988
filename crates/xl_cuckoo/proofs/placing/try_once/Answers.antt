use Rattle.xl_cuckoo.proofs.Common.{◌+◌, ◌<◌, ◌==◌, ◌∙◌, ◌∷◌, ◌≡◌, ◌⊎◌, [], advanced, after_attempt, ap, arith, AtCap, Attempt, attempt, begun, Bool, Candidate, candidate, candidate_in, candidate_of, cond, Displaced, displaced, entries_of, Entry, Fails, false, forced, forced-entries, forced_moves, growths_left, inl, inr, length, List, map, map-set, map-set_same, Moves, nat_le, nat_lt, nat_tests, None, opening_way, Option, Placed, placing, refl, SameEntries, set, shapes, slots_left, smaller, Some, start_way, state_at, subst, suc, Succeeds, sym, to_grow, true, way_at, WayShape, WayState, with_forced, with_growth, zero, ℕ}
use Rattle.xl_cuckoo.proofs.KickLemmas.{map-length, shape-at}
use Rattle.xl_cuckoo.specs.Steps.{IsCapped, IsGrown, with_kicks, with_undone}
use Rattle.xl_cuckoo.proofs.placing.try_once.Goals as goal

-- the result of the attempts of an entry
abbrev tried : ℕ → List WayShape → Entry → Attempt
tried limit ws x = attempt limit ws (start_way (length ws) x.key) x []

-- the ways after a forced growth of one of them
abbrev grown_at : List WayShape → ℕ → List WayShape
grown_at ws i = set ws i (forced (way_at ws i))

succeeds-now : (limit : ℕ) (ws vs : List WayShape) (x : Entry) (m : Moves) (moved : List Displaced) → tried limit ws x ≡ Succeeds vs moved
    → (room : ℕ) → placing room limit ws x m ≡ Placed vs moved (with_kicks (length moved) m)
unfolding placing
succeeds-now limit ws vs x m moved e zero = ap (λ (a : Attempt). after_attempt a limit m (λ n. AtCap ws n)) e
succeeds-now limit ws vs x m moved e (suc room) =
    ap (λ (a : Attempt). after_attempt a limit m (λ n. with_growth (to_grow 0 ws) (AtCap ws n) (λ i. placing room limit (grown_at ws i) x (forced_moves (way_at ws i) n)))) e

capped-now : (limit : ℕ) (ws : List WayShape) (x : Entry) (m : Moves) → tried limit ws x ≡ Fails → to_grow 0 ws ≡ None
    → (room : ℕ) → placing room limit ws x m ≡ AtCap ws (with_undone limit m)
unfolding placing
capped-now limit ws x m e none zero = ap (λ (a : Attempt). after_attempt a limit m (λ n. AtCap ws n)) e
capped-now limit ws x m e none (suc room) =
    let n : Moves = with_undone limit m in
    ap (λ (a : Attempt). after_attempt a limit m (λ n. with_growth (to_grow 0 ws) (AtCap ws n) (λ i. placing room limit (grown_at ws i) x (forced_moves (way_at ws i) n)))) e
    ∙ ap (λ (o : Option Candidate). with_growth o (AtCap ws n) (λ i. placing room limit (grown_at ws i) x (forced_moves (way_at ws i) n))) none

grown-now : (limit : ℕ) (ws : List WayShape) (x : Entry) (m : Moves) (c : Candidate) → tried limit ws x ≡ Fails → to_grow 0 ws ≡ Some c
    → (room : ℕ) → placing (suc room) limit ws x m ≡ placing room limit (grown_at ws c.way) x (forced_moves (way_at ws c.way) (with_undone limit m))
unfolding placing
grown-now limit ws x m c e some room =
    let n : Moves = with_undone limit m in
    ap (λ (a : Attempt). after_attempt a limit m (λ n. with_growth (to_grow 0 ws) (AtCap ws n) (λ i. placing room limit (grown_at ws i) x (forced_moves (way_at ws i) n)))) e
    ∙ ap (λ (o : Option Candidate). with_growth o (AtCap ws n) (λ i. placing room limit (grown_at ws i) x (forced_moves (way_at ws i) n))) some

-- the way that is to grow is there, and below its cap
smaller-one : (a b : Option Candidate) (c : Candidate) → smaller a b ≡ Some c → (a ≡ Some c) ⊎ (b ≡ Some c)
smaller-one None b c e = inr e
smaller-one (Some x) None c e = inl e
smaller-one (Some x) (Some y) c e =
    elim (nat_le x.size y.size) as (λ b. cond b (Some x) (Some y) ≡ Some c → (Some x ≡ Some c) ⊎ (Some y ≡ Some c)) [ true ↦ λ h. inl h | false ↦ λ h. inr h ] e

record GrowsAt (ws : List WayShape) (i : ℕ) : Type 0 where
  there : i < length ws
  room : (way_at ws i).regs.s < (way_at ws i).cap

found-at : (i : ℕ) (ws : List WayShape) (c : Candidate) → to_grow i ws ≡ Some c → (k : ℕ) × (c.way ≡ i + k) × GrowsAt ws k
found-at i [] c e = absurd (cc)
found-at i (w ∷ ws) c e =
    elim (smaller-one (candidate i w) (to_grow (i + 1) ws) c e) [
      | inl h ↦ elim (nat_lt w.regs.s w.cap) as (λ b. nat_lt w.regs.s w.cap ≡ b → cond b (Some (record { way = i; size = w.regs.s })) None ≡ Some c → (k : ℕ) × (c.way ≡ i + k) × GrowsAt (w ∷ ws) k) [
        | true ↦ λ t g.
            let same : c ≡ record { way = i; size = w.regs.s } = cc in
            let way : c.way ≡ i = ap (λ (d : Candidate). d.way) same in
            (0, omega arith, record { there = omega arith; room = grind (arith, nat_tests) })
        | false ↦ λ t g. absurd (cc)
      ] refl h
      | inr h ↦
          let found = found-at (i + 1) ws c h in
          let way : c.way ≡ i + 1 + found.0 = found.1 in
          (suc found.0, omega arith, record { there = (let t = found.2.there in omega arith); room = found.2.room })
    ]

grows-at : (ws : List WayShape) (c : Candidate) → to_grow 0 ws ≡ Some c → GrowsAt ws c.way
grows-at ws c e =
    let found = found-at 0 ws c e in
    let way : c.way ≡ 0 + found.0 = found.1 in
    let same : found.0 ≡ c.way = omega arith in
    subst (GrowsAt ws) same found.2

-- a forced growth is one of those that were left
forced-size : (w : WayShape) → (forced w).regs.s ≡ w.regs.s + 1
unfolding forced advanced begun
forced-size w = go w.regs.growing refl
  where
    own : (n : ℕ) → (n == n) ≡ true
    own n = grind (arith, nat_tests)

    go : (b : Bool) → w.regs.growing ≡ b → (forced w).regs.s ≡ w.regs.s + 1
    go true t = rw t (rw (own (slots_left w.regs)) refl)
    go false t = rw t (rw (own (slots_left (begun w).regs)) refl)

forced-cap : (w : WayShape) → (forced w).cap ≡ w.cap
unfolding forced advanced begun
forced-cap w = elim w.regs.growing as (λ b. (cond b w (begun w)).cap ≡ w.cap) [ true ↦ refl | false ↦ refl ]

growths-less : (ws : List WayShape) (i : ℕ) → GrowsAt ws i → growths_left ws ≡ suc (growths_left (grown_at ws i))
growths-less [] i g = absurd (let t = g.there in omega arith)
growths-less (w ∷ ws) zero g = let s = forced-size w in let c = forced-cap w in let r : w.regs.s < w.cap = g.room in omega arith
growths-less (w ∷ ws) (suc i) g =
    let rest : growths_left ws ≡ suc (growths_left (grown_at ws i)) = growths-less ws i (record { there = (let t = g.there in omega arith); room = g.room }) in
    omega arith

grown-entries : (ws : List WayShape) (i : ℕ) → SameEntries ws (grown_at ws i)
grown-entries ws i = map-set_same entries_of ws i (forced (way_at ws i)) (opening_way 0 0 0) (forced-entries (way_at ws i))

-- by shapes
shapes-forced : (ws : List WayState) (i : ℕ) → shapes (set ws i (with_forced (state_at ws i))) ≡ grown_at (shapes ws) i
shapes-forced ws i = map-set (λ (w : WayState). w.shape) ws i (with_forced (state_at ws i)) ∙ ap (λ (w : WayShape). set (shapes ws) i (forced w)) (sym (shape-at ws i))

-- the attempt that is made
attempt-is : (limit at : ℕ) (ws : List WayState) (x : Entry) (r : Attempt) → at ≡ start_way (length ws) x.key → attempt limit (shapes ws) at x [] ≡ r
    → tried limit (shapes ws) x ≡ r
attempt-is limit at ws x r is e =
    ap (λ (n : ℕ). attempt limit (shapes ws) (start_way n x.key) x []) (map-length (λ (w : WayState). w.shape) ws)
    ∙ ap (λ (n : ℕ). attempt limit (shapes ws) n x []) (sym is) ∙ e

-- a step whose attempt fails
capped-is : (limit : ℕ) (ws vs : List WayState) (x : Entry) (m after : Moves) (moved : List Displaced) → tried limit (shapes ws) x ≡ Fails → vs ≡ ws
    → to_grow 0 (shapes vs) ≡ None → after ≡ with_undone limit m → moved ≡ [] → IsCapped limit x m (shapes ws) (shapes vs) moved after
capped-is limit ws vs x m after moved e same none is empty = record {
  is = λ room. capped-now limit (shapes ws) x m e (ap (λ (us : List WayState). to_grow 0 (shapes us)) (sym same) ∙ none) room
      ∙ ap (λ (us : List WayState). AtCap (shapes us) (with_undone limit m)) (sym same)
      ∙ ap (λ (n : Moves). AtCap (shapes vs) n) (sym is);
  kept = ap (λ (us : List WayState). map entries_of (shapes us)) same;
  none = empty;
}

grown-is : (limit : ℕ) (ws vs us : List WayState) (x : Entry) (m failed after : Moves) (c : Candidate) → tried limit (shapes ws) x ≡ Fails → vs ≡ ws
    → to_grow 0 (shapes vs) ≡ Some c → failed ≡ with_undone limit m → us ≡ set vs c.way (with_forced (state_at vs c.way))
    → after ≡ forced_moves (state_at vs c.way).shape failed → IsGrown limit x m (shapes ws) (shapes us) after
grown-is limit ws vs us x m failed after c e same some is ways moves =
    let grows : to_grow 0 (shapes ws) ≡ Some c = ap (λ (us : List WayState). to_grow 0 (shapes us)) (sym same) ∙ some in
    let now : shapes us ≡ grown_at (shapes ws) c.way =
    ap shapes ways ∙ shapes-forced vs c.way ∙ ap (λ (us : List WayState). grown_at (shapes us) c.way) same in
    let done : after ≡ forced_moves (way_at (shapes ws) c.way) (with_undone limit m) =
    moves ∙ ap (λ (w : WayShape). forced_moves w failed) (sym (shape-at vs c.way))
    ∙ ap (λ (us : List WayState). forced_moves (way_at (shapes us) c.way) failed) same
    ∙ ap (λ (n : Moves). forced_moves (way_at (shapes ws) c.way) n) is in
    record {
      is = λ room. grown-now limit (shapes ws) x m c e grows room
          ∙ ap (λ (vs : List WayShape). placing room limit vs x (forced_moves (way_at (shapes ws) c.way) (with_undone limit m))) (sym now)
          ∙ ap (λ (n : Moves). placing room limit (shapes us) x n) (sym done);
      kept = ap (λ (vs : List WayShape). map entries_of vs) now ∙ grown-entries (shapes ws) c.way;
      less = growths-less (shapes ws) c.way (grows-at (shapes ws) c grows) ∙ ap (λ (vs : List WayShape). suc (growths_left vs)) (sym now);
    }

-- the way that is to grow, by its state
grows-here : (ws : List WayState) (c : Candidate) → to_grow 0 (shapes ws) ≡ Some c → (c.way < length ws) × ((state_at ws c.way).shape.regs.s < (state_at ws c.way).shape.cap)
grows-here ws c e =
    let g : GrowsAt (shapes ws) c.way = grows-at (shapes ws) c e in
    ((let t = g.there in let l = map-length (λ (w : WayState). w.shape) ws in omega arith), subst (λ (w : WayShape). w.regs.s < w.cap) (shape-at ws c.way) g.room)

pub returns-then-attempt : goal.returns-then-attempt
returns-then-attempt c =
    let ways = shapes c.attempt.new.ways in
    let moved : List Displaced = map displaced c.attempt.new.moved.items in
    let kicks : length moved ≡ c.len.result = map-length displaced c.attempt.new.moved.items ∙ sym c.len.ensures.value in
    λ room.
    succeeds-now c.args.limit (shapes c.args.ways.now) ways c.args.entry c.args.moves moved
    (attempt-is c.args.limit c.start-start.result c.args.ways.now c.args.entry (Succeeds ways moved) c.start-start.ensures.is (c.attempt.ensures.succeeds c.if-attempt.true)) room
    ∙ ap (λ (n : ℕ). Placed ways moved (with_kicks n c.args.moves)) kicks
    ∙ ap (λ (m : Moves). Placed ways moved m) (sym c.count_kicks.ensures)

pub force_at-requires-clause-within : goal.force_at-requires-clause-within
force_at-requires-clause-within c = (grows-here c.attempt.new.ways (candidate_of c.in-Some.growable) (sym c.to_grow.ensures ∙ ap candidate_in c.in-Some.is)).0

pub force_at-requires-clause-room : goal.force_at-requires-clause-room
force_at-requires-clause-room c = (grows-here c.attempt.new.ways (candidate_of c.in-Some.growable) (sym c.to_grow.ensures ∙ ap candidate_in c.in-Some.is)).1

pub returns-in-Some : goal.returns-in-Some
returns-in-Some c =
    grown-is c.args.limit c.args.ways.now c.attempt.new.ways c.force_at.new.ways c.args.entry c.args.moves c.count_undone-failed.result c.force_at.result (candidate_of c.in-Some.growable)
    (attempt-is c.args.limit c.start-start.result c.args.ways.now c.args.entry Fails c.start-start.ensures.is (c.attempt.ensures.fails c.if-attempt.false))
    (c.attempt.ensures.back c.if-attempt.false) (sym c.to_grow.ensures ∙ ap candidate_in c.in-Some.is) c.count_undone-failed.ensures c.force_at.ensures.ways c.force_at.ensures.moves

pub returns-in-None : goal.returns-in-None
returns-in-None c =
    capped-is c.args.limit c.args.ways.now c.attempt.new.ways c.args.entry c.args.moves c.count_undone-failed.result (map displaced c.clear-in-None.new.self.items)
    (attempt-is c.args.limit c.start-start.result c.args.ways.now c.args.entry Fails c.start-start.ensures.is (c.attempt.ensures.fails c.if-attempt.false))
    (c.attempt.ensures.back c.if-attempt.false) (sym c.to_grow.ensures ∙ ap candidate_in c.in-None.is) c.count_undone-failed.ensures (ap (map displaced) c.clear-in-None.ensures)
