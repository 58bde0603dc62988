-- The result of a change of a row by the definitions, by each verdict.
use Rattle.xl_cuckoo_walk.proofs.Common.{◌&&◌, ◌-◌, ◌∙◌, ◌≡◌, after_by, answer_by, ap, AtCap, brought, Cached, caches_purged, Change, changed, Cuckoo, CuckooRules, CuckooWays, Displaced, Err, false, finds_place, has_changed, has_room, Insert, is_placed, IsChange, Leaf, leaf_entry, leaf_named, leaf_word, List, Made, map, Moves, moves_made, moves_of, narrowed, nat_le, no_moves, None, NoPlace, NoSpace, Ok, old_leaf, Option, Order, Perm, Placed, placed_leaf, Protect, refl, Refused, Remove, Result, room_for, Section, section_count, SectionCaches, Shape, shape_after, Some, subst, sym, table_after, table_answer, table_made, TableState, true, Verdict, verdict, verdict_by, ways_of, ways_placed, ways_taken, WayShape, widened, with_both, with_leaf, with_new, with_perm, with_ways, with_word, without_entry, without_items, without_leaf, without_old, Work, work_of, ℕ}
use Rattle.xl_model.specs.Caches.{entries_in}
use Rattle.xl_model.specs.declared.address.Order.TheVariants as order
use Rattle.xl_model.specs.declared.work.NoRoom.TheVariants as why

-- the table of a cuckoo row
abbrev pub state_by : CuckooRules → List Leaf → CuckooWays → Cached Section → Cached Section → ℕ → TableState
state_by rules leaves ws m2 g1 loads = record { leaves = leaves; shape = Cuckoo rules ws; caches = SectionCaches m2 g1; loads = loads }

-- that table with other leaves and ways, and without the sections that aren't as they were
abbrev pub state_made : CuckooRules → List Leaf → CuckooWays → Cached Section → Cached Section → ℕ → List Leaf → CuckooWays → TableState
state_made rules leaves ws m2 g1 loads after now =
    state_by rules after now (without_items (has_changed order.M2 leaves ws after now) m2) (without_items (has_changed order.G1 leaves ws after now) g1) loads

-- the answer to a change that was made, where these sections are left
abbrev pub made_answer : Cached Section → Cached Section → Moves → TableState → Result Work Refused
made_answer m2 g1 m t = Ok (work_of m (entries_in (SectionCaches m2 g1) - entries_in t.caches))

module _ (c : Change) (rules : CuckooRules) (leaves : List Leaf) (ws : CuckooWays) (m2 g1 : Cached Section) (loads : ℕ) where
  abbrev pub before : TableState
  before = state_by rules leaves ws m2 g1 loads

  abbrev shape : Shape
  shape = Cuckoo rules ws

  -- there is no room
  pub no-space : has_room c leaves shape ≡ false → IsChange c before (Err (record { why = why.NoTable; work = work_of no_moves 0 })) before
  unfolding table_after table_answer verdict
  no-space h =
      let v : verdict_by (has_room c leaves shape) (finds_place (brought c leaves) shape) ≡ NoSpace = ap (λ b. verdict_by b (finds_place (brought c leaves) shape)) h in
      record { answer = sym (ap (λ u. answer_by u c before) v); after = sym (ap (λ u. after_by u c before) v) }

  -- there is no place: the forced growths stay
  pub no-place : (x : Leaf) (after : List WayShape) (m : Moves) → brought c leaves ≡ Some x → has_room c leaves shape ≡ true → placed_leaf rules ws x ≡ AtCap after m
      → IsChange c before (Err (record { why = why.WayAtCap; work = work_of m 0 })) (state_by rules leaves (with_ways x.order after ws) m2 g1 loads)
  unfolding table_after table_answer verdict
  no-place x after m b h p =
      let v : verdict_by (has_room c leaves shape) (finds_place (brought c leaves) shape) ≡ NoPlace =
      ap (λ k. verdict_by k (finds_place (brought c leaves) shape)) h ∙ ap (λ o. verdict_by true (finds_place o shape)) b ∙ ap (λ q. verdict_by true (is_placed q)) p in
      let T : Shape → TableState = λ s. record { leaves = leaves; shape = s; caches = SectionCaches m2 g1; loads = loads } in
      let W : Moves → Result Work Refused = λ n. Err (record { why = why.WayAtCap; work = work_of n 0 }) in
      record {
        answer = sym (ap (λ u. answer_by u c before) v ∙ ap (λ o. W (moves_made o shape)) b ∙ ap (λ q. W (moves_of q)) p);
        after = sym (ap (λ u. after_by u c before) v ∙ ap (λ o. T (widened o shape)) b ∙ ap (λ q. T (Cuckoo rules (with_ways x.order (ways_placed q) ws))) p);
      }

  -- it is made, with the precise purge
  made-by : (now : CuckooWays) (m : Moves) → verdict c before ≡ Made → widened (brought c leaves) shape ≡ Cuckoo rules now → moves_made (brought c leaves) shape ≡ m →
      let t = state_made rules leaves ws m2 g1 loads (changed c leaves) (ways_taken c (old_leaf c leaves) now) in
      IsChange c before (made_answer m2 g1 m t) t
  unfolding table_after table_answer table_made shape_after caches_purged
  made-by now m v w n =
      let F : Shape → TableState = λ s. record {
        leaves = changed c leaves;
        shape = narrowed c leaves s;
        caches = caches_purged c leaves shape (narrowed c leaves s) (SectionCaches m2 g1);
        loads = loads;
      } in
      let W : Moves → Shape → Result Work Refused = λ n s. Ok (work_of n (entries_in (SectionCaches m2 g1) - entries_in (F s).caches)) in
      record {
        answer = sym (ap (λ u. answer_by u c before) v ∙ ap (λ k. W k (widened (brought c leaves) shape)) n ∙ ap (W m) w);
        after = sym (ap (λ u. after_by u c before) v ∙ ap F w);
      }

  pub made : (x : Leaf) (after : List WayShape) (moved : List Displaced) (m : Moves) → brought c leaves ≡ Some x → has_room c leaves shape ≡ true → placed_leaf rules ws x ≡ Placed after moved m →
      let t = state_made rules leaves ws m2 g1 loads (changed c leaves) (ways_taken c (old_leaf c leaves) (with_ways x.order after ws)) in
      IsChange c before (made_answer m2 g1 m t) t
  unfolding verdict
  made x after moved m b h p =
      made-by (with_ways x.order after ws) m
      (ap (λ k. verdict_by k (finds_place (brought c leaves) shape)) h ∙ ap (λ o. verdict_by true (finds_place o shape)) b ∙ ap (λ q. verdict_by true (is_placed q)) p)
      (ap (λ o. widened o shape) b ∙ ap (λ q. Cuckoo rules (with_ways x.order (ways_placed q) ws)) p) (ap (λ o. moves_made o shape) b ∙ ap moves_of p)

  -- no leaf comes, so nothing refuses it
  pub taken : brought c leaves ≡ None →
      let t = state_made rules leaves ws m2 g1 loads (changed c leaves) (ways_taken c (old_leaf c leaves) ws) in
      IsChange c before (made_answer m2 g1 no_moves t) t
  unfolding verdict has_room
  taken b = made-by ws no_moves (ap (λ o. verdict_by (room_for o c leaves shape) (finds_place o shape)) b) (ap (λ o. widened o shape) b) (ap (λ o. moves_made o shape) b)

-- a leaf that comes, alone or from another place, is refused for the same reasons
pub refused-same : (c : Change) (x : Leaf) (t n : TableState) (r : Refused) → brought c t.leaves ≡ Some x → has_room c t.leaves t.shape ≡ has_room (Insert x) t.leaves t.shape → IsChange (Insert x) t (Err r) n → IsChange c t (Err r) n
unfolding table_after table_answer verdict
refused-same c x t n r b h is = go (verdict (Insert x) t) refl
  where
    same : verdict c t ≡ verdict (Insert x) t
    same = ap (λ k. verdict_by k (finds_place (brought c t.leaves) t.shape)) h ∙ ap (λ o. verdict_by (has_room (Insert x) t.leaves t.shape) (finds_place o t.shape)) b

    go : (v : Verdict) → verdict (Insert x) t ≡ v → IsChange c t (Err r) n
    go NoSpace e = record {
      answer = is.answer ∙ ap (λ u. answer_by u (Insert x) t) e ∙ sym (ap (λ u. answer_by u c t) (same ∙ e));
      after = is.after ∙ ap (λ u. after_by u (Insert x) t) e ∙ sym (ap (λ u. after_by u c t) (same ∙ e));
    }
    go NoPlace e = record {
      answer = is.answer ∙ ap (λ u. answer_by u (Insert x) t) e ∙ ap (λ o. Err (record { why = why.WayAtCap; work = work_of (moves_made o t.shape) 0 })) (sym b) ∙ sym (ap (λ u. answer_by u c t) (same ∙ e));
      after = is.after ∙ ap (λ u. after_by u (Insert x) t) e ∙ ap (λ o. record t { shape = widened o t.shape }) (sym b) ∙ sym (ap (λ u. after_by u c t) (same ∙ e));
    }
    go Made e =
        let bad : Err r ≡ Ok (work_of (moves_made (Some x) t.shape) (entries_in t.caches - entries_in (table_made (Insert x) t).caches)) = is.answer ∙ ap (λ u. answer_by u (Insert x) t) e in
        absurd (cc)

-- room for a leaf that comes
pub room-both : (rules : CuckooRules) (leaves : List Leaf) (ws : CuckooWays) (x : Leaf) → has_room (Insert x) leaves (Cuckoo rules ws)
    ≡ (nat_le (section_count order.M2 (with_leaf x leaves)) rules.sections_2m && nat_le (section_count order.G1 (with_leaf x leaves)) rules.sections_1g)
unfolding has_room with_both
room-both rules leaves ws x = refl

-- a leaf goes
pub removed : (rules : CuckooRules) (space first : ℕ) (o : Order) (leaves : List Leaf) (ws : CuckooWays) (m2 g1 : Cached Section) (loads : ℕ) (x : Leaf) → leaf_named space first o leaves ≡ Some x →
    let t = state_made rules leaves ws m2 g1 loads (without_leaf x.space x.first leaves) (with_ways x.order (map (without_entry (leaf_entry x).key) (ways_of x.order ws)) ws) in
    IsChange (Remove space first o) (state_by rules leaves ws m2 g1 loads) (made_answer m2 g1 no_moves t) t
unfolding changed
removed rules space first o leaves ws m2 g1 loads x named =
    let c : Change = Remove space first o in
    let F : Option Leaf → TableState = λ q. state_made rules leaves ws m2 g1 loads (without_old q leaves) (ways_taken c q ws) in
    subst (λ t. IsChange c (state_by rules leaves ws m2 g1 loads) (made_answer m2 g1 no_moves t) t) (ap F named) (taken c rules leaves ws m2 g1 loads refl)

-- a leaf gets another permission
pub given : (rules : CuckooRules) (space first : ℕ) (o : Order) (perm : Perm) (leaves : List Leaf) (ws : CuckooWays) (m2 g1 : Cached Section) (loads : ℕ) (x : Leaf) → leaf_named space first o leaves ≡ Some x →
    let t = state_made rules leaves ws m2 g1 loads (with_leaf (record x { perm = perm }) (without_leaf x.space x.first leaves))
    (with_ways x.order (map (with_word (leaf_entry x).key (leaf_word x.frame perm)) (ways_of x.order ws)) ws) in
    IsChange (Protect space first o perm) (state_by rules leaves ws m2 g1 loads) (made_answer m2 g1 no_moves t) t
unfolding changed
given rules space first o perm leaves ws m2 g1 loads x named =
    let c : Change = Protect space first o perm in
    let F : Option Leaf → TableState = λ q. state_made rules leaves ws m2 g1 loads (with_new (with_perm perm q) (without_old q leaves)) (ways_taken c q ws) in
    subst (λ t. IsChange c (state_by rules leaves ws m2 g1 loads) (made_answer m2 g1 no_moves t) t) (ap F named) (taken c rules leaves ws m2 g1 loads refl)
