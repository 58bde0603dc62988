-- The table by its fields, after its ways were lent out and changed.
use Rattle.xl_cuckoo.proofs.Common.{◌++◌, ◌+◌, ◌∙◌, ◌∷◌, ◌≡◌, ◌≤◌, [], ap, AreOnce, arith, changed_by, CuckooState, Displaced, entries_in, has_key, IsTable, length, List, map, opening_way, opening_ways, refl, shapes, suc, sym, tally, Vec, WayShape, WayState, with_items, with_items_is, zero, ℕ}
use Rattle.xl_cuckoo.proofs.LoopLemmas.{shapes-map}
use Rattle.xl_model_lemmas.proofs.WayTallyLemmas.{opening-length}

-- the ways that come back
pub items-back : {X Z : Type 0} (v : Vec X Z) (back now : List X) → back ≡ now → length now ≡ length v.items → (with_items v back).items ≡ now
items-back v back now e same = with_items_is v back (ap length e ∙ same ∙ sym v.ok.0) ∙ e

-- what a table is, by its fields
abbrev pub state_of : ℕ → ℕ → ℕ → List WayState → List Displaced → ℕ → CuckooState
state_of threshold kick_limit migrate ws moved loads =
    record { threshold = threshold; kick_limit = kick_limit; migrate = migrate; ways = shapes ws; moved = moved; loads = loads }

pub changed-state : (t k m : ℕ) (ws : List WayState) (moved : List Displaced) (loads : ℕ) (f : WayShape → WayShape)
    → state_of t k m (map (changed_by f) ws) moved loads ≡ record (state_of t k m ws moved loads) { ways = map f (shapes ws) }
changed-state t k m ws moved loads f = ap (λ (us : List WayShape). record (state_of t k m ws moved loads) { ways = us }) (shapes-map f ws)

-- what a table keeps
pub table-with : (d t k : ℕ) (ws vs : List WayShape) → IsTable d t k ws → length vs ≡ length ws → AreOnce vs → IsTable d t k vs
table-with d t k ws vs is same once = record {
  width = same ∙ is.width;
  some = is.some;
  few = is.few;
  threshold_low = is.threshold_low;
  limit_low = is.limit_low;
  once = once;
}

-- a table that is opened
pub opening-more : (start most number n : ℕ) → opening_ways start most number (n + 1) ≡ opening_ways start most number n ++ opening_way start most (number + n) ∷ []
opening-more start most number n = let e : n + 1 ≡ suc n = omega arith in ap (opening_ways start most number) e ∙ go number n
  where
    go : (k n : ℕ) → opening_ways start most k (suc n) ≡ opening_ways start most k n ++ opening_way start most (k + n) ∷ []
    go k zero = let e : k ≡ k + 0 = omega arith in ap (λ i. opening_way start most i ∷ []) e
    go k (suc n) =
        let e : k + 1 + n ≡ k + suc n = omega arith in
        ap (λ us. opening_way start most k ∷ us) (go (k + 1) n)
        ∙ ap (λ i. opening_way start most k ∷ (opening_ways start most (k + 1) n ++ opening_way start most i ∷ [])) e

pub opening-entries : (start most number n : ℕ) → entries_in (opening_ways start most number n) ≡ []
unfolding opening_way
opening-entries start most number zero = refl
opening-entries start most number (suc n) = opening-entries start most (number + 1) n

pub opening-table : (d t k start most : ℕ) (ws : List WayShape) → ws ≡ opening_ways start most 0 d → 2 ≤ d → d ≤ 4 → t ≤ 100 → k ≤ 64 → IsTable d t k ws
opening-table d t k start most ws is some few low limit = record {
  width = ap length is ∙ opening-length start most 0 d;
  some = some;
  few = few;
  threshold_low = low;
  limit_low = limit;
  once = λ key. let e : tally (has_key key) (entries_in ws) ≡ 0 = ap (λ us. tally (has_key key) (entries_in us)) is ∙ ap (tally (has_key key)) (opening-entries start most 0 d) in omega arith;
}
