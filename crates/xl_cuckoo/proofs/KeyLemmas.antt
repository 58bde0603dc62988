-- Keys that occur once: which way holds one, and what a change of one key leaves.
use Rattle.xl_cuckoo.proofs.Common.{◌+◌, ◌<◌, ◌==◌, ◌||◌, ◌∙◌, ◌∷◌, ◌≡◌, ◌≤◌, [], AddsEntry, ap, AreOnce, arith, Bool, changed_by, cond, entries-same, entries_in, Entry, false, find, has_key, held_by, holder_from, is_held, is_some, IsSome, length, List, map, nat_tests, None, not, one_if, Option, option_or, refl, reworded, SameEntries, set, shapes, Some, state_at, subst, suc, sym, tally, true, value_of, way_at, WayShape, WayState, with_word, without_entry, without_key, word_in, word_of, zero, ℕ}
use Rattle.std.specs.List.{list_any}
use Rattle.xl_list_lemmas.proofs.TallyLemmas.{tally-any, tally-append}
use Rattle.xl_model_lemmas.proofs.WayTallyLemmas.{tally-none, tally-same, ways-reworded, ways-without}
use Rattle.xl_cuckoo.proofs.KickLemmas.{shape-at}
use Rattle.xl_cuckoo.proofs.LoopLemmas.{value-first}

-- a way that holds a key, by number
held-some : (key : ℕ) (w : WayShape) → is_held w key ≡ true → 1 ≤ tally (has_key key) w.entries
held-some key w h = let t : not (tally (has_key key) w.entries == 0) ≡ true = sym (tally-any (has_key key) w.entries) ∙ h in grind (arith, nat_tests)

held-none : (key : ℕ) (w : WayShape) → tally (has_key key) w.entries ≡ 0 → is_held w key ≡ false
held-none key w h = tally-any (has_key key) w.entries ∙ ap (λ n. not (n == 0)) h

pub no-value : (key : ℕ) (ws : List WayShape) → value_of key ws ≡ None → tally (has_key key) (entries_in ws) ≡ 0
unfolding word_of
no-value key ws h = tally-none (has_key key) (entries_in ws) (go (find (has_key key) (entries_in ws)) h)
  where
    go : (o : Option Entry) → word_in o ≡ None → o ≡ None
    go None e = refl
    go (Some x) e = absurd (cc)

-- some way holds a key where some word is kept for it
pub holder-some : (key i : ℕ) (ws : List WayShape) → is_some (holder_from i ws key) ≡ is_some (value_of key ws)
unfolding word_of
holder-some key i [] = refl
holder-some key i (w ∷ ws) =
    go (is_held w key) (word_of key w.entries) (held_by w key) (holder-some key (i + 1) ws) ∙ ap (λ (o : Option ℕ). is_some o) (sym (value-first key w ws))
  where
    go : (b : Bool) (o : Option ℕ) → b ≡ is_some o → is_some (holder_from (i + 1) ws key) ≡ is_some (value_of key ws)
        → is_some (cond b (Some i) (holder_from (i + 1) ws key)) ≡ is_some (option_or o (value_of key ws))
    go true None e h = absurd (cc)
    go true (Some n) e h = refl
    go false None e h = h
    go false (Some n) e h = absurd (cc)

pub some-held : (key : ℕ) (ws : List WayShape) → IsSome (value_of key ws) → holder_from 0 ws key ≡ None → ⊥
some-held key ws h e = go (value_of key ws) h (ap (λ (o : Option ℕ). is_some o) (sym e) ∙ holder-some key 0 ws)
  where
    go : (o : Option ℕ) → IsSome o → false ≡ is_some o → ⊥
    go None s t = absurd (cc)
    go (Some n) s t = absurd (cc)

found-held : (key i at : ℕ) (ws : List WayShape) → holder_from i ws key ≡ Some at → (k : ℕ) × (at ≡ i + k) × (is_held (way_at ws k) key ≡ true)
found-held key i at [] e = absurd (cc)
found-held key i at (w ∷ ws) e =
    elim (is_held w key) as (λ b. is_held w key ≡ b → cond b (Some i) (holder_from (i + 1) ws key) ≡ Some at → (k : ℕ) × (at ≡ i + k) × (is_held (way_at (w ∷ ws) k) key ≡ true)) [
      | true ↦ λ t h. let same : i ≡ at = cc in (0, omega arith, t)
      | false ↦ λ t h. let on = found-held key (i + 1) at ws h in let same : at ≡ i + 1 + on.0 = on.1 in (suc on.0, omega arith, on.2)
    ] refl e

pub held-at : (key at : ℕ) (ws : List WayState) → holder_from 0 (shapes ws) key ≡ Some at → is_held (state_at ws at).shape key ≡ true
held-at key at ws e =
    let found = found-held key 0 at (shapes ws) e in
    let same : found.0 ≡ at = (let s : at ≡ 0 + found.0 = found.1 in omega arith) in
    ap (λ (w : WayShape). is_held w key) (sym (shape-at ws at)) ∙ subst (λ (n : ℕ). is_held (way_at (shapes ws) n) key ≡ true) same found.2

-- a change of one key is a change of the way that holds it
Leaves : ℕ → (WayShape → WayShape) → Type 0
Leaves key f = (w : WayShape) → is_held w key ≡ false → f w ≡ w

none-changed : (key : ℕ) (f : WayShape → WayShape) (ws : List WayState) → Leaves key f → tally (has_key key) (entries_in (shapes ws)) ≡ 0 → map (changed_by f) ws ≡ ws
unfolding Leaves
none-changed key f [] h few = refl
none-changed key f (w ∷ ws) h few =
    let both = tally-append (has_key key) w.shape.entries (entries_in (shapes ws)) in
    let same : f w.shape ≡ w.shape = h w.shape (held-none key w.shape (omega arith)) in
    ap (λ (v : WayShape). record w { shape = v } ∷ map (changed_by f) ws) same ∙ ap (λ us. w ∷ us) (none-changed key f ws h (omega arith))

held-there : (key k : ℕ) (ws : List WayState) → k < length ws → is_held (state_at ws k).shape key ≡ true → 1 ≤ tally (has_key key) (entries_in (shapes ws))
held-there key k [] l h = absurd (omega arith)
held-there key zero (w ∷ ws) l h = let both = tally-append (has_key key) w.shape.entries (entries_in (shapes ws)) in let one = held-some key w.shape h in omega arith
held-there key (suc k) (w ∷ ws) l h =
    let both = tally-append (has_key key) w.shape.entries (entries_in (shapes ws)) in let one = held-there key k ws (omega arith) h in omega arith

one-changed : (key k : ℕ) (f : WayShape → WayShape) (ws : List WayState) → Leaves key f → k < length ws → is_held (state_at ws k).shape key ≡ true
    → tally (has_key key) (entries_in (shapes ws)) ≤ 1 → set ws k (changed_by f (state_at ws k)) ≡ map (changed_by f) ws
unfolding Leaves
one-changed key k f [] h l held few = absurd (omega arith)
one-changed key zero f (w ∷ ws) h l held few =
    let both = tally-append (has_key key) w.shape.entries (entries_in (shapes ws)) in
    let one = held-some key w.shape held in
    ap (λ us. changed_by f w ∷ us) (sym (none-changed key f ws h (omega arith)))
one-changed key (suc k) f (w ∷ ws) h l held few =
    let both = tally-append (has_key key) w.shape.entries (entries_in (shapes ws)) in
    let one = held-there key k ws (omega arith) held in
    let same : f w.shape ≡ w.shape = h w.shape (held-none key w.shape (omega arith)) in
    ap (λ us. w ∷ us) (one-changed key k f ws h (omega arith) held (omega arith))
    ∙ ap (λ (v : WayShape). record w { shape = v } ∷ map (changed_by f) ws) (sym same)

-- the two changes of a key
none-out : (key : ℕ) (es : List Entry) → list_any (has_key key) es ≡ false → without_key key es ≡ es
none-out key [] h = refl
none-out key (e ∷ es) h =
    elim (e.key == key) as (λ b. (b || list_any (has_key key) es) ≡ false → cond b es (e ∷ without_key key es) ≡ e ∷ es) [
      | true ↦ λ t. absurd (cc)
      | false ↦ λ t. ap (λ xs. e ∷ xs) (none-out key es t)
    ] h

none-reworded : (key word : ℕ) (es : List Entry) → list_any (has_key key) es ≡ false → map (reworded key word) es ≡ es
none-reworded key word [] h = refl
none-reworded key word (e ∷ es) h =
    elim (e.key == key) as (λ b. (b || list_any (has_key key) es) ≡ false → cond b (record e { word = word }) e ∷ map (reworded key word) es ≡ e ∷ es) [
      | true ↦ λ t. absurd (cc)
      | false ↦ λ t. ap (λ xs. e ∷ xs) (none-reworded key word es t)
    ] h

pub cleared-is : (key at : ℕ) (ws : List WayState) → AreOnce (shapes ws) → at < length ws → is_held (state_at ws at).shape key ≡ true
    → set ws at (changed_by (without_entry key) (state_at ws at)) ≡ map (changed_by (without_entry key)) ws
unfolding Leaves without_entry
cleared-is key at ws once l h = one-changed key at (without_entry key) ws (λ w n. ap (λ es. record w { entries = es }) (none-out key w.entries n)) l h (once key)

pub reworded-is : (key word at : ℕ) (ws : List WayState) → AreOnce (shapes ws) → at < length ws → is_held (state_at ws at).shape key ≡ true
    → set ws at (changed_by (with_word key word) (state_at ws at)) ≡ map (changed_by (with_word key word)) ws
unfolding Leaves with_word
reworded-is key word at ws once l h = one-changed key at (with_word key word) ws (λ w n. ap (λ es. record w { entries = es }) (none-reworded key word w.entries n)) l h (once key)

-- each key continues to occur once
pub once-same : (old new : List WayShape) → AreOnce old → SameEntries old new → AreOnce new
once-same old new once same = λ key. let e : tally (has_key key) (entries_in new) ≡ tally (has_key key) (entries_in old) = ap (tally (has_key key)) (entries-same new old same) in let o = once key in omega arith

pub once-added : (x : Entry) (old new : List WayShape) → AreOnce old → AddsEntry x old new → value_of x.key old ≡ None → AreOnce new
once-added x old new once adds none = λ key.
    elim (x.key == key) as (λ b. (x.key == key) ≡ b → tally (has_key key) (entries_in new) ≤ 1) [
      | true ↦ λ t.
          let same : x.key ≡ key = grind (arith, nat_tests) in
          let z : tally (has_key key) (entries_in old) ≡ 0 = subst (λ (k : ℕ). tally (has_key k) (entries_in old) ≡ 0) same (no-value x.key old none) in
          let a = adds (has_key key) in
          let i : one_if (has_key key x) ≡ 1 = ap one_if t in
          omega arith
      | false ↦ λ t. let o = once key in let a = adds (has_key key) in let i : one_if (has_key key x) ≡ 0 = ap one_if t in omega arith
    ] refl

pub once-cleared : (key : ℕ) (ws : List WayShape) → AreOnce ws → AreOnce (map (without_entry key) ws)
once-cleared key ws once = λ k. let e = ways-without (has_key k) key ws (once key) in let o = once k in omega arith

pub once-reworded : (key word : ℕ) (ws : List WayShape) → AreOnce ws → AreOnce (map (with_word key word) ws)
once-reworded key word ws once = λ k.
    let e : tally (has_key k) (entries_in (map (with_word key word) ws)) ≡ tally (has_key k) (entries_in ws) =
    ways-reworded (has_key k) key word ws ∙ tally-same (λ e. has_key k (reworded key word e)) (has_key k) (entries_in ws) (λ e. go k e (e.key == key)) in
    let o = once k in omega arith
  where
    go : (k : ℕ) (e : Entry) (b : Bool) → has_key k (cond b (record e { word = word }) e) ≡ has_key k e
    go k e true = refl
    go k e false = refl
