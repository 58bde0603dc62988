-- Ways read and written one after another.
use Rattle.xl_cuckoo.proofs.Common.{◌++◌, ◌+◌, ◌<◌, ◌^◌, ◌∙◌, ◌∷◌, ◌≡◌, ◌≤◌, [], ap, arith, changed_by, cond, drop, drop-cons, drop_all, entries_in, Entry, find, get_or, get_or_default, has_key, held_by, holder_from, is_some, length, List, map, no_way, None, Option, option_or, plus, refl, set, shapes, Some, state_at, suc, sym, take, total, value_of, WayShape, WayState, word_in, word_of, zero, ℕ}
use Rattle.std.proofs.lemmas.List.Edits.{map_over_more}
use Rattle.std.proofs.lemmas.List.Folds.{find-append}

-- the ways from one on
pub from-here : (ws : List WayState) (i : ℕ) → i < length ws → drop i ws ≡ state_at ws i ∷ drop (i + 1) ws
from-here ws i l = let e : suc i ≡ i + 1 = omega arith in drop-cons ws i no_way l ∙ ap (λ (n : ℕ). state_at ws i ∷ drop n ws) e

pub read-here : (ws : List WayState) (i : ℕ) (w : WayState) → i < length ws → w ≡ get_or ws i w → state_at ws i ≡ w
read-here ws i w l e = get_or_default ws i no_way w l ∙ sym e

-- the word of a key
word-or : (o p : Option Entry) → word_in (option_or o p) ≡ option_or (word_in o) (word_in p)
word-or None p = refl
word-or (Some e) p = refl

pub value-first : (key : ℕ) (w : WayShape) (ws : List WayShape) → value_of key (w ∷ ws) ≡ option_or (word_of key w.entries) (value_of key ws)
unfolding word_of
value-first key w ws = ap word_in (find-append (has_key key) w.entries (entries_in ws)) ∙ word-or (find (has_key key) w.entries) (find (has_key key) (entries_in ws))

pub value-next : (key : ℕ) (ws : List WayState) (i : ℕ) → i < length ws
    → value_of key (shapes (drop i ws)) ≡ option_or (word_of key (state_at ws i).shape.entries) (value_of key (shapes (drop (i + 1) ws)))
value-next key ws i l = ap (λ (us : List WayState). value_of key (shapes us)) (from-here ws i l) ∙ value-first key (state_at ws i).shape (shapes (drop (i + 1) ws))

pub value-here : (key : ℕ) (ws : List WayState) (i : ℕ) (w : WayState) (o : Option ℕ) → i < length ws → w ≡ get_or ws i w → word_of key w.shape.entries ≡ o
    → value_of key (shapes (drop i ws)) ≡ option_or o (value_of key (shapes (drop (i + 1) ws)))
value-here key ws i w o l e h =
    value-next key ws i l
    ∙ ap (λ (p : Option ℕ). option_or p (value_of key (shapes (drop (i + 1) ws)))) (ap (λ (v : WayState). word_of key v.shape.entries) (read-here ws i w l e) ∙ h)

pub value-end : (key : ℕ) (ws : List WayState) (i : ℕ) → length ws ≤ i → value_of key (shapes (drop i ws)) ≡ None
unfolding word_of
value-end key ws i l = ap (λ (us : List WayState). value_of key (shapes us)) (drop_all i ws l)

pub holder-here : (key : ℕ) (ws : List WayState) (i : ℕ) (w : WayState) → i < length ws → w ≡ get_or ws i w
    → holder_from i (shapes (drop i ws)) key ≡ cond (is_some (word_of key w.shape.entries)) (Some i) (holder_from (i + 1) (shapes (drop (i + 1) ws)) key)
holder-here key ws i w l e =
    ap (λ (us : List WayState). holder_from i (shapes us) key) (from-here ws i l)
    ∙ ap (λ b. cond b (Some i) (holder_from (i + 1) (shapes (drop (i + 1) ws)) key))
    (held_by (state_at ws i).shape key ∙ ap (λ (v : WayState). is_some (word_of key v.shape.entries)) (read-here ws i w l e))

-- one way after another is written
pub written-more : (f : WayState → WayState) (ws vs : List WayState) (i : ℕ) → i < length ws → vs ≡ map f (take i ws) ++ drop i ws → i < length vs
    → set vs i (f (state_at vs i)) ≡ map f (take (i + 1) ws) ++ drop (i + 1) ws
written-more f ws vs i l e m = map_over_more f ws vs i (state_at vs i) l e (get_or_default vs i no_way (state_at vs i) m)

-- what is at the next place is still as it was
pub state-same : (f : WayState → WayState) (ws vs : List WayState) (i : ℕ) → i < length ws → vs ≡ map f (take i ws) ++ drop i ws → state_at vs i ≡ state_at ws i
state-same f ws vs i l e = ap (λ us. state_at us i) e ∙ go ws i l
  where
    go : (us : List WayState) (n : ℕ) → n < length us → state_at (map f (take n us) ++ drop n us) n ≡ state_at us n
    go [] n h = absurd (omega arith)
    go (u ∷ us) zero h = refl
    go (u ∷ us) (suc n) h = go us n (omega arith)

-- a sum over the ways
pub total-next : (f : WayShape → ℕ) (sum : ℕ) (ws : List WayState) (i : ℕ) → i < length ws
    → plus sum (total f (shapes (drop i ws))) ≡ plus (plus sum (f (state_at ws i).shape)) (total f (shapes (drop (i + 1) ws)))
total-next f sum ws i l =
    let a : total f (shapes (drop i ws)) ≡ f (state_at ws i).shape + total f (shapes (drop (i + 1) ws)) = ap (λ (us : List WayState). total f (shapes us)) (from-here ws i l) in
    omega arith

-- the ways are changed
pub shapes-map : (f : WayShape → WayShape) (ws : List WayState) → shapes (map (changed_by f) ws) ≡ map f (shapes ws)
shapes-map f [] = refl
shapes-map f (w ∷ ws) = ap (λ us. f w.shape ∷ us) (shapes-map f ws)
