-- An entry put into a way and what was there put back; an attempt step by step; and displacements
-- undone.
use Rattle.xl_cuckoo.proofs.Common.{◌++◌, ◌+◌, ◌<◌, ◌∙◌, ◌∷◌, ◌≡◌, ◌≤◌, [], ap, arith, Attempt, attempt, by_occupant, Displaced, Entry, Fails, get_or, get_or-append_seam, get_or-set_same, IfSome, in_hand, keys_in_hand, length, length-append, length-set, length-take-le, List, map, map-set, next_way, no_way, None, occupant, Option, previous_way, put_at, put_in, refl, set, set-get_or, set-set, shapes, Some, state_at, suc, Succeeds, swapped, sym, take, take-append_seam, take-suc, undone, way_at, WayShape, WayState, with_swapped, zero, ℕ}

pub map-length : {A B : Type 0} (f : A → B) (xs : List A) → length (map f xs) ≡ length xs
map-length f [] = refl
map-length f (x ∷ xs) = ap suc (map-length f xs)

-- by shapes
pub shape-at : (ws : List WayState) (at : ℕ) → way_at (shapes ws) at ≡ (state_at ws at).shape
shape-at [] at = refl
shape-at (w ∷ ws) zero = refl
shape-at (w ∷ ws) (suc at) = shape-at ws at

pub shapes-put : (ws : List WayState) (at : ℕ) (x : Entry) → shapes (put_at ws at x) ≡ put_in (shapes ws) at x
shapes-put ws at x =
    map-set (λ (w : WayState). w.shape) ws at (with_swapped x (state_at ws at))
    ∙ ap (λ (w : WayShape). set (shapes ws) at (swapped w x)) (sym (shape-at ws at))

pub put-length : (ws : List WayState) (at : ℕ) (x : Entry) → length (put_at ws at x) ≡ length ws
put-length ws at x = length-set ws at (with_swapped x (state_at ws at))

-- what was in a slot, put back
pub back-is : (ws : List WayState) (at : ℕ) (old new : WayState) (o : Option Entry) → at < length ws → old ≡ state_at ws at → new.loads ≡ old.loads
    → IfSome o (λ e. old.shape ≡ swapped new.shape e) → IfSome o (λ e. put_at (set ws at new) at e ≡ ws)
back-is ws at old new None less is loads h = tt
back-is ws at old new (Some e) less is loads h =
    let here : state_at (set ws at new) at ≡ new = get_or-set_same ws at new no_way less in
    let same : with_swapped e new ≡ old =
    ap (λ (s : WayShape). record { shape = s; loads = new.loads }) (sym h) ∙ ap (λ (n : ℕ). record { shape = old.shape; loads = n }) loads in
    ap (λ (w : WayState). set (set ws at new) at (with_swapped e w)) here
    ∙ set-set ws at new (with_swapped e new)
    ∙ ap (λ (w : WayState). set ws at w) (same ∙ is)
    ∙ set-get_or ws at no_way

-- one displacement undone
pub undone-step : (n : ℕ) (ws : List WayState) (at : ℕ) (hand : Entry) → undone (n + 1) ws at hand
    ≡ undone n (put_at ws (previous_way (length ws) at) hand) (previous_way (length ws) at) (in_hand (occupant (state_at ws (previous_way (length ws) at)).shape hand.key) hand)
unfolding undone
undone-step n ws at hand = let e : n + 1 ≡ suc n = omega arith in ap (λ (m : ℕ). undone m ws at hand) e

-- a displacement more, and one more to undo: the way before the next is this one
round : (count at : ℕ) → count ≤ 4 → at < count → previous_way count (next_way count at) ≡ at
round zero at few less = absurd (omega arith)
round (suc zero) at few less = omega arith
round (suc (suc zero)) at few less = omega arith
round (suc (suc (suc zero))) at few less = omega arith
round (suc (suc (suc (suc zero)))) at few less = omega arith
round (suc (suc (suc (suc (suc n))))) at few less = absurd (omega arith)

-- a displacement, and then as many undone and one more, is what was to be undone before
pub taken-back : (n : ℕ) (ws vs : List WayState) (at : ℕ) (hand e : Entry) → length ws ≤ 4 → at < length ws → vs ≡ put_at ws at hand → put_at vs at e ≡ ws
    → occupant (state_at vs at).shape e.key ≡ Some hand → undone (n + 1) vs (next_way (length ws) at) e ≡ undone n ws at hand
taken-back n ws vs at hand e few less is back again =
    let l : length vs ≡ length ws = ap (λ (us : List WayState). length us) is ∙ put-length ws at hand in
    let r : previous_way (length vs) (next_way (length ws) at) ≡ at = ap (λ (m : ℕ). previous_way m (next_way (length ws) at)) l ∙ round (length ws) at few less in
    undone-step n vs (next_way (length ws) at) e
    ∙ ap (λ (a : ℕ). undone n (put_at vs a e) a (in_hand (occupant (state_at vs a).shape e.key) e)) r
    ∙ ap (λ (us : List WayState). undone n us at (in_hand (occupant (state_at vs at).shape e.key) e)) back
    ∙ ap (λ (o : Option Entry). undone n ws at (in_hand o e)) again

-- the keys in hand: one displacement undone, and one more to undo
keys-step : (n : ℕ) (ws : List WayState) (at : ℕ) (hand : Entry) → keys_in_hand (n + 1) ws at hand
    ≡ keys_in_hand n (put_at ws (previous_way (length ws) at) hand) (previous_way (length ws) at) (in_hand (occupant (state_at ws (previous_way (length ws) at)).shape hand.key) hand)
    ++ hand.key ∷ []
unfolding keys_in_hand
keys-step n ws at hand = let e : n + 1 ≡ suc n = omega arith in ap (λ (m : ℕ). keys_in_hand m ws at hand) e

pub keys-more : (n : ℕ) (ws vs : List WayState) (at : ℕ) (hand e : Entry) → length ws ≤ 4 → at < length ws → vs ≡ put_at ws at hand → put_at vs at e ≡ ws
    → occupant (state_at vs at).shape e.key ≡ Some hand → keys_in_hand (n + 1) vs (next_way (length ws) at) e ≡ keys_in_hand n ws at hand ++ e.key ∷ []
keys-more n ws vs at hand e few less is back again =
    let l : length vs ≡ length ws = ap (λ (us : List WayState). length us) is ∙ put-length ws at hand in
    let r : previous_way (length vs) (next_way (length ws) at) ≡ at = ap (λ (m : ℕ). previous_way m (next_way (length ws) at)) l ∙ round (length ws) at few less in
    keys-step n vs (next_way (length ws) at) e
    ∙ ap (λ (a : ℕ). keys_in_hand n (put_at vs a e) a (in_hand (occupant (state_at vs a).shape e.key) e) ++ e.key ∷ []) r
    ∙ ap (λ (us : List WayState). keys_in_hand n us at (in_hand (occupant (state_at vs at).shape e.key) e) ++ e.key ∷ []) back
    ∙ ap (λ (o : Option Entry). keys_in_hand n ws at (in_hand o e) ++ e.key ∷ []) again

keys-length : (n : ℕ) (ws : List WayState) (at : ℕ) (hand : Entry) → length (keys_in_hand n ws at hand) ≡ n
unfolding keys_in_hand
keys-length zero ws at hand = refl
keys-length (suc n) ws at hand =
    let w = previous_way (length ws) at in
    let left = in_hand (occupant (state_at ws w).shape hand.key) hand in
    omega (arith, length-append (keys_in_hand n (put_at ws w hand) w left) (hand.key ∷ []), keys-length n (put_at ws w hand) w left)

-- of two lists with one element after as many: the elements are the same, and what is in front
same-last : (xs ys : List ℕ) (a b : ℕ) → length xs ≡ length ys → xs ++ a ∷ [] ≡ ys ++ b ∷ [] → (xs ≡ ys) × (a ≡ b)
same-last xs ys a b l e = (
  sym (take-append_seam xs (a ∷ [])) ∙ ap (λ (n : ℕ). take n (xs ++ a ∷ [])) l ∙ ap (λ (zs : List ℕ). take (length ys) zs) e ∙ take-append_seam ys (b ∷ []),
  sym (get_or-append_seam xs a [] 0) ∙ ap (λ (n : ℕ). get_or (xs ++ a ∷ []) n 0) l ∙ ap (λ (zs : List ℕ). get_or zs (length ys) 0) e ∙ get_or-append_seam ys b [] 0,
)

-- where the keys in hand are the first of these, the one in hand at present is the last of them
pub key-known : (n : ℕ) (ws : List WayState) (at : ℕ) (hand : Entry) (keys : List ℕ) → n < length keys → keys_in_hand (n + 1) ws at hand ≡ take (n + 1) keys
    → (keys_in_hand n (put_at ws (previous_way (length ws) at) hand) (previous_way (length ws) at) (in_hand (occupant (state_at ws (previous_way (length ws) at)).shape hand.key) hand) ≡ take n keys)
    × (hand.key ≡ get_or keys n 0)
key-known n ws at hand keys within known =
    let w = previous_way (length ws) at in
    let left = in_hand (occupant (state_at ws w).shape hand.key) hand in
    let more : n + 1 ≡ suc n = omega arith in
    same-last (keys_in_hand n (put_at ws w hand) w left) (take n keys) hand.key (get_or keys n 0)
    (keys-length n (put_at ws w hand) w left ∙ sym (length-take-le n keys (omega (arith, within))))
    (sym (keys-step n ws at hand) ∙ known ∙ ap (λ (m : ℕ). take m keys) more ∙ take-suc keys n 0 within)

-- an attempt, step by step
pub attempt-step : (left : ℕ) (ws vs : List WayState) (at : ℕ) (hand e : Entry) (moved : List Displaced) → occupant (state_at ws at).shape hand.key ≡ Some e → vs ≡ put_at ws at hand
    → attempt (left + 1) (shapes ws) at hand moved
    ≡ attempt left (shapes vs) (next_way (length ws) at) e (moved ++ record { key = e.key; way = next_way (length ws) at } ∷ [])
unfolding attempt
attempt-step left ws vs at hand e moved taken is =
    let l : left + 1 ≡ suc left = omega arith in
    let o : occupant (way_at (shapes ws) at) hand.key ≡ Some e = ap (λ (w : WayShape). occupant w hand.key) (shape-at ws at) ∙ taken in
    let n : length (shapes ws) ≡ length ws = map-length (λ (w : WayState). w.shape) ws in
    let s : put_in (shapes ws) at hand ≡ shapes vs = sym (shapes-put ws at hand) ∙ ap shapes (sym is) in
    let on : Entry → Attempt = λ d. attempt left (put_in (shapes ws) at hand) (next_way (length (shapes ws)) at) d (moved ++ record { key = d.key; way = next_way (length (shapes ws)) at } ∷ []) in
    ap (λ (m : ℕ). attempt m (shapes ws) at hand moved) l
    ∙ ap (λ (p : Option Entry). by_occupant p (Succeeds (put_in (shapes ws) at hand) moved) on) o
    ∙ ap (λ (m : ℕ). attempt left (put_in (shapes ws) at hand) (next_way m at) e (moved ++ record { key = e.key; way = next_way m at } ∷ [])) n
    ∙ ap (λ (us : List WayShape). attempt left us (next_way (length ws) at) e (moved ++ record { key = e.key; way = next_way (length ws) at } ∷ [])) s

pub attempt-free : (left : ℕ) (ws vs : List WayState) (at : ℕ) (hand : Entry) (moved : List Displaced) → occupant (state_at ws at).shape hand.key ≡ None → vs ≡ put_at ws at hand
    → attempt left (shapes ws) at hand moved ≡ Succeeds (shapes vs) moved
unfolding attempt
attempt-free left ws vs at hand moved free is = go left
  where
    o : occupant (way_at (shapes ws) at) hand.key ≡ None
    o = ap (λ (w : WayShape). occupant w hand.key) (shape-at ws at) ∙ free

    s : put_in (shapes ws) at hand ≡ shapes vs
    s = sym (shapes-put ws at hand) ∙ ap shapes (sym is)

    go : (n : ℕ) → attempt n (shapes ws) at hand moved ≡ Succeeds (shapes vs) moved
    go zero = ap (λ (p : Option Entry). by_occupant p (Succeeds (put_in (shapes ws) at hand) moved) (λ e. Fails)) o ∙ ap (λ (us : List WayShape). Succeeds us moved) s
    go (suc n) =
        ap (λ (p : Option Entry). by_occupant p (Succeeds (put_in (shapes ws) at hand) moved)
        (λ d. attempt n (put_in (shapes ws) at hand) (next_way (length (shapes ws)) at) d (moved ++ record { key = d.key; way = next_way (length (shapes ws)) at } ∷ []))) o
        ∙ ap (λ (us : List WayShape). Succeeds us moved) s

pub attempt-fails : (ws : List WayState) (at : ℕ) (hand e : Entry) (moved : List Displaced) → occupant (state_at ws at).shape hand.key ≡ Some e → attempt 0 (shapes ws) at hand moved ≡ Fails
unfolding attempt
attempt-fails ws at hand e moved taken =
    ap (λ (p : Option Entry). by_occupant p (Succeeds (put_in (shapes ws) at hand) moved) (λ d. Fails))
    (ap (λ (w : WayShape). occupant w hand.key) (shape-at ws at) ∙ taken)

-- what is in hand is an entry
pub hand-full : (o : Option Entry) (hand : Entry) → IfSome o (λ e. 0 < e.word) → 0 < hand.word → 0 < (in_hand o hand).word
hand-full None hand h full = full
hand-full (Some e) hand h full = h
