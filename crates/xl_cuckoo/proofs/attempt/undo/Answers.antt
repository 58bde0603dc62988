use Rattle.xl_cuckoo.proofs.Common.{◌+◌, ◌-◌, ◌<◌, ◌∙◌, ◌≡◌, ap, arith, Entry, get_or, in_hand, key_of, keys_in_hand, length, List, map, occupant, Option, previous_way, put_at, state_at, subst, sym, take, take-length, undone, WayState, ℕ}
use Rattle.xl_cuckoo.proofs.KickLemmas.{hand-full, key-known, map-length, put-length, undone-step}
use Rattle.xl_cuckoo.proofs.attempt.undo.Goals as goal

pub back-init : goal.back-init
back-init c =
    let moved = c.args.moved.now in
    let all : length moved - 0 ≡ length moved = omega arith in
    record {
      rest = ap (λ (n : ℕ). undone n c.args.ways.now c.args.at c.args.hand) all;
      hands = ap (λ (n : ℕ). keys_in_hand n c.args.ways.now c.args.at c.args.hand) all ∙ c.requires.known ∙ sym (ap (λ (n : ℕ). take n (map key_of moved)) (all ∙ sym (map-length key_of moved)) ∙ take-length (map key_of moved));
      inside = c.requires.within;
      full = c.requires.full;
    }

pub back-preserved : goal.back-preserved
back-preserved c =
    let ws : List WayState = c.back.ways in
    let hand : Entry = c.back.hand in
    let moved = c.args.moved.now in
    let keys : List ℕ = map key_of moved in
    let n : ℕ = length moved - (c.back.i + 1) in
    let p : ℕ = previous_way (length ws) c.back.at in
    let to : c.previous-at.result ≡ p = c.previous-at.ensures.is in
    let more : n + 1 ≡ length moved - c.back.i = (let t = c.back-test.true in omega arith) in
    let within : n < length keys = (let t = c.back-test.true in omega (arith, map-length key_of moved)) in
    let known = key-known n ws c.back.at hand keys within
    (ap (λ (m : ℕ). keys_in_hand m ws c.back.at hand) more ∙ c.back.invariant.hands ∙ ap (λ (m : ℕ). take m keys) (sym more)) in
    let index : length moved - 1 - c.back.i ≡ n = (let t = c.back-test.true in omega arith) in
    let key : c.key_at-key.result ≡ hand.key = c.key_at-key.ensures ∙ ap (λ (m : ℕ). get_or keys m 0) index ∙ sym known.1 in
    let back : Entry = record { key = c.key_at-key.result; word = hand.word } in
    let same : back ≡ hand = ap (λ (k : ℕ). let e : Entry = record { key = k; word = hand.word } in e) key in
    let left : ℕ → Entry = λ a. in_hand (occupant (state_at ws a).shape hand.key) hand in
    let in-hand : c.hand_after-hand.result ≡ left p =
    c.hand_after-hand.ensures ∙ ap (λ (o : Option Entry). in_hand o hand) c.swap_at-displaced.ensures.left
    ∙ ap (λ (k : ℕ). in_hand (occupant (state_at ws c.previous-at.result).shape k) hand) key ∙ ap left to in
    let ways : c.swap_at-displaced.new.ways ≡ put_at ws p hand =
    c.swap_at-displaced.ensures.ways ∙ ap (put_at ws c.previous-at.result) same ∙ ap (λ (a : ℕ). put_at ws a hand) to in
    record {
      rest = ap (λ (us : List WayState). undone n us c.previous-at.result c.hand_after-hand.result) ways
          ∙ ap (λ (e : Entry). undone n (put_at ws p hand) c.previous-at.result e) in-hand
          ∙ ap (λ (a : ℕ). undone n (put_at ws p hand) a (left p)) to
          ∙ sym (undone-step n ws c.back.at hand)
          ∙ ap (λ (m : ℕ). undone m ws c.back.at hand) more
          ∙ c.back.invariant.rest;
      hands = ap (λ (us : List WayState). keys_in_hand n us c.previous-at.result c.hand_after-hand.result) ways
          ∙ ap (λ (e : Entry). keys_in_hand n (put_at ws p hand) c.previous-at.result e) in-hand
          ∙ ap (λ (a : ℕ). keys_in_hand n (put_at ws p hand) a (left p)) to
          ∙ known.0;
      inside = (let l = ap (λ (us : List WayState). length us) ways in let k = put-length ws p hand in let i = c.previous-at.ensures.inside in omega arith);
      full = (let F : Entry → Type 0 = λ e. 0 < e.word in subst F (sym c.hand_after-hand.ensures) (hand-full c.swap_at-displaced.result hand c.swap_at-displaced.ensures.full c.back.invariant.full));
    }

pub returns : goal.returns
unfolding undone
returns c =
    let none : 0 ≡ length c.args.moved.now - c.back.i = (let t = c.back-test.false in omega arith) in
    ap (λ (m : ℕ). undone m c.back.ways c.back.at c.back.hand) none ∙ c.back.invariant.rest
