-- Words under keys in ways, by how often entries pass tests: with an entry more, without one, and with another word.
use Rattle.xl_cuckoo_walk.proofs.Common.{◌&&◌, ◌*◌, ◌+◌, ◌==◌, ◌^◌, ◌∙◌, ◌∷◌, ◌≡◌, ◌≤◌, [], AddsEntry, any-In, ap, AreOnce, arith, Bool, cond, entries_in, Entry, false, find, find-In, find-None, find-passes, has_key, In, In-map, inl, inr, IsSome, level_of, List, map, map-In, nat_tests, None, not, one_if, Option, Order, order_tags, refl, reworded, Some, subst, sym, tally, tally-any, tally-same, true, value_of, ways-reworded, ways-without, WayShape, with_word, without_entry, word_in, word_of, ℕ}

-- members and how many pass
pub tally-In : {A : Type 0} (q : A → Bool) (x : A) (xs : List A) → In x xs → q x ≡ true → 1 ≤ tally q xs
tally-In q x [] i t = absurd i
tally-In {A} q x (y ∷ ys) (inl e) t = let P : A → Type 0 = λ z. q z ≡ true in let u : one_if (q y) ≡ 1 = ap one_if (subst P e t) in omega arith
tally-In q x (y ∷ ys) (inr i) t = let on : 1 ≤ tally q ys = tally-In q x ys i t in omega arith

pub In-tally : {A : Type 0} (q : A → Bool) (xs : List A) → 1 ≤ tally q xs → (x : A) × In x xs × (q x ≡ true)
In-tally q xs h = any-In q xs (tally-any q xs ∙ (let t : not (tally q xs == 0) ≡ true = grind (arith, nat_tests) in t))

tally-one : {A : Type 0} (q : A → Bool) (x y : A) (xs : List A) → tally q xs ≤ 1 → In x xs → In y xs → q x ≡ true → q y ≡ true → x ≡ y
tally-one q x y [] few i j s t = absurd i
tally-one q x y (z ∷ zs) few (inl a) (inl b) s t = a ∙ sym b
tally-one {A} q x y (z ∷ zs) few (inl a) (inr j) s t =
    let here : one_if (q z) ≡ 1 = ap one_if (subst (λ (w : A). q w ≡ true) a s) in let there : 1 ≤ tally q zs = tally-In q y zs j t in absurd (omega arith)
tally-one {A} q x y (z ∷ zs) few (inr i) (inl b) s t =
    let here : one_if (q z) ≡ 1 = ap one_if (subst (λ (w : A). q w ≡ true) b t) in let there : 1 ≤ tally q zs = tally-In q x zs i s in absurd (omega arith)
tally-one q x y (z ∷ zs) few (inr i) (inr j) s t = tally-one q x y zs (omega arith) i j s t

-- an entry with this key and this word
abbrev pub is_pair : ℕ → ℕ → Entry → Bool
is_pair key word e = has_key key e && (e.word == word)

pair-key : (key word : ℕ) (e : Entry) → is_pair key word e ≡ true → (has_key key e ≡ true) × (e.word ≡ word)
pair-key key word e h = (grind (arith, nat_tests), grind (arith, nat_tests))

pub value-pair : (key word : ℕ) (ways : List WayShape) → value_of key ways ≡ Some word → 1 ≤ tally (is_pair key word) (entries_in ways)
unfolding word_of
value-pair key word ways h = go (find (has_key key) (entries_in ways)) refl h
  where
    go : (o : Option Entry) → find (has_key key) (entries_in ways) ≡ o → word_in o ≡ Some word → 1 ≤ tally (is_pair key word) (entries_in ways)
    go None f e = absurd (cc)
    go (Some x) f e =
        let w : x.word ≡ word = cc in
        let k = find-passes (has_key key) x (entries_in ways) f in
        tally-In (is_pair key word) x (entries_in ways) (find-In (has_key key) x (entries_in ways) f) (grind (arith, nat_tests))

pub pair-value : (key word : ℕ) (ways : List WayShape) → AreOnce ways → 1 ≤ tally (is_pair key word) (entries_in ways) → value_of key ways ≡ Some word
unfolding word_of
pair-value key word ways once h = go (find (has_key key) (entries_in ways)) refl
  where
    found : (x : Entry) × In x (entries_in ways) × (is_pair key word x ≡ true)
    found = In-tally (is_pair key word) (entries_in ways) h

    keyed : (has_key key found.0 ≡ true) × (found.0.word ≡ word)
    keyed = pair-key key word found.0 found.2

    go : (o : Option Entry) → find (has_key key) (entries_in ways) ≡ o → word_in o ≡ Some word
    go None f = let none : has_key key found.0 ≡ false = find-None (has_key key) found.0 (entries_in ways) f found.1 in let bad : true ≡ false = sym keyed.0 ∙ none in absurd (cc)
    go (Some x) f =
        let same : x ≡ found.0 = tally-one (has_key key) x found.0 (entries_in ways) (once key) (find-In (has_key key) x (entries_in ways) f) found.1 (find-passes (has_key key) x (entries_in ways) f) keyed.0 in
        ap (λ (e : Entry). Some e.word) same ∙ ap Some keyed.1

-- where as many entries have the key with each word, it has the same word
pub same-value : (key : ℕ) (xs ys : List WayShape) → AreOnce ys → ((word : ℕ) → tally (is_pair key word) (entries_in xs) ≡ tally (is_pair key word) (entries_in ys))
    → AreOnce xs → value_of key xs ≡ value_of key ys
same-value key xs ys once same once' = go (value_of key xs) (value_of key ys) refl refl
  where
    go : (a b : Option ℕ) → value_of key xs ≡ a → value_of key ys ≡ b → a ≡ b
    go None None e f = refl
    go None (Some w) e f = sym e ∙ pair-value key w xs once' (let n = value-pair key w ys f in let m = same w in omega arith)
    go (Some w) b e f = sym (pair-value key w ys once (let n = value-pair key w xs e in let m = same w in omega arith)) ∙ f

-- with an entry more
pub value-added : (x : Entry) (old new : List WayShape) → AddsEntry x old new → AreOnce new → value_of x.key new ≡ Some x.word
value-added x old new adds once =
    let own : is_pair x.key x.word x ≡ true = grind (arith, nat_tests) in
    let n = adds (is_pair x.key x.word) in
    let i : one_if (is_pair x.key x.word x) ≡ 1 = ap one_if own in
    pair-value x.key x.word new once (omega arith)

other-pair : (key word : ℕ) (x : Entry) → (x.key ≡ key → ⊥) → is_pair key word x ≡ false
other-pair key word x h =
    elim (x.key == key) as (λ b. (x.key == key) ≡ b → (b && (x.word == word)) ≡ false) [ true ↦ λ t. absurd (h (grind (arith, nat_tests))) | false ↦ λ t. refl ] refl

pub value-kept : (key : ℕ) (x : Entry) (old new : List WayShape) → AddsEntry x old new → AreOnce old → AreOnce new → (x.key ≡ key → ⊥) → value_of key new ≡ value_of key old
value-kept key x old new adds once once' other =
    same-value key new old once (λ w. let n = adds (is_pair key w) in let i : one_if (is_pair key w x) ≡ 0 = ap one_if (other-pair key w x other) in omega arith) once'

-- without a key
pub value-out : (key : ℕ) (ways : List WayShape) → AreOnce ways → value_of key (map (without_entry key) ways) ≡ None
unfolding word_of
value-out key ways once = go (find (has_key key) (entries_in (map (without_entry key) ways))) refl
  where
    none : tally (has_key key) (entries_in (map (without_entry key) ways)) ≡ 0
    none =
        let n = ways-without (has_key key) key ways (once key) in
        let s : tally (λ e. has_key key e && has_key key e) (entries_in ways) ≡ tally (has_key key) (entries_in ways) = tally-same (λ e. has_key key e && has_key key e) (has_key key) (entries_in ways) (λ e. twice (e.key == key)) in
        omega arith
      where
        twice : (b : Bool) → (b && b) ≡ b
        twice true = refl
        twice false = refl

    go : (o : Option Entry) → find (has_key key) (entries_in (map (without_entry key) ways)) ≡ o → word_in o ≡ None
    go None f = refl
    go (Some x) f = absurd (let n = tally-In (has_key key) x (entries_in (map (without_entry key) ways)) (find-In (has_key key) x (entries_in (map (without_entry key) ways)) f) (find-passes (has_key key) x (entries_in (map (without_entry key) ways)) f) in let z = none in omega arith)

none-both : (key k word : ℕ) (es : List Entry) → (k ≡ key → ⊥) → tally (λ e. has_key key e && is_pair k word e) es ≡ 0
none-both key k word [] h = refl
none-both key k word (e ∷ es) h =
    let on : tally (λ e. has_key key e && is_pair k word e) es ≡ 0 = none-both key k word es h in
    let first : (has_key key e && is_pair k word e) ≡ false =
    elim (e.key == key) as (λ b. (e.key == key) ≡ b → (b && is_pair k word e) ≡ false) [
      | true ↦ λ t. other-pair k word e (λ s. h (let a : e.key ≡ key = grind (arith, nat_tests) in sym s ∙ a))
      | false ↦ λ t. refl
    ] refl in
    let i : one_if (has_key key e && is_pair k word e) ≡ 0 = ap one_if first in
    omega arith

pub value-left : (key k : ℕ) (ways : List WayShape) → AreOnce ways → AreOnce (map (without_entry key) ways) → (k ≡ key → ⊥) → value_of k (map (without_entry key) ways) ≡ value_of k ways
value-left key k ways once once' other =
    same-value k (map (without_entry key) ways) ways once
    (λ w. let n = ways-without (is_pair k w) key ways (once key) in let z = none-both key k w (entries_in ways) other in omega arith) once'

-- with another word
pub value-other : (key word k : ℕ) (ways : List WayShape) → AreOnce ways → AreOnce (map (with_word key word) ways) → (k ≡ key → ⊥) → value_of k (map (with_word key word) ways) ≡ value_of k ways
value-other key word k ways once once' other =
    same-value k (map (with_word key word) ways) ways once
    (λ w. ways-reworded (is_pair k w) key word ways ∙ tally-same (λ e. is_pair k w (reworded key word e)) (is_pair k w) (entries_in ways) (λ e. go w e)) once'
  where
    go : (w : ℕ) (e : Entry) → is_pair k w (cond (e.key == key) (record e { word = word }) e) ≡ is_pair k w e
    go w e =
        elim (e.key == key) as (λ b. (e.key == key) ≡ b → is_pair k w (cond b (record e { word = word }) e) ≡ is_pair k w e) [
          | true ↦ λ t.
              let a : e.key ≡ key = grind (arith, nat_tests) in
              let f : e.key ≡ k → ⊥ = λ s. other (sym s ∙ a) in
              other-pair k w (record e { word = word }) f ∙ sym (other-pair k w e f)
          | false ↦ λ t. refl
        ] refl

pub value-reworded : (key word : ℕ) (ways : List WayShape) → AreOnce (map (with_word key word) ways) → IsSome (value_of key ways) → value_of key (map (with_word key word) ways) ≡ Some word
value-reworded key word ways once held = go (value_of key ways) refl held
  where
    more : (w : ℕ) (es : List Entry) → 1 ≤ tally (is_pair key w) es → 1 ≤ tally (λ e. is_pair key word (reworded key word e)) es
    more w es h =
        let found = In-tally (is_pair key w) es h in
        let k = (pair-key key w found.0 found.2).0 in
        tally-In (λ e. is_pair key word (reworded key word e)) found.0 es found.1 (same found.0 k)
      where
        same : (e : Entry) → has_key key e ≡ true → is_pair key word (reworded key word e) ≡ true
        same e k =
            ap (λ b. is_pair key word (cond b (record e { word = word }) e)) k
            ∙ (let own : is_pair key word (record e { word = word }) ≡ true = grind (arith, nat_tests) in own)

    go : (o : Option ℕ) → value_of key ways ≡ o → IsSome o → value_of key (map (with_word key word) ways) ≡ Some word
    go None e h = absurd (cc)
    go (Some w) e h =
        pair-value key word (map (with_word key word) ways) once
        (let n = more w (entries_in ways) (value-pair key w ways e) in let r = ways-reworded (is_pair key word) key word ways in omega arith)

-- the tags of the keys in ways of an order
abbrev pub tag_is : Order → ℕ → Entry → Bool
tag_is o t e = level_of o * 2 ^ 60 + e.key == t

pub tag-tally : (o : Order) (t : ℕ) (ways : List WayShape) → In t (order_tags o ways) → 1 ≤ tally (tag_is o t) (entries_in ways)
tag-tally o t ways i =
    let found = map-In (λ (e : Entry). level_of o * 2 ^ 60 + e.key) t (entries_in ways) i in
    let e : t ≡ level_of o * 2 ^ 60 + found.0.key = found.2 in
    tally-In (tag_is o t) found.0 (entries_in ways) found.1 (grind (arith, nat_tests))

pub tally-tag : (o : Order) (t : ℕ) (ways : List WayShape) → 1 ≤ tally (tag_is o t) (entries_in ways) → In t (order_tags o ways)
tally-tag o t ways h =
    let found = In-tally (tag_is o t) (entries_in ways) h in
    let e : level_of o * 2 ^ 60 + found.0.key ≡ t = (let p = found.2 in grind (arith, nat_tests)) in
    subst (λ n. In n (order_tags o ways)) e (In-map (λ (x : Entry). level_of o * 2 ^ 60 + x.key) found.0 (entries_in ways) found.1)
