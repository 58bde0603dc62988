-- A count that is lowered, in a list of entries.
use Rattle.xl_sections.proofs.Common.{◌+◌, ◌-◌, ◌<◌, ◌==◌, ◌∙◌, ◌∷◌, ◌≡◌, [], ap, AreKept, arith, Bool, ChainShape, ChainState, cond, Count, count_in, count_of, counts_of, CountState, false, filter, filter-In, find, first_value, has, has_tag, Held, In, In-any, In-map, inl, inr, IsLowered, keys_of, length, length-map, List, map, map-In, nat_tests, not, number_of, Once, refl, Some, subst, suc, sym, tags_of, true, with_value, without_tag, ℕ}
use Rattle.xl_sections.proofs.RaiseLemmas.{count-renewed, counts-renewed, here-count, IsFoundAt, keys-In, renewed, same-test}

abbrev pub seen_of : ChainState → CountState
seen_of c = record { room = c.shape.entries; counts = counts_of c.held }

pub key-has : (key e v : ℕ) (hs : List Held) → IsFoundAt key e v hs → has_tag (tags_of hs) key ≡ true
key-has key e v hs f = let q : f.held.tag ≡ key = f.tag_is in In-any (λ t. t == key) f.held.tag (tags_of hs) (In-map (λ (h : Held). h.tag) f.held hs f.there) (grind (arith, nat_tests))

less : (k key n by : ℕ) (f : ℕ → ℕ) → n + by ≡ f key → cond (k == key) n (f k) + cond (k == key) by 0 ≡ f k
less k key n by f h =
    elim (k == key) as (λ b. (k == key) ≡ b → cond b n (f k) + cond b by 0 ≡ f k) [
      | true ↦ λ t. let e : k ≡ key = grind (arith, nat_tests) in h ∙ ap f (sym e)
      | false ↦ λ t. omega arith
    ] refl

pub lowered-set : (key e v by : ℕ) (old new : ChainState) → AreKept old.held → IsFoundAt key e v old.held → by < v
    → new.held ≡ map (with_value e 0 (v - by)) old.held → new.shape ≡ old.shape → IsLowered key by (seen_of old) (seen_of new)
lowered-set key e v by old new k f some held shape =
    let hs = old.held in
    let n : ℕ = v - by in
    let is : counts_of new.held ≡ map (renewed key n) hs = ap counts_of held ∙ counts-renewed key e n hs (same-test key e hs f.held k f.there f.tag_is f.entry_is) k.single in
    let here : count_of key (counts_of hs) ≡ v = here-count key e v hs k f in
    let all : (m : ℕ) → count_of m (counts_of new.held) ≡ cond (m == key) n (count_of m (counts_of hs)) = (λ m. ap (count_of m) is ∙ count-renewed key n m hs (λ q. (f.held, f.there, f.tag_is))) in
    record {
      number = λ m. ap (λ z. z + cond (m == key) by 0) (all m) ∙ less m key n by (λ z. count_of z (counts_of hs)) (omega arith);
      places = (let a : length (counts_of new.held) ≡ length hs = ap (λ (cs : List Count). length cs) is ∙ length-map hs (renewed key n) in
          let b : length (counts_of hs) ≡ length hs = length-map hs count_in in
          let s : (key == key) ≡ true = grind (arith, nat_tests) in
          let c : count_of key (counts_of new.held) ≡ n = all key ∙ ap (λ t. cond t n (count_of key (counts_of hs))) s in
          let d : (count_of key (counts_of new.held) == 0) ≡ false = grind (arith, nat_tests) in
          ap (λ t. length (counts_of new.held) + cond t 1 0) d ∙ (omega arith));
      room = ap (λ (s : ChainShape). s.entries) shape;
    }

-- a key that goes
pub gone-yes : (key : ℕ) (g : Held) (hs : List Held) → (g.tag == key) ≡ true → without_tag key (g ∷ hs) ≡ without_tag key hs
unfolding without_tag
gone-yes key g hs t = ap (λ b. cond (not b) (g ∷ filter (λ h. not (has key h)) hs) (filter (λ h. not (has key h)) hs)) t

pub gone-no : (key : ℕ) (g : Held) (hs : List Held) → (g.tag == key) ≡ false → without_tag key (g ∷ hs) ≡ g ∷ without_tag key hs
unfolding without_tag
gone-no key g hs t = ap (λ b. cond (not b) (g ∷ filter (λ h. not (has key h)) hs) (filter (λ h. not (has key h)) hs)) t

pub gone-none : (key : ℕ) → without_tag key [] ≡ []
unfolding without_tag
gone-none key = refl

pub gone-In : (key : ℕ) (g : Held) (hs : List Held) → In g (without_tag key hs) → In g hs
unfolding without_tag
gone-In key g hs i = filter-In (λ h. not (has key h)) g hs i

count-cons : (k : ℕ) (g : Held) (hs : List Held) → count_of k (counts_of (g ∷ hs)) ≡ cond (g.tag == k) (first_value g.values) (count_of k (counts_of hs))
unfolding count_of
count-cons k g hs = elim (g.tag == k) as (λ b. number_of (cond b (Some (count_in g)) (find (λ c. c.key == k) (counts_of hs))) ≡ cond b (first_value g.values) (number_of (find (λ c. c.key == k) (counts_of hs)))) [ true ↦ refl | false ↦ refl ]

count-nil : (k : ℕ) → count_of k (counts_of []) ≡ 0
unfolding count_of
count-nil k = refl

same-zero : (b : Bool) → ◌≡◌ {A = ℕ} (cond b 0 0) 0
same-zero true = refl
same-zero false = refl

pick-gone : (key k v n : ℕ) (g : Held) → (g.tag == key) ≡ true → cond (k == key) 0 n ≡ cond (k == key) 0 (cond (g.tag == k) v n)
pick-gone key k v n g t =
    elim (k == key) as (λ b. (k == key) ≡ b → cond b 0 n ≡ cond b 0 (cond (g.tag == k) v n)) [
      | true ↦ λ u. refl
      | false ↦ λ u. let o : (g.tag == k) ≡ false = other u in ap (λ b. cond b v n) (sym o)
    ] refl
  where
    other : (k == key) ≡ false → (g.tag == k) ≡ false
    other u = elim (g.tag == k) as (λ b. (g.tag == k) ≡ b → b ≡ false) [ true ↦ λ w. absurd (clash u w) | false ↦ λ w. refl ] refl
      where
        clash : (k == key) ≡ false → (g.tag == k) ≡ true → ⊥
        clash u w = grind (arith, nat_tests)

pick-stays : (key k v n : ℕ) (g : Held) → (g.tag == key) ≡ false → cond (g.tag == k) v (cond (k == key) 0 n) ≡ cond (k == key) 0 (cond (g.tag == k) v n)
pick-stays key k v n g t =
    elim (g.tag == k) as (λ b. (g.tag == k) ≡ b → cond b v (cond (k == key) 0 n) ≡ cond (k == key) 0 (cond b v n)) [
      | true ↦ λ u. let o : (k == key) ≡ false = (elim (k == key) as (λ b. (k == key) ≡ b → b ≡ false) [ true ↦ λ w. absurd (clash u w) | false ↦ λ w. refl ] refl) in ap (λ b. cond b 0 v) (sym o)
      | false ↦ λ u. refl
    ] refl
  where
    clash : (g.tag == k) ≡ true → (k == key) ≡ true → ⊥
    clash u w = grind (arith, nat_tests)

count-gone : (key k : ℕ) (hs : List Held) → count_of k (counts_of (without_tag key hs)) ≡ cond (k == key) 0 (count_of k (counts_of hs))
count-gone key k [] = ap (λ gs. count_of k (counts_of gs)) (gone-none key) ∙ count-nil k ∙ sym (same-zero (k == key)) ∙ ap (cond (k == key) 0) (sym (count-nil k))
count-gone key k (g ∷ hs) =
    let n : ℕ = count_of k (counts_of hs) in
    let on = count-gone key k hs in
    elim (g.tag == key) as (λ b. (g.tag == key) ≡ b → count_of k (counts_of (without_tag key (g ∷ hs))) ≡ cond (k == key) 0 (count_of k (counts_of (g ∷ hs)))) [
      | true ↦ λ t. ap (λ gs. count_of k (counts_of gs)) (gone-yes key g hs t) ∙ on ∙ pick-gone key k (first_value g.values) n g t ∙ ap (cond (k == key) 0) (sym (count-cons k g hs))
      | false ↦ λ t. ap (λ gs. count_of k (counts_of gs)) (gone-no key g hs t) ∙ count-cons k g (without_tag key hs) ∙ ap (cond (g.tag == k) (first_value g.values)) on
          ∙ pick-stays key k (first_value g.values) n g t ∙ ap (cond (k == key) 0) (sym (count-cons k g hs))
    ] refl

once-gone : (key : ℕ) (hs : List Held) → Once (keys_of (counts_of hs)) → Once (keys_of (counts_of (without_tag key hs)))
once-gone key [] o = let P : List Held → Type 0 = λ gs. Once (keys_of (counts_of gs)) in subst P (sym (gone-none key)) tt
once-gone key (g ∷ hs) (out, rest) =
    let P : List Held → Type 0 = λ gs. Once (keys_of (counts_of gs)) in
    let on : Once (keys_of (counts_of (without_tag key hs))) = once-gone key hs rest in
    elim (g.tag == key) as (λ b. (g.tag == key) ≡ b → Once (keys_of (counts_of (without_tag key (g ∷ hs))))) [
      | true ↦ λ t. subst P (sym (gone-yes key g hs t)) on
      | false ↦ λ t. subst P (sym (gone-no key g hs t)) (
        λ i. let r = keys-In g.tag (without_tag key hs) i in
            out (subst (λ (m : ℕ). In m (keys_of (counts_of hs))) r.2 (In-map (λ (c : Count). c.key) (count_in r.0) (counts_of hs) (In-map count_in r.0 hs (gone-In key r.0 hs r.1)))),
        on,
      )
    ] refl

pub kept-gone : (key : ℕ) (hs : List Held) → AreKept hs → AreKept (without_tag key hs)
kept-gone key hs k = record {
  counts = record {
    once = once-gone key hs k.counts.once;
    some = λ c i. (let r = map-In count_in c (without_tag key hs) i in let Q : Count → Type 0 = λ d. 0 < d.number in
        subst Q (sym r.2) (k.counts.some (count_in r.0) (In-map count_in r.0 hs (gone-In key r.0 hs r.1))));
  };
  single = λ h i. k.single h (gone-In key h hs i);
  apart = λ g h i j. k.apart g h (gone-In key g hs i) (gone-In key h hs j);
}

gone-all : (key : ℕ) (hs : List Held) → ((h : Held) → In h hs → h.tag ≡ key → ⊥) → without_tag key hs ≡ hs
gone-all key [] n = gone-none key
gone-all key (g ∷ hs) n =
    let t : (g.tag == key) ≡ false = (elim (g.tag == key) as (λ b. (g.tag == key) ≡ b → b ≡ false) [ true ↦ λ k. absurd (n g (inl refl) (grind (arith, nat_tests))) | false ↦ λ k. refl ] refl) in
    gone-no key g hs t ∙ ap (λ gs. g ∷ gs) (gone-all key hs (λ h i q. n h (inr i) q))

length-gone : (key : ℕ) (h : Held) (hs : List Held) → Once (keys_of (counts_of hs)) → In h hs → h.tag ≡ key → suc (length (without_tag key hs)) ≡ length hs
length-gone key h [] o i q = absurd i
length-gone key h (g ∷ hs) (out, rest) i q =
    elim (g.tag == key) as (λ b. (g.tag == key) ≡ b → suc (length (without_tag key (g ∷ hs))) ≡ suc (length hs)) [
      | true ↦ λ t.
          let s : g.tag ≡ key = grind (arith, nat_tests) in
          let none : (x : Held) → In x hs → x.tag ≡ key → ⊥ = (λ x j r. let Q : ℕ → Type 0 = λ m. In m (keys_of (counts_of hs)) in
          out (subst Q (r ∙ sym s) (In-map (λ (c : Count). c.key) (count_in x) (counts_of hs) (In-map count_in x hs j)))) in
          ap (λ (gs : List Held). suc (length gs)) (gone-yes key g hs t ∙ gone-all key hs none)
      | false ↦ λ t. ap (λ (gs : List Held). suc (length gs)) (gone-no key g hs t) ∙ ap suc (elim i [
        | inl e ↦ absurd (let u : h.tag ≡ g.tag = ap (λ (y : Held). y.tag) e in clash key g.tag h.tag t u q)
        | inr j ↦ length-gone key h hs rest j q
      ])
    ] refl
  where
    clash : (k a b : ℕ) → (a == k) ≡ false → b ≡ a → b ≡ k → ⊥
    clash k a b t u w = grind (arith, nat_tests)

pub lowered-gone : (key e v by : ℕ) (old new : ChainState) → AreKept old.held → IsFoundAt key e v old.held → v ≡ by
    → new.held ≡ without_tag key old.held → new.shape ≡ old.shape → IsLowered key by (seen_of old) (seen_of new)
lowered-gone key e v by old new k f same held shape =
    let hs = old.held in
    let here : count_of key (counts_of hs) ≡ v = here-count key e v hs k f in
    let all : (m : ℕ) → count_of m (counts_of new.held) ≡ cond (m == key) 0 (count_of m (counts_of hs)) = (λ m. ap (λ gs. count_of m (counts_of gs)) held ∙ count-gone key m hs) in
    record {
      number = λ m. ap (λ z. z + cond (m == key) by 0) (all m) ∙ less m key 0 by (λ z. count_of z (counts_of hs)) (omega arith);
      places = (let a : length (counts_of new.held) ≡ length new.held = length-map new.held count_in in
          let b : length (counts_of hs) ≡ length hs = length-map hs count_in in
          let l : suc (length (without_tag key hs)) ≡ length hs = length-gone key f.held hs k.counts.once f.there f.tag_is in
          let m : length new.held ≡ length (without_tag key hs) = ap (λ (gs : List Held). length gs) held in
          let s : (key == key) ≡ true = grind (arith, nat_tests) in
          let c : count_of key (counts_of new.held) ≡ 0 = all key ∙ ap (λ t. cond t 0 (count_of key (counts_of hs))) s in
          let d : (count_of key (counts_of new.held) == 0) ≡ true = grind (arith, nat_tests) in
          ap (λ t. length (counts_of new.held) + cond t 1 0) d ∙ (omega arith));
      room = ap (λ (s : ChainShape). s.entries) shape;
    }
