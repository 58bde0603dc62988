-- What the words say of what is held.
use Rattle.xl_chain.proofs.Common.{◌*◌, ◌++◌, ◌+◌, ◌-◌, ◌<◌, ◌==◌, ◌∙◌, ◌∷◌, ◌≡◌, ◌≤◌, [], any-In, ap, Apart, append-nil, AreLines, AreSingle, arith, base_at, Bool, bucket_of, chain_in, ChainShape, cond, entry_of, false, filter, filter-append, find, find-In, find-only, find-passes, gather, has, Held, held_at, held_in, held_of, held_with, IfSome, In, In-any, in_bucket, inl, inr, is_entry, IsChain, IsOwn, IsTable, length, List, list_any, map, map-In, nat_tests, next_in, None, place_of_value, refl, run, Searched, slice_index, Some, subst, suc, sym, tag_in, true, value_in, value_of, values_in, WordsReadBack, zero, ℕ}
use Rattle.xl_chain.proofs.FindLemmas.{search-held}
use Rattle.xl_chain.proofs.FrontLemmas.{are-placed}
use Rattle.xl_chain.proofs.GatherLemmas.{ArePlaced, gather-In}

-- what is held is in its bucket, and is what the words say of its entry
held-back : (s : ChainShape) (words : List ℕ) (h : Held) → In h (held_of s words)
    → (b : ℕ) × (b < s.buckets) × In h.entry (chain_in s words b) × (h ≡ held_in s words h.entry)
unfolding held_of
held-back s words h i =
    let r = gather-In (held_at s words) h s.buckets i in
    let m = map-In (held_in s words) h (chain_in s words r.0) r.2 in
    let e : m.0 ≡ h.entry = sym (ap (λ (x : Held). x.entry) m.2) in
    (r.0, r.1, subst (λ (x : ℕ). In x (chain_in s words r.0)) e m.1, subst (λ (x : ℕ). h ≡ held_in s words x) e m.2)

apart-one : (tag : ℕ → ℕ) (es : List ℕ) (x y : ℕ) → Apart tag es → In x es → In y es → tag x ≡ tag y → x ≡ y
apart-one tag [] x y a i j t = absurd i
apart-one tag (e ∷ es) x y (first, rest) (inl p) (inl q) t = p ∙ sym q
apart-one tag (e ∷ es) x y (first, rest) (inl p) (inr j) t = absurd (first y j (sym t ∙ ap tag p))
apart-one tag (e ∷ es) x y (first, rest) (inr i) (inl q) t = absurd (first x i (t ∙ ap tag q))
apart-one tag (e ∷ es) x y (first, rest) (inr i) (inr j) t = apart-one tag es x y rest i j t

pub held-single : (s : ChainShape) (words free : List ℕ) → IsTable s words free → AreSingle (held_of s words)
held-single s words free t =
    let one : (g h : Held) → In g (held_of s words) → In h (held_of s words) → g.entry ≡ h.entry → g ≡ h =
    (λ g h i j e. (held-back s words g i).3 ∙ ap (held_in s words) e ∙ sym (held-back s words h j).3) in
    record {
      by_entry = one;
      by_tag = λ g h i j e.
          let a = held-back s words g i in
          let b = held-back s words h j in
          let tags : tag_in s words g.entry ≡ tag_in s words h.entry = sym (ap (λ (x : Held). x.tag) a.3) ∙ e ∙ ap (λ (x : Held). x.tag) b.3 in
          let same : a.0 ≡ b.0 = sym (t.placed a.0 g.entry a.1 a.2) ∙ ap (bucket_of s.buckets) tags ∙ t.placed b.0 h.entry b.1 b.2 in
          one g h i j (apart-one (tag_in s words) (chain_in s words b.0) g.entry h.entry (t.apart b.0 b.1) (subst (λ (k : ℕ). In g.entry (chain_in s words k)) same a.2) b.2 tags);
    }

-- the entry that is found of a tag is that tag's own
pub own-found : (tag : ℕ) (hs : List Held) → AreSingle hs → IfSome (entry_of (held_with tag hs)) (λ e. IsOwn tag e hs)
unfolding held_with
own-found tag hs single =
    elim (find (has tag) hs) as (λ o. find (has tag) hs ≡ o → IfSome (entry_of o) (λ e. IsOwn tag e hs)) [
      | None ↦ λ k. tt
      | Some h ↦ λ k. own h k
    ] refl
  where
    own : (h : Held) → find (has tag) hs ≡ Some h → IsOwn tag h.entry hs
    own h k =
        let i : In h hs = find-In (has tag) h hs k in
        let p : (h.tag == tag) ≡ true = find-passes (has tag) h hs k in
        let is : h.tag ≡ tag = grind (arith, nat_tests) in
        record {
          held = In-any (is_entry h.entry) h hs i (grind (arith, nat_tests));
          only = λ g j e. ap (λ (x : Held). x.tag) (single.by_entry g h j i e) ∙ is;
        }

-- words, one after another
length-run : (n : ℕ) (words : List ℕ) (at : ℕ) → length (run n words at) ≡ n
length-run zero words at = refl
length-run (suc n) words at = ap suc (length-run n words (at + 1))

run-at : (n : ℕ) (words : List ℕ) (at i : ℕ) → i < n → slice_index (run n words at) i ≡ slice_index words (at + i)
run-at zero words at i less = absurd (omega arith)
run-at (suc n) words at zero less = let a : at ≡ at + 0 = omega arith in ap (slice_index words) a
run-at (suc n) words at (suc i) less = let a : at + 1 + i ≡ at + suc i = omega arith in run-at n words (at + 1) i (omega arith) ∙ ap (slice_index words) a

length-values : (s : ChainShape) (words : List ℕ) (e : ℕ) → 0 < s.lines → length (values_in s words e) + 3 ≡ 4 * s.lines
unfolding values_in
length-values s words e some = let l = length-run (4 * (s.lines - 1)) words (base_at s e + 4) in omega arith

values-at : (s : ChainShape) (words : List ℕ) (e i : ℕ) → i + 3 < 4 * s.lines → slice_index (values_in s words e) i ≡ slice_index words (place_of_value s e i)
unfolding values_in
values-at s words e zero h = refl
values-at s words e (suc i) h =
    let n : base_at s e + 4 + i ≡ cond (suc i == 0) (base_at s e + 2) (base_at s e + 3 + suc i) = (let t : (suc i == 0) ≡ false = grind (arith, nat_tests) in rw t (omega arith)) in
    run-at (4 * (s.lines - 1)) words (base_at s e + 4) i (omega arith) ∙ ap (slice_index words) n

pub value-read : (s : ChainShape) (words free : List ℕ) (e i : ℕ) → IsTable s words free → list_any (is_entry e) (held_of s words) ≡ true → i + 3 < 4 * s.lines
    → slice_index words (place_of_value s e i) ≡ value_of e i (held_of s words)
unfolding value_of
value-read s words free e i t h less =
    let a = any-In (is_entry e) (held_of s words) h in
    let is : a.0.entry ≡ e = (let k = a.2 in grind (arith, nat_tests)) in
    let found : find (is_entry e) (held_of s words) ≡ Some a.0 =
    find-only (is_entry e) a.0 (held_of s words) a.1 a.2
    (λ y j p. let q : y.entry ≡ e = grind (arith, nat_tests) in (held-single s words free t).by_entry y a.0 j a.1 (q ∙ sym is)) in
    let this : a.0 ≡ held_in s words e = (held-back s words a.0 a.1).3 ∙ ap (held_in s words) is in
    sym (values-at s words e i less) ∙ ap (value_in i) (sym (found ∙ ap Some this))

-- what is held in a bucket
pass-none : (q : Held → Bool) (hs : List Held) → ((h : Held) → In h hs → q h ≡ false) → filter q hs ≡ []
pass-none q [] f = refl
pass-none q (h ∷ hs) f = rw (f h (inl refl)) (pass-none q hs (λ z i. f z (inr i)))

pass-all : (q : Held → Bool) (hs : List Held) → ((h : Held) → In h hs → q h ≡ true) → filter q hs ≡ hs
pass-all q [] f = refl
pass-all q (h ∷ hs) f = rw (f h (inl refl)) (ap (λ zs. h ∷ zs) (pass-all q hs (λ z i. f z (inr i))))

bucket-held : (n b : ℕ) (f : ℕ → List Held) (m : ℕ) → ArePlaced (λ (h : Held). h.tag) n f → b < m → m ≤ n → in_bucket n b (gather f m) ≡ f b
unfolding in_bucket
bucket-held n b f zero p less le = absurd (omega arith)
bucket-held n b f (suc m) p less le =
    let q : Held → Bool = λ h. bucket_of n h.tag == b in
    filter-append q (gather f m) (f m) ∙
    elim (b == m) as (λ t. (b == m) ≡ t → filter q (gather f m) ++ filter q (f m) ≡ f b) [
      | true ↦ λ t. let e : b ≡ m = grind (arith, nat_tests) in
          ap (λ xs. xs ++ filter q (f m)) (pass-none q (gather f m) (λ x i.
          let r = gather-In f x m i in let k = p.at r.0 x (omega (arith, r.1)) r.2 in let l : r.0 < m = r.1 in grind (arith, nat_tests)))
          ∙ pass-all q (f m) (λ x i. let k = p.at m x (omega arith) i in grind (arith, nat_tests)) ∙ ap f (sym e)
      | false ↦ λ t. let l : b < m = grind (arith, nat_tests) in
          ap (λ xs. filter q (gather f m) ++ xs) (pass-none q (f m) (λ x i. let k = p.at m x (omega arith) i in grind (arith, nat_tests)))
          ∙ append-nil (filter q (gather f m)) ∙ bucket-held n b f m p l (omega arith)
    ] refl

entries-back : (s : ChainShape) (words es : List ℕ) → map (λ (h : Held). h.entry) (map (held_in s words) es) ≡ es
entries-back s words [] = refl
entries-back s words (e ∷ es) = ap (λ xs. e ∷ xs) (entries-back s words es)

are-lines : (s : ChainShape) (words free : List ℕ) (h : Held) → IsTable s words free → In h (held_of s words) → AreLines s words h
are-lines s words free h t i =
    let b = held-back s words h i in
    let inside : h.entry < s.entries = t.inside b.0 h.entry b.1 b.2 in
    let values : h.values ≡ values_in s words h.entry = ap (λ (x : Held). x.values) b.3 in
    let n : length (values_in s words h.entry) + 3 ≡ 4 * s.lines = length-values s words h.entry t.shape_is.some_lines in
    let count : length h.values + 3 ≡ 4 * s.lines = ap (λ (vs : List ℕ). length vs + 3) values ∙ n in
    record {
      inside = inside;
      count = count;
      tag = sym (ap (λ (x : Held). x.tag) b.3);
      fourth = t.fourth h.entry inside;
      values = λ j less. sym (values-at s words h.entry j (omega arith)) ∙ ap (λ (vs : List ℕ). slice_index vs j) (sym values);
    }

pub read-back : (s : ChainShape) (words free : List ℕ) (loads : ℕ) → IsTable s words free
    → WordsReadBack (record { shape = s; held = held_of s words; words = words; loads = loads })
unfolding held_of
read-back s words free loads t = record {
  size = t.size;
  chains = λ b less.
      let here : map (λ (h : Held). h.entry) (in_bucket s.buckets b (held_of s words)) ≡ chain_in s words b =
      ap (map (λ (h : Held). h.entry)) (bucket-held s.buckets b (held_at s words) s.buckets (are-placed s words free t) less (omega arith))
      ∙ entries-back s words (chain_in s words b) in
      let P : List ℕ → Type 0 = λ es. IsChain (next_in s words) (slice_index words b) es in subst P (sym here) (t.chains b less);
  lines = λ h i. are-lines s words free h t i;
  found = λ tag. ap (λ (x : Searched). x.end) (search-held s words free tag t);
  loads = λ tag. ap (λ (x : Searched). x.loads) (search-held s words free tag t);
}
