-- Looks into walk caches.
use Rattle.xl_radix_walk.proofs.Common.{◌%◌, ◌&&◌, ◌*◌, ◌+◌, ◌/◌, ◌<◌, ◌==◌, ◌^◌, ◌||◌, ◌∙◌, ◌∷◌, ◌≡◌, ◌≤◌, ◌⊎◌, [], AreNumbered, arith, Bool, Cached, caches_in, cond, false, find, find-In, find-passes, has_tag, In, in_front, inl, inr, is_tag, Item, List, list_any, map, nat_tests, Node, node_caches_after, None, number_of, Numbered, numbered_in, Option, refl, Some, start_level, subst, suc, sym, tag_at, touched, true, up, up-le, without_first, ℕ}
use Rattle.std.proofs.lemmas.Bool.{eq-eqb}

-- lists under a map
any-map : (p : Numbered → Bool) (q : Item → Bool) (f : Item → Numbered) (xs : List Item) → ((x : Item) → p (f x) ≡ q x) → list_any p (map f xs) ≡ list_any q xs
any-map p q f [] h = refl
any-map p q f (x ∷ xs) h = rw (h x, any-map p q f xs h) refl

find-map : (p : Numbered → Bool) (q : Item → Bool) (f : Item → Numbered) (xs : List Item) → ((x : Item) → p (f x) ≡ q x) → (r : Option Item) → find q xs ≡ r → touched p (map f xs) ≡ map f (touched q xs)
find-map p q f xs h r e = front xs ∙ refl
  where
    rest : (xs : List Item) → without_first p (map f xs) ≡ map f (without_first q xs)
    rest [] = refl
    rest (x ∷ xs) = elim (q x) as (λ b. q x ≡ b → cond (p (f x)) (map f xs) (f x ∷ without_first p (map f xs)) ≡ map f (cond (q x) xs (x ∷ without_first q xs))) [
      | true ↦ λ t. rw (h x, t) refl
      | false ↦ λ t. rw (h x, t, rest xs) refl
    ] refl

    found : (xs : List Item) → (r : Option Item) → find q xs ≡ r → in_front (find p (map f xs)) (map f (without_first q xs)) ≡ map f (in_front (find q xs) (without_first q xs))
    found xs r e = go (without_first q xs) xs
      where
        go : (ys xs : List Item) → in_front (find p (map f xs)) (map f ys) ≡ map f (in_front (find q xs) ys)
        go ys [] = refl
        go ys (x ∷ xs) = elim (q x) as (λ b. q x ≡ b → in_front (cond (p (f x)) (Some (f x)) (find p (map f xs))) (map f ys) ≡ map f (in_front (cond (q x) (Some x) (find q xs)) ys)) [
          | true ↦ λ t. rw (h x, t) refl
          | false ↦ λ t. rw (h x, t) (go ys xs)
        ] refl

    front : (xs : List Item) → touched p (map f xs) ≡ map f (touched q xs)
    front xs = rw (rest xs) (found xs (find q xs) refl)

any-find : (q : Item → Bool) (xs : List Item) (x : Item) → find q xs ≡ Some x → list_any q xs ≡ true
any-find q [] x e = cc
any-find q (y ∷ ys) x e = elim (q y) as (λ b. q y ≡ b → cond b (Some y) (find q ys) ≡ Some x → (b || list_any q ys) ≡ true) [
  | true ↦ λ t g. refl
  | false ↦ λ t g. any-find q ys x g
] refl e

any-none : (q : Item → Bool) (xs : List Item) → find q xs ≡ None → list_any q xs ≡ false
any-none q [] e = refl
any-none q (y ∷ ys) e = elim (q y) as (λ b. q y ≡ b → cond b (Some y) (find q ys) ≡ None → (b || list_any q ys) ≡ false) [
  | true ↦ λ t g. cc
  | false ↦ λ t g. any-none q ys g
] refl e

pub touched-none : (q : Item → Bool) (xs : List Item) → find q xs ≡ None → touched q xs ≡ xs
touched-none q xs e = rw e (same xs e)
  where
    same : (xs : List Item) → find q xs ≡ None → without_first q xs ≡ xs
    same [] e = refl
    same (y ∷ ys) e = elim (q y) as (λ b. q y ≡ b → cond b (Some y) (find q ys) ≡ None → cond b ys (y ∷ without_first q ys) ≡ y ∷ ys) [
      | true ↦ λ t g. cc
      | false ↦ λ t g. rw (same ys g) refl
    ] refl e

In-touched : (q : Item → Bool) (x : Item) (xs : List Item) → In x (touched q xs) → In x xs
In-touched q x xs h = front (find q xs) refl h
  where
    rest : (xs : List Item) → In x (without_first q xs) → In x xs
    rest [] i = i
    rest (y ∷ ys) i = elim (q y) as (λ b. q y ≡ b → In x (cond b ys (y ∷ without_first q ys)) → (x ≡ y) ⊎ In x ys) [
      | true ↦ λ t j. inr j
      | false ↦ λ t j. elim j [ inl e ↦ inl e | inr k ↦ inr (rest ys k) ]
    ] refl i

    front : (r : Option Item) → find q xs ≡ r → In x (in_front r (without_first q xs)) → In x xs
    front None e i = rest xs i
    front (Some y) e (inl d) = subst (λ (v : Item). In v xs) (sym d) (find-In q y xs e)
    front (Some y) e (inr i) = rest xs i

-- A tag says what it is made of.
pub tag-test : (space level page : ℕ) (i : Item) → page < 2 ^ 45 → is_tag space (up (suc level) page) (numbered_in level i) ≡ has_tag (tag_at space level page) i
tag-test space level page i h =
    let low = up-le (suc level) page in
    split space (up (suc level) page) i.tag (omega arith)
  where
    split : (space prefix tag : ℕ) → prefix < 281474976710656 → ((tag / 281474976710656 == space) && (tag % 281474976710656 == prefix)) ≡ (tag == space * 281474976710656 + prefix)
    split space prefix tag h =
        elim (tag == space * 281474976710656 + prefix) as (λ b. (tag == space * 281474976710656 + prefix) ≡ b → ((tag / 281474976710656 == space) && (tag % 281474976710656 == prefix)) ≡ b) [
          | true ↦ λ t.
              let e : tag ≡ space * 281474976710656 + prefix = grind (arith, nat_tests) in
              rw (eq-eqb (tag / 281474976710656) space (omega arith), eq-eqb (tag % 281474976710656) prefix (omega arith)) refl
          | false ↦ λ t. grind (arith, nat_tests)
        ] refl

tag-parts : (space level page : ℕ) (i : Item) → page < 2 ^ 45 → has_tag (tag_at space level page) i ≡ true → (i.tag / 281474976710656 ≡ space) × (i.tag % 281474976710656 ≡ up (suc level) page)
tag-parts space level page i h t =
    let low = up-le (suc level) page in
    let e : i.tag ≡ space * 281474976710656 + up (suc level) page = grind (arith, nat_tests) in
    (omega arith, omega arith)

pub start-from : (level space page : ℕ) (cs : List (Cached Numbered)) → level ≤ start_level level space page cs
start-from level space page [] = omega arith
start-from level space page (c ∷ cs) =
    elim (list_any (is_tag space (up (suc level) page)) c.items) as (λ b. level ≤ cond b level (start_level (level + 1) space page cs)) [
      | true ↦ omega arith
      | false ↦ let h = start-from (level + 1) space page cs in omega arith
    ]

pub above-same : (level start space page : ℕ) (cs : List (Cached Numbered)) → start < level → node_caches_after level start None space page [] cs ≡ cs
above-same level start space page [] h = refl
above-same level start space page (c ∷ cs) h =
    let t : (level == start) ≡ false = grind (arith, nat_tests) in
    rw (t, above-same (level + 1) start space page cs (omega arith)) refl

pub record Hit (level space page : ℕ) (x : Item) (c new : Cached Item) (cs : List (Cached Item)) : Type 0 where
  pub some : level ≡ start_level level space page (caches_in level (c ∷ cs))
  pub caches : caches_in level (new ∷ cs) ≡ node_caches_after level (start_level level space page (caches_in level (c ∷ cs))) None space page [] (caches_in level (c ∷ cs))
  pub number : (nodes : List (Option Node)) → AreNumbered level nodes (c ∷ cs) → number_of space (suc level) (up (suc level) page) nodes ≡ Some x.word
  pub kept : (nodes : List (Option Node)) → AreNumbered level nodes (c ∷ cs) → AreNumbered level nodes (new ∷ cs)

pub hit : (level space page : ℕ) (x : Item) (c new : Cached Item) (cs : List (Cached Item)) → page < 2 ^ 45 → find (has_tag (tag_at space level page)) c.items ≡ Some x → new.items ≡ touched (has_tag (tag_at space level page)) c.items → new.width ≡ c.width → Hit level space page x c new cs
hit level space page x c new cs h e moved width =
    record {
      some = sym some;
      caches = rw (some, eq-eqb level level refl, above-same (level + 1) level space page (caches_in (level + 1) cs) (omega arith)) (rw (moved, width, items) refl);
      number = λ nodes all. let r = all.0 x (find-In (has_tag (tag_at space level page)) x c.items e) in rw (parts.0, parts.1) at r;
      kept = λ nodes all. (λ i j. all.0 i (In-touched (has_tag (tag_at space level page)) i c.items (subst (λ (l : List Item). In i l) moved j)), all.1);
    }
  where
    any : list_any (is_tag space (up (suc level) page)) (map (numbered_in level) c.items) ≡ true
    any = any-map (is_tag space (up (suc level) page)) (has_tag (tag_at space level page)) (numbered_in level) c.items (λ i. tag-test space level page i h) ∙ any-find (has_tag (tag_at space level page)) c.items x e

    some : start_level level space page (caches_in level (c ∷ cs)) ≡ level
    some = rw any refl

    items : touched (is_tag space (up (suc level) page)) (map (numbered_in level) c.items) ≡ map (numbered_in level) (touched (has_tag (tag_at space level page)) c.items)
    items = find-map (is_tag space (up (suc level) page)) (has_tag (tag_at space level page)) (numbered_in level) c.items (λ i. tag-test space level page i h) (Some x) e

    parts : (x.tag / 281474976710656 ≡ space) × (x.tag % 281474976710656 ≡ up (suc level) page)
    parts = tag-parts space level page x h (find-passes (has_tag (tag_at space level page)) x c.items e)

pub record Miss (level space page : ℕ) (c new : Cached Item) (cs : List (Cached Item)) : Type 0 where
  pub start : start_level level space page (caches_in level (c ∷ cs)) ≡ start_level (level + 1) space page (caches_in (level + 1) cs)
  pub caches : (rest : List (Cached Item)) → caches_in (level + 1) rest ≡ node_caches_after (level + 1) (start_level (level + 1) space page (caches_in (level + 1) cs)) None space page [] (caches_in (level + 1) cs) → caches_in level (new ∷ rest) ≡ node_caches_after level (start_level level space page (caches_in level (c ∷ cs))) None space page [] (caches_in level (c ∷ cs))
  pub kept : (nodes : List (Option Node)) (rest : List (Cached Item)) → AreNumbered level nodes (c ∷ cs) → AreNumbered (level + 1) nodes rest → AreNumbered level nodes (new ∷ rest)

pub miss : (level space page : ℕ) (c new : Cached Item) (cs : List (Cached Item)) → page < 2 ^ 45 → find (has_tag (tag_at space level page)) c.items ≡ None → new.items ≡ touched (has_tag (tag_at space level page)) c.items → new.width ≡ c.width → Miss level space page c new cs
miss level space page c new cs h e moved width =
    record {
      start = start;
      caches = λ rest d. rw (start, other, ← d) (rw (items, width) refl);
      kept = λ nodes rest all more. (λ i j. all.0 i (subst (λ (l : List Item). In i l) items j), more);
    }
  where
    any : list_any (is_tag space (up (suc level) page)) (map (numbered_in level) c.items) ≡ false
    any = any-map (is_tag space (up (suc level) page)) (has_tag (tag_at space level page)) (numbered_in level) c.items (λ i. tag-test space level page i h) ∙ any-none (has_tag (tag_at space level page)) c.items e

    start : start_level level space page (caches_in level (c ∷ cs)) ≡ start_level (level + 1) space page (caches_in (level + 1) cs)
    start = rw any refl

    other : (level == start_level (level + 1) space page (caches_in (level + 1) cs)) ≡ false
    other = let g = start-from (level + 1) space page (caches_in (level + 1) cs) in grind (arith, nat_tests)

    items : new.items ≡ c.items
    items = moved ∙ touched-none (has_tag (tag_at space level page)) c.items e
