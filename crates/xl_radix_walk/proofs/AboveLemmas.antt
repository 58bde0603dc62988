-- Walk caches above others of width 0.
use Rattle.xl_radix_walk.proofs.Common.{if◌then◌else◌, ◌&&◌, ◌+◌, ◌==◌, ◌∙◌, ◌∷◌, ◌≡◌, ◌≤◌, [], above_off, ap, AreNumbered, AreOff, arith, Cached, caches_in, empty_cache, entries_of, false, fenced_caches, filled_caches, FillsNone, Item, length, List, nat_le, nat_lt, nat_tests, Node, node_caches_after, None, Numbered, Option, purged_caches, Reach, refl, start_level, subst, suc, sym, true, zero, ℕ}

pub length-above : (n : ℕ) (cs : List (Cached Item)) → length (above_off n cs) ≡ n + length cs
length-above zero cs = omega arith
length-above (suc n) cs = let h = length-above n cs in omega arith

pub start-above : (n m level space page : ℕ) (cs : List (Cached Item)) → m ≡ n + level → start_level level space page (caches_in level (above_off n cs)) ≡ start_level m space page (caches_in m cs)
start-above zero m level space page cs e = let f : m ≡ level = omega arith in rw f refl
start-above (suc n) m level space page cs e = start-above n m (level + 1) space page cs (omega arith)

pub after-above : (n m level start space page : ℕ) (cs new : List (Cached Item)) → m ≡ n + level → caches_in m new ≡ node_caches_after m start None space page [] (caches_in m cs)
    → caches_in level (above_off n new) ≡ node_caches_after level start None space page [] (caches_in level (above_off n cs))
after-above zero m level start space page cs new e h = let f : m ≡ level = omega arith in rw f at h
after-above (suc n) m level start space page cs new e h =
    let rest : caches_in level (above_off (suc n) new) ≡ empty_cache 0 ∷ node_caches_after (level + 1) start None space page [] (caches_in (level + 1) (above_off n cs)) =
    ap (λ (l : List (Cached Numbered)). empty_cache 0 ∷ l) (after-above n m (level + 1) start space page cs new (omega arith) h) in
    elim (level == start) as (λ b. caches_in level (above_off (suc n) new) ≡ (if b then empty_cache 0 else empty_cache 0) ∷ node_caches_after (level + 1) start None space page [] (caches_in (level + 1) (above_off n cs))) [
      | true ↦ rest
      | false ↦ rest
    ]

pub none-kept : (n : ℕ) (cs : List (Cached Item)) → n ≡ length cs → (n == 0) ≡ true → cs ≡ []
none-kept n [] e t = refl
none-kept n (c ∷ cs) e t = let z : n ≡ 0 = grind (arith, nat_tests) in absurd (omega arith)

pub are-off : (n : ℕ) → AreOff (above_off n [])
are-off n = let h : length (above_off n []) ≡ n = (let l = length-above n [] in omega arith) in rw h refl

-- a look where no cache has a width
pub record OffLooked (space page : ℕ) (cs : List (Cached Item)) : Type 0 where
  pub start : start_level 0 space page (caches_in 0 cs) ≡ length cs
  pub caches : caches_in 0 cs ≡ node_caches_after 0 (start_level 0 space page (caches_in 0 cs)) None space page [] (caches_in 0 cs)

pub off-looked : (n space page : ℕ) → OffLooked space page (above_off n [])
off-looked n space page =
    record {
      start = start-above n n 0 space page [] (omega arith) ∙ size;
      caches = after-above n n 0 (start_level 0 space page (caches_in 0 (above_off n []))) space page [] [] (omega arith) refl;
    }
  where
    size : n ≡ length (above_off n [])
    size = let h = length-above n [] in omega arith

pub are-looked : (space page : ℕ) (cs : List (Cached Item)) → AreOff cs → OffLooked space page cs
are-looked space page cs off = let P : List (Cached Item) → Type 0 = λ l. OffLooked space page l in subst P (sym off) (off-looked (length cs) space page)

pub numbered-inside : (n m level : ℕ) (nodes : List (Option Node)) (cs : List (Cached Item)) → m ≡ n + level → AreNumbered level nodes (above_off n cs) → AreNumbered m nodes cs
numbered-inside zero m level nodes cs e all = let f : m ≡ level = omega arith in rw f all
numbered-inside (suc n) m level nodes cs e all = numbered-inside n m (level + 1) nodes cs (omega arith) all.1

pub numbered-above : (n m level : ℕ) (nodes : List (Option Node)) (cs : List (Cached Item)) → m ≡ n + level → AreNumbered m nodes cs → AreNumbered level nodes (above_off n cs)
numbered-above zero m level nodes cs e all = let f : m ≡ level = omega arith in rw f at all
numbered-above (suc n) m level nodes cs e all = (λ i j. absurd j, numbered-above n m (level + 1) nodes cs (omega arith) all)

pub filled-above : (n m level start least space page : ℕ) (path : List ℕ) (cs : List (Cached Item)) → m ≡ n + level
    → filled_caches level start least space page path (above_off n cs) ≡ above_off n (filled_caches m start least space page path cs)
filled-above zero m level start least space page path cs e = let f : m ≡ level = omega arith in rw f refl
filled-above (suc n) m level start least space page path cs e =
    let rest : empty_cache 0 ∷ filled_caches (level + 1) start least space page path (above_off n cs) ≡ empty_cache 0 ∷ above_off n (filled_caches m start least space page path cs) =
    ap (λ (l : List (Cached Item)). empty_cache 0 ∷ l) (filled-above n m (level + 1) start least space page path cs (omega arith)) in
    elim (nat_lt level start && nat_le least level) as (λ b. (if b then empty_cache 0 else empty_cache 0) ∷ filled_caches (level + 1) start least space page path (above_off n cs) ≡ empty_cache 0 ∷ above_off n (filled_caches m start least space page path cs)) [
      | true ↦ rest
      | false ↦ rest
    ]

-- caches from the start on are not filled
none-from : (level start least space page : ℕ) (path : List ℕ) (cs : List (Cached Item)) → start ≤ level → filled_caches level start least space page path cs ≡ cs
none-from level start least space page path [] h = refl
none-from level start least space page path (c ∷ cs) h =
    let t : (nat_lt level start && nat_le least level) ≡ false = grind (arith, nat_tests) in
    rw t (ap (λ (l : List (Cached Item)). c ∷ l) (none-from (level + 1) start least space page path cs (omega arith)))

-- a walk from level 0 fills none
pub fills-lowest : (cs : List (Cached Item)) → FillsNone 0 cs
fills-lowest cs = record { stay = λ least space page path. none-from 0 0 least space page path cs (omega arith) }

pub fills-none : (n start : ℕ) (cs : List (Cached Item)) → start ≤ n → FillsNone start (above_off n cs)
fills-none n start cs h = record {
  stay = λ least space page path. filled-above n n 0 start least space page path cs (omega arith) ∙ ap (above_off n) (none-from n start least space page path cs h);
}

pub are-filled : (start : ℕ) (cs : List (Cached Item)) → AreOff cs → start ≤ length cs → FillsNone start cs
are-filled start cs off h = let P : List (Cached Item) → Type 0 = λ l. FillsNone start l in subst P (sym off) (fills-none (length cs) start [] h)

pub purged-above : (n : ℕ) (nodes : List (Option Node)) (cs : List (Cached Item)) → purged_caches nodes (above_off n cs) ≡ above_off n (purged_caches nodes cs)
purged-above zero nodes cs = refl
purged-above (suc n) nodes cs = ap (λ (l : List (Cached Item)). empty_cache 0 ∷ l) (purged-above n nodes cs)

pub fenced-above : (n : ℕ) (to : Reach) (cs : List (Cached Item)) → fenced_caches to (above_off n cs) ≡ above_off n (fenced_caches to cs)
fenced-above zero to cs = refl
fenced-above (suc n) to cs = ap (λ (l : List (Cached Item)). empty_cache 0 ∷ l) (fenced-above n to cs)

pub entries-above : (n : ℕ) (cs : List (Cached Item)) → entries_of (above_off n cs) ≡ entries_of cs
entries-above zero cs = refl
entries-above (suc n) cs = let h = entries-above n cs in omega arith
