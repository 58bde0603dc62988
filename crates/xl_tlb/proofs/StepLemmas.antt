-- A look at arrays in line, one after another, as a look at all.
use Rattle.xl_tlb.proofs.Common.{◌&&◌, ◌+◌, ◌<◌, ◌^◌, ◌∙◌, ◌∷◌, ◌≡◌, [], Answer, answer_of, ap, arith, array_filled, array_found, array_hit, array_touched, arrays_filled, arrays_without, asked, Bool, cond, count_by, counted, false, filled-spec, filled_below, filled_for, fills_array, hits_at, is_purged, is_some, IsFill, IsKept, IsKnownWord, IsLooked, IsNowhere, IsPageTouch, IsPageWord, IsPairLook, IsTouch, IsWord, Kind, Leaf, leaf_replied, List, looked_arrays, Lookup, map, misses_at, nat_le, nat_lt, nat_tests, None, NoneBelow, not, one_more_where, Option, plus, Purge, Reach, reaches_leaf, refl, Replied, replied, Seen, serves_kind, small_leaf, Some, spec_of, sym, takes_leaf, takes_order, tlb_fenced, tlb_filled, tlb_looked, tlb_of, tlb_purged, TlbArray, TlbState, touched-spec, true, where_taken, ℕ}
use Rattle.xl_array.proofs.PageLemmas.{small_says}
use Rattle.xl_tlb.proofs.LevelLemmas.{and_false, first_arrays, first_replied, more_arrays, more_hits, more_misses, more_replied, with_one}
use Rattle.xl_tlb.proofs.StayLemmas.{look_none as nothing_moves}
use Rattle.xl_tlb.proofs.TlbLemmas.{count_first, filled_first, look_after, look_missed, specs_filled, specs_looked, specs_without}
use Rattle.xl_model.specs.declared.address.Order.TheVariants as order
use Rattle.xl_tlb.specs.declared.pair.Seen.TheVariants as seen

-- The result of a look at these arrays, and the arrays and counts that it leaves.
pub record IsLookAt (k : Kind) (space page : ℕ) (f : Option Replied) (arrays new : List TlbArray) (hits h misses m : List ℕ) : Type 0 where
  pub replies : f ≡ replied k (answer_of k arrays space page) arrays
  pub leaves : new ≡ looked_arrays k (answer_of k arrays space page) space page arrays
  pub hit : h ≡ counted (hits_at k (answer_of k arrays space page) space page) arrays hits
  pub missed : m ≡ counted (misses_at k (answer_of k arrays space page) space page) arrays misses

-- The result with an array before, which doesn't answer, and what becomes of that.
abbrev replied_past : Kind → TlbArray → Option Replied → Option Replied
replied_past k a None = None
replied_past k a (Some f) = Some (with_one (fills_array k f.level f.leaf a) f)

abbrev left_past : Kind → TlbArray → Option Replied → TlbArray
left_past k a None = a
left_past k a (Some f) = filled_below k f.level f.leaf a

-- No array of these is looked at where this level answers.
abbrev pub AllBeyond : Kind → ℕ → List TlbArray → Type 0
AllBeyond k level [] = Unit {0}
AllBeyond k level (a ∷ rest) = ((serves_kind k a && nat_le a.spec.level level) ≡ false) × AllBeyond k level rest

and_with : (b c : Bool) → b ≡ false → (b && c) ≡ false
and_with b c e = ap (λ x. x && c) e

pub other_beyond : (k : Kind) (level : ℕ) (a : TlbArray) → serves_kind k a ≡ false → (serves_kind k a && nat_le a.spec.level level) ≡ false
other_beyond k level a e = and_with (serves_kind k a) (nat_le a.spec.level level) e

pub above_beyond : (k : Kind) (level : ℕ) (a : TlbArray) → level < a.spec.level → (serves_kind k a && nat_le a.spec.level level) ≡ false
above_beyond k level a l =
    let e : nat_le a.spec.level level ≡ false = grind (arith, nat_tests) in
    ap (λ x. serves_kind k a && x) e ∙ and_false (serves_kind k a)

served_asked : (k : Kind) (a : TlbArray) (space page : ℕ) (o : Option Leaf) → serves_kind k a ≡ true → o ≡ array_hit a space page → o ≡ asked k a space page
served_asked k a space page o s e = e ∙ sym (ap (λ (b : Bool). where_taken b (array_hit a space page)) s)

passed_asked : (k : Kind) (a : TlbArray) (space page : ℕ) → serves_kind k a ≡ false → None ≡ asked k a space page
passed_asked k a space page s = sym (ap (λ (b : Bool). where_taken b (array_hit a space page)) s)

le_self : (l : ℕ) → nat_le l l ≡ true
le_self l = grind (arith, nat_tests)

none_counted : (p : TlbArray → Bool) (rest : List TlbArray) (ns : List ℕ) (k : Kind) (level : ℕ) → AllBeyond k level rest → ((a : TlbArray) → (serves_kind k a && nat_le a.spec.level level) ≡ false → p a ≡ false) → ns ≡ counted p rest ns
none_counted p [] ns k level b h = refl
none_counted p (a ∷ rest) [] k level b h = refl
none_counted p (a ∷ rest) (n ∷ ns) k level b h = rw (h a b.0) (ap (λ (z : List ℕ). n ∷ z) (none_counted p rest ns k level b.1 h))

module _ (k : Kind) (space page : ℕ) where
  pub look_none : (hits misses : List ℕ) → IsLookAt k space page None [] [] hits hits misses misses
  look_none hits misses = record { replies = refl; leaves = refl; hit = refl; missed = refl }

  -- the first array answers, and the others are not looked at
  pub look_hit : (leaf : Leaf) (a new : TlbArray) (rest : List TlbArray) (n : ℕ) (hits : List ℕ) (b : ℕ) (misses : List ℕ) → serves_kind k a ≡ true → Some leaf ≡ array_hit a space page → new ≡ array_touched space page leaf a
      → NoneBelow a.spec.level (map spec_of rest) → AllBeyond k a.spec.level rest
      → IsLookAt k space page (Some (record { leaf = leaf; level = a.spec.level; fills = 0 })) (a ∷ rest) (new ∷ rest) (n ∷ hits) (plus n 1 ∷ hits) (b ∷ misses) (b ∷ misses)
  look_hit leaf a new rest n hits b misses s hit moved low beyond =
      let x : Answer = record { leaf = leaf; level = a.spec.level } in
      let e : Some leaf ≡ asked k a space page = served_asked k a space page (Some leaf) s hit in
      let answer : answer_of k (a ∷ rest) space page ≡ Some x = rw (← e) refl in
      let h : plus n 1 ∷ hits ≡ counted (hits_at k (Some x) space page) (a ∷ rest) (n ∷ hits) =
      rw (s, le_self a.spec.level, ← hit) (ap (λ (z : List ℕ). plus n 1 ∷ z) (none_counted (hits_at k (Some x) space page) rest hits k a.spec.level beyond (λ c t. and_with (serves_kind k c && nat_le c.spec.level a.spec.level) (is_some (array_hit c space page)) t))) in
      let m : b ∷ misses ≡ counted (misses_at k (Some x) space page) (a ∷ rest) (b ∷ misses) =
      rw (s, le_self a.spec.level, ← hit) (ap (λ (z : List ℕ). b ∷ z) (none_counted (misses_at k (Some x) space page) rest misses k a.spec.level beyond (λ c t. and_with (serves_kind k c && nat_le c.spec.level a.spec.level) (not (is_some (array_hit c space page))) t))) in
      record {
        replies = first_replied k a rest space page leaf e low;
        leaves = first_arrays k a rest space page leaf new e moved;
        hit = h ∙ ap (λ (o : Option Answer). counted (hits_at k o space page) (a ∷ rest) (n ∷ hits)) (sym answer);
        missed = m ∙ ap (λ (o : Option Answer). counted (misses_at k o space page) (a ∷ rest) (b ∷ misses)) (sym answer);
      }

  none_answers : (o : Option Answer) (rest : List TlbArray) → None ≡ replied k o rest → o ≡ None
  none_answers None rest e = refl
  none_answers (Some x) rest e = cc

  -- an array before, which doesn't answer
  look_past : (f : Option Replied) (a new : TlbArray) (rest others : List TlbArray) (n : ℕ) (hits h : List ℕ) (b : ℕ) (misses m : List ℕ) → None ≡ asked k a space page → NoneBelow a.spec.level (map spec_of rest)
      → new ≡ left_past k a f → IsLookAt k space page f rest others hits h misses m
      → IsLookAt k space page (replied_past k a f) (a ∷ rest) (new ∷ others) (n ∷ hits) (n ∷ h) (b ∷ misses) (one_more_where (serves_kind k a) b ∷ m)
  look_past None a new rest others n hits h b misses m e low is l =
      let none : answer_of k rest space page ≡ None = none_answers (answer_of k rest space page) rest l.replies in
      let same : answer_of k (a ∷ rest) space page ≡ None = rw (← e) none in
      record {
        replies = ap (λ (o : Option Answer). replied k o (a ∷ rest)) (sym same);
        leaves = ap (λ (y : TlbArray). y ∷ others) is ∙ ap (λ (z : List TlbArray). a ∷ z) (l.leaves ∙ ap (λ (o : Option Answer). looked_arrays k o space page rest) none) ∙ ap (λ (o : Option Answer). looked_arrays k o space page (a ∷ rest)) (sym same);
        hit = ap (λ (z : List ℕ). n ∷ z) l.hit ∙ more_hits k a rest space page e low n hits;
        missed = ap (λ (z : List ℕ). one_more_where (serves_kind k a) b ∷ z) l.missed ∙ more_misses k a rest space page e low b misses;
      }
  look_past (Some f) a new rest others n hits h b misses m e low is l = record {
    replies = more_replied k a rest space page f e l.replies;
    leaves = more_arrays k a rest space page f new others e l.replies is l.leaves;
    hit = ap (λ (z : List ℕ). n ∷ z) l.hit ∙ more_hits k a rest space page e low n hits;
    missed = ap (λ (z : List ℕ). one_more_where (serves_kind k a) b ∷ z) l.missed ∙ more_misses k a rest space page e low b misses;
  }

  past_same : (a : TlbArray) (f : Option Replied) → serves_kind k a ≡ false → (replied_past k a f ≡ f) × (left_past k a f ≡ a)
  past_same a None s = (refl, refl)
  past_same a (Some f) s =
      let e : fills_array k f.level f.leaf a ≡ false = and_with (serves_kind k a) (nat_lt a.spec.level f.level && takes_order a.spec f.leaf.order) s in
      let g : (serves_kind k a && nat_lt a.spec.level f.level) ≡ false = and_with (serves_kind k a) (nat_lt a.spec.level f.level) s in
      (ap (λ (b : Bool). Some (with_one b f)) e, ap (λ (b : Bool). cond b (array_filled f.leaf a) a) g)

  -- an array before, which doesn't serve the access
  pub look_passed : (f : Option Replied) (a : TlbArray) (rest others : List TlbArray) (n : ℕ) (hits h : List ℕ) (b : ℕ) (misses m : List ℕ) → serves_kind k a ≡ false → NoneBelow a.spec.level (map spec_of rest)
      → IsLookAt k space page f rest others hits h misses m → IsLookAt k space page f (a ∷ rest) (a ∷ others) (n ∷ hits) (n ∷ h) (b ∷ misses) (b ∷ m)
  look_passed f a rest others n hits h b misses m s low l =
      let same = past_same a f s in
      let past = look_past f a a rest others n hits h b misses m (passed_asked k a space page s) low (sym same.1) l in
      let one : one_more_where (serves_kind k a) b ≡ b = ap (λ (x : Bool). one_more_where x b) s in
      rw (same.0, one) at past

  -- an array before, which misses
  pub look_next : (f : Option Replied) (a new : TlbArray) (rest others : List TlbArray) (n : ℕ) (hits h : List ℕ) (b : ℕ) (misses m : List ℕ) → serves_kind k a ≡ true → None ≡ array_hit a space page → NoneBelow a.spec.level (map spec_of rest)
      → new ≡ left_past k a f → IsLookAt k space page f rest others hits h misses m
      → IsLookAt k space page (replied_past k a f) (a ∷ rest) (new ∷ others) (n ∷ hits) (n ∷ h) (b ∷ misses) (plus b 1 ∷ m)
  look_next f a new rest others n hits h b misses m s missed low is l =
      let past = look_past f a new rest others n hits h b misses m (served_asked k a space page None s missed) low is l in
      let one : one_more_where (serves_kind k a) b ≡ plus b 1 = ap (λ (x : Bool). one_more_where x b) s in
      rw one at past

  -- and is filled with the leaf of 4 KiB that is found
  pub filled_replied : (a : TlbArray) (level word : ℕ) → serves_kind k a ≡ true → a.spec.level < level → takes_order a.spec order.K4 ≡ true
      → (replied_past k a (Some (record { leaf = small_leaf space page word; level = level; fills = 0 })) ≡ Some (record { leaf = small_leaf space page word; level = level; fills = 1 }))
      × (left_past k a (Some (record { leaf = small_leaf space page word; level = level; fills = 0 })) ≡ array_filled (small_leaf space page word) a)
  filled_replied a level word s l takes =
      let less : nat_lt a.spec.level level ≡ true = grind (arith, nat_tests) in
      (rw (s, less, takes) refl, rw (s, less) refl)

-- The leaf of 4 KiB with this word is found, and what is counted of it.
pub record IsSeen (k : Kind) (space page word fills n : ℕ) (arrays new : List TlbArray) (hits h misses m : List ℕ) : Type 0 where
  pub found : Replied
  pub leaf : found.leaf ≡ small_leaf space page word
  pub look : IsLookAt k space page (Some found) arrays new hits h misses m
  pub filled : n ≡ plus fills found.fills

-- with an array before that doesn't serve the access
pub seen_passed : (k : Kind) (space page word fills n : ℕ) (a : TlbArray) (rest others : List TlbArray) (i : ℕ) (hits h : List ℕ) (j : ℕ) (misses m : List ℕ) → serves_kind k a ≡ false → NoneBelow a.spec.level (map spec_of rest)
    → IsSeen k space page word fills n rest others hits h misses m → IsSeen k space page word fills n (a ∷ rest) (a ∷ others) (i ∷ hits) (i ∷ h) (j ∷ misses) (j ∷ m)
seen_passed k space page word fills n a rest others i hits h j misses m s low is = record {
  found = is.found;
  leaf = is.leaf;
  look = look_passed k space page (Some is.found) a rest others i hits h j misses m s low is.look;
  filled = is.filled;
}

-- the first array answers, and those after it are not looked at
pub seen_hit : (k : Kind) (space page word fills : ℕ) (a new : TlbArray) (rest : List TlbArray) (i : ℕ) (hits : List ℕ) (j : ℕ) (misses : List ℕ) → serves_kind k a ≡ true → IsTouch space page word a new → NoneBelow a.spec.level (map spec_of rest)
    → AllBeyond k a.spec.level rest → fills < 2 ^ 64 → IsSeen k space page word fills fills (a ∷ rest) (new ∷ rest) (i ∷ hits) (plus i 1 ∷ hits) (j ∷ misses) (j ∷ misses)
seen_hit k space page word fills a new rest i hits j misses s t low beyond small = record {
  found = record { leaf = small_leaf space page word; level = a.spec.level; fills = 0 };
  leaf = refl;
  look = look_hit k space page (small_leaf space page word) a new rest i hits j misses s (array_found a space page (small_leaf space page word) t.found) t.moved low beyond;
  filled = omega (arith, small);
}

-- Two arrays that serve the access, the second of a higher level.
pub record IsUnder (k : Kind) (a s : TlbArray) : Type 0 where
  pub served : serves_kind k a ≡ true
  pub all : serves_kind k s ≡ true
  pub below : a.spec.level < s.spec.level
  pub takes : takes_order a.spec order.K4 ≡ true

module _ (k : Kind) (space page word fills : ℕ) (a s : TlbArray) (is : IsUnder k a s) (low : NoneBelow a.spec.level (s.spec ∷ [])) (h0 h1 : ℕ) (hs : List ℕ) (m0 m1 : ℕ) (ms : List ℕ) where
  pub two_first : (new : TlbArray) → IsTouch space page word a new → fills < 2 ^ 64 → IsSeen k space page word fills fills (a ∷ s ∷ []) (new ∷ s ∷ []) (h0 ∷ h1 ∷ hs) (plus h0 1 ∷ h1 ∷ hs) (m0 ∷ m1 ∷ ms) (m0 ∷ m1 ∷ ms)
  two_first new t small = seen_hit k space page word fills a new (s ∷ []) h0 (h1 ∷ hs) m0 (m1 ∷ ms) is.served t low (above_beyond k a.spec.level s is.below, tt) small

  pub two_second : (new after : TlbArray) → None ≡ array_hit a space page → IsTouch space page word s after → new ≡ array_filled (small_leaf space page word) a
      → IsSeen k space page word fills (plus fills 1) (a ∷ s ∷ []) (new ∷ after ∷ []) (h0 ∷ h1 ∷ hs) (h0 ∷ plus h1 1 ∷ hs) (m0 ∷ m1 ∷ ms) (plus m0 1 ∷ m1 ∷ ms)
  two_second new after missed t e =
      let x : Replied = record { leaf = small_leaf space page word; level = s.spec.level; fills = 0 } in
      let g = filled_replied k space page a s.spec.level word is.served is.below is.takes in
      let last = look_hit k space page (small_leaf space page word) s after [] h1 hs m1 ms is.all (array_found s space page (small_leaf space page word) t.found) t.moved tt tt in
      let both = look_next k space page (Some x) a new (s ∷ []) (after ∷ []) h0 (h1 ∷ hs) (plus h1 1 ∷ hs) m0 (m1 ∷ ms) (m1 ∷ ms) is.served missed low (e ∙ sym g.1) last in
      record { found = record { leaf = small_leaf space page word; level = s.spec.level; fills = 1 }; leaf = refl; look = rw g.0 at both; filled = refl }

  pub two_nowhere : None ≡ array_hit a space page → None ≡ array_hit s space page
      → IsLookAt k space page None (a ∷ s ∷ []) (a ∷ s ∷ []) (h0 ∷ h1 ∷ hs) (h0 ∷ h1 ∷ hs) (m0 ∷ m1 ∷ ms) (plus m0 1 ∷ plus m1 1 ∷ ms)
  two_nowhere missed none =
      let last = look_next k space page None s s [] [] h1 hs hs m1 ms ms is.all none tt refl (look_none k space page hs ms) in
      look_next k space page None a a (s ∷ []) (s ∷ []) h0 (h1 ∷ hs) (h1 ∷ hs) m0 (m1 ∷ ms) (plus m1 1 ∷ ms) is.served missed low refl last

-- what a look at arrays with counts leaves of their state
pub leaf_of_replied : (k : Kind) (o : Option Answer) (arrays : List TlbArray) (f : Replied) → Some f ≡ replied k o arrays → Some f.leaf ≡ leaf_replied o
leaf_of_replied k None arrays f e = cc
leaf_of_replied k (Some x) arrays f e = cc

pub seen_word : (split : Bool) (k : Kind) (space page word fills n : ℕ) (arrays new : List TlbArray) (hits h misses m : List ℕ) → IsSeen k space page word fills n arrays new hits h misses m → IsKept split k space page word arrays new
    → IsKnownWord split k space page word (tlb_of arrays hits misses fills) (tlb_of new h m n)
seen_word split k space page word fills n arrays new hits h misses m is kept = record {
  found = ap (λ (x : Leaf). Some x) (sym is.leaf) ∙ leaf_of_replied k (answer_of k arrays space page) arrays is.found is.look.replies;
  after = ap (λ (x : ℕ). tlb_of new h m x) is.filled ∙ look_after k arrays new hits misses h m fills space page is.look.leaves is.look.hit is.look.missed is.found is.look.replies;
  kept = kept;
}

-- a leaf of any order is found, in an array that is touched, and nothing is filled
pub large_word : (k : Kind) (space page word fills : ℕ) (f : Replied) (arrays new : List TlbArray) (hits h misses m : List ℕ) → IsLookAt k space page (Some f) arrays new hits h misses m → f.fills ≡ 0 → IsPageWord page word f.leaf → fills < 2 ^ 64
    → IsWord k space page word (tlb_of arrays hits misses fills) (tlb_of new h m fills)
large_word k space page word fills f arrays new hits h misses m l none says small =
    let same : fills ≡ plus fills f.fills = omega (arith, small, none) in
    record {
      leaf = f.leaf;
      found = leaf_of_replied k (answer_of k arrays space page) arrays f l.replies;
      says = says;
      after = ap (λ (x : ℕ). tlb_of new h m x) same ∙ look_after k arrays new hits misses h m fills space page l.leaves l.hit l.missed f l.replies;
    }

-- the result of a look without an answer
pub none_of_replied : (k : Kind) (o : Option Answer) (arrays : List TlbArray) → None ≡ replied k o arrays → None ≡ leaf_replied o
none_of_replied k None arrays e = refl
none_of_replied k (Some x) arrays e = cc

pub seen_none : (k : Kind) (space page fills : ℕ) (arrays new : List TlbArray) (hits h misses m : List ℕ) → IsLookAt k space page None arrays new hits h misses m → IsNowhere k space page (tlb_of arrays hits misses fills) (tlb_of new h m fills)
seen_none k space page fills arrays new hits h misses m l = record {
  found = ap leaf_replied (sym (none_answers k space page (answer_of k arrays space page) arrays l.replies));
  after = look_missed k arrays new hits misses h m fills space page l.leaves l.hit l.missed l.replies;
}

-- a fill of an array passes one that doesn't serve the access
pub filled_past : (k : Kind) (s : Lookup) (word fills : ℕ) (a : TlbArray) (rest others : List TlbArray) → serves_kind k a ≡ false → IsFill k s word fills rest others → IsFill k s word fills (a ∷ rest) (a ∷ others)
filled_past k s word fills a rest others passed f =
    let leaf : Leaf = small_leaf s.space s.page word in
    let none : takes_leaf k leaf a ≡ false = and_with (serves_kind k a) (takes_order a.spec leaf.order) passed in
    let more : count_by (takes_leaf k leaf) (a ∷ rest) ≡ 0 + count_by (takes_leaf k leaf) rest = count_first (takes_leaf k leaf) a rest ∙ ap (λ (b : Bool). cond b 1 0 + count_by (takes_leaf k leaf) rest) none in
    let same : filled_for k leaf a ≡ a = ap (λ (b : Bool). cond b (array_filled leaf a) a) passed in
    record { count = omega (arith, more, f.count); filled = ap (λ (z : List TlbArray). a ∷ z) f.filled ∙ ap (λ (y : TlbArray). y ∷ map (filled_for k leaf) rest) (sym same) }

pub last_filled : (q : Lookup) (word : ℕ) (k : Kind) (s after : TlbArray) → serves_kind k s ≡ true → takes_order s.spec order.K4 ≡ true → after ≡ array_filled (small_leaf q.space q.page word) s → IsFill k q word 1 (s ∷ []) (after ∷ [])
last_filled q word k s after served takes e = filled_first k q word 0 s after [] [] served takes e (record { count = refl; filled = refl })

-- which is a look
pub word_seen : (split : Bool) (k : Kind) (space page word : ℕ) (old new : TlbState) → IsKnownWord split k space page word old new → IsWord k space page word old new
word_seen split k space page word old new is = record { leaf = small_leaf space page word; found = is.found; says = small_says space page word; after = is.after }

pub looked_specs : (k : Kind) (space page : ℕ) (old new : TlbState) → new ≡ tlb_looked k space page old → map spec_of new.arrays ≡ map spec_of old.arrays
unfolding tlb_looked
looked_specs k space page old new e = ap (λ (t : TlbState). map spec_of t.arrays) e ∙ specs_looked k (answer_of k old.arrays space page) space page old.arrays

pub filled_specs : (k : Kind) (leaf : Leaf) (old new : TlbState) → new ≡ tlb_filled k leaf old → map spec_of new.arrays ≡ map spec_of old.arrays
unfolding tlb_filled arrays_filled
filled_specs k leaf old new e = ap (λ (t : TlbState). map spec_of t.arrays) e ∙ specs_filled k leaf old.arrays

pub purged_specs : (p : Purge) (leaf : Leaf) (old new : TlbState) → new ≡ tlb_purged p leaf old → map spec_of new.arrays ≡ map spec_of old.arrays
unfolding tlb_purged arrays_without
purged_specs p leaf old new e = ap (λ (t : TlbState). map spec_of t.arrays) e ∙ specs_without (is_purged p leaf) old.arrays

pub fenced_specs : (to : Reach) (old new : TlbState) → new ≡ tlb_fenced to old → map spec_of new.arrays ≡ map spec_of old.arrays
unfolding tlb_fenced arrays_without
fenced_specs to old new e = ap (λ (t : TlbState). map spec_of t.arrays) e ∙ specs_without (reaches_leaf to) old.arrays

-- a touch and a look in two arrays leave the specs
pub touch_spec : (space page word : ℕ) (a new : TlbArray) → IsTouch space page word a new → new.spec ≡ a.spec
touch_spec space page word a new t = ap spec_of t.moved ∙ touched-spec space page (small_leaf space page word) a

pub large_spec : (space page word : ℕ) (a new : TlbArray) → IsPageTouch space page word a new → new.spec ≡ a.spec
large_spec space page word a new t = ap spec_of t.moved ∙ touched-spec space page t.leaf a

pub pair_specs : (saw : Seen) (space page : ℕ) (a b new after : TlbArray) → IsPairLook space page saw a b new after → (new.spec ≡ a.spec) × (after.spec ≡ b.spec)
pair_specs (seen.First word) space page a b new after is = (touch_spec space page word a new is.0, ap spec_of is.1)
pair_specs (seen.Second word) space page a b new after is = (ap spec_of is.0.1 ∙ filled-spec (small_leaf space page word) a, touch_spec space page word b after is.0.0.1)
pair_specs (seen.Large word) space page a b new after is = (large_spec space page word a new is.0, ap spec_of is.1)
pair_specs seen.Nowhere space page a b new after is = (ap spec_of is.1.0, ap spec_of is.1.1)
pair_specs seen.Unknown space page a b new after is = (ap spec_of is.1.0, ap spec_of is.1.1)

pub nowhere_same : (k : Kind) (space page : ℕ) (old new : TlbState) → IsNowhere k space page old new → new.arrays ≡ old.arrays
nowhere_same k space page old new is = ap (λ (t : TlbState). t.arrays) is.after ∙ nothing_moves k space page old is.found

pub look_specs : (k : Kind) (space page : ℕ) (word : Option ℕ) (old new : TlbState) → IsLooked k space page word old new → map spec_of new.arrays ≡ map spec_of old.arrays
look_specs k space page None old new is = looked_specs k space page old new is.after
look_specs k space page (Some word) old new is = looked_specs k space page old new is.after
