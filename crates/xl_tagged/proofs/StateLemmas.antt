-- The result of each change, for a table of chains.
use Rattle.xl_tagged.proofs.Common.{◌<◌, ◌==◌, ◌∙◌, ◌∷◌, ◌≡◌, ◌≤◌, [], after_by, answer_by, any-In, ap, arith, at_page, both, bucket_of, by-In, caches_purged, chained, Change, changed, cond, eq-eqb, eqb-true, Err, false, filter, find-only, finds_place, Form, group_of, has_tag, In, In-any, In-by, In-with, in_front_of_bucket, inl, inr, Insert, is_leaf, is_some, IsChange, IsSorted, Leaf, leaf_key, leaf_named, leaf_tag, length, length-by, List, list_any, Made, moves_made, named-key, nat_le, nat_lt, nat_tests, no_moves, None, none-any, not, Ok, only_used_tags, Option, Order, Perm, Protect, refl, Refused, Relocate, Remove, Result, same-place, Some, sorted-with, stays-by, stays-with, subst, suc, sym, table_after, table_answer, table_made, TableState, true, verdict, verdict_by, with-without, with_leaf, with_new, with_perm, with_tag, without_leaf, without_old, Work, work_of, ℕ}
use Rattle.xl_list_lemmas.specs.Buckets.{in_front_by}
use Rattle.xl_model.specs.Room.{has_room, room_for}
use Rattle.xl_model.specs.Shapes.{brought, Chained, narrowed, shape_after, widened}
use Rattle.xl_tagged.proofs.HeldLemmas.{IsTagWith}
use Rattle.xl_model.specs.declared.work.NoRoom.TheVariants as why

abbrev pub done : Result Work Refused
done = Ok (work_of no_moves 0)

abbrev pub no_table : Result Work Refused
no_table = Err (record { why = why.NoTable; work = work_of no_moves 0 })

-- a tag that comes
front-is : (b tag : ℕ) (tags : List ℕ) → in_front_of_bucket b tag tags ≡ in_front_by (λ t. t) b tag tags
front-is b tag [] = refl
front-is b tag (t ∷ ts) = ap (λ us. cond (nat_lt (bucket_of b t) (bucket_of b tag)) (t ∷ us) (tag ∷ t ∷ ts)) (front-is b tag ts)

pub held-in : (tags : List ℕ) (tag : ℕ) → has_tag tags tag ≡ true → In tag tags
held-in tags tag h =
    let r = any-In (λ t. t == tag) tags h in
    subst (λ (n : ℕ). In n tags) (eqb-true r.0 tag r.2) r.1

pub tag-with : (b tag : ℕ) (tags : List ℕ) → IsTagWith tag tags (with_tag b tag tags)
unfolding with_tag
tag-with b tag tags =
    elim (has_tag tags tag) as (λ c. has_tag tags tag ≡ c → IsTagWith tag tags (cond c tags (in_front_of_bucket b tag tags))) [
      | true ↦ λ h. record { split = λ t i. inr i; here = held-in tags tag h; stays = λ t i. i }
      | false ↦ λ h. subst (λ ts. IsTagWith tag tags ts) (sym (front-is b tag tags)) (record {
        split = λ t i. by-In (λ t. t) b t tag tags i;
        here = In-by (λ t. t) b tag tags;
        stays = λ t i. stays-by (λ t. t) b t tag tags i;
      })
    ] refl

pub with-absent : (b tag : ℕ) (tags : List ℕ) → has_tag tags tag ≡ false → with_tag b tag tags ≡ in_front_of_bucket b tag tags
unfolding with_tag
with-absent b tag tags h = ap (λ c. cond c tags (in_front_of_bucket b tag tags)) h

pub with-there : (b tag : ℕ) (tags : List ℕ) → has_tag tags tag ≡ true → with_tag b tag tags ≡ tags
unfolding with_tag
with-there b tag tags h = ap (λ c. cond c tags (in_front_of_bucket b tag tags)) h

with-longer : (b tag : ℕ) (tags : List ℕ) → has_tag tags tag ≡ false → length (with_tag b tag tags) ≡ suc (length tags)
with-longer b tag tags h = ap length (with-absent b tag tags h ∙ front-is b tag tags) ∙ length-by (λ t. t) b tag tags

-- tags that are used
abbrev pub IsUsedBy : ℕ → List Leaf → ℕ → Type 0
IsUsedBy g xs t = (x : Leaf) × In x xs × (leaf_tag g x ≡ t)

used-any : (g t : ℕ) (xs : List Leaf) → IsUsedBy g xs t → list_any (λ leaf. leaf_tag g leaf == t) xs ≡ true
used-any g t xs u = In-any (λ leaf. leaf_tag g leaf == t) u.0 xs u.1 (eq-eqb (leaf_tag g u.0) t u.2)

filter-all : (q : ℕ → _) (ts : List ℕ) → ((t : ℕ) → In t ts → q t ≡ true) → filter q ts ≡ ts
filter-all q [] all = refl
filter-all q (t ∷ ts) all = ap (λ b. cond b (t ∷ filter q ts) (filter q ts)) (all t (inl refl)) ∙ ap (λ us. t ∷ us) (filter-all q ts (λ u i. all u (inr i)))

filter-each : (p q : ℕ → _) (ts : List ℕ) → ((t : ℕ) → In t ts → p t ≡ q t) → filter p ts ≡ filter q ts
filter-each p q [] same = refl
filter-each p q (t ∷ ts) same = ap (λ b. cond b (t ∷ filter p ts) (filter p ts)) (same t (inl refl)) ∙ ap (λ us. cond (q t) (t ∷ us) us) (filter-each p q ts (λ u i. same u (inr i)))

pub used-all : (g : ℕ) (xs : List Leaf) (tags : List ℕ) → ((t : ℕ) → In t tags → IsUsedBy g xs t) → only_used_tags g xs tags ≡ tags
unfolding only_used_tags
used-all g xs tags used = filter-all (λ t. list_any (λ leaf. leaf_tag g leaf == t) xs) tags (λ t i. used-any g t xs (used t i))

pub used-but : (g tag : ℕ) (xs : List Leaf) (tags : List ℕ) → ((t : ℕ) → In t tags → (t ≡ tag → ⊥) → IsUsedBy g xs t) → ((x : Leaf) → In x xs → leaf_tag g x ≡ tag → ⊥)
    → only_used_tags g xs tags ≡ filter (λ t. not (t == tag)) tags
unfolding only_used_tags
used-but g tag xs tags used unused =
    filter-each (λ t. list_any (λ leaf. leaf_tag g leaf == t) xs) (λ t. not (t == tag)) tags (λ t i.
    elim (t == tag) as (λ b. (t == tag) ≡ b → list_any (λ (leaf : Leaf). leaf_tag g leaf == t) xs ≡ not b) [
      | true ↦ λ k. none-any (λ leaf. leaf_tag g leaf == t) xs (λ x j. fails x j (eqb-true t tag k))
      | false ↦ λ k. used-any g t xs (used t i (λ e. both _ (eq-eqb t tag e) k))
    ] refl)
  where
    fails : {t : ℕ} → (x : Leaf) → In x xs → t ≡ tag → (leaf_tag g x == t) ≡ false
    fails {t} x j e = elim (leaf_tag g x == t) as (λ b. (leaf_tag g x == t) ≡ b → b ≡ false) [
      | true ↦ λ k. absurd (unused x j (eqb-true (leaf_tag g x) t k ∙ e))
      | false ↦ λ k. refl
    ] refl

gone : (s first : ℕ) (o : Order) (old : Leaf) (xs : List Leaf) → leaf_named s first o xs ≡ Some old → changed (Remove s first o) xs ≡ without_leaf old.space old.first xs
unfolding changed
gone s first o old xs named = ap (λ q. without_old q xs) named

given : (s first : ℕ) (o : Order) (perm : Perm) (old : Leaf) (xs : List Leaf) → leaf_named s first o xs ≡ Some old
    → changed (Protect s first o perm) xs ≡ with_leaf (record old { perm = perm }) (without_leaf old.space old.first xs)
unfolding changed
given s first o perm old xs named = ap (λ q. with_new (with_perm perm q) (without_old q xs)) named

moved : (s first to : ℕ) (o : Order) (old : Leaf) (xs : List Leaf) → leaf_named s first o xs ≡ Some old
    → changed (Relocate s first to o) xs ≡ with_leaf (record old { first = to }) (without_leaf old.space old.first xs)
unfolding changed
moved s first to o old xs named = ap (λ q. with_new (at_page to q) (without_old q xs)) named

gone-shape : (g b e s first : ℕ) (o : Order) (old : Leaf) (xs : List Leaf) (tags tags' : List ℕ) → leaf_named s first o xs ≡ Some old
    → only_used_tags g (without_leaf old.space old.first xs) tags ≡ tags' → shape_after (Remove s first o) xs (Chained g b e tags) ≡ Chained g b e tags'
unfolding shape_after
gone-shape g b e s first o old xs tags tags' named used = ap (λ ys. Chained g b e (only_used_tags g ys tags)) (gone s first o old xs named) ∙ ap (Chained g b e) used

given-shape : (g b e s first : ℕ) (o : Order) (perm : Perm) (old : Leaf) (xs : List Leaf) (tags tags' : List ℕ) → leaf_named s first o xs ≡ Some old
    → only_used_tags g (with_leaf (record old { perm = perm }) (without_leaf old.space old.first xs)) tags ≡ tags' → shape_after (Protect s first o perm) xs (Chained g b e tags) ≡ Chained g b e tags'
unfolding shape_after
given-shape g b e s first o perm old xs tags tags' named used = ap (λ ys. Chained g b e (only_used_tags g ys tags)) (given s first o perm old xs named) ∙ ap (Chained g b e) used

moved-shape : (g b e s first to : ℕ) (o : Order) (old : Leaf) (xs ys : List Leaf) (tags tags' : List ℕ) → leaf_named s first o xs ≡ Some old → changed (Relocate s first to o) xs ≡ ys
    → only_used_tags g ys (with_tag b (leaf_tag g (record old { first = to })) tags) ≡ tags' → shape_after (Relocate s first to o) xs (Chained g b e tags) ≡ Chained g b e tags'
unfolding shape_after
moved-shape g b e s first to o old xs ys tags tags' named leaves used =
    ap (λ q. narrowed (Relocate s first to o) xs (widened (at_page to q) (Chained g b e tags))) named
    ∙ ap (λ zs. Chained g b e (only_used_tags g zs (with_tag b (leaf_tag g (record old { first = to })) tags))) leaves ∙ ap (Chained g b e) used

moved-room : (g b e s first to : ℕ) (o : Order) (old : Leaf) (xs : List Leaf) (tags : List ℕ) → leaf_named s first o xs ≡ Some old
    → has_room (Relocate s first to o) xs (Chained g b e tags) ≡ nat_le (length (with_tag b (leaf_tag g (record old { first = to })) tags)) e
unfolding has_room
moved-room g b e s first to o old xs tags named = ap (λ q. room_for (at_page to q) (Relocate s first to o) xs (Chained g b e tags)) named

-- a change that is made, and one for which there is no room
module _ (f : Form) (b e l : ℕ) where
  made-table : (c : Change) (xs ys : List Leaf) (tags tags' : List ℕ) → changed c xs ≡ ys → shape_after c xs (Chained (group_of f) b e tags) ≡ Chained (group_of f) b e tags'
      → table_made c (chained f b e l xs tags) ≡ chained f b e l ys tags'
  unfolding table_made caches_purged
  made-table c xs ys tags tags' same shape = rw (same, shape) refl

  made-answer : (c : Change) (xs ys : List Leaf) (tags tags' : List ℕ) (brings : Option Leaf) → brought c xs ≡ brings → moves_made brings (Chained (group_of f) b e tags) ≡ no_moves
      → table_made c (chained f b e l xs tags) ≡ chained f b e l ys tags' → answer_by Made c (chained f b e l xs tags) ≡ done
  made-answer c xs ys tags tags' brings same moves table = rw (same, moves, table) refl

  pub made : (c : Change) (xs ys : List Leaf) (tags tags' : List ℕ) (brings : Option Leaf) → brought c xs ≡ brings
      → moves_made brings (Chained (group_of f) b e tags) ≡ no_moves → finds_place brings (Chained (group_of f) b e tags) ≡ true
      → has_room c xs (Chained (group_of f) b e tags) ≡ true → changed c xs ≡ ys → shape_after c xs (Chained (group_of f) b e tags) ≡ Chained (group_of f) b e tags'
      → IsChange c (chained f b e l xs tags) done (chained f b e l ys tags')
  unfolding table_answer table_after verdict
  made c xs ys tags tags' brings same moves found room change shape =
      let t : TableState = chained f b e l xs tags in
      let place : finds_place (brought c xs) (Chained (group_of f) b e tags) ≡ true = ap (λ o. finds_place o (Chained (group_of f) b e tags)) same ∙ found in
      let table : table_made c t ≡ chained f b e l ys tags' = made-table c xs ys tags tags' change shape in
      record {
        answer = sym (ap (λ v. answer_by (verdict_by v (finds_place (brought c xs) (Chained (group_of f) b e tags))) c t) room
            ∙ ap (λ v. answer_by (verdict_by true v) c t) place ∙ made-answer c xs ys tags tags' brings same moves table);
        after = sym (ap (λ v. after_by (verdict_by v (finds_place (brought c xs) (Chained (group_of f) b e tags))) c t) room
            ∙ ap (λ v. after_by (verdict_by true v) c t) place ∙ table);
      }

  pub refused : (c : Change) (xs : List Leaf) (tags : List ℕ) → has_room c xs (Chained (group_of f) b e tags) ≡ false
      → IsChange c (chained f b e l xs tags) no_table (chained f b e l xs tags)
  unfolding table_answer table_after verdict
  refused c xs tags room =
      let t : TableState = chained f b e l xs tags in
      record {
        answer = sym (ap (λ v. answer_by (verdict_by v (finds_place (brought c xs) (Chained (group_of f) b e tags))) c t) room);
        after = sym (ap (λ v. after_by (verdict_by v (finds_place (brought c xs) (Chained (group_of f) b e tags))) c t) room);
      }

  le-true : (m n : ℕ) → m ≤ n → nat_le m n ≡ true
  le-true m n h = grind (arith, nat_tests)

  le-false : (m n : ℕ) → n < m → nat_le m n ≡ false
  le-false m n h = grind (arith, nat_tests)

  -- a leaf that comes
  pub inserted : (x : Leaf) (xs : List Leaf) (tags : List ℕ) → length (with_tag b (leaf_tag (group_of f) x) tags) ≤ e
      → ((t : ℕ) → In t (with_tag b (leaf_tag (group_of f) x) tags) → IsUsedBy (group_of f) (with_leaf x xs) t)
      → IsChange (Insert x) (chained f b e l xs tags) done (chained f b e l (with_leaf x xs) (with_tag b (leaf_tag (group_of f) x) tags))
  unfolding has_room changed shape_after
  inserted x xs tags room used =
      made (Insert x) xs (with_leaf x xs) tags (with_tag b (leaf_tag (group_of f) x) tags) (Some x) refl refl refl (le-true (length (with_tag b (leaf_tag (group_of f) x) tags)) e room) refl
      (ap (Chained (group_of f) b e) (used-all (group_of f) (with_leaf x xs) (with_tag b (leaf_tag (group_of f) x) tags) used))

  pub not-inserted : (x : Leaf) (xs : List Leaf) (tags : List ℕ) → e < length (with_tag b (leaf_tag (group_of f) x) tags)
      → IsChange (Insert x) (chained f b e l xs tags) no_table (chained f b e l xs tags)
  unfolding has_room
  not-inserted x xs tags room = refused (Insert x) xs tags (le-false (length (with_tag b (leaf_tag (group_of f) x) tags)) e room)

  pub full-up : (x : Leaf) (xs : List Leaf) (tags : List ℕ) → has_tag tags (leaf_tag (group_of f) x) ≡ false → length tags ≡ e
      → IsChange (Insert x) (chained f b e l xs tags) no_table (chained f b e l xs tags)
  full-up x xs tags absent full = not-inserted x xs tags (let n = with-longer b (leaf_tag (group_of f) x) tags absent in omega arith)

  -- a leaf that goes
  pub removed : (s first : ℕ) (o : Order) (old : Leaf) (xs : List Leaf) (tags tags' : List ℕ) → leaf_named s first o xs ≡ Some old
      → only_used_tags (group_of f) (without_leaf old.space old.first xs) tags ≡ tags'
      → IsChange (Remove s first o) (chained f b e l xs tags) done (chained f b e l (without_leaf old.space old.first xs) tags')
  unfolding has_room
  removed s first o old xs tags tags' named used =
      made (Remove s first o) xs (without_leaf old.space old.first xs) tags tags' None refl refl refl refl (gone s first o old xs named)
      (gone-shape (group_of f) b e s first o old xs tags tags' named used)

  -- a leaf with another permission
  pub protected : (s first : ℕ) (o : Order) (perm : Perm) (old : Leaf) (xs : List Leaf) (tags tags' : List ℕ) → leaf_named s first o xs ≡ Some old
      → only_used_tags (group_of f) (with_leaf (record old { perm = perm }) (without_leaf old.space old.first xs)) tags ≡ tags'
      → IsChange (Protect s first o perm) (chained f b e l xs tags) done (chained f b e l (with_leaf (record old { perm = perm }) (without_leaf old.space old.first xs)) tags')
  unfolding has_room
  protected s first o perm old xs tags tags' named used =
      made (Protect s first o perm) xs (with_leaf (record old { perm = perm }) (without_leaf old.space old.first xs)) tags tags' None refl refl refl refl
      (given s first o perm old xs named) (given-shape (group_of f) b e s first o perm old xs tags tags' named used)

-- The two steps of a move: a leaf put in at the new place has this result, and leaves this table.
pub record IsMove (s first to : ℕ) (o : Order) (now : TableState) (r : Result Work Refused) (between : TableState) : Type 0 where
  pub refused : (q : Refused) → r ≡ Err q → IsChange (Relocate s first to o) now (Err q) between
  pub there : (w : Work) → r ≡ Ok w → is_some (leaf_named s first o between.leaves) ≡ true
  pub made : (w : Work) (r' : Result Work Refused) (new : TableState) → r ≡ Ok w → IsChange (Remove s first o) between r' new → IsChange (Relocate s first to o) now r' new

-- a leaf at another page
abbrev pub at_to : ℕ → Leaf → Leaf
at_to to old = record old { first = to }

-- What is known of a leaf that moves: it has the name, and no leaf is at its new place.
pub record IsMoving (g s first to : ℕ) (o : Order) (old : Leaf) (xs : List Leaf) (tags : List ℕ) : Type 0 where
  pub sorted : IsSorted xs
  pub named : leaf_named s first o xs ≡ Some old
  pub there : In old xs
  pub is : is_leaf s first o old ≡ true
  pub new : (z : Leaf) → In z xs → leaf_key z ≡ leaf_key (at_to to old) → ⊥
  pub used : (t : ℕ) → In t tags → IsUsedBy g xs t

still-named : (g s first to : ℕ) (o : Order) (old : Leaf) (xs : List Leaf) (tags : List ℕ) → IsMoving g s first to o old xs tags → leaf_named s first o (with_leaf (at_to to old) xs) ≡ Some old
unfolding leaf_named
still-named g s first to o old xs tags m =
    let ys : List Leaf = with_leaf (at_to to old) xs in
    let in_ys : In old ys = stays-with old (at_to to old) xs m.there (m.new old m.there) in
    find-only (is_leaf s first o) old ys in_ys m.is
    (λ z i t. same-place z old ys (sorted-with (at_to to old) xs m.sorted) i in_ys (named-key s first o z t ∙ sym (named-key s first o old m.is)))

swapped : (g s first to : ℕ) (o : Order) (old : Leaf) (xs : List Leaf) (tags : List ℕ) → IsMoving g s first to o old xs tags
    → with_leaf (at_to to old) (without_leaf old.space old.first xs) ≡ without_leaf old.space old.first (with_leaf (at_to to old) xs)
swapped g s first to o old xs tags m = with-without old.space old.first (at_to to old) xs m.sorted (λ e. m.new old m.there (sym e)) m.new

pub used-with : (g b : ℕ) (x : Leaf) (xs : List Leaf) (tags : List ℕ) → ((z : Leaf) → In z xs → leaf_key z ≡ leaf_key x → ⊥) → ((t : ℕ) → In t tags → IsUsedBy g xs t)
    → (t : ℕ) → In t (with_tag b (leaf_tag g x) tags) → IsUsedBy g (with_leaf x xs) t
used-with g b x xs tags new used t i = elim ((tag-with b (leaf_tag g x) tags).split t i) [
  | inl e ↦ (x, In-with x xs, sym e)
  | inr j ↦ let u = used t j in (u.0, stays-with u.0 x xs u.1 (new u.0 u.1), u.2)
]

module _ (f : Form) (b e l s first to : ℕ) (o : Order) (old : Leaf) (xs : List Leaf) (tags : List ℕ) (m : IsMoving (group_of f) s first to o old xs tags) (r : Result Work Refused) (between : TableState)
    (a : IsChange (Insert (at_to to old)) (chained f b e l xs tags) r between) where
  move-made : length (with_tag b (leaf_tag (group_of f) (at_to to old)) tags) ≤ e → IsMove s first to o (chained f b e l xs tags) r between
  move-made room =
      let g : ℕ = group_of f in
      let x : Leaf = at_to to old in
      let ts : List ℕ = with_tag b (leaf_tag g x) tags in
      let ys : List Leaf = with_leaf x xs in
      let zs : List Leaf = without_leaf old.space old.first ys in
      let us : List ℕ = only_used_tags g zs ts in
      let first_step : IsChange (Insert x) (chained f b e l xs tags) done (chained f b e l ys ts) = inserted f b e l x xs tags room (used-with g b x xs tags m.new m.used) in
      let second_step : IsChange (Remove s first o) (chained f b e l ys ts) done (chained f b e l zs us) = removed f b e l s first o old ys ts us (still-named g s first to o old xs tags m) refl in
      let leaves : changed (Relocate s first to o) xs ≡ zs = moved s first to o old xs m.named ∙ swapped g s first to o old xs tags m in
      let whole : IsChange (Relocate s first to o) (chained f b e l xs tags) done (chained f b e l zs us) =
      made f b e l (Relocate s first to o) xs zs tags us (Some x) (ap (at_page to) m.named) refl refl
      (moved-room g b e s first to o old xs tags m.named ∙ le-true f b e l (length ts) e room) leaves (moved-shape g b e s first to o old xs zs tags us m.named leaves refl) in
      let same : between ≡ chained f b e l ys ts = a.after ∙ sym first_step.after in
      record {
        refused = λ q d. let bad : done ≡ Err q = first_step.answer ∙ sym a.answer ∙ d in absurd (cc);
        there = λ w d. subst (λ (t : TableState). is_some (leaf_named s first o t.leaves) ≡ true) (sym same) (ap is_some (still-named g s first to o old xs tags m));
        made = λ w r' new d c. record {
          answer = c.answer ∙ ap (table_answer (Remove s first o)) same ∙ sym second_step.answer ∙ whole.answer;
          after = c.after ∙ ap (table_after (Remove s first o)) same ∙ sym second_step.after ∙ whole.after;
        };
      }

  move-refused : e < length (with_tag b (leaf_tag (group_of f) (at_to to old)) tags) → IsMove s first to o (chained f b e l xs tags) r between
  move-refused room =
      let g : ℕ = group_of f in
      let x : Leaf = at_to to old in
      let first_step : IsChange (Insert x) (chained f b e l xs tags) no_table (chained f b e l xs tags) = not-inserted f b e l x xs tags room in
      let whole : IsChange (Relocate s first to o) (chained f b e l xs tags) no_table (chained f b e l xs tags) =
      refused f b e l (Relocate s first to o) xs tags (moved-room g b e s first to o old xs tags m.named ∙ le-false f b e l (length (with_tag b (leaf_tag g x) tags)) e room) in
      let says : r ≡ no_table = a.answer ∙ sym first_step.answer in
      record {
        refused = λ q d. record { answer = sym d ∙ says ∙ whole.answer; after = a.after ∙ sym first_step.after ∙ whole.after };
        there = λ w d. let bad : no_table ≡ Ok w = sym says ∙ d in absurd (cc);
        made = λ w r' new d c. let bad : no_table ≡ Ok w = sym says ∙ d in absurd (cc);
      }

  pub is-move : IsMove s first to o (chained f b e l xs tags) r between
  is-move =
      elim (nat_le (length (with_tag b (leaf_tag (group_of f) (at_to to old)) tags)) e) as (λ t. nat_le (length (with_tag b (leaf_tag (group_of f) (at_to to old)) tags)) e ≡ t → IsMove s first to o (chained f b e l xs tags) r between) [
        | true ↦ λ h. move-made (grind (arith, nat_tests))
        | false ↦ λ h. move-refused (grind (arith, nat_tests))
      ] refl
