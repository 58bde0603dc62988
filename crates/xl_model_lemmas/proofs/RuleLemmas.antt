-- What a command that no refusal stops has shown of its leaf.
use Rattle.xl_model_lemmas.proofs.Common.{◌<◌, ◌∷◌, ◌≡◌, [], arith, Bool, Change, change_of, changed, false, first_so, Insert, insert_at, is_aligned, is_canonical, IsAnswer, IsMapping, IsNewPlace, IsSound, Leaf, List, list_all, lowest, meets_any, nat_lt, nat_tests, None, not-true, Option, or_else, Order, overlap_rule, page_of, pages_of, Perm, place_rule, Protect, refl, Relocate, Remove, Row, rule, second_so, Some, subst, true, unless, ℕ}
use Rattle.xl_model.specs.declared.event.Event.{Event}
use Rattle.xl_model.specs.declared.event.Refusal.{Refusal}
use Rattle.xl_model_lemmas.proofs.LowestLemmas.{lowest-is-lowest}
use Rattle.xl_model_lemmas.proofs.MappingLemmas.{kept-inserted, kept-protected, kept-relocated, kept-removed}
use Rattle.xl_model_lemmas.proofs.PlaceLemmas.{page-block}
use Rattle.xl_model.specs.declared.event.Event.TheVariants as event

pub or-first : (a b : Option Refusal) → or_else a b ≡ None → a ≡ None
or-first None b h = refl
or-first (Some r) b h = h

pub or-second : (a b : Option Refusal) → or_else a b ≡ None → b ≡ None
or-second None b h = h
or-second (Some r) b h = absurd (cc)

pub unless-true : (b : Bool) (r : Refusal) → unless b r ≡ None → b ≡ true
unless-true true r h = refl
unless-true false r h = absurd (cc)

-- the three tests of a place
pub record HasPlace (row : Row) (space : ℕ) (o : Order) (addresses : List ℕ) : Type 0 where
  pub space_in : space < row.spaces
  pub all_canonical : list_all (is_canonical row.mode) addresses ≡ true
  pub all_aligned : list_all (is_aligned o) addresses ≡ true

pub has-place : (row : Row) (space : ℕ) (o : Order) (addresses : List ℕ) → place_rule row space o addresses ≡ None → HasPlace row space o addresses
has-place row space o addresses h =
    let a : nat_lt space row.spaces ≡ true = unless-true _ _ (or-first _ _ h) in
    record {
      space_in = grind (arith, nat_tests);
      all_canonical = unless-true _ _ (or-first _ _ (or-second _ _ h));
      all_aligned = unless-true _ _ (or-second _ _ (or-second _ _ h));
    }

pub no-overlap : (row : Row) (leaves : List Leaf) (space va : ℕ) (o : Order) → overlap_rule row leaves space va o ≡ None
    → meets_any space (page_of row.mode va) o leaves ≡ false
no-overlap row leaves space va o h = not-true _ (unless-true _ _ h)

-- a map's leaf is at the lowest free block
new-leaf : (row : Row) (space va : ℕ) (o : Order) (perm : Perm) (leaves : List Leaf) (at : Option ℕ) (c : Change)
    → rule row leaves (event.Map space va o perm) ≡ None → IsAnswer row.frames (pages_of o) leaves at
    → insert_at space (page_of row.mode va) o (record { space = space; first = page_of row.mode va; order = o; frame = 0; perm = perm }) at ≡ Some c
    → IsSound row leaves c
unfolding rule
new-leaf row space va o perm leaves None c ruled is known = absurd (cc)
new-leaf row space va o perm leaves (Some at) c ruled is known =
    let place : HasPlace row space o (va ∷ []) = has-place row space o (va ∷ []) (or-first _ _ ruled) in
    let block = page-block row.mode o va (first_so _ _ place.all_aligned) in
    let leaf : Leaf = record { space = space; first = page_of row.mode va; order = o; frame = at; perm = perm } in
    let same : Insert leaf ≡ c = cc in
    subst (λ (d : Change). IsSound row leaves d) same (record {
      valid = record { space_in = place.space_in; pages_in = block.0; pages_aligned = block.1; frames_in = is.fits; frames_aligned = is.aligned };
      apart = no-overlap row leaves space va o (or-first _ _ (or-second _ _ ruled));
      free = is.is_free;
    })

pub new-place : (row : Row) (leaves : List Leaf) (space from to : ℕ) (o : Order)
    → rule row leaves (event.Move space from to o) ≡ None → IsNewPlace row leaves space (page_of row.mode to) o
unfolding rule
new-place row leaves space from to o ruled =
    let place : HasPlace row space o (from ∷ to ∷ []) = has-place row space o (from ∷ to ∷ []) (or-first _ _ ruled) in
    let block = page-block row.mode o to (first_so _ _ (second_so _ _ place.all_aligned)) in
    record {
      space_in = place.space_in;
      pages_in = block.0;
      pages_aligned = block.1;
      apart = no-overlap row leaves space to o (or-second _ _ (or-second _ _ ruled));
    }

-- a command that no refusal stops is a sound change
pub sound-of : (row : Row) (leaves : List Leaf) (e : Event) (c : Change) → rule row leaves e ≡ None
    → change_of row leaves e ≡ Some c → IsSound row leaves c
unfolding change_of
sound-of row leaves (event.Access va k) c ruled known = absurd (cc)
sound-of row leaves (event.Map space va o perm) c ruled known =
    new-leaf row space va o perm leaves (lowest row.frames o leaves) c ruled (lowest-is-lowest row.frames o leaves) known
sound-of row leaves (event.Unmap space va o) c ruled known =
    let same : Remove space (page_of row.mode va) o ≡ c = cc in
    subst (λ (d : Change). IsSound row leaves d) same tt
sound-of row leaves (event.Protect space va o perm) c ruled known =
    let same : Protect space (page_of row.mode va) o perm ≡ c = cc in
    subst (λ (d : Change). IsSound row leaves d) same tt
sound-of row leaves (event.Move space from to o) c ruled known =
    let same : Relocate space (page_of row.mode from) (page_of row.mode to) o ≡ c = cc in
    subst (λ (d : Change). IsSound row leaves d) same (new-place row leaves space from to o ruled)
sound-of row leaves (event.Space space) c ruled known = absurd (cc)
sound-of row leaves (event.Fence to) c ruled known = absurd (cc)

-- a sound change leaves a mapping
pub kept-sound : (row : Row) (leaves : List Leaf) (c : Change) → IsMapping row leaves → IsSound row leaves c → IsMapping row (changed c leaves)
kept-sound row leaves (Insert leaf) m s = kept-inserted row leaf leaves m s.valid s.apart s.free
kept-sound row leaves (Remove space first o) m s = kept-removed row space first o leaves m
kept-sound row leaves (Protect space first o perm) m s = kept-protected row space first o perm leaves m
kept-sound row leaves (Relocate space first to o) m s = kept-relocated row space first to o leaves m s.pages_in s.pages_aligned s.apart

-- a command that no refusal stops leaves a mapping
pub kept-changed : (row : Row) (leaves : List Leaf) (e : Event) (c : Change) → IsMapping row leaves → rule row leaves e ≡ None
    → change_of row leaves e ≡ Some c → IsMapping row (changed c leaves)
kept-changed row leaves e c m ruled known = kept-sound row leaves c m (sound-of row leaves e c ruled known)
