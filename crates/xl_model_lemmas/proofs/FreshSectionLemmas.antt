-- Cached sections: filled as they are, and out where their bits or their way change.
use Rattle.xl_model_lemmas.proofs.Common.{◌&&◌, ◌*◌, ◌+◌, ◌/◌, ◌<◌, ◌||◌, ◌∙◌, ◌∷◌, ◌≡◌, ◌≤◌, [], ap, arith, Bool, counts_for, covers, CuckooWays, entries_of, Entry, false, first_so, has_key, has_leaves, holder_from, holds_order, In-any, inl, inr, is_held, IsFound, Leaf, level_of, List, list_any, map, nat_tests, newest-In, None, not-false, Option, Order, pages_of, purged-In, refl, same_order, same_section, same_way, second_so, Section, section_key, section_of, SectionFresh, SectionsFresh, Some, subst, sym, touched-In, true, ways_of, WayShape, ℕ}
use Rattle.xl_model.proofs.PermLemmas.{bits-same}
use Rattle.xl_model.specs.Caches.{Cached, has_changed, without_items}
use Rattle.xl_model.specs.Walks.{is_page_section, section_after, section_of_page}
use Rattle.xl_model.proofs.OrderLemmas.{order-same}
use Rattle.xl_model.specs.declared.address.Order.TheVariants as order

ways-same : (a b : Option ℕ) → same_way a b ≡ true → a ≡ b
ways-same None None h = refl
ways-same None (Some b) h = absurd (cc)
ways-same (Some a) None h = absurd (cc)
ways-same (Some a) (Some b) h = let e : a ≡ b = grind (arith, nat_tests) in ap Some e

pub by-fields : (a b : Section) → a.space ≡ b.space → a.block ≡ b.block → a.has_k4 ≡ b.has_k4 → a.has_m2 ≡ b.has_m2 → a.has_g1 ≡ b.has_g1 → a.way ≡ b.way → a ≡ b
by-fields a b s k x y z w =
    let A : Section = record { space = a.space; block = a.block; has_k4 = a.has_k4; has_m2 = a.has_m2; has_g1 = a.has_g1; way = a.way } in
    let B : Section = record { space = b.space; block = b.block; has_k4 = b.has_k4; has_m2 = b.has_m2; has_g1 = b.has_g1; way = b.way } in
    let e : A ≡ B = rw (s, k, x, y, z, w) refl in
    e

pub sections-same : (a b : Section) → a.space ≡ b.space → a.block ≡ b.block → same_section a b ≡ true → a ≡ b
sections-same a b s k h =
    let k4 : a.has_k4 ≡ b.has_k4 = bits-same a.has_k4 b.has_k4 (first_so _ _ (first_so _ _ h)) in
    let m2 : a.has_m2 ≡ b.has_m2 = bits-same a.has_m2 b.has_m2 (second_so _ _ (first_so _ _ h)) in
    let g1 : a.has_g1 ≡ b.has_g1 = bits-same a.has_g1 b.has_g1 (first_so _ _ (second_so _ _ h)) in
    let w : a.way ≡ b.way = ways-same a.way b.way (second_so _ _ (second_so _ _ h)) in
    by-fields a b s k k4 m2 g1 w

-- a leaf that covers a page lies in each section of the page that isn't smaller
same-block : (o size : Order) (first page e : ℕ) → first ≡ e * pages_of o → first ≤ page → page < first + pages_of o → level_of o ≤ level_of size
    → first / pages_of size ≡ page / pages_of size
same-block order.K4 order.K4 first page e a b c d = omega arith
same-block order.K4 order.M2 first page e a b c d = omega arith
same-block order.K4 order.G1 first page e a b c d = omega arith
same-block order.M2 order.K4 first page e a b c d = absurd (omega arith)
same-block order.M2 order.M2 first page e a b c d = omega arith
same-block order.M2 order.G1 first page e a b c d = omega arith
same-block order.G1 order.K4 first page e a b c d = absurd (omega arith)
same-block order.G1 order.M2 first page e a b c d = absurd (omega arith)
same-block order.G1 order.G1 first page e a b c d = omega arith

covered-counts : (size : Order) (space page : ℕ) (x : Leaf) → covers space page x ≡ true → ((e : ℕ) × (x.first ≡ e * pages_of x.order)) → level_of x.order ≤ level_of size
    → counts_for size space (page / pages_of size) x ≡ true
covered-counts size space page x c aligned low =
    let a : x.first ≤ page = grind (arith, nat_tests) in
    let b : page < x.first + pages_of x.order = grind (arith, nat_tests) in
    let d : x.first / pages_of size ≡ page / pages_of size = same-block x.order size x.first page aligned.0 aligned.1 a b low in
    grind (arith, nat_tests)

has-some : (size : Order) (space block : ℕ) (leaves : List Leaf) (ways : List WayShape) (o : Order) → holds_order size space block o leaves ≡ true
    → has_leaves (section_of size space block leaves ways) ≡ true
unfolding section_of
has-some size space block leaves ways order.K4 h = rw h refl
has-some size space block leaves ways order.M2 h = rw h (last (holds_order size space block order.K4 leaves))
  where
    last : (b : Bool) → (b || true) ≡ true
    last true = refl
    last false = refl
has-some size space block leaves ways order.G1 h = rw h (last (holds_order size space block order.K4 leaves) (holds_order size space block order.M2 leaves))
  where
    last : (a b : Bool) → (a || (b || true)) ≡ true
    last true b = refl
    last false true = refl
    last false false = refl

-- the section of a page that such a leaf covers has leaves
pub section-some : (size : Order) (space page : ℕ) (leaves : List Leaf) (ways : CuckooWays) (x : Leaf) → IsFound space page leaves x → level_of x.order ≤ level_of size
    → has_leaves (section_of_page size space page leaves ways) ≡ true
section-some size space page leaves ways x found low =
    let t : (counts_for size space (page / pages_of size) x && same_order x.order x.order) ≡ true =
    rw (covered-counts size space page x found.covers_page found.aligned low) (order-same x.order) in
    has-some size space (page / pages_of size) leaves (ways_of size ways) x.order
    (In-any (λ leaf. counts_for size space (page / pages_of size) leaf && same_order leaf.order x.order) x leaves found.member t)

-- what a walk leaves
pub section-walked : (size : Order) (space page : ℕ) (leaves : List Leaf) (ways : CuckooWays) (fills : Bool) (hit : Option Section) (c : Cached Section)
    → (fills ≡ true → has_leaves (section_of_page size space page leaves ways) ≡ true)
    → SectionsFresh size leaves (ways_of size ways) c → SectionsFresh size leaves (ways_of size ways) (section_after size space page leaves ways fills hit c)
unfolding section_of
section-walked size space page leaves ways fills (Some hit) c some fresh s i = fresh s (touched-In (is_page_section size space page) s c.items i)
section-walked size space page leaves ways false None c some fresh s i = fresh s i
section-walked size space page leaves ways true None c some fresh s i =
    elim (newest-In c.width s (section_of_page size space page leaves ways) c.items i) [
      | inl e ↦
          subst (λ (z : Section). SectionFresh size leaves (ways_of size ways) z) (sym e) (record { is = refl; some = some refl })
      | inr j ↦ fresh s j
    ]

pub section-fenced : (p : Section → Bool) (size : Order) (leaves : List Leaf) (ways : List WayShape) (c : Cached Section)
    → SectionsFresh size leaves ways c → SectionsFresh size leaves ways (without_items p c)
section-fenced p size leaves ways c fresh s i = fresh s (purged-In p s c.items i).0

-- what a change leaves
pub section-after : (size : Order) (before : List Leaf) (ways : CuckooWays) (after : List Leaf) (new_ways : CuckooWays) (c : Cached Section)
    → SectionsFresh size before (ways_of size ways) c → SectionsFresh size after (ways_of size new_ways) (without_items (has_changed size before ways after new_ways) c)
unfolding section_of
section-after size before ways after new_ways c fresh s i =
    let k = purged-In (has_changed size before ways after new_ways) s c.items i in
    let old : SectionFresh size before (ways_of size ways) s = fresh s k.0 in
    record {
      is = old.is ∙ sections-same (section_of size s.space s.block before (ways_of size ways)) (section_of size s.space s.block after (ways_of size new_ways)) refl refl (not-false _ k.1);
      some = old.some;
    }

-- ways with the same entries hold the same keys
pub holder-same : (i : ℕ) (xs ys : List WayShape) (key : ℕ) → map entries_of xs ≡ map entries_of ys → holder_from i xs key ≡ holder_from i ys key
holder-same i [] [] key e = refl
holder-same i [] (y ∷ ys) key e = absurd (cc)
holder-same i (x ∷ xs) [] key e = absurd (cc)
holder-same i (x ∷ xs) (y ∷ ys) key e =
    let a : x.entries ≡ y.entries = cc in
    let b : map entries_of xs ≡ map entries_of ys = cc in
    let h : is_held x key ≡ is_held y key = ap (λ (es : List Entry). list_any (has_key key) es) a in
    let r : holder_from (i + 1) xs key ≡ holder_from (i + 1) ys key = holder-same (i + 1) xs ys key b in
    rw (h, r) refl

section-same : (size : Order) (space block : ℕ) (leaves : List Leaf) (xs ys : List WayShape) → map entries_of xs ≡ map entries_of ys
    → section_of size space block leaves xs ≡ section_of size space block leaves ys
unfolding section_of
section-same size space block leaves xs ys e =
    let h : holder_from 0 xs (section_key space block) ≡ holder_from 0 ys (section_key space block) = holder-same 0 xs ys (section_key space block) e in
    rw h refl

-- ways with the same entries leave every section
pub section-refused : (size : Order) (leaves : List Leaf) (xs ys : List WayShape) (c : Cached Section) → map entries_of ys ≡ map entries_of xs
    → SectionsFresh size leaves xs c → SectionsFresh size leaves ys c
section-refused size leaves xs ys c e fresh s i =
    let old : SectionFresh size leaves xs s = fresh s i in
    record { is = old.is ∙ section-same size s.space s.block leaves xs ys (sym e); some = old.some }
