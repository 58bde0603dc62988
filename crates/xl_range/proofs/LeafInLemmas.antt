-- For the table of ranges: the held range of a named leaf, and how many pages of it lie before and
-- after the leaf.
use Rattle.xl_range.proofs.Common.{◌*◌, ◌+◌, ◌-◌, ◌<◌, ◌^◌, ◌∙◌, ◌∷◌, ◌≡◌, ◌≤◌, ◌⊎◌, [], ap, arith, cond, end_key, false, find, first_leaf, holds_page, In, inl, inr, is_leaf, IsHeld, IsLeafIn, Leaf, leaf_key, List, named-first, named-order, named-space, nat_tests, next_leaf, Order, pages-some, pages_before, pages_following, pages_of, part_following, Range, range_leaves, refl, run_on, Some, spread, subst, suc, sym, true, zero, ℕ}
use Rattle.xl_range.proofs.RunLemmas.{leaves-is}
use Rattle.xl_range.proofs.TouchLemmas.{leap, leap-next, leap-none}

-- Where a named leaf is among n leaves from one on.
pub record InRun (space first : ℕ) (o : Order) (n : ℕ) (l x : Leaf) : Type 0 where
  pub before : ℕ
  pub following : ℕ
  pub count : n ≡ before + suc following
  pub at : first ≡ l.first + before * pages_of l.order
  pub leaf_is : x ≡ leap before l
  pub space_same : l.space ≡ space
  pub order_same : l.order ≡ o

named-run : (space first : ℕ) (o : Order) (n : ℕ) (l x : Leaf) (rest : List Leaf) → find (is_leaf space first o) (run_on n l rest) ≡ Some x
    → InRun space first o n l x ⊎ (find (is_leaf space first o) rest ≡ Some x)
named-run space first o zero l x rest e = inr e
named-run space first o (suc n) l x rest e =
    elim (is_leaf space first o l) as (λ b. is_leaf space first o l ≡ b → cond b (Some l) (find (is_leaf space first o) (run_on n (next_leaf l) rest)) ≡ Some x
    → InRun space first o (suc n) l x ⊎ (find (is_leaf space first o) rest ≡ Some x)) [
      | true ↦ λ t f. inl (record {
        before = 0;
        following = n;
        leaf_is = (let g : l ≡ x = cc in sym g ∙ sym (leap-none l));
        count = omega arith;
        at = (let g : l.first ≡ first = named-first space first o l t in omega arith);
        space_same = named-space space first o l t;
        order_same = named-order space first o l t;
      })
      | false ↦ λ t f. elim (named-run space first o n (next_leaf l) x rest f) [
        | inl i ↦ inl (record {
          before = suc i.before;
          following = i.following;
          leaf_is = i.leaf_is ∙ leap-next i.before l;
          count = (let g = i.count in omega arith);
          at = (let g = i.at in omega arith);
          space_same = i.space_same;
          order_same = i.order_same;
        })
        | inr g ↦ inr g
      ]
    ] refl e

pub named-in : (space first : ℕ) (o : Order) (low : ℕ) (x : Leaf) (rs : List Range) → IsHeld low rs → find (is_leaf space first o) (spread rs) ≡ Some x
    → (r : Range) × In r rs × ((i : IsLeafIn space first o r) × (x ≡ leap i.before (first_leaf r)))
unfolding spread
named-in space first o low x [] h e = absurd (cc)
named-in space first o low x (r ∷ rs) (above, is, stops, rest) e =
    elim (named-run space first o (range_leaves r) (first_leaf r) x (spread rs) e) [
      | inl i ↦
          let n : range_leaves r ≡ suc is.leaves.0 = leaves-is r is in
          let pages : r.pages ≡ suc is.leaves.0 * pages_of r.order = is.leaves.1 in
          let c : suc is.leaves.0 ≡ i.before + suc i.following = sym n ∙ i.count in
          let all : r.pages ≡ (i.before + suc i.following) * pages_of r.order = pages ∙ ap (λ (k : ℕ). k * pages_of r.order) c in
          let P : Order → Type 0 = λ q. r.pages ≡ (i.before + suc i.following) * pages_of q in
          let Q : Order → Type 0 = λ q. first ≡ r.start + i.before * pages_of q in
          (r, inl refl, (record { before = i.before; following = i.following; count = subst P i.order_same all; at = subst Q i.order_same i.at; space_same = i.space_same; order_same = i.order_same }, i.leaf_is))
      | inr f ↦ let found = named-in space first o (end_key r) x rs rest f in (found.0, inr found.1, found.2)
    ]

-- How many pages of a range lie before and after a leaf of it.
pub record Sizes (first : ℕ) (o : Order) (r : Range) (before following : ℕ) : Type 0 where
  pub some : 0 < pages_of o
  pub from : r.start ≤ first
  pub to : first + pages_of o ≤ r.start + r.pages
  pub before_is : pages_before first r ≡ before * pages_of o
  pub following_is : pages_following first o r ≡ following * pages_of o

pub sizes : (space first : ℕ) (o : Order) (r : Range) (i : IsLeafIn space first o r) → Sizes first o r i.before i.following
sizes space first o r i =
    let p : ℕ = pages_of o in
    let a : ℕ = i.before in
    let b : ℕ = i.following in
    let at : first ≡ r.start + a * p = i.at in
    let all : r.pages ≡ a * p + (p + b * p) = i.count ∙ (omega arith) in
    record { some = pages-some o; from = omega arith; to = omega arith; before_is = omega arith; following_is = omega arith }

pub holds-first : (space first : ℕ) (o : Order) (r : Range) → IsLeafIn space first o r → holds_page space first r ≡ true
holds-first space first o r i =
    let s = sizes space first o r i in
    let a = s.some in
    let b = s.from in
    let c = s.to in
    let d : r.space ≡ space = i.space_same in
    grind (arith, nat_tests)

pub next-of-leap : (space first : ℕ) (o : Order) (r : Range) (i : IsLeafIn space first o r) → next_leaf (leap i.before (first_leaf r)) ≡ first_leaf (part_following first o r)
unfolding leap
next-of-leap space first o r i =
    let a : ℕ = i.before in
    let at : first ≡ r.start + a * pages_of o = i.at in
    let same : r.order ≡ o = i.order_same in
    let e : r.start + a * pages_of o + pages_of o ≡ first + pages_of o = omega arith in
    let f : r.frame + a * pages_of o + pages_of o ≡ r.frame + (first + pages_of o - r.start) = omega arith in
    let P : Order → Type 0 = λ q. (let l : Leaf = record { space = r.space; first = r.start + a * pages_of q + pages_of q; order = r.order; frame = r.frame + a * pages_of q + pages_of q; perm = r.perm } in l)
    ≡ first_leaf (part_following first o r) in
    subst P (sym same) (rw (e, f) refl)

pub leap-key : (space first : ℕ) (o : Order) (r : Range) (i : IsLeafIn space first o r) → leaf_key (leap i.before (first_leaf r)) ≡ space * 2 ^ 52 + first
unfolding leap
leap-key space first o r i =
    let a : first ≡ r.start + i.before * pages_of o = i.at in
    let b : r.space ≡ space = i.space_same in
    subst (λ (q : Order). r.space * 2 ^ 52 + (r.start + i.before * pages_of q) ≡ space * 2 ^ 52 + first) (sym i.order_same) (omega arith)
