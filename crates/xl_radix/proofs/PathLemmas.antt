-- The nodes of a page's path.
use Rattle.xl_radix.proofs.Common.{◌+◌, ◌-◌, ◌<◌, ◌∙◌, ◌≡◌, ◌≤◌, ◌⊎◌, ap, arith, inl, inr, IsAtNode, IsEnd, IsImage, IsStore, Leaf, List, missing, Node, None, number_of, one_unless, Option, put_first, refl, Some, suc, unless_there, up, with_node, with_path, zero, ℕ}
use Rattle.xl_radix.proofs.PlacedLeafLemmas.{above}
use Rattle.xl_radix.proofs.SlotLemmas.{number-some}

pub with-node-new : (s l q : ℕ) (nodes : List (Option Node)) → number_of s l q nodes ≡ None → with_node s l q nodes ≡ put_first (record { space = s; level = l - 1; prefix = q }) nodes
unfolding with_node
with-node-new s l q nodes e = rw e refl

pub with-node-old : (s l q : ℕ) (nodes : List (Option Node)) → (number_of s l q nodes ≡ None → ⊥) → with_node s l q nodes ≡ nodes
unfolding with_node
with-node-old s l q nodes there =
    elim (number_of s l q nodes) as (λ o. number_of s l q nodes ≡ o → unless_there o nodes (put_first (record { space = s; level = l - 1; prefix = q }) nodes) ≡ nodes) [
      | Some n ↦ λ e. refl
      | None ↦ λ e. absurd (there e)
    ] refl

one-there : (o : Option ℕ) → (o ≡ None → ⊥) → one_unless o ≡ 0
one-there None h = absurd (h refl)
one-there (Some n) h = refl

path-one : (s page l d : ℕ) (nodes : List (Option Node)) → with_path s page l (suc d) nodes ≡ with_path s page l d (with_node s (l + suc d) (up (l + suc d) page) nodes)
path-one s page l d nodes = refl

-- the same, with the level by another name
path-at : (s page l m d j : ℕ) (nodes : List (Option Node)) → m ≡ suc d → l + suc d ≡ j → with_path s page l m nodes ≡ with_path s page l d (with_node s j (up j page) nodes)
path-at s page l m d j nodes a b =
    ap (λ (v : ℕ). with_path s page l v nodes) a ∙ path-one s page l d nodes ∙ ap (λ (v : ℕ). with_path s page l d (with_node s v (up v page) nodes)) b

-- one step down a path
pub path-step : (s page l j : ℕ) (nodes : List (Option Node)) → l < j → number_of s j (up j page) nodes ≡ None → with_path s page l (j - l) nodes ≡ with_path s page l (j - 1 - l) (put_first (record { space = s; level = j - 1; prefix = up j page }) nodes)
path-step s page l j nodes h e =
    let a : j - l ≡ suc (j - 1 - l) = omega arith in
    let b : l + suc (j - 1 - l) ≡ j = omega arith in
    path-at s page l (j - l) (j - 1 - l) j nodes a b ∙ ap (with_path s page l (j - 1 - l)) (with-node-new s j (up j page) nodes e)

-- The nodes above one that is at a page are there, and so a path begins below it.
pub path-skip : (top s page l j n e : ℕ) (leaves : List Leaf) (nodes : List (Option Node)) (words : List ℕ) → IsImage top leaves nodes words → IsAtNode s page j n nodes → l ≤ j → j + e < top → with_path s page l (j + e - l) nodes ≡ with_path s page l (j - l) nodes
path-skip top s page l j n zero leaves nodes words image at h low = let a : j + 0 ≡ j = omega arith in rw a refl
path-skip top s page l j n (suc e) leaves nodes words image at h low =
    let a : j + suc e - l ≡ suc (j + e - l) = omega arith in
    let b : l + suc (j + e - l) ≡ j + suc e = omega arith in
    let there = above top s page j n (j + suc e) leaves nodes words image at (omega arith) (omega arith) in
    path-at s page l (j + suc e - l) (j + e - l) (j + suc e) nodes a b ∙ ap (with_path s page l (j + e - l)) (with-node-old s (j + suc e) (up (j + suc e) page) nodes there) ∙ path-skip top s page l j n e leaves nodes words image at h (omega arith)

pub missing-skip : (top s page l j n e : ℕ) (leaves : List Leaf) (nodes : List (Option Node)) (words : List ℕ) → IsImage top leaves nodes words → IsAtNode s page j n nodes → l ≤ j → j + e < top → missing s page l (j + e - l) nodes ≡ missing s page l (j - l) nodes
missing-skip top s page l j n zero leaves nodes words image at h low = let a : j + 0 ≡ j = omega arith in rw a refl
missing-skip top s page l j n (suc e) leaves nodes words image at h low =
    let a : j + suc e - l ≡ suc (j + e - l) = omega arith in
    let b : l + suc (j + e - l) ≡ j + suc e = omega arith in
    let there = above top s page j n (j + suc e) leaves nodes words image at (omega arith) (omega arith) in
    let r = missing-skip top s page l j n e leaves nodes words image at h (omega arith) in
    rw a (rw b (let o = one-there (number_of s (j + suc e) (up (j + suc e) page) nodes) there in omega arith))

-- Below an empty slot no node of the page is there.
pub absent-below : (top s page b j : ℕ) (leaves : List Leaf) (nodes : List (Option Node)) (words : List ℕ) → IsImage top leaves nodes words → number_of s j (up j page) nodes ≡ None → b ≤ j → j < top → number_of s b (up b page) nodes ≡ None
absent-below top s page b zero leaves nodes words image e h low = let z : b ≡ 0 = omega arith in rw z e
absent-below top s page b (suc j) leaves nodes words image e h low =
    elim (split b j h) [
      | inl f ↦ rw f e
      | inr f ↦ absent-below top s page b j leaves nodes words image (parent) f (omega arith)
    ]
  where
    split : (b j : ℕ) → b ≤ suc j → (b ≡ suc j) ⊎ (b ≤ j)
    split b j h = grind arith

    parent : number_of s j (up j page) nodes ≡ None
    parent = elim (number_of s j (up j page) nodes) as (λ o. number_of s j (up j page) nodes ≡ o → o ≡ None) [
      | None ↦ λ g. refl
      | Some n ↦ λ g. absurd (elim (image.closed s j (up j page) n (number-some s j (up j page) n nodes g).1) [
        | inl t ↦ omega (arith, t)
        | inr t ↦ t.0 e
      ])
    ] refl

missing-all : (s page l d : ℕ) (nodes : List (Option Node)) → ((b : ℕ) → b ≤ l + d → number_of s b (up b page) nodes ≡ None) → missing s page l d nodes ≡ d
missing-all s page l zero nodes h = refl
missing-all s page l (suc d) nodes h =
    let e = h (l + suc d) (omega arith) in
    let r = missing-all s page l d nodes (λ b g. h b (omega arith)) in
    rw e (omega arith)

-- Above where a walk stops, the path is there.
pub path-is : (top s page l j n : ℕ) (leaves : List Leaf) (nodes : List (Option Node)) (words : List ℕ) → IsImage top leaves nodes words → IsAtNode s page j n nodes → l ≤ j → j < top → with_path s page l (top - 1 - l) nodes ≡ with_path s page l (j - l) nodes
path-is top s page l j n leaves nodes words image at h low =
    let a : top - 1 - l ≡ j + (top - 1 - j) - l = omega arith in
    rw a (path-skip top s page l j n (top - 1 - j) leaves nodes words image at h (omega arith))

-- What a path lacks is what lies below the place where the walk stops.
pub lacks-is : (top s page l j n : ℕ) (leaves : List Leaf) (nodes : List (Option Node)) (words : List ℕ) → IsImage top leaves nodes words → IsAtNode s page j n nodes → (j ≡ l) ⊎ (number_of s j (up j page) nodes ≡ None) → l ≤ j → j < top → missing s page l (top - 1 - l) nodes ≡ j - l
lacks-is top s page l j n leaves nodes words image at ends h low =
    let a : top - 1 - l ≡ j + (top - 1 - j) - l = omega arith in
    let b = missing-skip top s page l j n (top - 1 - j) leaves nodes words image at h (omega arith) in
    rw a (b ∙ rest ends)
  where
    rest : (j ≡ l) ⊎ (number_of s j (up j page) nodes ≡ None) → missing s page l (j - l) nodes ≡ j - l
    rest (inl e) = let d : j - l ≡ 0 = omega (arith, e) in rw d refl
    rest (inr e) = missing-all s page l (j - l) nodes (λ b g. absent-below top s page b j leaves nodes words image e (omega arith) low)

pub ended : (top spaces s page l j n : ℕ) (leaves : List Leaf) (nodes : List (Option Node)) (words used : List ℕ) → IsStore top spaces leaves nodes words used → l ≤ j → j < top → IsAtNode s page j n nodes → (j ≡ l) ⊎ (number_of s j (up j page) nodes ≡ None) → IsEnd top s page l j n nodes
ended top spaces s page l j n leaves nodes words used store h low at ends = record {
  least_in = h;
  level_in = low;
  at = at;
  ends = ends;
  path = path-is top s page l j n leaves nodes words store.image at h low;
  lacks = lacks-is top s page l j n leaves nodes words store.image at ends h low;
}
