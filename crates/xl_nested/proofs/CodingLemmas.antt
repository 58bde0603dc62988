-- What an item of the G cache says: one block of guest pages and one order, a frame and a permission.
use Rattle.xl_nested.proofs.Common.{◌%◌, ◌&&◌, ◌*◌, ◌+◌, ◌-◌, ◌/◌, ◌<◌, ◌==◌, ◌^◌, ◌||◌, ◌∙◌, ◌≡◌, ◌≤◌, [], ap, AreSmall, arith, Block, block_leaf, Bool, covers, covers_guest, find, find-In, find-none, find-passes, find-some, has_tag, host_page, host_space, In, inl, inr, is_among, is_leaf, IsBlockOf, IsFoundBlock, IsKeepable, IsPageWord, IsPlace, Item, Leaf, leaf_of, level_of, List, map, nat_le, nat_lt, nat_tests, newest-In, newest-map, None, Option, Order, order_at, pages-some, pages_of, Perm, perm_at, perm_code, purged, purged-In, purged-map, refl, same-tests, same_order, small_leaf, Some, subst, suc, sym, tag_of, touched, touched-In, touched-map, true, with_newest, zero, ℕ}
use Rattle.xl_model.proofs.CodeLemmas.{at-level, frame-back, perm-back}
use Rattle.xl_model.specs.declared.address.Order.TheVariants as order

-- a block covers the guest pages of its number
block-covers : (o : Order) (block g : ℕ) → (block == g / pages_of o)
    ≡ ((host_space (block * pages_of o) == host_space g) && (nat_le (host_page (block * pages_of o)) (host_page g) && nat_lt (host_page g) (host_page (block * pages_of o) + pages_of o)))
block-covers order.K4 block g = same-tests _ _ (λ h. grind (arith, nat_tests)) (λ h. grind (arith, nat_tests))
block-covers order.M2 block g = same-tests _ _ (λ h. grind (arith, nat_tests)) (λ h. grind (arith, nat_tests))
block-covers order.G1 block g = same-tests _ _ (λ h. grind (arith, nat_tests)) (λ h. grind (arith, nat_tests))

-- of the three tags of a guest page an item can have that of its own order alone
tag-4k : (t g : ℕ) → t % 3 ≡ 0 → ((t == g / 1 * 3 + 0) || ((t == g / 512 * 3 + 1) || (t == g / 262144 * 3 + 2))) ≡ (t / 3 == g / 1)
tag-4k t g e = same-tests _ _ (λ h. grind (arith, nat_tests)) (λ h. grind (arith, nat_tests))

tag-2m : (t g : ℕ) → t % 3 ≡ 1 → ((t == g / 1 * 3 + 0) || ((t == g / 512 * 3 + 1) || (t == g / 262144 * 3 + 2))) ≡ (t / 3 == g / 512)
tag-2m t g e = same-tests _ _ (λ h. grind (arith, nat_tests)) (λ h. grind (arith, nat_tests))

tag-1g : (t g : ℕ) → t % 3 ≡ 2 → ((t == g / 1 * 3 + 0) || ((t == g / 512 * 3 + 1) || (t == g / 262144 * 3 + 2))) ≡ (t / 3 == g / 262144)
tag-1g t g e = same-tests _ _ (λ h. grind (arith, nat_tests)) (λ h. grind (arith, nat_tests))

-- a look compares an item's tag with those of the guest page
pub same-page : (g : ℕ) (i : Item) → is_among (tag_of g order.K4) (tag_of g order.M2) (tag_of g order.G1) i ≡ covers_guest g (leaf_of i)
unfolding tag_of leaf_of
same-page g i = go (i.tag % 3) refl
  where
    go : (l : ℕ) → i.tag % 3 ≡ l → ((i.tag == g / 1 * 3 + 0) || ((i.tag == g / 512 * 3 + 1) || (i.tag == g / 262144 * 3 + 2))) ≡ covers_guest g (block_leaf (order_at l) (i.tag / 3) i.word)
    go zero e = tag-4k i.tag g e ∙ block-covers order.K4 (i.tag / 3) g
    go (suc zero) e = tag-2m i.tag g e ∙ block-covers order.M2 (i.tag / 3) g
    go (suc (suc zero)) e = tag-1g i.tag g e ∙ block-covers order.G1 (i.tag / 3) g
    go (suc (suc (suc n))) e = absurd (omega arith)

-- the parts of a tag
parts-of : (block : ℕ) (o : Order) → ((block * 3 + level_of o) % 3 ≡ level_of o) × ((block * 3 + level_of o) / 3 ≡ block)
parts-of block order.K4 = (omega arith, omega arith)
parts-of block order.M2 = (omega arith, omega arith)
parts-of block order.G1 = (omega arith, omega arith)

-- a leaf named by its block
core-leaf : (block g e : ℕ) (x o : Order) → g ≡ e * pages_of o → (block * 3 + level_of x == g / pages_of o * 3 + level_of o)
    ≡ ((host_space (block * pages_of x) == host_space g) && ((host_page (block * pages_of x) == host_page g) && same_order x o))
core-leaf block g e order.K4 order.K4 a = same-tests _ _ (λ h. grind (arith, nat_tests)) (λ h. grind (arith, nat_tests))
core-leaf block g e order.K4 order.M2 a = same-tests _ _ (λ h. grind (arith, nat_tests)) (λ h. grind (arith, nat_tests))
core-leaf block g e order.K4 order.G1 a = same-tests _ _ (λ h. grind (arith, nat_tests)) (λ h. grind (arith, nat_tests))
core-leaf block g e order.M2 order.K4 a = same-tests _ _ (λ h. grind (arith, nat_tests)) (λ h. grind (arith, nat_tests))
core-leaf block g e order.M2 order.M2 a = same-tests _ _ (λ h. grind (arith, nat_tests)) (λ h. grind (arith, nat_tests))
core-leaf block g e order.M2 order.G1 a = same-tests _ _ (λ h. grind (arith, nat_tests)) (λ h. grind (arith, nat_tests))
core-leaf block g e order.G1 order.K4 a = same-tests _ _ (λ h. grind (arith, nat_tests)) (λ h. grind (arith, nat_tests))
core-leaf block g e order.G1 order.M2 a = same-tests _ _ (λ h. grind (arith, nat_tests)) (λ h. grind (arith, nat_tests))
core-leaf block g e order.G1 order.G1 a = same-tests _ _ (λ h. grind (arith, nat_tests)) (λ h. grind (arith, nat_tests))

-- a removal compares one number
pub same-leaf : (g : ℕ) (o : Order) → IsPlace g o (2 ^ 29) → (i : Item) → has_tag (tag_of g o) i ≡ is_leaf (host_space g) (host_page g) o (leaf_of i)
unfolding tag_of leaf_of
same-leaf g o place i = go (i.tag % 3) refl
  where
    go : (l : ℕ) → i.tag % 3 ≡ l → (i.tag == g / pages_of o * 3 + level_of o) ≡ is_leaf (host_space g) (host_page g) o (block_leaf (order_at l) (i.tag / 3) i.word)
    go zero e =
        let w : i.tag ≡ i.tag / 3 * 3 + 0 = omega arith in
        ap (λ (n : ℕ). n == g / pages_of o * 3 + level_of o) w ∙ core-leaf (i.tag / 3) g place.aligned.0 order.K4 o place.aligned.1
    go (suc zero) e =
        let w : i.tag ≡ i.tag / 3 * 3 + 1 = omega arith in
        ap (λ (n : ℕ). n == g / pages_of o * 3 + level_of o) w ∙ core-leaf (i.tag / 3) g place.aligned.0 order.M2 o place.aligned.1
    go (suc (suc zero)) e =
        let w : i.tag ≡ i.tag / 3 * 3 + 2 = omega arith in
        ap (λ (n : ℕ). n == g / pages_of o * 3 + level_of o) w ∙ core-leaf (i.tag / 3) g place.aligned.0 order.G1 o place.aligned.1
    go (suc (suc (suc n))) e = absurd (omega arith)

-- the first guest page of a leaf that can be kept
first-of : (space first e : ℕ) (o : Order) → first < 2 ^ 27 → first ≡ e * pages_of o
    → (((space * 2 ^ 27 + first) / pages_of o * pages_of o) / 2 ^ 27 ≡ space) × (((space * 2 ^ 27 + first) / pages_of o * pages_of o) % 2 ^ 27 ≡ first)
first-of space first e order.K4 low a = (omega arith, omega arith)
first-of space first e order.M2 low a = let h : first ≡ e * 512 = a in (omega arith, omega arith)
first-of space first e order.G1 low a = let h : first ≡ e * 262144 = a in (omega arith, omega arith)

-- a leaf comes back from the item that keeps it
abbrev made : ℕ → ℕ → Order → ℕ → Perm → Leaf
made space first o frame perm = record { space = space; first = first; order = o; frame = frame; perm = perm }

pub kept-back : (x : Leaf) (i : Item) → IsKeepable x → i.tag ≡ tag_of (x.space * 2 ^ 27 + x.first) x.order → i.word ≡ x.frame * 16 + perm_code x.perm → leaf_of i ≡ x
unfolding tag_of leaf_of
kept-back x i k t w =
    let p = parts-of ((x.space * 2 ^ 27 + x.first) / pages_of x.order) x.order in
    let q : order_at (i.tag % 3) ≡ x.order = ap (λ (n : ℕ). order_at (n % 3)) t ∙ ap order_at p.0 ∙ at-level x.order in
    let b : i.tag / 3 ≡ (x.space * 2 ^ 27 + x.first) / pages_of x.order = ap (λ (n : ℕ). n / 3) t ∙ p.1 in
    let f = first-of x.space x.first k.aligned.0 x.order k.first_in k.aligned.1 in
    ap (λ (o : Order). made (host_space (i.tag / 3 * pages_of o)) (host_page (i.tag / 3 * pages_of o)) o (i.word / 16) (perm_at i.word)) q
    ∙ ap (λ (n : ℕ). made (host_space (n * pages_of x.order)) (host_page (n * pages_of x.order)) x.order (i.word / 16) (perm_at i.word)) b
    ∙ ap (λ (n : ℕ). made n (host_page ((x.space * 2 ^ 27 + x.first) / pages_of x.order * pages_of x.order)) x.order (i.word / 16) (perm_at i.word)) f.0
    ∙ ap (λ (n : ℕ). made x.space n x.order (i.word / 16) (perm_at i.word)) f.1
    ∙ ap (λ (n : ℕ). made x.space x.first x.order (n / 16) (perm_at n)) w
    ∙ ap (λ (n : ℕ). made x.space x.first x.order n (perm_at (x.frame * 16 + perm_code x.perm))) (frame-back x.frame x.perm)
    ∙ ap (λ (z : Perm). made x.space x.first x.order x.frame z) (perm-back x.frame x.perm)

-- the leaf of 4 KiB of a guest page, by its word
pub small-kept : (g : ℕ) (i : Item) → i.tag ≡ tag_of g order.K4 → leaf_of i ≡ small_leaf (host_space g) (host_page g) i.word
unfolding tag_of leaf_of
small-kept g i t =
    let a : i.tag % 3 ≡ 0 = omega arith in
    let b : i.tag / 3 ≡ g = omega arith in
    let space : host_space (g * 1) ≡ host_space g = omega arith in
    let first : host_page (g * 1) ≡ host_page g / 1 * 1 = omega arith in
    rw (a, b, space, first) refl

-- how far a guest page is from the first of its block
following-first : (o : Order) (block g : ℕ) → (block == g / pages_of o) ≡ true → host_page g - host_page (block * pages_of o) ≡ g % pages_of o
following-first order.K4 block g t = let e : block ≡ g / 1 = grind (arith, nat_tests) in omega arith
following-first order.M2 block g t = let e : block ≡ g / 512 = grind (arith, nat_tests) in omega arith
following-first order.G1 block g t = let e : block ≡ g / 262144 = grind (arith, nat_tests) in omega arith

-- a permission is four bits, and the frame is above them
same-perm : (word following : ℕ) → perm_at (word + following * 16) ≡ perm_at word
unfolding perm_at
same-perm word following =
    let n : ℕ = word + following * 16 in
    let one : n % 2 ≡ word % 2 = omega arith in
    let two : n / 2 % 2 ≡ word / 2 % 2 = omega arith in
    let four : n / 4 % 2 ≡ word / 4 % 2 = omega arith in
    let eight : n / 8 % 2 ≡ word / 8 % 2 = omega arith in
    rw (one, two, four, eight) refl

-- the word of a page, by the item
pub page-says : (i : Item) (g following result : ℕ) → covers_guest g (leaf_of i) ≡ true → following ≡ g % pages_of (order_at (i.tag % 3)) → result ≡ i.word + following * 16
    → IsPageWord (host_page g) result (leaf_of i)
unfolding leaf_of
page-says i g following result covers is e =
    let far : host_page g - host_page (i.tag / 3 * pages_of (order_at (i.tag % 3))) ≡ g % pages_of (order_at (i.tag % 3)) =
    following-first (order_at (i.tag % 3)) (i.tag / 3) g (block-covers (order_at (i.tag % 3)) (i.tag / 3) g ∙ covers) in
    let there : (i.word + following * 16) / 16 ≡ i.word / 16 + following = omega arith in
    record {
      frame = ap (λ (n : ℕ). n / 16) e ∙ there ∙ ap (λ (n : ℕ). i.word / 16 + n) (is ∙ sym far);
      perm = ap (λ (n : ℕ). perm_at n) e ∙ same-perm i.word following;
    }

-- the block of an item's leaf begins at a multiple of its size
block-has : (o : Order) (block g h first : ℕ) → block ≡ g / pages_of o → first ≡ g - g % pages_of o → (block == h / pages_of o) ≡ (nat_le first h && nat_lt (h - first) (pages_of o))
block-has order.K4 block g h first b f = let m : first ≡ block * 1 = omega arith in same-tests _ _ (λ e. grind (arith, nat_tests)) (λ e. grind (arith, nat_tests))
block-has order.M2 block g h first b f = let m : first ≡ block * 512 = omega arith in same-tests _ _ (λ e. grind (arith, nat_tests)) (λ e. grind (arith, nat_tests))
block-has order.G1 block g h first b f = let m : first ≡ block * 262144 = omega arith in same-tests _ _ (λ e. grind (arith, nat_tests)) (λ e. grind (arith, nat_tests))

block-following : (o : Order) (block g h first : ℕ) → block ≡ g / pages_of o → first ≡ g - g % pages_of o → (nat_le first h && nat_lt (h - first) (pages_of o)) ≡ true → h - first ≡ h % pages_of o
block-following order.K4 block g h first b f e = let m : first ≡ block * 1 = omega arith in grind (arith, nat_tests)
block-following order.M2 block g h first b f e = let m : first ≡ block * 512 = omega arith in grind (arith, nat_tests)
block-following order.G1 block g h first b f e = let m : first ≡ block * 262144 = omega arith in grind (arith, nat_tests)

number-of : (o : Order) (block g : ℕ) → (block == g / pages_of o) ≡ true → block ≡ g / pages_of o
number-of order.K4 block g e = grind (arith, nat_tests)
number-of order.M2 block g e = grind (arith, nat_tests)
number-of order.G1 block g e = grind (arith, nat_tests)

pub item-block : (i : Item) (g first pages : ℕ) → covers_guest g (leaf_of i) ≡ true → first ≡ g - g % pages_of (order_at (i.tag % 3)) → pages ≡ pages_of (order_at (i.tag % 3))
    → IsBlockOf (record { first = first; pages = pages; word = i.word }) (leaf_of i)
unfolding leaf_of
item-block i g first pages covers f p =
    let n : i.tag / 3 ≡ g / pages_of (order_at (i.tag % 3)) = number-of (order_at (i.tag % 3)) (i.tag / 3) g (block-covers (order_at (i.tag % 3)) (i.tag / 3) g ∙ covers) in
    subst (λ (k : ℕ). IsBlockOf (record { first = first; pages = k; word = i.word }) (block_leaf (order_at (i.tag % 3)) (i.tag / 3) i.word)) (sym p) (record {
      some = pages-some (order_at (i.tag % 3));
      covers = λ h. sym (block-covers (order_at (i.tag % 3)) (i.tag / 3) h) ∙ block-has (order_at (i.tag % 3)) (i.tag / 3) g h first n f;
      says = λ h has. page-says i h (h - first) _ (sym (block-covers (order_at (i.tag % 3)) (i.tag / 3) h) ∙ block-has (order_at (i.tag % 3)) (i.tag / 3) g h first n f ∙ has)
          (block-following (order_at (i.tag % 3)) (i.tag / 3) g h first n f has) refl;
    })

pub few-pages : (o : Order) → pages_of o ≤ 2 ^ 18
few-pages order.K4 = omega arith
few-pages order.M2 = omega arith
few-pages order.G1 = omega arith

pub order-known : (o : Order) (i : Item) → i.tag % 3 ≡ level_of o → o ≡ order_at (i.tag % 3)
order-known o i e = sym (at-level o) ∙ ap order_at (sym e)

-- a block is found by its leaf
pub block-found : (b : Block) (x : Leaf) (o : Option Leaf) → Some x ≡ o → IsBlockOf b x → IsFoundBlock (Some b) o
block-found b x o e is = subst (λ (y : Option Leaf). IsFoundBlock (Some b) y) e is

pub no-block : (o : Option Leaf) → None ≡ o → IsFoundBlock None o
no-block o e = subst (λ (y : Option Leaf). IsFoundBlock None y) e tt

-- the word of a page, by the leaf
pub leaf-says : (x : Leaf) (page result : ℕ) → result ≡ (x.frame + (page - x.first)) * 16 + perm_code x.perm → IsPageWord page result x
leaf-says x page result e = record {
  frame = ap (λ (n : ℕ). n / 16) e ∙ frame-back (x.frame + (page - x.first)) x.perm;
  perm = ap (λ (n : ℕ). perm_at n) e ∙ perm-back (x.frame + (page - x.first)) x.perm;
}

-- lists of items, as lists of leaves
module _ (g : ℕ) (items : List Item) where
  pub found-leaf : (i : Item) → Some i ≡ find (is_among (tag_of g order.K4) (tag_of g order.M2) (tag_of g order.G1)) items → find (covers_guest g) (map leaf_of items) ≡ Some (leaf_of i)
  found-leaf i e = find-some leaf_of (covers_guest g) (is_among (tag_of g order.K4) (tag_of g order.M2) (tag_of g order.G1)) (λ x. same-page g x) items i (sym e)

  pub found-covers : (i : Item) → Some i ≡ find (is_among (tag_of g order.K4) (tag_of g order.M2) (tag_of g order.G1)) items → covers_guest g (leaf_of i) ≡ true
  found-covers i e = sym (same-page g i) ∙ find-passes (is_among (tag_of g order.K4) (tag_of g order.M2) (tag_of g order.G1)) i items (sym e)

  pub found-small : (i : Item) → AreSmall items → Some i ≡ find (is_among (tag_of g order.K4) (tag_of g order.M2) (tag_of g order.G1)) items → i.word < 2 ^ 48
  found-small i all e = all.small i (find-In (is_among (tag_of g order.K4) (tag_of g order.M2) (tag_of g order.G1)) i items (sym e))

  pub found-in : (i : Item) → Some i ≡ find (is_among (tag_of g order.K4) (tag_of g order.M2) (tag_of g order.G1)) items → In i items
  found-in i e = find-In (is_among (tag_of g order.K4) (tag_of g order.M2) (tag_of g order.G1)) i items (sym e)

  pub found-nothing : None ≡ find (is_among (tag_of g order.K4) (tag_of g order.M2) (tag_of g order.G1)) items → find (covers_guest g) (map leaf_of items) ≡ None
  found-nothing e = find-none leaf_of (covers_guest g) (is_among (tag_of g order.K4) (tag_of g order.M2) (tag_of g order.G1)) (λ x. same-page g x) items (sym e)

  pub touched-leaves : (new : List Item) → new ≡ touched (is_among (tag_of g order.K4) (tag_of g order.M2) (tag_of g order.G1)) items → map leaf_of new ≡ touched (covers_guest g) (map leaf_of items)
  touched-leaves new e =
      ap (λ (xs : List Item). map leaf_of xs) e
      ∙ sym (touched-map leaf_of (covers_guest g) (is_among (tag_of g order.K4) (tag_of g order.M2) (tag_of g order.G1)) (λ x. same-page g x) items)

pub filled-leaves : (x : Leaf) (i : Item) (width : ℕ) (items new : List Item) → leaf_of i ≡ x → new ≡ with_newest width i items → map leaf_of new ≡ with_newest width x (map leaf_of items)
filled-leaves x i width items new back e =
    ap (λ (xs : List Item). map leaf_of xs) e ∙ sym (newest-map leaf_of width i items) ∙ ap (λ (y : Leaf). with_newest width y (map leaf_of items)) back

pub purged-leaves : (g : ℕ) (o : Order) (items new : List Item) → IsPlace g o (2 ^ 29) → new ≡ purged (has_tag (tag_of g o)) items
    → map leaf_of new ≡ purged (is_leaf (host_space g) (host_page g) o) (map leaf_of items)
purged-leaves g o items new place e =
    ap (λ (xs : List Item). map leaf_of xs) e
    ∙ sym (purged-map leaf_of (is_leaf (host_space g) (host_page g) o) (has_tag (tag_of g o)) (λ x. same-leaf g o place x) items)

-- the words stay small
pub none-small : AreSmall []
none-small = record { small = λ i m. absurd m }

pub touched-small : (p : Item → Bool) (items new : List Item) → AreSmall items → new ≡ touched p items → AreSmall new
touched-small p items new all e = record { small = λ i m. all.small i (touched-In p i items (subst (λ (xs : List Item). In i xs) e m)) }

pub filled-small : (width : ℕ) (x : Item) (items new : List Item) → AreSmall items → x.word < 2 ^ 48 → new ≡ with_newest width x items → AreSmall new
filled-small width x items new all low e = record {
  small = λ i m. elim (newest-In width i x items (subst (λ (xs : List Item). In i xs) e m)) [
    | inl f ↦ subst (λ (z : Item). z.word < 2 ^ 48) (sym f) low
    | inr k ↦ all.small i k
  ];
}

pub purged-small : (p : Item → Bool) (items new : List Item) → AreSmall items → new ≡ purged p items → AreSmall new
purged-small p items new all e = record { small = λ i m. all.small i (purged-In p i items (subst (λ (xs : List Item). In i xs) e m)).0 }
