-- The word of a page of a leaf.
use Rattle.xl_array.proofs.Common.{◌%◌, ◌*◌, ◌+◌, ◌-◌, ◌/◌, ◌<◌, ◌^◌, ◌≡◌, arith, leaf_with, Order, pages_of, refl, small_leaf, ℕ}
use Rattle.xl_array.specs.Touches.{IsPageWord}
unfoldable use Rattle.xl_model.specs.LeafWords.{perm_at}

-- a permission is four bits, and a frame is above them
same_perm : (word following : ℕ) → perm_at ((word + following * 16) % 2 ^ 64) ≡ perm_at word
unfolding perm_at
same_perm word following =
    let n : ℕ = (word + following * 16) % 2 ^ 64 in
    let one : n % 2 ≡ word % 2 = omega arith in
    let two : n / 2 % 2 ≡ word / 2 % 2 = omega arith in
    let four : n / 4 % 2 ≡ word / 4 % 2 = omega arith in
    let eight : n / 8 % 2 ≡ word / 8 % 2 = omega arith in
    rw (one, two, four, eight) refl

pub page_says : (space page word following result : ℕ) (o : Order) → following ≡ page - page / pages_of o * pages_of o → result ≡ (word + following * 16) % 2 ^ 64
    → IsPageWord page result (leaf_with space page o word)
page_says space page word following result o is e =
    let there : word / 16 + following < 2 ^ 60 → (word + following * 16) % 2 ^ 64 / 16 ≡ word / 16 + following = λ fits. omega arith in
    record { frame = rw (e, ← is) there; perm = rw e (same_perm word following) }

-- a leaf of 4 KiB has one page
pub small_says : (space page word : ℕ) → IsPageWord page word (small_leaf space page word)
small_says space page word = record { frame = λ fits. omega arith; perm = refl }
