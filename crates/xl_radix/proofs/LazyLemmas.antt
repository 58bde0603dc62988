-- Words of which only the first are kept.
use Rattle.xl_radix.proofs.Common.{◌++◌, ◌+◌, ◌-◌, ◌<◌, ◌∙◌, ◌≡◌, ◌≤◌, [], ap, append_assoc, arith, get_or-replicate, get_or_append_left, length, length-append, length-replicate, List, replicate, replicate-append-replicate, slice_set as set, set-append_left, slice_index, sym, take, take_all, ℕ}
use Rattle.std.proofs.Math.Seq.{get_or-append_right}
use Rattle.xl_radix.specs.Lazy.{IsFront, padded}

pub length_padded : (size : ℕ) (kept : List ℕ) → length kept ≤ size → length (padded size kept) ≡ size
unfolding padded
length_padded size kept h = omega (arith, length-append kept (replicate (size - length kept) 0), length-replicate {A = ℕ} (size - length kept) 0)

pub kept_word : (size i : ℕ) (kept : List ℕ) → i < length kept → slice_index (padded size kept) i ≡ slice_index kept i
unfolding padded
kept_word size i kept h = get_or_append_left kept (replicate (size - length kept) 0) 0 i h

pub zero_word : (size i : ℕ) (kept : List ℕ) → length kept ≤ i → i < size → slice_index (padded size kept) i ≡ 0
unfolding padded
zero_word size i kept h k =
    get_or-append_right kept (replicate (size - length kept) 0) i 0 h ∙ get_or-replicate (size - length kept) (i - length kept) 0 0 (omega arith)

-- more words are kept
pub more_kept : (size end : ℕ) (kept : List ℕ) → length kept ≤ end → end ≤ size → padded size (take end kept ++ replicate (end - length kept) 0) ≡ padded size kept
unfolding padded
more_kept size end kept h k =
    let n : ℕ = end - length kept in
    let whole : take end kept ≡ kept = take_all end kept h in
    let e : size - length (kept ++ replicate n 0) ≡ size - end = omega (arith, length-append kept (replicate n 0), length-replicate {A = ℕ} n 0) in
    let f : n + (size - end) ≡ size - length kept = omega arith in
    rw (whole, e) (append_assoc kept (replicate n 0) (replicate (size - end) 0) ∙ ap (λ (xs : List ℕ). kept ++ xs) (replicate-append-replicate n (size - end) 0 ∙ ap (λ (m : ℕ). replicate m 0) f))

pub set_kept : (size i word : ℕ) (kept new : List ℕ) → i < length kept → new ≡ set kept i word → length new ≡ length kept → padded size new ≡ set (padded size kept) i word
unfolding padded
set_kept size i word kept new h e n =
    rw n (ap (λ (xs : List ℕ). xs ++ replicate (size - length kept) 0) e ∙ sym (set-append_left kept (replicate (size - length kept) 0) i word h))

pub is_front : (size : ℕ) (kept : List ℕ) → length kept ≤ size → IsFront kept (padded size kept)
is_front size kept h = let n = length_padded size kept h in record { short = omega arith; same = λ i l. kept_word size i kept l }

pub none_kept : (size : ℕ) (kept : List ℕ) → kept ≡ [] → padded size kept ≡ replicate size 0
unfolding padded
none_kept size kept e = let z : size - 0 ≡ size = omega arith in rw e (ap (λ (n : ℕ). replicate n 0) z)
