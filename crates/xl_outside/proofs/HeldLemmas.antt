-- Bytes that are held at the front of an array.
use Rattle.xl_outside.proofs.Common.{◌+◌, ◌-◌, ◌∙◌, ◌≡◌, ◌≤◌, ap, arith, drop, drop-take, length, length-drop, List, sym, take, ℕ}
use Rattle.std.proofs.lemmas.List.Edits.{take-paste}
use Rattle.std.specs.List.{copy_within}

-- the held bytes after the first `n` are moved to the front
pub front_dropped : (bytes : List ℕ) (len n : ℕ) → len ≤ length bytes → n ≤ len
    → take (len - n) (copy_within bytes n len 0) ≡ drop n (take len bytes)
front_dropped bytes len n h k =
    let all : n + (len - n) ≡ len = omega arith in
    let none : len - n ≡ 0 + (len - n) = omega arith in
    ap (λ (m : ℕ). take m (copy_within bytes n len 0)) none
    ∙ take-paste bytes 0 (drop n bytes) (len - n) (omega arith) (omega (arith, length-drop n bytes))
    ∙ sym (drop-take n (len - n) bytes) ∙ ap (λ (m : ℕ). drop n (take m bytes)) all
