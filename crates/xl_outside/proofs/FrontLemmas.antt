-- What was read so far of a file that is known.
use Rattle.xl_outside.proofs.Common.{◌++◌, ◌+◌, ◌∙◌, ◌≡◌, ◌≤◌, [], ap, arith, drop, file_of, Files, IfSome, length, length-append, length-take, List, None, Ok, Option, ReadsFile, Some, subst, sym, take, take-add, take-take, ℕ}

-- nothing of a file that isn't there, and the first bytes of one that is
abbrev pub IsFrontOf : Option (List ℕ) → List ℕ → Type 0
IsFrontOf None bytes = bytes ≡ []
IsFrontOf (Some file) bytes = bytes ≡ take (length bytes) file

-- bytes that are read after a front make it longer
pub front_more : (file : Option (List ℕ)) (xs : List ℕ) (n w : ℕ) (old new : List ℕ)
    → IsFrontOf file xs → ReadsFile file (length xs) (Ok n) old new → w ≤ n → n ≤ length new → IsFrontOf file (xs ++ take w new)
front_more None xs n w old new front tells h k = absurd tells
front_more (Some file) xs n w old new front reads h k =
    let part : take w new ≡ take w (drop (length xs) file) =
    sym (take-take w n new h) ∙ ap (take w) reads.bytes ∙ take-take w n (drop (length xs) file) h in
    let size : length (xs ++ take w new) ≡ length xs + w = omega (arith, length-append xs (take w new), length-take w new) in
    ap (λ (ys : List ℕ). ys ++ take w new) front ∙ ap (λ (ys : List ℕ). take (length xs) file ++ ys) part
    ∙ sym (take-add (length xs) w file) ∙ sym (ap (λ (m : ℕ). take m file) size)

-- the same, of the file of a name in a folder whose files are known
pub more_read : (fs gs : Option Files) (name xs : List ℕ) (at n w : ℕ) (old new after : List ℕ) → gs ≡ fs
    → IfSome fs (λ f. IsFrontOf (file_of f name) xs) → at ≡ length xs
    → IfSome gs (λ f. ReadsFile (file_of f name) at (Ok n) old new)
    → w ≤ n → n ≤ length new → after ≡ xs ++ take w new → IfSome fs (λ f. IsFrontOf (file_of f name) after)
more_read None gs name xs at n w old new after same front e tells h k a = tt
more_read (Some f) gs name xs at n w old new after same front e tells h k a =
    let known = subst (λ (m : ℕ). ReadsFile (file_of f name) m (Ok n) old new) e (subst (λ (o : Option Files). IfSome o (λ f. ReadsFile (file_of f name) at (Ok n) old new)) same tells) in
    rw a (front_more (file_of f name) xs n w old new front known h k)
