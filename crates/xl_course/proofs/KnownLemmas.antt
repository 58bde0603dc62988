-- What follows from facts on the files of a folder whose files are known.
use Rattle.xl_course.proofs.Common.{◌≡◌, ap, Err, Files, IfSome, None, Ok, Option, Result, Some, subst}
use Rattle.std.specs.Result.{IsErrAnd}

-- a fact of all files
pub known_all : (fs : Option Files) (P : Files → Type 0) → ((f : Files) → P f) → IfSome fs P
known_all None P h = tt
known_all (Some fs) P h = h fs

-- one fact
pub known_one : (fs : Option Files) (P Q : Files → Type 0) → IfSome fs P → ((f : Files) → P f → Q f) → IfSome fs Q
known_one None P Q h f = tt
known_one (Some fs) P Q h f = f fs h

-- one fact, and another of the same files after a call
pub known_then : (fs gs : Option Files) (P Q R : Files → Type 0) → gs ≡ fs → IfSome fs P → IfSome gs Q → ((f : Files) → P f → Q f → R f) → IfSome fs R
known_then None gs P Q R e h k f = tt
known_then (Some fs) gs P Q R e h k f = f fs h (subst (λ (z : Option Files). IfSome z Q) e k)

-- the error that a `?` hands on
pub is_err_by : {A E : Type 0} (r : Result A E) (e : E) → IsErrAnd r (λ d. d ≡ e) → r ≡ Err e
is_err_by (Ok v) e h = absurd h
is_err_by (Err d) e h = ap Err h
