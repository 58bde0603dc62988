-- Items with tags, bucket by bucket, as the chains of a table have them.
use Rattle.std.specs.Prelude.{List, [], if◌then◌else◌, nat_lt, suc, zero, ℕ, ◌++◌, ◌∷◌}
use Rattle.xl_model.specs.Chains.{bucket_of}

-- an item is before the first of a bucket that isn't lower than its own
abbrev pub in_front_by : {A : Type 0} → (A → ℕ) → ℕ → A → List A → List A
in_front_by tag buckets x [] = x ∷ []
in_front_by tag buckets x (y ∷ ys) =
    if nat_lt (bucket_of buckets (tag y)) (bucket_of buckets (tag x))
    then y ∷ in_front_by tag buckets x ys
    else (x ∷ y ∷ ys)

-- the items of n buckets, one bucket after another
abbrev pub gather : {A : Type 0} → (ℕ → List A) → ℕ → List A
gather bucket zero = []
gather bucket (suc n) = gather bucket n ++ bucket n
