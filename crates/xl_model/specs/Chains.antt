-- Keys and tags, and the chains of a hashed or clustered table (the clustered table follows Talluri,
-- Hill and Khalidi, 1995: sixteen consecutive pages under one tag).
use Rattle.std.specs.Prelude.{ℕ, suc, ◌+◌, ◌*◌, ◌/◌, ◌%◌, ◌^◌, ◌==◌, Bool, nat_lt, if◌then◌else◌, List, [], ◌∷◌, filter}
use Rattle.std.specs.List.{list_any}
use Rattle.xl_model.specs.declared.address.Order.{Order}
use Rattle.xl_model.specs.declared.leaf.Leaf.{Leaf}
use Rattle.xl_model.specs.Addresses.{level_of, pages_of}
use Rattle.xl_model.specs.Hashes.{mix}

-- the key of the leaf, or of the group of leaves, of this order in which a page lies
abbrev pub key_of : ℕ → ℕ → Order → ℕ → ℕ
key_of group space o page = space * 2 ^ 45 + page / pages_of o / group

-- the key with the order's index in front
abbrev pub tag_of : ℕ → ℕ → Order → ℕ → ℕ
tag_of group space o page = level_of o * 2 ^ 60 + key_of group space o page

-- The tag of a leaf, or of its group.
abbrev pub leaf_tag : ℕ → Leaf → ℕ
leaf_tag group leaf = tag_of group leaf.space leaf.order leaf.first

-- The tags of all chains are in one list, bucket by bucket, newest first in each bucket.
abbrev pub bucket_of : ℕ → ℕ → ℕ
bucket_of buckets tag = mix tag % buckets

-- The tags of a bucket, newest first.
unfoldable pub chain_of : ℕ → ℕ → List ℕ → List ℕ
chain_of buckets bucket tags = filter (λ t. bucket_of buckets t == bucket) tags

-- The tags with one more, in front of those of its bucket.
abbrev pub in_front_of_bucket : ℕ → ℕ → List ℕ → List ℕ
in_front_of_bucket buckets tag [] = tag ∷ []
in_front_of_bucket buckets tag (t ∷ ts) =
    if nat_lt (bucket_of buckets t) (bucket_of buckets tag)
    then t ∷ in_front_of_bucket buckets tag ts
    else (tag ∷ t ∷ ts)

-- A tag is among these.
abbrev pub has_tag : List ℕ → ℕ → Bool
has_tag tags tag = list_any (λ t. t == tag) tags

-- A tag that comes goes in front of its bucket; one that is there moves nothing.
unfoldable pub with_tag : ℕ → ℕ → List ℕ → List ℕ
with_tag buckets tag tags = if has_tag tags tag then tags else in_front_of_bucket buckets tag tags

-- A tag that no leaf has any more goes, and its chain closes up.
unfoldable pub only_used_tags : ℕ → List Leaf → List ℕ → List ℕ
only_used_tags group leaves tags = filter (λ t. list_any (λ leaf. leaf_tag group leaf == t) leaves) tags

-- the entries of a chain that a search examines: up to and with the one that has the tag, or all
abbrev pub examined : ℕ → List ℕ → ℕ
examined tag [] = 0
examined tag (t ∷ ts) = if t == tag then 1 else suc (examined tag ts)
