-- The tags of a table of chains are exactly those of its leaves, at every change.
use Rattle.xl_model_laws.proofs.Common.{◌==◌, ◌∙◌, ◌∷◌, ◌≡◌, ◌⊎◌, [], any-In, ap, Bool, brought, Chained, Change, changed, changed-In, cond, Cuckoo, CuckooRules, CuckooWays, eq-eqb, eqb-true, false, filter, filter-In, filter-passes, finds_place, In, In-any, In-filter, inl, inr, Leaf, levels_of, List, list_any, narrowed, nat_lt, Node, None, Once, opening_shape, Option, Radix, refl, Row, run, Runs, Shape, shape_after, Some, subst, sym, Table, true, widened, ℕ}
use Rattle.xl_model.specs.Chains.{bucket_of, has_tag, in_front_of_bucket, leaf_tag, only_used_tags, tag_of, with_tag}
use Rattle.xl_model_laws.proofs.FreshNodeLemmas.{new-brought}
use Rattle.xl_model_laws.proofs.TableRunLemmas.{run-holds, TableKeeps}
use Rattle.xl_model_laws.specs.Tags.{AreTagsOf, HasTags, HasTagsWith, RoomIsForAllTags, TheTagsAreTheLeaves}
use Rattle.xl_model.specs.declared.row.Table.TheVariants as table

-- a tag put in front of its bucket
front-In : (b tag t : ℕ) (tags : List ℕ) → In t (in_front_of_bucket b tag tags) → (t ≡ tag) ⊎ In t tags
front-In b tag t [] (inl e) = inl e
front-In b tag t [] (inr i) = absurd i
front-In b tag t (u ∷ us) i =
    elim (nat_lt (bucket_of b u) (bucket_of b tag)) as (λ c. In t (cond c (u ∷ in_front_of_bucket b tag us) (tag ∷ u ∷ us)) → (t ≡ tag) ⊎ In t (u ∷ us)) [
      | true ↦ λ j. elim j [
        | inl e ↦ inr (inl e)
        | inr k ↦ elim (front-In b tag t us k) [ inl e ↦ inl e | inr l ↦ inr (inr l) ]
      ]
      | false ↦ λ j. elim j [ inl e ↦ inl e | inr k ↦ inr k ]
    ] i

In-front : (b tag : ℕ) (tags : List ℕ) → In tag (in_front_of_bucket b tag tags)
In-front b tag [] = inl refl
In-front b tag (u ∷ us) =
    elim (nat_lt (bucket_of b u) (bucket_of b tag)) as (λ c. In tag (cond c (u ∷ in_front_of_bucket b tag us) (tag ∷ u ∷ us))) [
      | true ↦ inr (In-front b tag us)
      | false ↦ inl refl
    ]

stays-front : (b tag t : ℕ) (tags : List ℕ) → In t tags → In t (in_front_of_bucket b tag tags)
stays-front b tag t [] i = absurd i
stays-front b tag t (u ∷ us) i =
    elim (nat_lt (bucket_of b u) (bucket_of b tag)) as (λ c. In t (cond c (u ∷ in_front_of_bucket b tag us) (tag ∷ u ∷ us))) [
      | true ↦ elim i [ inl e ↦ inl e | inr j ↦ inr (stays-front b tag t us j) ]
      | false ↦ inr i
    ]

front-once : (b tag : ℕ) (tags : List ℕ) → Once tags → (In tag tags → ⊥) → Once (in_front_of_bucket b tag tags)
front-once b tag [] o out = (λ i. i, tt)
front-once b tag (u ∷ us) (first, rest) out =
    elim (nat_lt (bucket_of b u) (bucket_of b tag)) as (λ c. Once (cond c (u ∷ in_front_of_bucket b tag us) (tag ∷ u ∷ us))) [
      | true ↦ (
        λ i. elim (front-In b tag u us i) [ inl e ↦ out (inl (sym e)) | inr j ↦ first j ],
        front-once b tag us rest (λ i. out (inr i)),
      )
      | false ↦ (out, (first, rest))
    ]

filter-once : (p : ℕ → Bool) (tags : List ℕ) → Once tags → Once (filter p tags)
filter-once p [] o = tt
filter-once p (t ∷ ts) (first, rest) =
    elim (p t) as (λ b. Once (cond b (t ∷ filter p ts) (filter p ts))) [
      | true ↦ (λ i. first (filter-In p t ts i), filter-once p ts rest)
      | false ↦ filter-once p ts rest
    ]

-- a tag that comes
there-or : (tag : ℕ) (tags : List ℕ) → has_tag tags tag ≡ true → In tag tags
there-or tag tags h =
    let found = any-In (λ t. t == tag) tags h in
    subst (λ t. In t tags) (eqb-true found.0 tag found.2) found.1

not-there : (tag : ℕ) (tags : List ℕ) → has_tag tags tag ≡ false → In tag tags → ⊥
not-there tag tags h i =
    let t : has_tag tags tag ≡ true = In-any (λ u. u == tag) tag tags i (eq-eqb tag tag refl) in
    let k : true ≡ false = sym t ∙ h in
    absurd (cc)

put-In : (b tag t : ℕ) (tags : List ℕ) → In t (with_tag b tag tags) → (t ≡ tag) ⊎ In t tags
unfolding with_tag
put-In b tag t tags i =
    elim (has_tag tags tag) as (λ c. In t (cond c tags (in_front_of_bucket b tag tags)) → (t ≡ tag) ⊎ In t tags) [
      | true ↦ λ j. inr j
      | false ↦ λ j. front-In b tag t tags j
    ] i

In-put : (b tag : ℕ) (tags : List ℕ) → In tag (with_tag b tag tags)
unfolding with_tag
In-put b tag tags =
    elim (has_tag tags tag) as (λ c. has_tag tags tag ≡ c → In tag (cond c tags (in_front_of_bucket b tag tags))) [
      | true ↦ λ t. there-or tag tags t
      | false ↦ λ t. In-front b tag tags
    ] refl

stays-put : (b tag t : ℕ) (tags : List ℕ) → In t tags → In t (with_tag b tag tags)
unfolding with_tag
stays-put b tag t tags i = elim (has_tag tags tag) as (λ c. In t (cond c tags (in_front_of_bucket b tag tags))) [ true ↦ i | false ↦ stays-front b tag t tags i ]

put-once : (b tag : ℕ) (tags : List ℕ) → Once tags → Once (with_tag b tag tags)
unfolding with_tag
put-once b tag tags o =
    elim (has_tag tags tag) as (λ c. has_tag tags tag ≡ c → Once (cond c tags (in_front_of_bucket b tag tags))) [
      | true ↦ λ t. o
      | false ↦ λ t. front-once b tag tags o (not-there tag tags t)
    ] refl

-- the tags with those of a leaf that a change brings
abbrev wide_tags : ℕ → ℕ → Option Leaf → List ℕ → List ℕ
wide_tags group buckets None tags = tags
wide_tags group buckets (Some leaf) tags = with_tag buckets (leaf_tag group leaf) tags

shape-is : (group buckets entries : ℕ) (tags : List ℕ) (c : Change) (leaves : List Leaf)
    → shape_after c leaves (Chained group buckets entries tags) ≡ Chained group buckets entries (only_used_tags group (changed c leaves) (wide_tags group buckets (brought c leaves) tags))
unfolding shape_after
shape-is group buckets entries tags c leaves = go (brought c leaves)
  where
    go : (leaf : Option Leaf) → narrowed c leaves (widened leaf (Chained group buckets entries tags)) ≡ Chained group buckets entries (only_used_tags group (changed c leaves) (wide_tags group buckets leaf tags))
    go None = refl
    go (Some leaf) = refl

wide-once : (group buckets : ℕ) (leaf : Option Leaf) (tags : List ℕ) → Once tags → Once (wide_tags group buckets leaf tags)
wide-once group buckets None tags o = o
wide-once group buckets (Some leaf) tags o = put-once buckets (leaf_tag group leaf) tags o

wide-stays : (group buckets t : ℕ) (leaf : Option Leaf) (tags : List ℕ) → In t tags → In t (wide_tags group buckets leaf tags)
wide-stays group buckets t None tags i = i
wide-stays group buckets t (Some leaf) tags i = stays-put buckets (leaf_tag group leaf) t tags i

same-tag : (group : ℕ) (x y : Leaf) → x.space ≡ y.space → x.first ≡ y.first → x.order ≡ y.order → leaf_tag group x ≡ leaf_tag group y
same-tag group x y a b c = ap (λ s. tag_of group s x.order x.first) a ∙ ap (λ f. tag_of group y.space x.order f) b ∙ ap (λ o. tag_of group y.space o y.first) c

tags-after : (group buckets : ℕ) (tags : List ℕ) (c : Change) (leaves : List Leaf) → AreTagsOf group leaves tags
    → AreTagsOf group (changed c leaves) (only_used_tags group (changed c leaves) (wide_tags group buckets (brought c leaves) tags))
unfolding only_used_tags
tags-after group buckets tags c leaves h = record {
  once = filter-once used wide (wide-once group buckets (brought c leaves) tags h.once);
  there = λ leaf i. In-filter used (leaf_tag group leaf) wide (wide-there leaf i) (In-any (λ z. leaf_tag group z == leaf_tag group leaf) leaf (changed c leaves) i (eq-eqb (leaf_tag group leaf) (leaf_tag group leaf) refl));
  only = λ tag i.
      let found = any-In (λ z. leaf_tag group z == tag) (changed c leaves) (filter-passes used tag wide i) in
      (found.0, found.1, sym (eqb-true (leaf_tag group found.0) tag found.2));
}
  where
    wide : List ℕ
    wide = wide_tags group buckets (brought c leaves) tags

    used : ℕ → Bool
    used = λ t. list_any (λ z. leaf_tag group z == t) (changed c leaves)

    wide-there : (leaf : Leaf) → In leaf (changed c leaves) → In (leaf_tag group leaf) (wide_tags group buckets (brought c leaves) tags)
    wide-there leaf i = elim (changed-In leaves c leaf i) [
      | inr j ↦ wide-stays group buckets (leaf_tag group leaf) (brought c leaves) tags (h.there leaf j)
      | inl new ↦ subst (λ z. In (leaf_tag group z) (wide_tags group buckets (brought c leaves) tags)) (sym new.2) (elim (new-brought c leaves new.0 new.1) [
        | inl b ↦ subst (λ o. In (leaf_tag group new.0) (wide_tags group buckets o tags)) (sym b) (In-put buckets (leaf_tag group new.0) tags)
        | inr old ↦ wide-stays group buckets (leaf_tag group new.0) (brought c leaves) tags
            (subst (λ t. In t tags) (sym (same-tag group new.0 old.0 old.2 old.3 old.4)) (h.there old.0 old.1))
      ])
    ]

-- other shapes have no tags
other-radix : (c : Change) (leaves : List Leaf) (levels spaces : ℕ) (nodes : List (Option Node)) (leaf : Option Leaf) → HasTags (changed c leaves) (narrowed c leaves (widened leaf (Radix levels spaces nodes)))
other-radix c leaves levels spaces nodes None = tt
other-radix c leaves levels spaces nodes (Some leaf) = tt

other-cuckoo : (c : Change) (leaves : List Leaf) (leaf : Option Leaf) (rules : CuckooRules) (ways : CuckooWays) → HasTags (changed c leaves) (narrowed c leaves (widened leaf (Cuckoo rules ways)))
other-cuckoo c leaves None rules ways = tt
other-cuckoo c leaves (Some leaf) rules ways = tt

other-runs : (c : Change) (leaves : List Leaf) (ranges : ℕ) (leaf : Option Leaf) → HasTags (changed c leaves) (narrowed c leaves (widened leaf (Runs ranges)))
other-runs c leaves ranges None = tt
other-runs c leaves ranges (Some leaf) = tt

tags-keep : (row : Row) → TableKeeps row HasTags
unfolding shape_after
tags-keep row = record {
  made = λ c leaves shape m s room place h. made c leaves shape h;
  refused = λ leaf leaves shape caps h. refused leaf leaves shape caps h;
}
  where
    made : (c : Change) (leaves : List Leaf) (shape : Shape) → HasTags leaves shape → HasTags (changed c leaves) (shape_after c leaves shape)
    made c leaves (Chained group buckets entries tags) h =
        subst (HasTags (changed c leaves)) (sym (shape-is group buckets entries tags c leaves)) (tags-after group buckets tags c leaves h)
    made c leaves (Radix levels spaces nodes) h = other-radix c leaves levels spaces nodes (brought c leaves)
    made c leaves (Cuckoo rules ways) h = other-cuckoo c leaves (brought c leaves) rules ways
    made c leaves (Runs ranges) h = other-runs c leaves ranges (brought c leaves)

    refused : (leaf : Option Leaf) (leaves : List Leaf) (shape : Shape) → finds_place leaf shape ≡ false → HasTags leaves shape → HasTags leaves (widened leaf shape)
    refused None leaves shape caps h = h
    refused (Some leaf) leaves (Radix levels spaces nodes) caps h = tt
    refused (Some leaf) leaves (Chained group buckets entries tags) caps h = absurd (cc)
    refused (Some leaf) leaves (Cuckoo rules ways) caps h = tt
    refused (Some leaf) leaves (Runs ranges) caps h = tt

opening-tags : (levels spaces : ℕ) (t : Table) → HasTags [] (opening_shape levels spaces t)
unfolding opening_shape
opening-tags levels spaces (table.Radix frames caches) = tt
opening-tags levels spaces (table.Hashed buckets entries) = record { once = tt; there = λ leaf i. absurd i; only = λ tag i. absurd i }
opening-tags levels spaces (table.Clustered buckets blocks) = record { once = tt; there = λ leaf i. absurd i; only = λ tag i. absurd i }
opening-tags levels spaces (table.Cuckoo ways start cap threshold kick_limit migrate sections_2m sections_1g caches) = tt
opening-tags levels spaces (table.Range ranges tlb) = tt

pub the_tags_are_the_leaves : TheTagsAreTheLeaves
the_tags_are_the_leaves row items = (run-holds row HasTags (tags-keep row) (opening-tags (levels_of row.mode) row.spaces row.table) items).holds

-- the tags of the leaves with one more
tags-with : (leaf : Leaf) (leaves : List Leaf) (shape : Shape) → HasTags leaves shape → HasTagsWith leaf leaves shape
tags-with leaf leaves (Radix levels spaces nodes) h = tt
tags-with leaf leaves (Chained group buckets entries tags) h = record {
  once = put-once buckets (leaf_tag group leaf) tags h.once;
  there = λ x i. elim i [
    | inl e ↦ subst (λ z. In (leaf_tag group z) (with_tag buckets (leaf_tag group leaf) tags)) (sym e) (In-put buckets (leaf_tag group leaf) tags)
    | inr j ↦ stays-put buckets (leaf_tag group leaf) (leaf_tag group x) tags (h.there x j)
  ];
  only = λ tag i. elim (put-In buckets (leaf_tag group leaf) tag tags i) [
    | inl e ↦ (leaf, inl refl, e)
    | inr j ↦ (let o = h.only tag j in (o.0, inr o.1, o.2))
  ];
}
tags-with leaf leaves (Cuckoo rules ways) h = tt
tags-with leaf leaves (Runs ranges) h = tt

pub room_is_for_all_tags : RoomIsForAllTags
room_is_for_all_tags row items leaf = tags-with leaf (run row items).table.leaves (run row items).table.shape (the_tags_are_the_leaves row items)
