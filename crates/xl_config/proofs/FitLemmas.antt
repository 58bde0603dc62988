-- A row that is read keeps the rules of a row.
use Rattle.xl_config.proofs.Common.{if◌then◌else◌, ◌&&◌, ◌*◌, ◌++◌, ◌+◌, ◌-◌, ◌<◌, ◌==◌, ◌>>=◌, ◌||◌, ◌∙◌, ◌∷◌, ◌≡◌, ◌≤◌, [], agree, All, ap, arith, array_in, array_of, arrays_by, arrays_from, arrays_in, as_integer, bad, between, Bool, bytes_eq, caches_by, caches_in, checked, clustered_in, codes, count_items, cuckoo_in, Data, drop, element_in, Err, false, found, get_member, Gives, hashed_in, IfOk, is_array, is_array_key, is_known, is_name, is_name_byte, is_table, is_width, is_within, IsRow, item, Items, keyed, kind_in, length, length-append, levels_rise, List, list_all, list_any, Members, mode_in, name_in, names_of, nat_le, needed, no_items, None, none_clash, number_in, number_of, Ok, only_known, Option, order_named, order_of, orders_from, orders_in, pos, purge_in, radix_in, range_in, range_tlb_by, refl, Result, Row, row_in, rows_from, serves_in, set, set as slice_set, Some, subst, suc, sym, table_in, table_of, text_of, true, width_by, width_in, width_of, widths_from, with_order, without_orders, zero, ℕ, ℤ}
use Rattle.xl_model.proofs.BoolLemmas.{both-so, so-both}
use Rattle.std.proofs.lemmas.Bool.{eqb-true, leb-true}
use Rattle.std.proofs.lemmas.List.{drop-set-lt}
use Rattle.std.proofs.lemmas.List.Elements.{All-nil, All-push}
use Rattle.std.proofs.lemmas.List.Folds.{list_all-append}
use Rattle.std.proofs.lemmas.Option.{same_Some}
use Rattle.xl_model.specs.Addresses.{levels_of}
use Rattle.xl_model.specs.declared.address.Mode.{Mode}
use Rattle.xl_model.specs.declared.address.Order.{Order}
use Rattle.xl_model.specs.declared.row.Table.{Table}
use Rattle.xl_model.specs.declared.row.TlbSpec.{TlbSpec}
use Rattle.xl_config.specs.declared.fault.ConfigFault.{ConfigFault}
use Rattle.xl_config.specs.declared.fault.KeyFault.{KeyFault}
use Rattle.xl_config.specs.declared.kind.TableKind.{TableKind}
use Rattle.xl_model.specs.declared.address.Mode.TheVariants as mode
use Rattle.xl_model.specs.declared.address.Order.TheVariants as order
use Rattle.xl_config.specs.declared.fault.Rule.TheVariants as rule
use Rattle.xl_config.specs.declared.kind.TableKind.TheVariants as kind

-- what is read, if it is, keeps a rule
abbrev pub Fits : {A : Type 0} → (A → Type 0) → Result A KeyFault → Type 0
Fits P (Ok a) = P a
Fits P (Err e) = Unit {0}

then_fits : {A B : Type 0} (P : A → Type 0) (Q : B → Type 0) (r : Result A KeyFault) (f : A → Result B KeyFault)
    → Fits P r → ((a : A) → P a → Fits Q (f a)) → Fits Q (r >>= f)
then_fits P Q (Ok a) f h k = k a h
then_fits P Q (Err e) f h k = tt

-- whatever was read before
then_any : {A B : Type 0} (Q : B → Type 0) (r : Result A KeyFault) (f : A → Result B KeyFault) → ((a : A) → Fits Q (f a)) → Fits Q (r >>= f)
then_any Q (Ok a) f k = k a
then_any Q (Err e) f k = tt

needed_fits : {A : Type 0} (P : A → Type 0) (e : KeyFault) (o : Option A) → ((a : A) → o ≡ Some a → P a) → Fits P (needed e o)
needed_fits P e None h = tt
needed_fits P e (Some a) h = h a refl

checked_fits : {A : Type 0} (P : A → Type 0) (e : KeyFault) (test : Bool) (a : A) → (test ≡ true → P a) → Fits P (checked e test a)
checked_fits P e true a h = h refl
checked_fits P e false a h = tt

-- numbers lie in their limits
between_is : (least most : ℕ) (z : ℤ) (n : ℕ) → between least most z ≡ Some n → is_within least most n ≡ true
between_is least most (pos m) n h =
    elim (is_within least most m) as (λ v. is_within least most m ≡ v → (if v then Some m else None) ≡ Some n → is_within least most n ≡ true)
    [ true ↦ λ is e. let P : ℕ → Type 0 = λ k. is_within least most k ≡ true in subst P (same_Some m n e) is | false ↦ λ is e. cc ] refl h
between_is least most _ n h = cc

number_fits : (row key : ℕ) (name : List ℕ) (least most : ℕ) (ms : Members) → Fits (λ n. is_within least most n ≡ true) (number_in row key name least most ms)
number_fits row key name least most ms =
    then_any _ (found row key name ms) (number_of row key least most) (λ d.
    then_any _ (needed (bad row key rule.WrongType) (as_integer d)) (λ z. needed (bad row key rule.Outside) (between least most z)) (λ z.
    needed_fits _ (bad row key rule.Outside) (between least most z) (between_is least most z)))

-- widths
abbrev IsWidth : ℕ → ℕ → Type 0
IsWidth least n = (is_width n ≡ true) × (nat_le least n ≡ true)

width_is : (least : ℕ) (z : ℤ) (n : ℕ) → width_by least z ≡ Some n → IsWidth least n
width_is least (pos m) n h =
    elim (is_width m && nat_le least m) as (λ v. (is_width m && nat_le least m) ≡ v → (if v then Some m else None) ≡ Some n → IsWidth least n) [
      | true ↦ λ is e. let P : ℕ → Type 0 = λ k. IsWidth least k in subst P (same_Some m n e) (both-so (is_width m) (nat_le least m) is)
      | false ↦ λ is e. cc
    ] refl h
width_is least _ n h = cc

width_fits : (row key least : ℕ) (d : Data) → Fits (IsWidth least) (width_of row key least d)
width_fits row key least d =
    then_any _ (needed (bad row key rule.WrongType) (as_integer d)) (λ z. needed (bad row key rule.Outside) (width_by least z)) (λ z.
    needed_fits _ (bad row key rule.Outside) (width_by least z) (width_is least z))

-- walk caches: all are widths, and those after the first `count` stay 0
abbrev CachesAre : ℕ → List ℕ → Type 0
CachesAre count ws = (list_all is_width ws ≡ true) × (list_all (λ w. w == 0) (drop count ws) ≡ true)

set_widths : (ws : List ℕ) (i w : ℕ) → list_all is_width ws ≡ true → is_width w ≡ true → list_all is_width (set ws i w) ≡ true
set_widths [] i w h k = refl
set_widths (v ∷ ws) zero w h k = so-both (is_width w) (list_all is_width ws) k (both-so (is_width v) (list_all is_width ws) h).1
set_widths (v ∷ ws) (suc i) w h k =
    let parts = both-so (is_width v) (list_all is_width ws) h in
    so-both (is_width v) (list_all is_width (set ws i w)) parts.0 (set_widths ws i w parts.1 k)

set_caches : (count : ℕ) (ws : List ℕ) (i w : ℕ) → i < count → is_width w ≡ true → CachesAre count ws → CachesAre count (set ws i w)
set_caches count ws i w less is h =
    (set_widths ws i w h.0 is, ap (list_all (λ v. v == 0)) (drop-set-lt count ws i w less) ∙ h.1)

widths_fit : (row count i : ℕ) (ds : Items) (ws : List ℕ) → i + count_items ds ≤ count → CachesAre count ws
    → Fits (CachesAre count) (widths_from row i ds ws)
widths_fit row count i no_items ws few h = h
widths_fit row count i (item d ds) ws few h =
    then_fits (IsWidth 0) (CachesAre count) (width_of row 8 0 d) (λ w. widths_from row (i + 1) ds (slice_set ws i w)) (width_fits row 8 0 d) (λ w is.
    widths_fit row count (i + 1) ds (slice_set ws i w) (omega arith) (set_caches count ws i w (omega arith) is.0 h))

caches_fit : (row count : ℕ) (zeros : List ℕ) (ms : Members) → CachesAre count zeros → Fits (CachesAre count) (caches_in row count zeros ms)
caches_fit row count zeros ms h = by_value (get_member (codes "walk_caches") ms)
  where
    by_value : (o : Option Data) → Fits (CachesAre count) (caches_by row count zeros o)
    by_value None = h
    by_value (Some d) =
        then_fits (λ ds. count_items ds ≡ count) (CachesAre count)
        (array_of row 8 d >>= (λ ds. checked (bad row 8 rule.Outside) (count_items ds == count) ds)) (λ ds. widths_from row 0 ds zeros)
        (then_any _ (array_of row 8 d) (λ ds. checked (bad row 8 rule.Outside) (count_items ds == count) ds) (λ ds.
        checked_fits _ (bad row 8 rule.Outside) (count_items ds == count) ds (eqb-true (count_items ds) count)))
        (λ ds is. widths_fit row count 0 ds zeros (omega arith) h)

range_tlb_fits : (row : ℕ) (o : Option Data) → Fits (λ w. is_width w ≡ true) (range_tlb_by row o)
range_tlb_fits row None = refl
range_tlb_fits row (Some d) = only_width (width_of row 21 0 d) (width_fits row 21 0 d)
  where
    only_width : (r : Result ℕ KeyFault) → Fits (IsWidth 0) r → Fits (λ w. is_width w ≡ true) r
    only_width (Ok w) h = h.0
    only_width (Err e) h = tt

-- tables keep their limits
abbrev IsTable : Mode → ℕ → Table → Type 0
IsTable mode spaces t = is_table (levels_of mode) spaces t ≡ true

zero_caches : (mode : Mode) → CachesAre (levels_of mode - 1) (0 ∷ 0 ∷ 0 ∷ 0 ∷ [])
zero_caches mode.Sv39 = (refl, refl)
zero_caches mode.Sv48 = (refl, refl)
zero_caches mode.Sv57 = (refl, refl)

radix_fits : (row : ℕ) (mode : Mode) (spaces : ℕ) (ms : Members) → Fits (IsTable mode spaces) (radix_in row mode spaces ms)
unfolding radix_in
radix_fits row mode spaces ms =
    then_fits _ (IsTable mode spaces) (number_in row 7 (codes "table_frames") spaces 16384 ms) _ (number_fits row 7 (codes "table_frames") spaces 16384 ms) (λ frames h.
    then_fits _ (IsTable mode spaces) (caches_in row (levels_of mode - 1) (0 ∷ 0 ∷ 0 ∷ 0 ∷ []) ms) _ (caches_fit row (levels_of mode - 1) _ ms (zero_caches mode)) (λ caches k.
    so-both _ _ h (so-both _ _ k.0 k.1)))

hashed_fits : (row : ℕ) (mode : Mode) (spaces : ℕ) (ms : Members) → Fits (IsTable mode spaces) (hashed_in row ms)
unfolding hashed_in
hashed_fits row mode spaces ms =
    then_fits _ (IsTable mode spaces) (number_in row 9 (codes "buckets") 1 1048576 ms) _ (number_fits row 9 (codes "buckets") 1 1048576 ms) (λ buckets h.
    then_fits _ (IsTable mode spaces) (number_in row 10 (codes "entries") 1 1048576 ms) _ (number_fits row 10 (codes "entries") 1 1048576 ms) (λ entries k.
    so-both _ _ h k))

clustered_fits : (row : ℕ) (mode : Mode) (spaces : ℕ) (ms : Members) → Fits (IsTable mode spaces) (clustered_in row ms)
unfolding clustered_in
clustered_fits row mode spaces ms =
    then_fits _ (IsTable mode spaces) (number_in row 9 (codes "buckets") 1 1048576 ms) _ (number_fits row 9 (codes "buckets") 1 1048576 ms) (λ buckets h.
    then_fits _ (IsTable mode spaces) (number_in row 11 (codes "blocks") 1 131072 ms) _ (number_fits row 11 (codes "blocks") 1 131072 ms) (λ blocks k.
    so-both _ _ h k))

cuckoo_fits : (row : ℕ) (mode : Mode) (spaces : ℕ) (ms : Members) → Fits (IsTable mode spaces) (cuckoo_in row ms)
unfolding cuckoo_in
cuckoo_fits row mode spaces ms =
    let Q = IsTable mode spaces in
    then_fits _ Q (caches_in row 2 (0 ∷ 0 ∷ []) ms) _ (caches_fit row 2 (0 ∷ 0 ∷ []) ms (refl, refl)) (λ caches a.
    then_fits _ Q (number_in row 12 (codes "ways") 2 4 ms) _ (number_fits row 12 (codes "ways") 2 4 ms) (λ ways b.
    then_fits _ Q (number_in row 13 (codes "start_bits") 0 18 ms) _ (number_fits row 13 (codes "start_bits") 0 18 ms) (λ start c.
    then_fits _ Q (number_in row 14 (codes "cap_bits") start 18 ms) _ (number_fits row 14 (codes "cap_bits") start 18 ms) (λ cap d.
    then_fits _ Q (number_in row 15 (codes "threshold") 1 100 ms) _ (number_fits row 15 (codes "threshold") 1 100 ms) (λ threshold e.
    then_fits _ Q (number_in row 16 (codes "kick_limit") 1 64 ms) _ (number_fits row 16 (codes "kick_limit") 1 64 ms) (λ limit f.
    then_fits _ Q (number_in row 17 (codes "migrate") 1 64 ms) _ (number_fits row 17 (codes "migrate") 1 64 ms) (λ migrate g.
    then_fits _ Q (number_in row 18 (codes "sections_2m") 1 262144 ms) _ (number_fits row 18 (codes "sections_2m") 1 262144 ms) (λ few h.
    then_fits _ Q (number_in row 19 (codes "sections_1g") 1 4096 ms) _ (number_fits row 19 (codes "sections_1g") 1 4096 ms) (λ large i.
    so-both _ _ (so-both _ _ b (so-both _ _ c d))
    (so-both _ _ (so-both _ _ e (so-both _ _ f g)) (so-both _ _ h (so-both _ _ i a.0))))))))))))

range_fits : (row : ℕ) (mode : Mode) (spaces : ℕ) (ms : Members) → Fits (IsTable mode spaces) (range_in row ms)
unfolding range_in
range_fits row mode spaces ms =
    then_fits _ (IsTable mode spaces) (number_in row 20 (codes "ranges") 1 65536 ms) _ (number_fits row 20 (codes "ranges") 1 65536 ms) (λ ranges h.
    then_fits _ (IsTable mode spaces) (range_tlb_by row (get_member (codes "range_tlb") ms)) _ (range_tlb_fits row (get_member (codes "range_tlb") ms)) (λ width k.
    so-both _ _ h k))

table_fits : (k : TableKind) (row : ℕ) (mode : Mode) (spaces : ℕ) (ms : Members) → Fits (IsTable mode spaces) (table_in k row mode spaces ms)
table_fits kind.Radix row mode spaces ms = radix_fits row mode spaces ms
table_fits kind.Hashed row mode spaces ms = hashed_fits row mode spaces ms
table_fits kind.Clustered row mode spaces ms = clustered_fits row mode spaces ms
table_fits kind.Cuckoo row mode spaces ms = cuckoo_fits row mode spaces ms
table_fits kind.Range row mode spaces ms = range_fits row mode spaces ms

-- an order more leaves the rest of an array, and then it has one
has_order : TlbSpec → Bool
has_order t = t.k4 || (t.m2 || t.g1)

abbrev SameSize : TlbSpec → TlbSpec → Type 0
SameSize t u = (u.level ≡ t.level) × (u.sets ≡ t.sets) × (u.width ≡ t.width)

order_more : (o : Order) (t u : TlbSpec) → with_order o t ≡ Some u → SameSize t u × (has_order u ≡ true)
unfolding has_order
order_more order.K4 t u h =
    elim t.k4 as (λ v. (if v then None else Some (record t { k4 = true })) ≡ Some u → SameSize t u × (has_order u ≡ true)) [
      | true ↦ λ e. cc
      | false ↦ λ e. let P : TlbSpec → Type 0 = λ u. SameSize t u × (has_order u ≡ true) in subst P (same_Some _ _ e) ((refl, refl, refl), refl)
    ] h
order_more order.M2 t u h =
    elim t.m2 as (λ v. (if v then None else Some (record t { m2 = true })) ≡ Some u → SameSize t u × (has_order u ≡ true)) [
      | true ↦ λ e. cc
      | false ↦ λ e. let P : TlbSpec → Type 0 = λ u. SameSize t u × (has_order u ≡ true) in subst P (same_Some _ _ e) ((refl, refl, refl), or_true t.k4)
    ] h
  where
    or_true : (b : Bool) → (b || true) ≡ true
    or_true true = refl
    or_true false = refl
order_more order.G1 t u h =
    elim t.g1 as (λ v. (if v then None else Some (record t { g1 = true })) ≡ Some u → SameSize t u × (has_order u ≡ true)) [
      | true ↦ λ e. cc
      | false ↦ λ e. let P : TlbSpec → Type 0 = λ u. SameSize t u × (has_order u ≡ true) in subst P (same_Some _ _ e) ((refl, refl, refl), or_true t.k4 t.m2)
    ] h
  where
    or_true : (a b : Bool) → (a || (b || true)) ≡ true
    or_true true b = refl
    or_true false true = refl
    or_true false false = refl

abbrev Ordered : TlbSpec → TlbSpec → Type 0
Ordered t u = SameSize t u × (has_order u ≡ true)

order_fits : (row : ℕ) (d : Data) (t : TlbSpec) → Fits (Ordered t) (order_of row d t)
order_fits row d t =
    then_any _ (text_of row 22 d >>= (λ s. needed (bad row 22 rule.Outside) (order_named s))) (λ o. needed (bad row 22 rule.Outside) (with_order o t)) (λ o.
    needed_fits _ (bad row 22 rule.Outside) (with_order o t) (order_more o t))

same_on : (t u v : TlbSpec) → SameSize t u → SameSize u v → SameSize t v
same_on t u v h k = (k.0 ∙ h.0, k.1 ∙ h.1, k.2 ∙ h.2)

more_orders : (row : ℕ) (ds : Items) (t u : TlbSpec) → SameSize t u → has_order u ≡ true → Fits (Ordered t) (orders_from row ds u)
more_orders row no_items t u h k = (h, k)
more_orders row (item d ds) t u h k =
    then_fits (Ordered u) (Ordered t) (order_of row d u) (orders_from row ds) (order_fits row d u) (λ v s.
    more_orders row ds t v (same_on t u v h s.0) s.1)

orders_fit : (row : ℕ) (ds : Items) (t : TlbSpec) → 0 < count_items ds → Fits (Ordered t) (orders_from row ds t)
orders_fit row no_items t some = absurd (omega arith)
orders_fit row (item d ds) t some =
    then_fits (Ordered t) (Ordered t) (order_of row d t) (orders_from row ds) (order_fits row d t) (λ u s. more_orders row ds t u s.0 s.1)

some_of : (n : ℕ) → is_within 1 3 n ≡ true → 0 < n
some_of n h = leb-true 1 n (both-so (nat_le 1 n) (nat_le n 3) h).0

orders_in_fit : (row : ℕ) (ms : Members) (t : TlbSpec) → Fits (Ordered t) (orders_in row ms t)
orders_in_fit row ms t =
    then_fits (λ ds. is_within 1 3 (count_items ds) ≡ true) (Ordered t)
    (found row 22 (codes "orders") ms >>= array_of row 22 >>= (λ ds. checked (bad row 22 rule.Outside) (is_within 1 3 (count_items ds)) ds))
    (λ ds. orders_from row ds t)
    (then_any _ (found row 22 (codes "orders") ms >>= array_of row 22) (λ ds. checked (bad row 22 rule.Outside) (is_within 1 3 (count_items ds)) ds) (λ ds.
    checked_fits _ (bad row 22 rule.Outside) (is_within 1 3 (count_items ds)) ds (λ h. h)))
    (λ ds h. orders_fit row ds t (some_of (count_items ds) h))

-- an array keeps its limits
abbrev IsArray : TlbSpec → Type 0
IsArray t = is_array t ≡ true

array_is : (level sets width : ℕ) (t : TlbSpec) → is_within 1 3 level ≡ true → is_within 1 16384 sets ≡ true → IsWidth 1 width
    → Ordered (without_orders level sets width) t → nat_le (sets * width) 16384 ≡ true → IsArray t
unfolding has_order
array_is level sets width t a b c o few =
    rw (o.0.0, o.0.1, o.0.2) (so-both _ _ (so-both _ _ a b) (so-both _ _ (so-both _ _ c.0 c.1) (so-both _ _ few o.1)))

array_fits : (row : ℕ) (ms : Members) → Fits IsArray (array_in row ms)
unfolding array_in
array_fits row ms =
    then_fits _ IsArray (number_in row 22 (codes "level") 1 3 ms) _ (number_fits row 22 (codes "level") 1 3 ms) (λ level a.
    then_fits _ IsArray (number_in row 22 (codes "sets") 1 16384 ms) _ (number_fits row 22 (codes "sets") 1 16384 ms) (λ sets b.
    then_fits (IsWidth 1) IsArray (width_in row ms) _ (then_any _ (found row 22 (codes "width") ms) (width_of row 22 1) (width_fits row 22 1)) (λ width c.
    then_fits (Ordered (without_orders level sets width)) IsArray (orders_in row ms (without_orders level sets width)) _ (orders_in_fit row ms (without_orders level sets width)) (λ t o.
    then_any IsArray (serves_in row ms) _ (λ s.
    then_fits (λ u. (u ≡ t) × (nat_le (sets * width) 16384 ≡ true)) IsArray (checked (bad row 22 rule.Outside) (nat_le (sets * width) 16384) t) _
    (checked_fits _ (bad row 22 rule.Outside) (nat_le (sets * width) 16384) t (λ few. (refl, few))) (λ u few.
    checked_fits IsArray (bad row 22 rule.NotAllowed) (only_known is_array_key ms) (record u { serves = s }) (λ only.
    let P : TlbSpec → Type 0 = IsArray in subst P (sym few.0) (array_is level sets width t a b c o few.1))))))))

-- arrays, n of them at most
abbrev AreArrays : ℕ → List TlbSpec → Type 0
AreArrays n ts = (length ts ≤ n) × (list_all is_array ts ≡ true)

push_array : (n : ℕ) (ts : List TlbSpec) (t : TlbSpec) → AreArrays n ts → IsArray t → AreArrays (suc n) (ts ++ t ∷ [])
push_array n ts t h k =
    (omega (arith, h.0, length-append ts (t ∷ [])), list_all-append is_array ts (t ∷ []) ∙ so-both _ _ h.1 (so-both _ _ k refl))

arrays_fit : (row n : ℕ) (ds : Items) (ts : List TlbSpec) → AreArrays n ts → Fits (AreArrays (n + count_items ds)) (arrays_from row ds ts)
arrays_fit row n no_items ts h = let e : n + 0 ≡ n = omega arith in rw e h
arrays_fit row n (item d ds) ts h =
    let e : n + suc (count_items ds) ≡ suc n + count_items ds = omega arith in
    rw e (then_fits IsArray (AreArrays (suc n + count_items ds)) (table_of row 22 d >>= array_in row) (λ t. arrays_from row ds (ts ++ t ∷ []))
    (then_any IsArray (table_of row 22 d) (array_in row) (array_fits row)) (λ t k.
    arrays_fit row (suc n) ds (ts ++ t ∷ []) (push_array n ts t h k)))

-- the arrays of a row keep the rules
pub record ArraysAre (ts : List TlbSpec) : Type 0 where
  pub few : length ts ≤ 6
  pub each : list_all is_array ts ≡ true
  pub levels : levels_rise ts ≡ true
  pub apart : none_clash ts ≡ true

all_arrays_fit : (row : ℕ) (ms : Members) → Fits ArraysAre (arrays_in row ms)
all_arrays_fit row ms = by_value (get_member (codes "tlb") ms)
  where
    agreed : (ts : List TlbSpec) → AreArrays 6 ts → Fits ArraysAre (checked (bad row 22 rule.Disagrees) (agree ts) ts)
    agreed ts h =
        checked_fits ArraysAre (bad row 22 rule.Disagrees) (agree ts) ts (λ is.
        let both = both-so (levels_rise ts) (none_clash ts) is in record { few = h.0; each = h.1; levels = both.0; apart = both.1 })

    few_of : (n : ℕ) (ts : List TlbSpec) → nat_le n 6 ≡ true → AreArrays (0 + n) ts → AreArrays 6 ts
    few_of n ts less h = (omega (arith, h.0, leb-true n 6 less), h.1)

    weaker : (n : ℕ) (r : _) → nat_le n 6 ≡ true → Fits (AreArrays (0 + n)) r → Fits (AreArrays 6) r
    weaker n (Ok ts) less h = few_of n ts less h
    weaker n (Err e) less h = tt

    by_value : (o : Option Data) → Fits ArraysAre (arrays_by row o)
    by_value None = record { few = omega arith; each = refl; levels = refl; apart = refl }
    by_value (Some d) =
        then_fits (AreArrays 6) ArraysAre
        (array_of row 22 d >>= (λ ds. checked (bad row 22 rule.Outside) (nat_le (count_items ds) 6) ds) >>= (λ ds. arrays_from row ds []))
        (λ ts. checked (bad row 22 rule.Disagrees) (agree ts) ts)
        (then_fits (λ ds. nat_le (count_items ds) 6 ≡ true) (AreArrays 6)
        (array_of row 22 d >>= (λ ds. checked (bad row 22 rule.Outside) (nat_le (count_items ds) 6) ds)) (λ ds. arrays_from row ds [])
        (then_any _ (array_of row 22 d) (λ ds. checked (bad row 22 rule.Outside) (nat_le (count_items ds) 6) ds) (λ ds.
        checked_fits _ (bad row 22 rule.Outside) (nat_le (count_items ds) 6) ds (λ h. h)))
        (λ ds less. weaker (count_items ds) (arrays_from row ds []) less (arrays_fit row 0 ds [] (omega arith, refl))))
        agreed

-- a name keeps its rules
abbrev NameIs : List ℕ → Type 0
NameIs s = is_name s ≡ true

name_fits : (row : ℕ) (earlier : List (List ℕ)) (ms : Members) → Fits NameIs (name_in row earlier ms)
name_fits row earlier ms =
    then_fits NameIs NameIs
    (found row 1 (codes "name") ms >>= text_of row 1 >>= (λ s. checked (bad row 1 rule.Outside) (is_name s) s))
    (λ s. checked (bad row 1 rule.Disagrees) (if list_any (bytes_eq s) earlier then false else true) s)
    (then_any _ (found row 1 (codes "name") ms >>= text_of row 1) (λ s. checked (bad row 1 rule.Outside) (is_name s) s) (λ s.
    checked_fits NameIs (bad row 1 rule.Outside) (is_name s) s (λ h. h)))
    (λ s h. checked_fits NameIs (bad row 1 rule.Disagrees) (if list_any (bytes_eq s) earlier then false else true) s (λ k. h))

row_fits : (row : ℕ) (earlier : List (List ℕ)) (ms : Members) → Fits IsRow (row_in row earlier ms)
unfolding row_in
row_fits row earlier ms =
    then_fits NameIs IsRow (name_in row earlier ms) _ (name_fits row earlier ms) (λ name a.
    then_any IsRow (mode_in row ms) _ (λ mode.
    then_fits _ IsRow (number_in row 3 (codes "frames") 1 4194304 ms) _ (number_fits row 3 (codes "frames") 1 4194304 ms) (λ frames b.
    then_fits _ IsRow (number_in row 4 (codes "spaces") 1 64 ms) _ (number_fits row 4 (codes "spaces") 1 64 ms) (λ spaces c.
    then_any IsRow (kind_in row ms) _ (λ k.
    then_any IsRow (purge_in row ms) _ (λ purge.
    then_fits (IsTable mode spaces) IsRow (table_in k row mode spaces ms) _ (table_fits k row mode spaces ms) (λ table d.
    then_fits ArraysAre IsRow (arrays_in row ms) _ (all_arrays_fit row ms) (λ tlb e.
    checked_fits IsRow (bad row 23 rule.NotAllowed) (only_known (is_known k) ms)
    (record { name = name; mode = mode; frames = frames; spaces = spaces; purge = purge; table = table; tlb = tlb }) (λ only.
    let named = both-so (is_within 1 16 (length name)) (list_all is_name_byte name) a in record {
      name_bytes = named.1;
      name_length = named.0;
      frames_in = b;
      spaces_in = c;
      table_is = d;
      few_arrays = e.few;
      arrays_are = e.each;
      levels_are = e.levels;
      apart = e.apart;
    })))))))))

-- each row keeps the rules of a row
from_fits : (number : ℕ) (ds : Items) (rows : List Row) → All IsRow rows → Fits (All IsRow) (rows_from number ds rows)
from_fits number no_items rows h = h
from_fits number (item d ds) rows h =
    then_fits IsRow (All IsRow) (element_in number (names_of rows) d) (λ r. rows_from (number + 1) ds (rows ++ r ∷ []))
    (then_any IsRow (table_of 0 0 d) (row_in number (names_of rows)) (row_fits number (names_of rows))) (λ r k.
    from_fits (number + 1) ds (rows ++ r ∷ []) (All-push IsRow rows r h k))

pub rows_fit : {V : Type 0} (view : V → List Row) (ds : Items) (r : Result V ConfigFault) → Gives view r (keyed (rows_from 1 ds []))
    → IfOk r (λ v. All IsRow (view v))
rows_fit view ds (Ok v) h = fits_of (rows_from 1 ds []) (from_fits 1 ds [] (All-nil IsRow)) h
  where
    fits_of : (read : Result (List Row) KeyFault) → Fits (All IsRow) read → keyed read ≡ Ok (view v) → All IsRow (view v)
    fits_of (Ok rows) k e = let same : rows ≡ view v = cc in subst (All IsRow) same k
    fits_of (Err f) k e = cc
rows_fit view ds (Err e) h = tt
