-- Lists of harts: facts of each, and the longest queue.
use Rattle.xl_hart_laws.proofs.Common.{◌+◌, ◌-◌, ◌<◌, ◌∙◌, ◌∷◌, ◌≡◌, ◌≤◌, [], ap, arith, Bool, false, get_or, Hart, hart_asked, HartSpec, is_full, le-max_left, le-max_right, length, List, list_any, longest, map, max, max-le, nat_tests, not, refl, set, suc, sym, take, true, zero, ℕ}

pub each-set : (P : Hart → Type 0) (d x : Hart) (hs : List Hart) (i : ℕ) → ((n : ℕ) → P (get_or hs n d)) → P x → (n : ℕ) → P (get_or (set hs i x) n d)
each-set P d x [] i all p n = all n
each-set P d x (h ∷ hs) zero all p zero = p
each-set P d x (h ∷ hs) zero all p (suc n) = all (suc n)
each-set P d x (h ∷ hs) (suc i) all p zero = all zero
each-set P d x (h ∷ hs) (suc i) all p (suc n) = each-set P d x hs i (λ m. all (suc m)) p n

pub each-map : (P Q : Hart → Type 0) (f : Hart → Hart) (d : Hart) (hs : List Hart) → ((n : ℕ) → P (get_or hs n d)) → Q d → ((h : Hart) → P h → Q (f h))
    → (n : ℕ) → Q (get_or (map f hs) n d)
each-map P Q f d [] all q step n = q
each-map P Q f d (h ∷ hs) all q step zero = step h (all zero)
each-map P Q f d (h ∷ hs) all q step (suc n) = each-map P Q f d hs (λ m. all (suc m)) q step n

-- no queue is longer than the longest
pub below-longest : (d : Hart) (hs : List Hart) → d.waiting ≡ 0 → (n : ℕ) → (get_or hs n d).waiting ≤ longest hs
below-longest d [] e n = omega arith
below-longest d (h ∷ hs) e zero = le-max_left h.waiting (longest hs)
below-longest d (h ∷ hs) e (suc n) =
    let a : (get_or hs n d).waiting ≤ longest hs = below-longest d hs e n in
    let b : longest hs ≤ max h.waiting (longest hs) = le-max_right h.waiting (longest hs) in
    omega arith

-- a queue in place of one that isn't shorter
pub longest-set : (d x : Hart) (hs : List Hart) (i : ℕ) → x.waiting ≤ (get_or hs i d).waiting → longest (set hs i x) ≤ longest hs
longest-set d x [] i below = omega arith
longest-set d x (h ∷ hs) zero below =
    let a : h.waiting ≤ max h.waiting (longest hs) = le-max_left h.waiting (longest hs) in
    let b : longest hs ≤ max h.waiting (longest hs) = le-max_right h.waiting (longest hs) in
    let c : x.waiting ≤ max h.waiting (longest hs) = omega arith in
    max-le {a = x.waiting} {b = longest hs} {k = max h.waiting (longest hs)} c b
longest-set d x (h ∷ hs) (suc i) below =
    let a : h.waiting ≤ max h.waiting (longest hs) = le-max_left h.waiting (longest hs) in
    let b : longest hs ≤ max h.waiting (longest hs) = le-max_right h.waiting (longest hs) in
    let e : longest (set hs i x) ≤ longest hs = longest-set d x hs i below in
    let c : longest (set hs i x) ≤ max h.waiting (longest hs) = omega arith in
    max-le {a = h.waiting} {b = longest (set hs i x)} {k = max h.waiting (longest hs)} a c

pub longest-same : (d x : Hart) (hs : List Hart) (i : ℕ) → x.waiting ≡ (get_or hs i d).waiting → longest (set hs i x) ≡ longest hs
longest-same d x [] i same = refl
longest-same d x (h ∷ hs) zero same = rw same refl
longest-same d x (h ∷ hs) (suc i) same = ap (λ (n : ℕ). max h.waiting n) (longest-same d x hs i same)

max-next : (a b : ℕ) → max (a + 1) (b + 1) ≡ max a b + 1
max-next a b =
    let p = le-max_left (a + 1) (b + 1) in
    let q = le-max_right (a + 1) (b + 1) in
    let r = le-max_left a b in
    let s = le-max_right a b in
    let t : max (a + 1) (b + 1) ≤ max a b + 1 = max-le {a = a + 1} {b = b + 1} {k = max a b + 1} (omega arith) (omega arith) in
    let u : max a b ≤ max (a + 1) (b + 1) - 1 = max-le {a = a} {b = b} {k = max (a + 1) (b + 1) - 1} (omega arith) (omega arith) in
    omega arith

max-none : (a : ℕ) → max a 0 ≡ a
max-none a =
    let p = le-max_left a 0 in
    let t : max a 0 ≤ a = max-le {a = a} {b = 0} {k = a} (omega arith) (omega arith) in
    omega arith

-- every queue is longer by one
pub longest-asked : (hs : List Hart) → 0 < length hs → longest (map hart_asked hs) ≡ longest hs + 1
longest-asked [] some = absurd (omega arith)
longest-asked (h ∷ []) some = max-none (h.waiting + 1) ∙ ap (λ (n : ℕ). n + 1) (sym (max-none h.waiting))
longest-asked (h ∷ i ∷ hs) some = ap (λ (n : ℕ). max (h.waiting + 1) n) (longest-asked (i ∷ hs) (omega arith)) ∙ max-next h.waiting (longest (i ∷ hs))

pub length-least : {A : Type 0} (n : ℕ) (xs : List A) → n ≤ length xs → length (take n xs) ≡ n
length-least zero xs h = refl
length-least (suc n) [] h = absurd (omega arith)
length-least (suc n) (x ∷ xs) h = ap (λ (m : ℕ). suc m) (length-least n xs (omega arith))

-- no queue is full
pub below-full : (spec : HartSpec) (hs : List Hart) → not (list_any (is_full spec) hs) ≡ true → longest hs ≤ spec.queue → 0 < spec.queue → longest hs < spec.queue
below-full spec [] none most some = some
below-full spec (h ∷ hs) none most some = go (is_full spec h) refl (λ k m. below-full spec hs k m some)
  where
    go : (b : Bool) → is_full spec h ≡ b → (not (list_any (is_full spec) hs) ≡ true → longest hs ≤ spec.queue → longest hs < spec.queue) → longest (h ∷ hs) < spec.queue
    go true t next = let k : false ≡ true = rw t at none in absurd (cc)
    go false t next =
        let rest : not (list_any (is_full spec) hs) ≡ true = rw t at none in
        let a = le-max_left h.waiting (longest hs) in
        let b = le-max_right h.waiting (longest hs) in
        let more : longest hs < spec.queue = next rest (omega arith) in
        let other : h.waiting < spec.queue = grind (arith, nat_tests) in
        let c : max h.waiting (longest hs) ≤ spec.queue - 1 = max-le {a = h.waiting} {b = longest hs} {k = spec.queue - 1} (omega arith) (omega arith) in
        omega arith

-- a queue that is shorter by one leaves the longest no more than one shorter
pub longest-less : (d x : Hart) (hs : List Hart) (i : ℕ) → (get_or hs i d).waiting ≤ x.waiting + 1 → longest hs ≤ longest (set hs i x) + 1
longest-less d x [] i near = omega arith
longest-less d x (h ∷ hs) zero near =
    let a = le-max_left x.waiting (longest hs) in
    let b = le-max_right x.waiting (longest hs) in
    max-le {a = h.waiting} {b = longest hs} {k = max x.waiting (longest hs) + 1} (omega arith) (omega arith)
longest-less d x (h ∷ hs) (suc i) near =
    let a = le-max_left h.waiting (longest (set hs i x)) in
    let b = le-max_right h.waiting (longest (set hs i x)) in
    let e : longest hs ≤ longest (set hs i x) + 1 = longest-less d x hs i near in
    max-le {a = h.waiting} {b = longest hs} {k = max h.waiting (longest (set hs i x)) + 1} (omega arith) (omega arith)
