-- The words of a node, and the range that they say.
use Rattle.xl_treap.proofs.Common.{◌%◌, ◌*◌, ◌+◌, ◌/◌, ◌<◌, ◌^◌, ◌∙◌, ◌≡◌, ◌≤◌, ap, arith, Bool, false, IsFit, IsNode, List, node_word, Option, order_said, Range, range_by, range_key, range_of_node, range_said, range_under, refl, Some, true, ℕ}
use Rattle.xl_model.specs.Addresses.{level_of}
use Rattle.xl_model.specs.Words.{bit_if, leaf_word}
use Rattle.xl_model.specs.declared.address.Order.{Order}
use Rattle.xl_model.specs.declared.perm.Perm.{Perm}
use Rattle.xl_pte.proofs.BitLemmas.{decode-made-leaf}
use Rattle.xl_pte.specs.Decode.{decode_of}
use Rattle.xl_model.specs.declared.address.Order.TheVariants as order

bits-small : (r w x u : Bool) → bit_if r 2 + (bit_if w 4 + (bit_if x 8 + bit_if u 16)) ≤ 30
bits-small r w x u =
    let a : bit_if r 2 ≤ 2 = elim r as (λ b. bit_if b 2 ≤ 2) [ true ↦ omega arith | false ↦ omega arith ] in
    let b : bit_if w 4 ≤ 4 = elim w as (λ b. bit_if b 4 ≤ 4) [ true ↦ omega arith | false ↦ omega arith ] in
    let c : bit_if x 8 ≤ 8 = elim x as (λ b. bit_if b 8 ≤ 8) [ true ↦ omega arith | false ↦ omega arith ] in
    let d : bit_if u 16 ≤ 16 = elim u as (λ b. bit_if b 16 ≤ 16) [ true ↦ omega arith | false ↦ omega arith ] in
    omega arith

-- a leaf's word lies below bit 54
pub leaf_small : (frame : ℕ) (p : Perm) → frame < 2 ^ 44 → leaf_word frame p < 2 ^ 54
unfolding leaf_word
leaf_small frame p h = let b = bits-small p.r p.w p.x p.u in omega (arith, b)

order-level : (o : Order) → order_said (level_of o) ≡ Some o
order-level order.K4 = refl
order-level order.M2 = refl
order-level order.G1 = refl

-- a leaf's word and an order, from the word that holds both
parts-back : (o : Order) (w : ℕ) → w < 2 ^ 54 → ((w + level_of o * 2 ^ 62) / 2 ^ 62 ≡ level_of o) × ((w + level_of o * 2 ^ 62) % 2 ^ 62 ≡ w)
parts-back order.K4 w h = (omega arith, omega arith)
parts-back order.M2 w h = (omega arith, omega arith)
parts-back order.G1 w h = (omega arith, omega arith)

-- a range comes back from its words
pub said-back : (x : Range) → IsFit x → range_said (range_key x) x.pages (node_word x) ≡ Some x
unfolding range_said node_word
said-back x f =
    let some : 0 < x.pages = f.some in
    let pages : x.start + x.pages ≤ 2 ^ 52 = f.pages_in in
    let frames : x.frame + x.pages ≤ 2 ^ 44 = f.frames_in in
    let w : ℕ = leaf_word x.frame x.perm in
    let b = parts-back x.order w (leaf_small x.frame x.perm (omega arith)) in
    let space : range_key x / 2 ^ 52 ≡ x.space = omega arith in
    let start : range_key x % 2 ^ 52 ≡ x.start = omega arith in
    ap (λ (q : ℕ). range_under (range_key x) x.pages (w + level_of x.order * 2 ^ 62) (order_said q)) b.0
    ∙ ap (λ (q : Option Order). range_under (range_key x) x.pages (w + level_of x.order * 2 ^ 62) q) (order-level x.order)
    ∙ ap (λ (q : ℕ). range_by (range_key x) x.pages x.order (decode_of q 0)) b.1
    ∙ ap (range_by (range_key x) x.pages x.order) (decode-made-leaf x.frame 0 x.perm (omega arith) (omega arith))
    ∙ ap (λ (q : ℕ). Some (record x { space = q; start = range_key x % 2 ^ 52 })) space
    ∙ ap (λ (q : ℕ). Some (record x { start = q })) start

pub node-said : (words : List ℕ) (n : ℕ) (x : Range) → IsNode words n x → IsFit x → range_of_node words n ≡ Some x
node-said words n x i f = rw (i.key_is, i.pages_is, i.word_is) (said-back x f)
