use Rattle.xl_radix_walk.proofs.Common.{◌++◌, ◌+◌, ◌-◌, ◌/◌, ◌<◌, ◌^◌, ◌∙◌, ◌∷◌, ◌≡◌, ◌≤◌, [], ap, append-nil, append_assoc, arith, decode_of, EndsAt, Enters, HasWord, IfSome, length, List, None, Option, perm_at, place_of, Points, radix_back, radix_path, refl, SaysSmall, slice_index, slice_set, Some, subst, suc, sym, take, zero, ℕ}
use Rattle.std.proofs.lemmas.Grind.{take-set_at}
use Rattle.xl_radix_walk.proofs.StepLemmas.{path-none}
use Rattle.xl_pte.specs.declared.word.Pte.TheVariants as pte
use Rattle.xl_radix.specs.declared.walk_end.WalkEnd.TheVariants as end
use Rattle.xl_radix_walk.proofs.quick.last_word.Goals as goal

-- Steps of the quick walk.
steps-on : (words : List ℕ) (level node page word next : ℕ) → 0 < level → HasWord words level node page word → Points word next
    → radix_back words level node page ≡ radix_back words (level - 1) next page
unfolding radix_back
steps-on words zero node page word next low h points = absurd (omega arith)
steps-on words (suc level) node page word next low h points =
    let same : suc level - 1 ≡ level = omega arith in
    let e : decode_of (slice_index words (place_of (suc level) node page)) (suc level) ≡ pte.Pointer next =
    ap (λ (w : ℕ). decode_of w (suc level)) (sym h.1) ∙ points (suc level) low in
    subst (λ (l : ℕ). radix_back words (suc level) node page ≡ radix_back words l next page) (sym same) (rw (h.0, e) refl)

enters-on : (words : List ℕ) (level node page word next : ℕ) → 0 < level → HasWord words level node page word → Points word next
    → radix_path words level node page ≡ next ∷ radix_path words (level - 1) next page
unfolding radix_path
enters-on words zero node page word next low h points = absurd (omega arith)
enters-on words (suc level) node page word next low h points =
    let same : suc level - 1 ≡ level = omega arith in
    let e : decode_of (slice_index words (place_of (suc level) node page)) (suc level) ≡ pte.Pointer next =
    ap (λ (w : ℕ). decode_of w (suc level)) (sym h.1) ∙ points (suc level) low in
    subst (λ (l : ℕ). radix_path words (suc level) node page ≡ next ∷ radix_path words l next page) (sym same) (rw (h.0, e) refl)

-- a node more after those that were entered
entered-more : (whole path rest : List ℕ) (start level next : ℕ) → level ≤ start → 0 < level → start < length path + level → whole ≡ take (start - level) path ++ next ∷ rest
    → whole ≡ take (start - (level - 1)) (slice_set path (start - level) next) ++ rest
entered-more whole path rest start level next high low room e =
    let t : take (start - (level - 1)) (slice_set path (start - level) next) ≡ take (start - level) path ++ next ∷ [] =
    take-set_at path (start - level) (start - (level - 1)) next (omega arith) (omega arith) in
    e ∙ rw t (sym (append_assoc (take (start - level) path) (next ∷ []) rest))

ends-at : (words : List ℕ) (node page word small : ℕ) → HasWord words 0 node page word → SaysSmall word small
    → radix_back words 0 node page ≡ end.Leaf 0 (small / 16) (perm_at small)
unfolding radix_back
ends-at words node page word small h said =
    let e : decode_of (slice_index words (place_of 0 node page)) 0 ≡ pte.Leaf (small / 16) (perm_at small) = ap (λ (w : ℕ). decode_of w 0) (sym h.1) ∙ said in
    rw (h.0, e) refl

-- at the end of the way down, where only numbers below 2^44 have a word
ends-if : (words : List ℕ) (start from level at page : ℕ) (o : Option ℕ) → level ≡ 0 → (at < 2 ^ 44 → radix_back words start from page ≡ radix_back words level at page)
    → IfSome o (λ word. at < 2 ^ 44) → IfSome o (HasWord words 0 at page) → IfSome o (EndsAt words start from page)
ends-if words start from level at page None z e near h = tt
ends-if words start from level at page (Some word) z e near h = λ small said.
    subst (λ (l : ℕ). radix_back words start from page ≡ radix_back words l at page) z (e near) ∙ ends-at words at page word small h said

-- at level 0 no node is entered
enters-if : (words : List ℕ) (start from level at page : ℕ) (path : List ℕ) (o : Option ℕ) → level ≡ 0 → (at < 2 ^ 44 → radix_path words start from page ≡ take (start - level) path ++ radix_path words level at page)
    → IfSome o (λ word. at < 2 ^ 44) → IfSome o (λ word. Enters words start from page path)
enters-if words start from level at page path None z e near = tt
enters-if words start from level at page path (Some word) z e near =
    let P : ℕ → Type 0 = λ l. radix_path words start from page ≡ take (start - l) path ++ radix_path words l at page in
    let all : start - 0 ≡ start = omega arith in
    let whole : radix_path words start from page ≡ take (start - 0) path ++ radix_path words 0 at page = subst P z (e near) in
    sym (whole ∙ rw (all, path-none words at page) (append-nil (take start path)))

pub down-preserved : goal.down-preserved
down-preserved c = record {
  low = omega arith;
  small = c.in_ok-at.ensures.small;
  end = λ near all first. c.down.invariant.end c.in_ok-word_at.ensures.near all first ∙ steps-on all c.down.level c.down.at c.args.page c.in_ok-word_at.field-0 c.in_ok-at.at (omega arith) (c.in_ok-word_at.ensures.word all first) (c.in_ok-at.ensures.said near);
  path = λ near all first. entered-more (radix_path all c.args.start c.args.node c.args.page) c.down.path (radix_path all (c.down.level - 1) c.in_ok-at.at c.args.page) c.args.start c.down.level c.in_ok-at.at (omega arith) (omega arith) (omega arith)
      (c.down.invariant.path c.in_ok-word_at.ensures.near all first ∙ ap (λ (ns : List ℕ). take (c.args.start - c.down.level) c.down.path ++ ns) (enters-on all c.down.level c.down.at c.args.page c.in_ok-word_at.field-0 c.in_ok-at.at (omega arith) (c.in_ok-word_at.ensures.word all first) (c.in_ok-at.ensures.said near)));
}

pub returns-clause-path : goal.returns-clause-path
returns-clause-path c all first =
    enters-if all c.args.start c.args.node c.down.level c.down.at c.args.page c.down.path c.word_at-2.result (omega arith)
    (λ near. c.down.invariant.path near all first) c.word_at-2.ensures.near

pub returns-clause-ends : goal.returns-clause-ends
returns-clause-ends c all first =
    ends-if all c.args.start c.args.node c.down.level c.down.at c.args.page c.word_at-2.result (omega arith)
    (λ near. c.down.invariant.end near all first) c.word_at-2.ensures.near (c.word_at-2.ensures.word all first)
