use Rattle.xl_clustered.proofs.Common.{◌+◌, ◌<◌, ◌∙◌, ◌∷◌, ◌≡◌, [], ap, arith, get_or-replicate, IsNewBlock, len-set, List, set-other, set-same, slice_index, slice_set, suc, true, ℕ}
use Rattle.xl_clustered.proofs.block.new_block.Goals as goal

front : List ℕ
front = 1 ∷ 0 ∷ 0 ∷ 0 ∷ 0 ∷ 0 ∷ 0 ∷ 0 ∷ 0 ∷ 0 ∷ 0 ∷ 0 ∷ 0 ∷ 0 ∷ 0 ∷ 0 ∷ 0 ∷ []

rest : (i : ℕ) → i < 16 → slice_index front (1 + i) ≡ 0
unfolding front
rest i h = ap (slice_index front) (turn i) ∙ get_or-replicate 16 i 0 0 h
  where
    turn : (n : ℕ) → 1 + n ≡ suc n
    turn n = omega arith

block : (slot word : ℕ) → slot < 16 → IsNewBlock slot word (slice_set front (slot + 1) word)
unfolding front
block slot word low = record {
  size = len-set true front (slot + 1) word;
  count = set-other front (slot + 1) 0 word (λ e. absurd (omega arith));
  here = ap (slice_index (slice_set front (slot + 1) word)) (turn slot) ∙ set-same front (slot + 1) word (omega arith);
  others = λ i l other. set-other front (slot + 1) (1 + i) word (λ e. other (omega arith)) ∙ rest i l;
}
  where
    turn : (n : ℕ) → 1 + n ≡ n + 1
    turn n = omega arith

pub returns : goal.returns
unfolding front
returns c = block c.args.slot c.args.word c.requires
