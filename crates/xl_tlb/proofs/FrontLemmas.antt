-- Arrays of higher levels.
use Rattle.xl_tlb.proofs.Common.{◌&&◌, ◌<◌, ◌∙◌, ◌∷◌, ◌≡◌, ◌≤◌, [], ap, arith, array_hit, Bool, counted, false, hits_up_to, is_some, IsRising, Kind, List, map, misses_up_to, nat_le, nat_tests, NoneBelow, not, one_more_where, refl, serves_kind, spec_of, suc, TlbArray, TlbSpec, ℕ}
use Rattle.xl_tlb.proofs.LevelLemmas.{and_false}

above : (level other : ℕ) (specs : List TlbSpec) → level < other → NoneBelow other specs → NoneBelow (suc level) specs
above level other [] l h = tt
above level other (s ∷ specs) l h = (let k = h.0 in omega arith, above level other specs l h.1)

pub first_above : (level : ℕ) (s : TlbSpec) (specs : List TlbSpec) → level < s.level → IsRising (s ∷ specs) → NoneBelow (suc level) (s ∷ specs)
first_above level s specs l h = (omega arith, above level s.level specs l h.0)

-- arrays of higher levels are not looked at
not_up : (level other : ℕ) → suc level ≤ other → nat_le other level ≡ false
not_up level other l = grind (arith, nat_tests)

not_up_to : (b c d : Bool) → c ≡ false → ((b && c) && d) ≡ false
not_up_to b c d e = ap (λ (x : Bool). (b && x) && d) e ∙ ap (λ (x : Bool). x && d) (and_false b)

module _ (kind : Kind) (level space page : ℕ) where
  pub level_hits : (rest : List TlbArray) (ns : List ℕ) → NoneBelow (suc level) (map spec_of rest) → counted (hits_up_to kind level space page) rest ns ≡ ns
  level_hits [] ns h = refl
  level_hits (a ∷ rest) [] h = refl
  level_hits (a ∷ rest) (n ∷ ns) h =
      ap (λ (b : Bool). one_more_where b n ∷ counted (hits_up_to kind level space page) rest ns) (not_up_to (serves_kind kind a) (nat_le a.spec.level level) (is_some (array_hit a space page)) (not_up level a.spec.level h.0))
      ∙ ap (λ (z : List ℕ). n ∷ z) (level_hits rest ns h.1)

  pub level_misses : (rest : List TlbArray) (ns : List ℕ) → NoneBelow (suc level) (map spec_of rest) → counted (misses_up_to kind level space page) rest ns ≡ ns
  level_misses [] ns h = refl
  level_misses (a ∷ rest) [] h = refl
  level_misses (a ∷ rest) (n ∷ ns) h =
      ap (λ (b : Bool). one_more_where b n ∷ counted (misses_up_to kind level space page) rest ns) (not_up_to (serves_kind kind a) (nat_le a.spec.level level) (not (is_some (array_hit a space page))) (not_up level a.spec.level h.0))
      ∙ ap (λ (z : List ℕ). n ∷ z) (level_misses rest ns h.1)
