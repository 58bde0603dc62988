-- What is known of pages is kept; and a page that is known is answered by the leaf in front of a first array, which is touched, and nothing moves.
use Rattle.xl_tlb.proofs.Common.{◌<◌, ◌==◌, ◌≡◌, [], alone_at, ArePaired, arith, Bool, false, first_in, Fits, fits_in, hit_at, IsFront, IsKept, IsKnown, IsOne, IsState, IsWord, Kind, Knows, List, map, MruPages, nat_tests, numbers_of, refl, spec_of, split_of, StaysKnown, subst, sym, TlbArray, TlbSpec, TlbState, true, ℕ}
use Rattle.xl_tlb.proofs.OneLemmas.{one_front}
use Rattle.xl_tlb.proofs.PairLemmas.{pair_front}
use Rattle.xl_tlb.proofs.StepLemmas.{word_seen}
use Rattle.xl_tlb.specs.declared.known.KnownPages.{KnownPages}
use Rattle.xl_tlb.specs.declared.shapes.AnyShape.{AnyShape}
use Rattle.xl_model.specs.declared.address.Kind.TheVariants as kind
use Rattle.xl_tlb.specs.declared.shapes.AnyShape.TheVariants as shape

-- there are two first arrays at most
pub few_firsts : (split : Bool) (k : Kind) → first_in split k < 2
few_firsts false k = omega arith
few_firsts true kind.Fetch = omega arith
few_firsts true kind.Load = omega arith
few_firsts true kind.Store = omega arith

pub shape_numbers : (s : AnyShape) (p : KnownPages) (arrays : List TlbArray) → fits_in s p arrays → p.numbers ≡ numbers_of (split_of s)
shape_numbers shape.Joint p arrays fits = fits.known.numbers
shape_numbers shape.Split p arrays fits = fits.known.numbers
shape_numbers shape.One p arrays fits = fits.known.numbers
shape_numbers shape.InTurn p arrays fits = fits.numbers

-- arrays whose specs stay are of the shape that they were
pub forgot_fits : (split : Bool) (Shape : List TlbSpec → Type 0) (p new : KnownPages) (old after : List TlbArray) → map spec_of after ≡ map spec_of old → Fits split Shape p old → IsKnown split new after → Fits split Shape new after
forgot_fits split Shape p new old after specs fits known = record { shape = rw specs fits.shape; known = known }

pub shape_forgot : (s : AnyShape) (p new : KnownPages) (old after : List TlbArray)
    → ((split : Bool) (x y : List TlbArray) → IsKnown split p x → map spec_of y ≡ map spec_of x → IsKnown split new y)
    → map spec_of after ≡ map spec_of old → fits_in s p old → fits_in s new after
shape_forgot shape.Joint p new old after forgot specs fits = forgot_fits false (ArePaired false) p new old after specs fits (forgot false old after fits.known specs)
shape_forgot shape.Split p new old after forgot specs fits = forgot_fits true (ArePaired true) p new old after specs fits (forgot true old after fits.known specs)
shape_forgot shape.One p new old after forgot specs fits = forgot_fits false IsOne p new old after specs fits (forgot false old after fits.known specs)
shape_forgot shape.InTurn p new old after forgot specs fits = forgot false [] [] fits refl

-- what is known of the first array of a kind changes, and of others it stays
pub all_known : (split : Bool) (k : Kind) (space page word : ℕ) (p new : MruPages) (old after : List TlbArray) → IsKept split k space page word old after
    → Knows (first_in split k) new (alone_at (first_in split k) after)
    → StaysKnown (first_in split k) p new → ((j : Kind) → Knows (first_in split j) p (alone_at (first_in split j) old))
    → (j : Kind) → Knows (first_in split j) new (alone_at (first_in split j) after)
all_known split k space page word p new old after kept one others knows j = go (first_in split j == first_in split k) refl
  where
    go : (b : Bool) → (first_in split j == first_in split k) ≡ b → Knows (first_in split j) new (alone_at (first_in split j) after)
    go true t =
        let e : first_in split j ≡ first_in split k = grind (arith, nat_tests) in
        subst (λ (i : ℕ). Knows i new (alone_at i after)) (sym e) one
    go false t =
        let d : first_in split j ≡ first_in split k → ⊥ = λ e. absurd (grind (arith, nat_tests)) in
        subst (Knows (first_in split j) new) (sym (kept.others j d)) (others (first_in split j) (alone_at (first_in split j) old) (few_firsts split j) d (knows j))

module _ (k : Kind) (space page word : ℕ) (t : TlbState) (is : IsState t) where
  pair_recalled : (split : Bool) → ArePaired split (map spec_of t.arrays) → IsFront space page word (alone_at (first_in split k) t.arrays) → IsWord k space page word t (hit_at (first_in split k) t)
  pair_recalled split paired front =
      word_seen split k space page word t (hit_at (first_in split k) t) (pair_front split k space page word t.arrays t.hits t.misses t.fills (omega (arith, is.hits)) (omega (arith, is.misses)) is.fills paired is.rising front)

  one_recalled : IsOne (map spec_of t.arrays) → IsFront space page word (alone_at 0 t.arrays) → IsWord k space page word t (hit_at 0 t)
  one_recalled one front = word_seen false k space page word t (hit_at 0 t) (one_front k space page word t.arrays t.hits t.misses t.fills (omega (arith, is.hits)) (omega (arith, is.misses)) is.fills one front)

  pub recalled : (s : AnyShape) (p : KnownPages) → fits_in s p t.arrays → ((arrays : List TlbArray) → Knows (first_in (split_of s) k) p.newest arrays → IsFront space page word arrays) → IsWord k space page word t (hit_at (first_in (split_of s) k) t)
  recalled shape.Joint p fits front = pair_recalled false fits.shape (front (alone_at 0 t.arrays) (fits.known.knows k))
  recalled shape.Split p fits front = pair_recalled true fits.shape (front (alone_at (first_in true k) t.arrays) (fits.known.knows k))
  recalled shape.One p fits front = one_recalled fits.shape (front (alone_at 0 t.arrays) (fits.known.knows k))
  recalled shape.InTurn p fits front = absurd (front [] (fits.knows k))
