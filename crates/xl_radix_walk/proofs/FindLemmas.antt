-- The walk of a page from the root of its space.
use Rattle.xl_radix_walk.proofs.Common.{◌-◌, ◌<◌, ◌^◌, ◌≡◌, arith, IsPage, number_of, page-low, shape_of, Some, subst, suc, sym, Table, up, WordsReadBack, ℕ}
use Rattle.xl_radix_walk.proofs.RowLemmas.{root-at}

module _ (top space page : ℕ) (t : Table) (back : WordsReadBack top t.spaces t.leaves t.nodes t.words) where
  pub root-number : IsPage (shape_of top t) space page → number_of space (suc (top - 1)) (up (suc (top - 1)) page) t.nodes ≡ Some space
  root-number fits =
      let low = back.kept.levels.0 in
      let e : suc (top - 1) ≡ top = omega arith in
      subst (λ (n : ℕ). number_of space n (up n page) t.nodes ≡ Some space) (sym e) (root-at top t.spaces space page t.leaves t.nodes t.words back back.kept.levels.1 fits.page_in fits.space_in)

  pub page-small : IsPage (shape_of top t) space page → page < 2 ^ 45
  page-small fits = page-low top page back.kept.levels.1 fits.page_in

  pub root-level : top - 1 < top
  root-level = let low = back.kept.levels.0 in omega arith
