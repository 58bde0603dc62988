use Rattle.xl_serving.proofs.Common.{◌++◌, ◌+◌, ◌<◌, ◌∙◌, ◌∷◌, ◌≡◌, ◌≤◌, [], All, All-drop, All-get_or, ap, append_assoc, arith, into_iter_items, IsRow, length, length-append, List, map, opened, refl, Row, row_of, Served, subst, suc, sym, ℕ}
use Rattle.xl_model.specs.RowRun.{opening}
use Rattle.xl_model.specs.declared.row.Row.{Row as RowFields}
use Rattle.xl_serving.proofs.opening.add_all.Goals as goal

-- Rows that are opened one after another.
opened_more : (xs : List RowFields) (x : RowFields) → opened (map row_of (xs ++ x ∷ [])) ≡ opened (map row_of xs) ++ opened (row_of x ∷ [])
opened_more [] x = refl
opened_more (y ∷ xs) x = ap (λ (rest : List Served). record { row = row_of y; state = opening (row_of y) } ∷ rest) (opened_more xs x)

length-opened : (xs : List RowFields) → length (opened (map row_of xs)) ≡ length xs
length-opened [] = refl
length-opened (x ∷ xs) = ap (λ n. suc n) (length-opened xs)

-- the next row keeps what all rows keep
next_keeps : (P : Row → Type 0) (xs ys : List RowFields) (x : RowFields) (all : List RowFields) → xs ++ x ∷ ys ≡ all → All P (map row_of all) → P (row_of x)
next_keeps P xs ys x all e h = go xs (subst (λ (rows : List RowFields). All P (map row_of rows)) (sym e) h)
  where
    go : (zs : List RowFields) → All P (map row_of (zs ++ x ∷ ys)) → P (row_of x)
    go [] k = All-get_or P (row_of x ∷ map row_of ys) 0 (row_of x) (omega arith) k
    go (z ∷ zs) k = go zs (All-drop P 1 (row_of z ∷ map row_of (zs ++ x ∷ ys)) k)

next_few : (xs ys : List RowFields) (x : RowFields) (all : List RowFields) (rows : List Served) (most : ℕ) → xs ++ x ∷ ys ≡ all → rows ≡ opened (map row_of xs) → length all ≤ most
    → length rows < most
next_few xs ys x all rows most e h few =
    let a : length rows ≡ length xs = ap (λ (z : List Served). length z) h ∙ length-opened xs in
    let b : length xs + length (x ∷ ys) ≡ length all = sym (length-append xs (x ∷ ys)) ∙ ap (λ (z : List RowFields). length z) e in
    let c : length (x ∷ ys) ≡ suc (length ys) = refl in omega arith

next_opened : (xs : List RowFields) (x : RowFields) (old new : List Served) → old ≡ opened (map row_of xs) → new ≡ old ++ opened (row_of x ∷ [])
    → new ≡ opened (map row_of (xs ++ x ∷ []))
next_opened xs x old new h e = e ∙ ap (λ (z : List Served). z ++ opened (row_of x ∷ [])) h ∙ sym (opened_more xs x)

pub add-requires-clause-row : goal.add-requires-clause-row
add-requires-clause-row g c =
    let at = c.loop-design in
    next_keeps IsRow at.yielded _ c.in-Some.design c.args.designs.items (ap (λ (rest : List RowFields). at.yielded ++ rest) (sym c.in-Some.ensures.steps.0) ∙ at.invariant.0 ∙ c.into_iter-design-iterator.ensures.into_iter_gives.0) c.requires.fit

pub add-requires-clause-few : goal.add-requires-clause-few
add-requires-clause-few g c =
    let at = c.loop-design in
    next_few at.yielded _ c.in-Some.design c.args.designs.items _ 16 (ap (λ (rest : List RowFields). at.yielded ++ rest) (sym c.in-Some.ensures.steps.0) ∙ at.invariant.0 ∙ c.into_iter-design-iterator.ensures.into_iter_gives.0) at.invariant.1 c.requires.few

pub loop-design-preserved : goal.loop-design-preserved
loop-design-preserved g c =
    let at = c.loop-design in
    let x = c.in-Some.design in
    let steps : into_iter_items at.design-iterator ≡ x ∷ into_iter_items c.next.new.self = c.in-Some.ensures.steps.0 in (
      append_assoc at.yielded (x ∷ []) _ ∙ ap (λ (rest : List RowFields). at.yielded ++ rest) (sym steps) ∙ at.invariant.0,
      next_opened at.yielded x _ _ at.invariant.1 c.in_ok-add.ensures.added,
      let was = at.invariant.2 in
          let gone = c.in-Some.ensures.steps.1 in
          let short = ap (λ (z : List RowFields). length z) steps in
          omega arith,
    )

pub returns-in_err-add-clause-opening : goal.returns-in_err-add-clause-opening
returns-in_err-add-clause-opening g c =
    (map row_of c.loop-design.yielded, c.in_err-add.ensures.none ∙ c.loop-design.invariant.1)

pub returns-clause-opening : goal.returns-clause-opening
returns-clause-opening g c = (map row_of c.loop-design.yielded, c.loop-design.invariant.1)
