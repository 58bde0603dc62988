use Rattle.xl_course.proofs.Common.{◌++◌, ◌+◌, ◌-◌, ◌/◌, ◌∙◌, ◌∷◌, ◌≡◌, ◌≤◌, [], accesses, accesses_at, accesses_items, ap, arith, borders, each, eqb, length, length-append, List, max, nat_tests, None, not, places, refl, slice_get, Some, starts, suc, sym, zero, ℕ}
use Rattle.std.proofs.Math.Nat.{max-le}
use Rattle.xl_lackey.specs.declared.reference.Letter.{Letter}
use Rattle.xl_model.specs.declared.address.Kind.{Kind}
use Rattle.xl_model.specs.declared.address.Kind.TheVariants.{Fetch, Load, Store}
use Rattle.xl_course.proofs.ServedLemmas.{served_all, served_lost, served_next}
use Rattle.xl_lackey.specs.declared.reference.Letter.TheVariants as letter
use Rattle.xl_course.proofs.serving.serve_accesses.Goals as goal

-- What the items of a record are, one by one.
module _ {I : Type 0} (referenced : ℕ → ℕ → Kind → I) where
  nth_item : (number : ℕ) (as' : List (ℕ × Kind)) (i va : ℕ) (k : Kind) → slice_get as' i ≡ Some (va, k) → slice_get (accesses_items referenced number as') i ≡ Some (referenced number va k)
  nth_item number [] zero va k h = absurd (grind arith)
  nth_item number [] (suc i) va k h = absurd (grind arith)
  nth_item number (a ∷ as') zero va k h = let e : a ≡ (va, k) = cc in ap (λ (z : ℕ × Kind). Some (referenced number z.0 z.1)) e
  nth_item number (a ∷ as') (suc i) va k h = nth_item number as' i va k h

  length-items : (number : ℕ) (as' : List (ℕ × Kind)) → length (accesses_items referenced number as') ≡ length as'
  length-items number [] = refl
  length-items number (a ∷ as') = ap suc (length-items number as')

past_end : (as' : List (ℕ × Kind)) (i : ℕ) → slice_get as' i ≡ None → length as' ≤ i
past_end [] i h = omega arith
past_end (a ∷ as') zero h = absurd (grind arith)
past_end (a ∷ as') (suc i) h = let k = past_end as' i h in omega arith

items_end : {I : Type 0} (referenced : ℕ → ℕ → Kind → I) (number : ℕ) (as' : List (ℕ × Kind)) (i : ℕ) → slice_get as' i ≡ None → length (accesses_items referenced number as') ≤ i
items_end referenced number as' i h = let e = length-items referenced number as' in let k = past_end as' i h in omega arith

length-each : (k : Kind) (ps : List ℕ) → length (each k ps) ≡ length ps
length-each k [] = refl
length-each k (p ∷ ps) = ap suc (length-each k ps)

length-starts : (n page : ℕ) → length (starts n page) ≡ n
length-starts zero page = refl
length-starts (suc n) page = ap suc (length-starts n (page + 1))

few-borders : (addr m : ℕ) → m ≤ 65536 → (addr + m - 1) / 4096 - addr / 4096 ≤ 17
few-borders addr m h = omega arith

few-places : (addr size : ℕ) → size ≤ 65536 → length (places addr size) ≤ 18
few-places addr size h =
    let m : max size 1 ≤ 65536 = max-le h (omega arith) in
    let b : borders addr size ≤ 17 = few-borders addr (max size 1) m in
    let l : length (starts (borders addr size) (addr / 4096 + 1)) ≡ borders addr size = length-starts (borders addr size) (addr / 4096 + 1) in
    omega arith

few-accesses : (l : Letter) (ps : List ℕ) → length ps ≤ 18 → length (accesses_at l ps) ≤ 64
few-accesses letter.I ps h = let e : length (each Fetch ps) ≡ length ps = length-each Fetch ps in omega arith
few-accesses letter.L ps h = let e : length (each Load ps) ≡ length ps = length-each Load ps in omega arith
few-accesses letter.S ps h = let e : length (each Store ps) ≡ length ps = length-each Store ps in omega arith
few-accesses letter.M ps h =
    let e : length (each Load ps) ≡ length ps = length-each Load ps in
    let f : length (each Store ps) ≡ length ps = length-each Store ps in
    let g : length (each Load ps ++ each Store ps) ≡ length (each Load ps) + length (each Store ps) = length-append (each Load ps) (each Store ps) in
    omega arith

few_items : {I : Type 0} (referenced : ℕ → ℕ → Kind → I) (number : ℕ) (l : Letter) (addr size i : ℕ) → size ≤ 65536 → 64 ≤ i → length (accesses_items referenced number (accesses_at l (places addr size))) ≤ i
few_items referenced number l addr size i h k =
    let e = length-items referenced number (accesses_at l (places addr size)) in
    let f = few-accesses l (places addr size) (few-places addr size h) in omega arith

pub returns-in_default-clause-served : goal.returns-in_default-clause-served
returns-in_default-clause-served g c =
    let r = c.args.found in
    served_all _ _ (not (eqb g.row.ANSWERS 0)) _ c.loop-i.i _ _ _ _ (items_end g.D.Form.meaning.referenced r.number (accesses r.reference) c.loop-i.i (sym c.nth_access.ensures ∙ c.in_default.is)) c.loop-i.invariant.served

pub returns-in-Err-clause-served : goal.returns-in-Err-clause-served
returns-in-Err-clause-served g c =
    let r = c.args.found in
    served_lost _ _ (not (eqb g.row.ANSWERS 0)) _ c.loop-i.i _ _ _ _ _ _ _ (nth_item g.D.Form.meaning.referenced r.number (accesses r.reference) c.loop-i.i c.in-Some.va c.in-Some.kind (sym c.nth_access.ensures ∙ c.in-Some.is))
    c.loop-i.invariant.served c.in-Err.ensures.served

pub loop-i-preserved : goal.loop-i-preserved
loop-i-preserved g c =
    let r = c.args.found in
    record {
      served = served_next _ _ (not (eqb g.row.ANSWERS 0)) _ c.loop-i.i _ _ _ _ _ _ _ (nth_item g.D.Form.meaning.referenced r.number (accesses r.reference) c.loop-i.i c.in-Some.va c.in-Some.kind (sym c.nth_access.ensures ∙ c.in-Some.is))
          c.loop-i.invariant.served c.in-Ok.ensures.served;
      can = λ steps h. c.in-Ok.ensures.can steps (c.loop-i.invariant.can steps h);
    }

pub returns-clause-served : goal.returns-clause-served
returns-clause-served g c =
    let r = c.args.found.reference in
    served_all _ _ (not (eqb g.row.ANSWERS 0)) _ c.loop-i.i _ _ _ _ (few_items g.D.Form.meaning.referenced c.args.found.number r.letter r.addr r.size c.loop-i.i r.small (grind (arith, nat_tests))) c.loop-i.invariant.served
