use Rattle.xl_way.proofs.Common.{◌*◌, ◌+◌, ◌<◌, ◌∷◌, ◌≡◌, ◌≤◌, [], cell, entries_of, Entry, IfNone, IfSome, IsLine, length, List, None, Option, Some, subst, sym, WayState, words_of, ℕ}
use Rattle.xl_way.proofs.WayLemmas.{way_of}
use Rattle.xl_way.proofs.WordLemmas.{line-is, line-none}
use Rattle.xl_way.proofs.way.WayBus.load.Goals as goal

pub returns-clause-some : goal.returns-clause-some
returns-clause-some c =
    let s = c.self.inside in
    let S : WayState → Type 0 = λ v. IfSome c.words_of_line.result (IsLine (words_of v.shape) c.args.line) in
    let four : List Entry → List ℕ =
    λ xs. (cell xs (2 * c.args.line)).key ∷ (cell xs (2 * c.args.line)).word ∷ (cell xs (2 * c.args.line + 1)).key ∷ (cell xs (2 * c.args.line + 1)).word ∷ [] in
    let F : List Entry → Type 0 = λ xs. IfSome c.words_of_line.result (λ ws. ws ≡ four xs) in
    let T : List Entry → Type 0 = λ xs. IfSome c.words_of_line.result (λ ws. 2 * c.args.line + 2 ≤ length xs) in
    let W : List ℕ = words_of (way_of s.places.number s.cap s.places.regs (entries_of s.slots.items)) in
    let go : (o : Option (List ℕ)) → IfSome o (λ ws. ws ≡ four s.slots.items) → IfSome o (λ ws. 2 * c.args.line + 2 ≤ length s.slots.items) → IfSome o (IsLine W c.args.line) =
    λ o. elim o as (λ p. IfSome p (λ ws. ws ≡ four s.slots.items) → IfSome p (λ ws. 2 * c.args.line + 2 ≤ length s.slots.items) → IfSome p (IsLine W c.args.line)) [
      | None ↦ λ e l. tt
      | Some ws ↦ λ e l. let L : List ℕ → Type 0 = λ vs. IsLine W c.args.line vs in subst L (sym e) (line-is s.places.number s.cap s.places.regs s.slots.items s.used c.self.invariant c.args.line l)
    ] in
    subst S c.self.view_is (go c.words_of_line.result (subst F c.deref.ensures.value c.words_of_line.ensures.some) (subst T c.deref.ensures.value c.words_of_line.ensures.there))

pub returns-clause-none : goal.returns-clause-none
returns-clause-none c =
    let s = c.self.inside in
    let S : WayState → Type 0 = λ v. IfNone c.words_of_line.result (length (words_of v.shape) < 4 * c.args.line + 4) in
    let W : List ℕ = words_of (way_of s.places.number s.cap s.places.regs (entries_of s.slots.items)) in
    let go : (o : Option (List ℕ)) → IfNone o (length s.slots.items < 2 * c.args.line + 2) → IfNone o (length W < 4 * c.args.line + 4) =
    λ o. elim o as (λ p. IfNone p (length s.slots.items < 2 * c.args.line + 2) → IfNone p (length W < 4 * c.args.line + 4)) [
      | None ↦ λ l. line-none s.places.number s.cap s.places.regs s.slots.items s.used c.self.invariant c.args.line l
      | Some ws ↦ λ l. tt
    ] in
    subst S c.self.view_is (go c.words_of_line.result (subst (λ (xs : List Entry). IfNone c.words_of_line.result (length xs < 2 * c.args.line + 2)) c.deref.ensures.value c.words_of_line.ensures.none))
