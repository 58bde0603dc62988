use Rattle.xl_outside.proofs.Common.{◌-◌, ◌∙◌, ◌≤◌, ap, arith, drop, length, length-take, List, subst, sym, take, ℕ}
use Rattle.xl_outside.proofs.HeldLemmas.{front_dropped}
use Rattle.xl_outside.proofs.held.Held.drop_front.Goals as goal

pub returns : goal.returns
returns c =
    let bytes = c.self.inside.bytes in
    let len = c.self.inside.len in
    let count = c.args.count in
    let within : len ≤ length bytes = omega (arith, c.self.invariant, c.self.told) in
    let held : count ≤ length (take len bytes) = subst (λ (xs : List ℕ). count ≤ length xs) (sym c.self.view_is) c.requires in
    let few : count ≤ len = omega (arith, length-take len bytes) in
    ap (λ (xs : List ℕ). take (len - count) xs) c.copy_within.ensures.after
    ∙ front_dropped bytes len count within few ∙ ap (λ (xs : List ℕ). drop count xs) c.self.view_is
