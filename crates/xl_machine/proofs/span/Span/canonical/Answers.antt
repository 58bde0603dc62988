use Rattle.xl_machine.proofs.Common.{◌%◌, ◌*◌, ◌+◌, ◌<◌, ◌^◌, ◌≡◌, arith, is_canonical, levels_of, Mode, nat_lt, nat_tests, ℕ}
use Rattle.xl_model.specs.declared.address.Mode.TheVariants as mode
use Rattle.xl_machine.proofs.span.Span.canonical.Goals as goal

in-halves : (m : Mode) (half both va : ℕ) → half ≡ 2 ^ (9 * levels_of m + 11) → both ≡ 2 ^ (9 * levels_of m + 12) → va < 2 ^ 64 → nat_lt ((va + half) % 2 ^ 64) both ≡ is_canonical m va
unfolding is_canonical
in-halves mode.Sv39 half both va is are small = let h : half ≡ 2 ^ 38 = is in let b : both ≡ 2 ^ 39 = are in rw (h, b) (grind (arith, nat_tests, small))
in-halves mode.Sv48 half both va is are small = let h : half ≡ 2 ^ 47 = is in let b : both ≡ 2 ^ 48 = are in rw (h, b) (grind (arith, nat_tests, small))
in-halves mode.Sv57 half both va is are small = let h : half ≡ 2 ^ 56 = is in let b : both ≡ 2 ^ 57 = are in rw (h, b) (grind (arith, nat_tests, small))

pub returns : goal.returns
returns c = rw (← c.self.view_is) (in-halves c.self.inside.mode c.self.inside.half c.self.inside.both c.args.va c.self.invariant.half_is c.self.invariant.both_is c.ranges.va.fits)
