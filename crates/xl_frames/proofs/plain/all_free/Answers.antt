use Rattle.xl_frames.proofs.Common.{◌+◌, ◌-◌, ◌∙◌, ◌≡◌, ap, arith, false, get_or, rules, ℕ}
use Rattle.xl_frames.proofs.plain.all_free.Goals as goal

pub returns : goal.returns
returns c = (
  λ _. record {
    each = λ frame l u.
        let e : frame ≡ c.args.first + (frame - c.args.first) = omega arith in
        ap (λ (k : ℕ). get_or c.args.flags.now k false) e ∙ c.loop-i.invariant (frame - c.args.first) (omega arith);
  },
  λ _. search rules,
)
