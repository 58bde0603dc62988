use Rattle.xl_nested.proofs.Common.{◌*◌, ◌+◌, ◌-◌, ap, ℕ}
use Rattle.xl_nested.proofs.CodingLemmas.{leaf-says}
use Rattle.xl_nested.proofs.leaf.word_in.Goals as goal

pub returns-clause-says : goal.returns-clause-says
returns-clause-says c =
    leaf-says c.args.leaf c.args.page _ (ap (λ (n : ℕ). (c.args.leaf.frame + (c.args.page - c.args.leaf.first)) * 16 + n) c.perm_code.ensures.value)
