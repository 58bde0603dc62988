use Rattle.xl_nested.proofs.Common.{◌*◌, ◌+◌, ap, ℕ}
use Rattle.xl_nested.proofs.CodingLemmas.{kept-back}
use Rattle.xl_nested.proofs.g_cache.item_of.Goals as goal

pub returns-clause-leaf : goal.returns-clause-leaf
returns-clause-leaf c = kept-back c.args.leaf _ c.requires c.tag_of.ensures.value (ap (λ (n : ℕ). c.args.leaf.frame * 16 + n) c.perm_code.ensures.value)
