use Rattle.std.proofs.Common.{◌≡◌, ◌+◌, ◌*◌, ◌∙◌, ap, arith}
use Rattle.xl_model.specs.Addresses.{allows as is_allowed}
use Rattle.xl_model.specs.LeafWords.{perm_code, perm_at}
use Rattle.xl_model.specs.declared.perm.Perm.{Perm}
use Rattle.xl_model.proofs.CodeLemmas.{perm-back}
use Rattle.xl_model.proofs.allowed.allows.Goals as goal

pub returns : goal.returns
returns c =
    let perm = c.args.perm in
    let alone : perm_code perm ≡ 0 * 16 + perm_code perm = omega arith in
    (rw c.perm_code.ensures.value at c.word_allows.ensures) ∙ ap (λ n. is_allowed (perm_at n) c.args.kind) alone ∙ ap (λ (p : Perm). is_allowed p c.args.kind) (perm-back 0 perm)
