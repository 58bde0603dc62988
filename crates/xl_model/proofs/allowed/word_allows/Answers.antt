use Rattle.std.proofs.Common.{◌≡◌, ◌%◌, ◌<◌, ◌∙◌, ap, arith}
use Rattle.xl_model.specs.Addresses.{allows as is_allowed}
use Rattle.xl_model.specs.declared.perm.Perm.{Perm}
use Rattle.xl_model.proofs.AllowedLemmas.{same_perm}
use Rattle.xl_model.proofs.allowed.word_allows.Goals as goal

pub returns : goal.returns
returns c =
    let word = c.args.word in
    let few : word % 32 < 32 = omega arith in
    let low : word % 32 % 16 ≡ word % 16 = omega arith in
    c.allowed_codes.ensures (word % 32) few ∙ ap (λ (p : Perm). is_allowed p c.args.kind) (same_perm (word % 32) word low)
