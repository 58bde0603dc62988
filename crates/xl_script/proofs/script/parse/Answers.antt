use Rattle.xl_script.proofs.Common.{◌∙◌, ap, plain_said, sym, text_read, ℕ}
use Rattle.xl_script.proofs.ScriptLemmas.{script_keeps}
use Rattle.xl_script.proofs.script.parse.Goals as goal

pub invariant_of-result : goal.invariant_of-result
invariant_of-result c =
    script_keeps c.args.text.now c.read_text.new.form c.in_ok-commands.commands.items
    (ap (λ (n : ℕ). text_read plain_said n c.args.text.now) (sym c.new.ensures) ∙ c.in_ok-commands.ensures.reading)
