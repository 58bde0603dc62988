use Rattle.std.proofs.Common.{◌∙◌, ap, Option, sym}
use Rattle.xl_nested_model.specs.declared.nest.Nest.{Nest}
use Rattle.xl_script.specs.Scripts.{text_read}
use Rattle.xl_nested_script.proofs.ReadyLemmas.{script-keeps}
use Rattle.xl_nested_script.specs.Scripts.{nest_said}
use Rattle.xl_nested_script.proofs.script.parse_nest.Goals as goal

pub invariant_of-result : goal.invariant_of-result
invariant_of-result c = (
  c.in-Some.ensures.limits,
  script-keeps c.args.text.now c.read_text.new.form c.in_ok-commands.commands.items
      (ap (λ (head : Option Nest). text_read nest_said head c.args.text.now) (sym c.new-reader.ensures) ∙ c.in_ok-commands.ensures.reading),
)
