use Rattle.xl_radix.proofs.Common.{◌+◌, ◌∙◌, ap, is_below, list_any}
use Rattle.xl_radix.proofs.SlotLemmas.{any_number}
use Rattle.xl_radix.proofs.numbering.Numbers.has_node.Goals as goal

pub returns : goal.returns
returns c =
    rw (← c.self.view_is) (c.any_has_name.ensures ∙ ap (list_any (is_below c.args.space (c.args.level + 1) c.args.prefix)) c.deref.ensures.value
    ∙ any_number c.args.space (c.args.level + 1) c.args.prefix c.self.inside.nodes.items)
