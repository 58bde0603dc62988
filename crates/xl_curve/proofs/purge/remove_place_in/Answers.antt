use Rattle.xl_curve.proofs.Common.{◌∙◌, [], ap, get_or_default, is_leaf, Leaf, List, map, Option, place_without, set}
use Rattle.xl_curve.proofs.purge.remove_place_in.Goals as goal

pub returns : goal.returns
returns c = λ space first o n.
    let stacks = c.args.stacks.now in
    record {
      is =
          ap (λ (x : List (Option Leaf)). set stacks c.args.set x)
          (c.remove_named.ensures.removed space first o n
          ∙ ap (map (place_without (is_leaf space first o))) (get_or_default stacks c.args.set c.index-stacks-set.result [] c.requires));
    }
