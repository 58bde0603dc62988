-- One word that opens all definitions, for rows that are proved by computation: beside `computing` of `xl_model`.
use Rattle.std.specs.Prelude.{⊤}
use Rattle.xl_nested_model.specs.Tally.{no_nest_counts, count_nest_refusal, count_nest_reply, count_nest_accepted}
use Rattle.xl_nested_model.specs.Stages.{host_leaf, stage2, guest_path, nested, translated}
use Rattle.xl_nested_model.specs.Rules.{gmap_rule, gunmap_rule, vmap_rule, vunmap_rule, gmapped, gunmapped, vmapped, vunmapped}
use Rattle.xl_nested_model.specs.Nested.{opening_nest, nest_accessed, nest_rule, nest_served, after_nest_event, nest_outcome}

-- Every definition of this crate is open.
unfoldable pub nested_computing : ⊤
unfolding no_nest_counts count_nest_refusal count_nest_reply count_nest_accepted host_leaf stage2 guest_path nested translated gmap_rule gunmap_rule vmap_rule vunmap_rule gmapped gunmapped vmapped vunmapped opening_nest nest_accessed nest_rule nest_served after_nest_event nest_outcome
nested_computing = tt
