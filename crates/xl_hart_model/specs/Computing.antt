-- One word that opens every definition, those of rows too, for proofs that compute with them all.
use Rattle.std.specs.Prelude.{⊤}
use Rattle.xl_model.specs.Computing.{computing}
use Rattle.xl_hart_model.specs.Tally.{no_hart_counts, count_hart_reply, count_hit, count_miss, count_taken}
use Rattle.xl_hart_model.specs.Harts.{opening_harts, hart_reply, hart_accessed, hart_rule, hart_change, hart_refusal, hart_served, after_hart_event, hart_outcome}

-- Every definition is open.
unfoldable pub hart_computing : ⊤
unfolding computing no_hart_counts count_hart_reply count_hit count_miss count_taken opening_harts hart_reply hart_accessed hart_rule hart_change hart_refusal hart_served after_hart_event hart_outcome
hart_computing = tt
