use Rattle.xl_frames.proofs.Common.{◌∙◌, false≢true, rules, sym}
use Rattle.xl_frames.proofs.SetLemmas.{as_free, past_none, settled_left}
use Rattle.xl_frames.proofs.blocks.join_block.Goals.{else-block-count-via-else-block-count, else-block-count-via-then-block-count+else-are_free}
use Rattle.xl_frames.proofs.blocks.join_block.Goals as goal

pub returns-else-block-count : goal.returns-else-block-count
returns-else-block-count c =
    let a = c.args in
    elim c.else-block-count.branch [
      | else-block-count-via-then-block-count+else-are_free w ↦ settled_left a.numbers.now a.blocks.now a.block (λ f. false≢true (sym w.if-are_free.false ∙ w.are_free.ensures.1 (as_free a.numbers.now a.block f)))
      | else-block-count-via-else-block-count w ↦ settled_left a.numbers.now a.blocks.now a.block (past_none a.numbers.now a.blocks.now a.block c.requires.count (search rules))
    ]
