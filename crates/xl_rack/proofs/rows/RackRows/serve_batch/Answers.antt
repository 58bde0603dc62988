use Rattle.xl_rack.proofs.Common.{◌∙◌, ap, scene_of}
use Rattle.xl_rack.proofs.BatchLemmas.{batched-by-row}
use Rattle.xl_rack.proofs.rows.RackRows.serve_batch.Goals as goal

pub returns : goal.returns
returns c = ap (λ rows. scene_of rows c.args.areas.now) c.serve_batch.ensures ∙ batched-by-row c.args.accesses.now c.args.events.now c.args.areas.now c.args.self.now
