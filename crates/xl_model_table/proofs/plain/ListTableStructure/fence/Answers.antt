use Rattle.xl_model_table.proofs.TableLemmas.{fence-made}
use Rattle.xl_model_table.proofs.plain.ListTableStructure.fence.Goals as goal

pub returns : goal.returns
returns c =
    let s = c.self.inside in
    record { fences = fence-made s.buckets s.entries s.loads c.args._to s.leaves.items c.args.self.now c.self.view_is }
