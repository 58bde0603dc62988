use Rattle.xl_outside.proofs.Common.{arith}
use Rattle.xl_outside.proofs.FolderLemmas.{folder_then}
use Rattle.xl_outside.proofs.FrontLemmas.{more_read}
use Rattle.xl_outside.proofs.whole.read_whole.Goals as goal

pub loop-buf-preserved : goal.loop-buf-preserved
loop-buf-preserved g c = record {
  within = omega (arith, c.in_ok-append.ensures.len);
  front = more_read (g.F.Folder.folder.files c.args.folder.now) (g.F.Folder.folder.files c.loop-buf.folder) c.args.name.now c.loop-buf.bytes.items
      c.len-in-loop-buf.result c.in_ok-count.count _ _ _ _
      c.loop-buf.invariant.folder.keeps c.loop-buf.invariant.front (omega (arith, c.loop-buf.bytes.ok.0)) c.in_ok-count.ensures.known
      (omega arith) c.in_ok-count.ensures.count c.in_ok-append.ensures.items;
  folder = folder_then _ _ _ _ _ c.loop-buf.invariant.folder c.in_ok-count.ensures.leaves;
}
