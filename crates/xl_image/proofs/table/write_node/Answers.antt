use Rattle.std.proofs.Common.{◌+◌, ◌∙◌, ◌≡◌, arith, false, None, true}
use Rattle.std.specs.Prelude.{slice_index_or}
use Rattle.xl_model.specs.Image.{word_of}
use Rattle.xl_image.proofs.WordLemmas.{node-cut, word-passed, word-written}
use Rattle.xl_image.proofs.table.write_node.Goals.{else-word-ne0, then-word-ne0+in-Ok}
use Rattle.xl_image.proofs.table.write_node.Goals as goal

pub returns-in-Err : goal.returns-in-Err
returns-in-Err g c =
    let radix = c.args.radix.now in
    let node = slice_index_or radix.nodes c.args.number None in
    let within = c.loop-index-test.true in
    let e : c.word-word.result ≡ word_of radix.leaves radix.nodes node c.loop-index.index = c.word-word.ensures ∙ c.words_read_back.ensures.each c.args.number c.loop-index.index c.requires within in
    node-cut g.K.Sink.sink c.args.row.now.name.bytes radix.leaves radix.nodes 512 c.args.number node (c.loop-index.index + 1) c.args.out.now c.write_image.new.out
    (omega arith)
    (word-written g.K.Sink.sink c.args.row.now.name.bytes radix.leaves radix.nodes c.args.number node c.loop-index.index c.word-word.result
    c.args.out.now c.loop-index.out c.write_image.new.out false e c.if-word-ne0.true c.loop-index.invariant c.in-Err.ensures)

pub loop-index-preserved : goal.loop-index-preserved
loop-index-preserved g c =
    let radix = c.args.radix.now in
    let node = slice_index_or radix.nodes c.args.number None in
    let e : c.word-word.result ≡ word_of radix.leaves radix.nodes node c.loop-index.index =
    c.word-word.ensures ∙ c.words_read_back.ensures.each c.args.number c.loop-index.index c.requires c.loop-index-test.true in
    elim c.if-word-ne0.branch [
      | then-word-ne0+in-Ok w ↦
          rw w.out-is
          (word-written g.K.Sink.sink c.args.row.now.name.bytes radix.leaves radix.nodes c.args.number node c.loop-index.index c.word-word.result
          c.args.out.now c.loop-index.out w.write_image.new.out true e w.if-word-ne0.true c.loop-index.invariant w.in-Ok.ensures)
      | else-word-ne0 w ↦
          rw w.out-is
          (word-passed g.K.Sink.sink c.args.row.now.name.bytes radix.leaves radix.nodes c.args.number node c.loop-index.index c.word-word.result
          c.args.out.now c.loop-index.out e w.if-word-ne0.false c.loop-index.invariant)
    ]
