use Rattle.xl_serving.proofs.Common.{false, images_where, rows_text, sink_then, true}
use Rattle.xl_serving.proofs.EndLemmas.{end_cut}
use Rattle.xl_serving.proofs.ending.write_end.Goals as goal

pub returns-in-Ok-write_images : goal.returns-in-Ok-write_images
returns-in-Ok-write_images g c =
    let rows = g.R.Rows.rows c.args.rows.now in
    sink_then g.K.Sink.sink (rows_text c.args.json rows) (images_where c.args.image rows) c.args.out.now c.write_rows.new.out c.write_images.new.out true
    c.in-Ok.ensures c.in-Ok-write_images.ensures

pub returns-in-Err-write_images : goal.returns-in-Err-write_images
returns-in-Err-write_images g c =
    let rows = g.R.Rows.rows c.args.rows.now in
    sink_then g.K.Sink.sink (rows_text c.args.json rows) (images_where c.args.image rows) c.args.out.now c.write_rows.new.out c.write_images.new.out false
    c.in-Ok.ensures c.in-Err-write_images.ensures

pub returns-in-Err : goal.returns-in-Err
returns-in-Err g c =
    let rows = g.R.Rows.rows c.args.rows.now in
    end_cut g.K.Sink.sink c.args.json (rows_text c.args.json rows) (images_where c.args.image rows) c.args.out.now c.write_rows.new.out c.in-Err.stop
    c.in-Err.ensures
