use Rattle.xl_report.proofs.Common.{drop, map, objects_of, view}
use Rattle.xl_report.proofs.JsonLemmas.{so_far-plain}
use Rattle.xl_report.proofs.object.json.Goals as goal

pub text-requires : goal.text-requires
text-requires c =
    let rows = c.args.rows.now.items in
    let counts = c.args.counts.now.items in
    let i = c.loop-i.i in
    so_far-plain (map view c.loop-i.objects.items) (objects_of (drop i rows) (drop i counts)) rows counts c.loop-i.invariant
