use Rattle.xl_outside.proofs.Common.{rules, take}
use Rattle.xl_outside.proofs.mem_sink.MemSinkSink.put.Goals as goal

pub returns-clause-leaves : goal.returns-clause-leaves
returns-clause-leaves c = record {
  took = search rules;
  stays = (take c.min-count.result c.args.bytes.now, search rules);
  counts = search rules;
  calm = search rules;
}
