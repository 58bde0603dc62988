use Rattle.xl_machine.proofs.Common.{length, row_of, state_of}
use Rattle.xl_machine.proofs.Accesses.{refused_after, refused_reply}
use Rattle.xl_machine.proofs.machine.Machine.refuse_address.Goals as goal

pub returns : goal.returns
returns g c =
    rw (c.reply.ensures, ← c.self.view_is) (record {
      reply_is = refused_reply (row_of c.self.inside.row) c.args.va c.args._kind (state_of (length (row_of c.self.inside.row).tlb) (g.S.Structure.table c.self.inside.table) c.self.inside.space c.self.inside.tlb c.self.inside.counts) (rw (← c.self.view_is) at c.requires);
      after_is = refused_after (row_of c.self.inside.row) c.args.va c.args._kind (g.S.Structure.table c.self.inside.table) c.self.inside.space c.self.inside.tlb c.self.inside.counts (rw (← c.self.view_is) at c.requires);
      small = tt;
    })
