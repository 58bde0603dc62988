use Rattle.xl_radix_walk.proofs.Common.{◌-◌, ◌<◌, lit<}
use Rattle.xl_radix_walk.proofs.FindLemmas.{root-level, root-number}
use Rattle.xl_radix_walk.proofs.find.find_word.Goals as goal

pub straight-requires : goal.straight-requires
straight-requires g c =
    let back = c.words_read_back.ensures in
    (lit< tt, (rw c.root.ensures (root-number g.row.LEVELS c.args.space c.args.page c.args.radix.now back c.requires), rw c.root.ensures (root-level g.row.LEVELS c.args.space c.args.page c.args.radix.now back)))
