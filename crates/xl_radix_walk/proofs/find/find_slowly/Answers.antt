use Rattle.xl_radix_walk.proofs.Common.{◌-◌, ◌<◌, lit<, rules}
use Rattle.xl_radix_walk.proofs.FindLemmas.{page-small, root-level, root-number}
use Rattle.xl_radix_walk.proofs.find.find_slowly.Goals as goal

pub descend-end-requires : goal.descend-end-requires
descend-end-requires g c =
    let back = c.words_read_back.ensures in
    (lit< tt, (rw c.root.ensures (root-number g.row.LEVELS c.args.space c.args.page c.args.radix.now back c.requires), (rw c.root.ensures (root-level g.row.LEVELS c.args.space c.args.page c.args.radix.now back), search rules)))

pub found_leaf-requires-clause-page : goal.found_leaf-requires-clause-page
found_leaf-requires-clause-page g c = page-small g.row.LEVELS c.args.space c.args.page c.args.radix.now c.words_read_back.ensures c.requires
