use Rattle.xl_cuckoo_walk.proofs.Common.{◌∙◌, lit<}
use Rattle.xl_cuckoo_walk.proofs.LookLemmas.{leaf-found}
use Rattle.xl_cuckoo_walk.proofs.WalkLemmas.{page-of}
use Rattle.xl_cuckoo_walk.proofs.look.leaf_of_page.Goals as goal

pub look_from-requires : goal.look_from-requires
look_from-requires g c = (lit< tt, page-of c.args.parts.now c.args.space c.args.page c.requires.page)

pub returns : goal.returns
returns g c = c.look_from.ensures ∙ leaf-found c.words_read_back.ensures c.args.parts.now c.requires.whole c.args.space c.args.page c.requires.page
