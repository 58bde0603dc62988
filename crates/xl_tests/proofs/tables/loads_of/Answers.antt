use Rattle.std.proofs.Common.{◌∙◌}
use Rattle.xl_model.specs.PageWalks.{walk_of_page}
use Rattle.xl_model_lemmas.proofs.LimitLemmas.{same-walk}
use Rattle.xl_tests.proofs.tables.loads_of.Goals as goal

pub returns-clause-spaces : goal.returns-clause-spaces
returns-clause-spaces g c = (same-walk 1 c.args.page (g.S.Structure.table c.args.table.now) _ (walk_of_page 1 c.args.page c.walk-walk.result) c.walk-walk.ensures.walks).spaces ∙ c.requires.spaces

pub returns-clause-pages : goal.returns-clause-pages
returns-clause-pages g c = (same-walk 1 c.args.page (g.S.Structure.table c.args.table.now) _ (walk_of_page 1 c.args.page c.walk-walk.result) c.walk-walk.ensures.walks).pages ∙ c.requires.pages
