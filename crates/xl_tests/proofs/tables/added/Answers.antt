use Rattle.std.proofs.Common.{◌≡◌, ◌∙◌, ℕ, ◌<◌, ◌^◌, arith}
use Rattle.xl_model.specs.declared.address.Order.TheVariants as order
use Rattle.xl_model.specs.Shapes.{Shape}
use Rattle.xl_model.specs.Structures.{IsBlock, spaces_of, page_limit}
use Rattle.xl_model_lemmas.proofs.LimitLemmas.{same-change}
use Rattle.xl_tests.proofs.tables.added.Goals as goal

one_page : (shape : Shape) (first : ℕ) → first < 100 → spaces_of shape ≡ 64 → page_limit shape ≡ 2 ^ 45 → IsBlock shape 1 first order.K4
one_page shape first h s p = record { space_in = omega arith; pages_in = omega arith; aligned = (first, omega arith) }

pub meets-requires : goal.meets-requires
meets-requires g c = one_page (g.S.Structure.table c.args.table.now).shape c.args.first c.requires.small c.requires.spaces c.requires.pages

pub insert-requires-clause-valid : goal.insert-requires-clause-valid
insert-requires-clause-valid g c = record {
  block = one_page (g.S.Structure.table c.args.table.now).shape c.args.first c.requires.small c.requires.spaces c.requires.pages;
  frames_in = omega arith;
  frames_aligned = (7, omega arith);
}

pub returns-clause-spaces : goal.returns-clause-spaces
returns-clause-spaces g c = (same-change _ (g.S.Structure.table c.args.table.now) _ c.insert.result c.insert.ensures.changes).spaces ∙ c.requires.spaces

pub returns-clause-pages : goal.returns-clause-pages
returns-clause-pages g c = (same-change _ (g.S.Structure.table c.args.table.now) _ c.insert.result c.insert.ensures.changes).pages ∙ c.requires.pages
