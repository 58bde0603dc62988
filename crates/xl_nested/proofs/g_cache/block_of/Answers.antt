use Rattle.xl_nested.proofs.Common.{◌-◌, ◌^◌, ◌≤◌, ap, arith, pages_of, ℕ}
use Rattle.xl_nested.proofs.CodingLemmas.{few-pages, item-block}
use Rattle.xl_nested.proofs.g_cache.block_of.Goals as goal

pub returns-clause-block : goal.returns-clause-block
returns-clause-block c =
    item-block c.args.item c.args.guest_page _ _ c.requires.covers (ap (λ (n : ℕ). c.args.guest_page - n) (rw c.requires.order at c.pages_before.ensures.value)) (rw c.requires.order at c.pages.ensures)

pub returns-clause-small : goal.returns-clause-small
returns-clause-small c =
    let few : pages_of c.args.order ≤ 2 ^ 18 = few-pages c.args.order in
    let p = c.pages.ensures in
    let low = c.requires.page in
    record { first_in = omega arith; pages_in = omega arith; word_in = c.requires.small }
