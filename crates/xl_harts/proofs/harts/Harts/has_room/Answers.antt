use Rattle.xl_harts.proofs.Common.{◌<◌, ◌∙◌, ◌≡◌, arith, no-overlap, None, overlap_rule, page_of, row_table, shared_row}
use Rattle.xl_harts.proofs.RefusalLemmas.{block-in, leaf-in-block, same-room}
use Rattle.xl_model.specs.declared.address.Mode.TheVariants as mode
use Rattle.xl_harts.proofs.harts.Harts.has_room.Goals as goal

pub has_room-requires : goal.has_room-requires
has_room-requires c =
    let i = c.self.inside in
    let small : c.args.space < i.spec.spaces = rw (← c.self.view_is) at c.requires.space in
    let free : overlap_rule (shared_row i.spec) i.table.radix.leaves c.args.space c.args.va c.args.order ≡ None = rw (← c.self.view_is) at c.requires.free in
    let block = block-in i.spec (row_table 3 i.table).shape c.self.invariant.kept.table_is c.args.space c.args.va c.args.order small c.requires.aligned in
    (omega arith, (rw c.page_of.ensures (leaf-in-block (row_table 3 i.table).shape c.args.space (page_of mode.Sv39 c.args.va) c.args.order _ block), rw c.page_of.ensures (no-overlap (shared_row i.spec) i.table.radix.leaves c.args.space c.args.va c.args.order free)))

pub returns : goal.returns
returns c = λ frame perm.
    let i = c.self.inside in
    rw (← c.self.view_is) (c.has_room.ensures ∙ rw c.page_of.ensures (same-room i.spec c.args.space c.args.va c.args.order 0 frame _ perm i.table.radix.leaves (row_table 3 i.table).shape c.self.invariant.kept.table_is))
