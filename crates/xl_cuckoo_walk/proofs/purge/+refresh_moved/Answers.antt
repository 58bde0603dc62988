use Rattle.xl_cuckoo_walk.proofs.Common.{◌+◌, ◌∙◌, ap, is_old, key_known, keys_from, new_word, purged, refreshed, sym}
use Rattle.xl_cuckoo.specs.Undo.{known}
use Rattle.xl_cuckoo_walk.proofs.PurgeLemmas.{known-none, known-some}
use Rattle.xl_cuckoo_walk.proofs.purge.+refresh_moved.Goals as goal

pub returns-in-None : goal.returns-in-None
returns-in-None g n c =
    sym (ap (λ ks. refreshed (λ key. new_word c.args.size key c.args.counts.now.counts c.args.table.now.ways) ks c.args.cache.now)
    (known-none c.args.table.now.moved c.args.at (ap key_known (sym c.moved.ensures.is ∙ ap known c.in-None.is))))

pub returns-in-Some : goal.returns-in-Some
returns-in-Some g n c =
    let first : _ = ap (λ w. record c.args.cache.now { items = purged (is_old c.in-Some.moved.key w) c.args.cache.now.items }) c.word_for.ensures in
    c.refresh_moved.ensures
    ∙ ap (refreshed (λ key. new_word c.args.size key c.args.counts.now.counts c.args.table.now.ways) (keys_from (c.args.at + 1) c.args.table.now.moved))
    (c.refresh.ensures ∙ first)
    ∙ sym (ap (λ ks. refreshed (λ key. new_word c.args.size key c.args.counts.now.counts c.args.table.now.ways) ks c.args.cache.now)
    (known-some c.args.table.now.moved c.args.at c.in-Some.moved.key (ap key_known (sym c.moved.ensures.is ∙ ap known c.in-Some.is))))
