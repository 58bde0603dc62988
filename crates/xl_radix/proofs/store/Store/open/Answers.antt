use Rattle.xl_radix.proofs.Common.{arith, rules}
use Rattle.xl_radix.proofs.OpeningLemmas.{opening-back, opening-count, opening-exact, opening-store}
use Rattle.xl_radix.proofs.store.Store.open.Goals as goal

pub invariant_of-result : goal.invariant_of-result
invariant_of-result g c =
    let nodes = c.in_ok-numbers.ensures in
    let words = c.in_ok-words.ensures in
    let used = c.in_ok-used.ensures.items_if_clones_equal (λ y h. h) in
    let store = opening-store g.row.LEVELS c.args.spaces c.args.frames c.requires.levels.0 c.requires.levels.1 c.requires.spaces c.requires.frames in
    let back = opening-back g.row.LEVELS c.args.spaces c.args.frames c.requires.levels.0 c.requires.levels.1 c.requires.spaces c.requires.frames in
    rw (nodes, words, used, back) store

pub returns : goal.returns
returns g c =
    let nodes = c.in_ok-numbers.ensures in
    let words = c.in_ok-words.ensures in
    let back = opening-back g.row.LEVELS c.args.spaces c.args.frames c.requires.levels.0 c.requires.levels.1 c.requires.spaces c.requires.frames in
    let count = opening-count g.row.LEVELS c.args.spaces c.args.frames in
    let h = c.requires.spaces in
    record {
      leaves = rw (nodes, words) (opening-back g.row.LEVELS c.args.spaces c.args.frames c.requires.levels.0 c.requires.levels.1 c.requires.spaces c.requires.frames);
      nodes = search rules;
      spaces = search rules;
      exact = rw (nodes, words, back) (opening-exact g.row.LEVELS c.args.spaces c.args.frames c.requires.levels.0);
      free = rw nodes (omega (arith, count, h));
    }
