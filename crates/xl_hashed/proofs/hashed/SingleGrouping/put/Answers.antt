use Rattle.xl_hashed.proofs.Common.{◌∙◌, ap, has_tag, leaf_tag, One, slot-one, tags_of, values_under, word_at}
use Rattle.xl_hashed.proofs.OneLemmas.{absent-one}
use Rattle.xl_hashed.proofs.hashed.SingleGrouping.put.Goals as goal

pub put-requires-clause-absent : goal.put-requires-clause-absent
put-requires-clause-absent c =
    let x = c.args.leaf in
    let hs = c.args.chains.now.held in
    ap (has_tag (tags_of hs)) c.tag_of-tag.ensures
    ∙ absent-one (leaf_tag 1 x) hs c.requires.ready.used (ap (word_at One (values_under hs) (leaf_tag 1 x)) (slot-one x.order x.first) ∙ c.requires.empty)
