use Rattle.xl_areas.proofs.Common.{◌∙◌, ◌≡◌, answer_at, ap, cond, count_to, cut_at, insert, is_ok, None, subst}
use Rattle.xl_areas.proofs.CutLemmas.{cut-inserts}
use Rattle.xl_areas.proofs.bounds.cut.Goals as goal

pub returns-clause-cut : goal.returns-clause-cut
returns-clause-cut c =
    let bounds = c.args.bounds.now.items in
    let key = c.args.key in
    let place : c.count-place.result ≡ count_to key bounds = c.count-place.ensures.value ∙ ap (count_to key) c.as_slice-2.ensures.value in
    let area : c.answer-area.result ≡ answer_at key None bounds = c.answer-area.ensures ∙ ap (answer_at key None) c.as_slice.ensures.value in
    let put : insert bounds c.count-place.result (record { key = key; area = c.answer-area.result }) ≡ cut_at key None bounds = rw place (rw area (cut-inserts key None bounds)) in
    subst (λ r. c.insert.new.self.items ≡ cond (is_ok r) (insert bounds c.count-place.result (record { key = key; area = c.answer-area.result })) bounds) c.unwrap.ensures c.insert.ensures.items ∙ put
