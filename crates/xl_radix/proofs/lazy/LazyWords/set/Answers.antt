use Rattle.xl_radix.proofs.Common.{◌∙◌, ap, length-set, List, refl, slice_set as set, ℕ}
use Rattle.xl_radix.proofs.LazyLemmas.{set_kept}
use Rattle.xl_radix.proofs.lazy.LazyWords.set.Goals as goal

pub returns : goal.returns
returns c =
    set_kept c.self.inside.size c.args.place c.args.word c.keep_to.new.kept.items _ c.keep_to.ensures.there refl (length-set _ _ _)
    ∙ ap (λ (ws : List ℕ). set ws c.args.place c.args.word) (c.keep_to.ensures.same ∙ c.self.view_is)
