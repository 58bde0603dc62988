use Rattle.xl_radix.proofs.LazyLemmas.{is_front}
use Rattle.xl_radix.proofs.lazy.LazyWords.front.Goals as goal

pub returns : goal.returns
returns c = rw (← c.self.view_is, c.deref.ensures.value) (is_front c.self.inside.size c.self.inside.kept.items c.self.invariant.0)
