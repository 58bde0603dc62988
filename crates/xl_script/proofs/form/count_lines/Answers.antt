use Rattle.xl_script.proofs.Common.{◌+◌, ◌∙◌, ap, is_byte, length, List, ℕ}
use Rattle.memchr.proofs.lemmas.CallerLemmas.{length-places}
use Rattle.xl_script.proofs.form.count_lines.Goals as goal

pub returns : goal.returns
returns c = ap (λ (n : ℕ). n + 1) (c.count.ensures ∙ ap (λ (l : List ℕ). length l) c.memchr_iter.ensures.value ∙ length-places (is_byte 10) c.args.text.now)
