use Rattle.xl_nested.proofs.Common.{◌∙◌}
use Rattle.xl_nested.proofs.CacheLemmas.{frame-none, frame-some}
use Rattle.xl_nested.proofs.host.Host.translate.Goals as goal

pub returns-in_err-word-clause-frame : goal.returns-in_err-word-clause-frame
returns-in_err-word-clause-frame c = rw c.from_residual.ensures (frame-none c.args.guest_page c.args.self.now.stage.leaves c.args.kind c.in_err-word.ensures.word)

pub returns-clause-frame : goal.returns-clause-frame
returns-clause-frame c = c.frame_allowed.ensures.frame ∙ frame-some c.args.guest_page c.in_ok-word.word c.args.self.now.stage.leaves c.args.kind c.in_ok-word.ensures.word
