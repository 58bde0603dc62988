use Rattle.xl_script.proofs.Common.{is_byte}
use Rattle.xl_script.proofs.TextLemmas.{first_place}
use Rattle.xl_script.proofs.text.first_newline.Goals as goal

pub returns : goal.returns
returns c = first_place (is_byte 10) c.args.text.now c.memchr.result c.memchr.ensures
