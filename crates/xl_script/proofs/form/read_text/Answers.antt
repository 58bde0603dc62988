use Rattle.xl_script.proofs.Common.{◌≡◌, false, le-ltb, length, lines_read, nat_lt, script_lines, text_read}
use Rattle.xl_script.proofs.ScriptLemmas.{at_end}
use Rattle.xl_script.proofs.form.read_text.Goals as goal

pub returns-clause-reading : goal.returns-clause-reading
unfolding text_read
returns-clause-reading g c =
    let l = c.loop-at in
    let whole = lines_read g.F.Form.said c.args.form.now 1 (script_lines c.args.text.now) in
    let short : nat_lt 1048576 (length c.args.text.now) ≡ false = le-ltb _ _ c.if-text-gt-LIMIT.false in
    rw short (at_end g.F.Form.said l.form l.number l.at c.args.text.now l.commands.items whole c.loop-at-test.false l.invariant.reading)
