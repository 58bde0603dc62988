use Rattle.xl_report.proofs.Common.{IsUtf8, subst, sym}
use Rattle.xl_report.proofs.JsonLemmas.{digits-are_text}
use Rattle.xl_report.proofs.object.hex_value.Goals as goal

pub unreachable-requires : goal.unreachable-requires
unreachable-requires c = c.in-Err.ensures.cases.0 (subst IsUtf8 (sym c.hex_text-digits.ensures) (digits-are_text 16 c.args.n))
