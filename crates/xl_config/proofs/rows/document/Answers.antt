use Rattle.xl_config.proofs.Common.{◌≡◌, arith, document_of, is_utf8, IsUtf8, List, Members, Ok, parsed, Some, subst, table_view, true, ℕ}
use Rattle.std.proofs.lemmas.Bool.Decides.{nat_tests}
use Rattle.std.proofs.lemmas.Str.{utf8_valid_len-IsUtf8}
use Rattle.toml.specs.Parse.{parse_document}
use Rattle.xl_config.proofs.rows.document.Goals as goal

-- A text that is UTF-8 and its document.
valid : (text : List ℕ) → IsUtf8 text → is_utf8 text ≡ true
unfolding is_utf8
valid text u = rw (utf8_valid_len-IsUtf8 text u) (grind (arith, nat_tests))

document_is : (text s : List ℕ) (m : Members) → s ≡ text → IsUtf8 text → parse_document s ≡ Some m → parsed (document_of text) ≡ Ok m
unfolding document_of
document_is text s m same u read =
    let p : parse_document text ≡ Some m = subst (λ x. parse_document x ≡ Some m) same read in
    rw (valid text u, p)

pub returns-in-Ok-table_from_str-clause-reading : goal.returns-in-Ok-table_from_str-clause-reading
returns-in-Ok-table_from_str-clause-reading c =
    document_is c.args.text.now c.in-Ok.text.now (table_view c.in-Ok-table_from_str.table) c.in-Ok.ensures.cases.0 c.in-Ok.ensures.cases.1 c.in-Ok-table_from_str.ensures.ok
