-- The rows that a text has.
use Rattle.std.specs.Prelude.{ℕ, ◌==◌, Bool, true, false, nat_lt, List, length, Option, None, Some, Result, Ok, Err}
use Rattle.std.specs.Str.Lossy.{utf8_valid_len}
use Rattle.toml.specs.Data.{Members}
use Rattle.toml.specs.Parse.{parse_document}
use Rattle.xl_model.specs.Rows.{Row}
use Rattle.xl_config.specs.declared.fault.ConfigFault.{ConfigFault}
use Rattle.xl_config.specs.declared.fault.ConfigFault.TheVariants as fault
use Rattle.xl_config.specs.declared.fault.KeyFault.{KeyFault}
use Rattle.xl_config.specs.declared.fault.Rule.{Rule}
use Rattle.xl_config.specs.declared.fault.Rule.TheVariants as rule
use Rattle.xl_config.specs.Rows.{rows_in}

-- A text is UTF-8 where its valid front is all of it.
unfoldable pub is_utf8 : List ℕ → Bool
is_utf8 text = utf8_valid_len text == length text

-- The document of a text, of which it is known whether it is UTF-8.
abbrev pub document_by : Bool → List ℕ → Option Members
document_by true text = parse_document text
document_by false text = None

-- The TOML document of a text, where it has one.
unfoldable pub document_of : List ℕ → Option Members
document_of text = document_by (is_utf8 text) text

-- The number of a rule.
abbrev pub rule_number : Rule → ℕ
rule_number rule.Missing = 1
rule_number rule.WrongType = 2
rule_number rule.Outside = 3
rule_number rule.NotAllowed = 4
rule_number rule.Disagrees = 5

-- The fault of a text, by the fault of a key.
abbrev pub fault_of : KeyFault → ConfigFault
fault_of k = fault.BadKey k.row k.key (rule_number k.rule)

-- A reading of keys, as one of a text.
abbrev pub keyed : {A : Type 0} → Result A KeyFault → Result A ConfigFault
keyed (Ok a) = Ok a
keyed (Err k) = Err (fault_of k)

-- A text without a document isn't TOML.
abbrev pub parsed : Option Members → Result Members ConfigFault
parsed None = Err fault.BadToml
parsed (Some ms) = Ok ms

-- The rows of a text, of which it is known whether it is too long, and of its document.
abbrev pub config_by : Bool → Option Members → Result (List Row) ConfigFault
config_by true document = Err fault.TooLong
config_by false None = Err fault.BadToml
config_by false (Some ms) = keyed (rows_in ms)

-- The rows of a configuration, or the first thing that is wrong: it is too long, or no TOML, or
-- breaks a rule.
unfoldable pub config : List ℕ → Result (List Row) ConfigFault
config text = config_by (nat_lt 65536 (length text)) (document_of text)
