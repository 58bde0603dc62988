-- What a run of the form is to write, and what it leaves.
use Rattle.std.specs.Prelude.{Option, Some}
use Rattle.xl_nested_model.specs.Nested.{NestState}
use Rattle.xl_nested_script.specs.Scripts.{nest_script_of}
use Rattle.xl_outside.specs.Folders.{Files}
use Rattle.xl_course.specs.Accounts.{Account}
use Rattle.xl_serving.specs.Inputs.{trail_in}
use Rattle.xl_paired.specs.Pairs.{account_by, left_by, script_in}
use Rattle.xl_words.specs.Words.{AskedPair}
use Rattle.xl_nesting.specs.Nesting.{nested_form}

-- What a run over these files is to write.
abbrev pub nested_account : AskedPair → Files → Account
nested_account a files = account_by nested_form a.answers (trail_in (Some a.trace) files) (script_in nest_script_of a.script files)

-- The guest over its host that such a run leaves; none where the script is refused.
abbrev pub nested_left : AskedPair → Files → Option NestState
nested_left a files = left_by nested_form (trail_in (Some a.trace) files) (script_in nest_script_of a.script files)
