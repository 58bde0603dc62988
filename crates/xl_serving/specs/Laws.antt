-- What the account of the plain form is, in the words of the report.
use Rattle.std.specs.Prelude.{◌≡◌, false, List, None, Some}
use Rattle.xl_model.specs.declared.fault.InputFault.{InputFault}
use Rattle.xl_model.specs.declared.script.Item.{Item}
use Rattle.xl_model.specs.Rows.{Row}
use Rattle.xl_model.specs.Scenes.{opening_scene, printed_by}
use Rattle.xl_model.specs.Report.{Flags, report}
use Rattle.xl_course.specs.Courses.{Course}
use Rattle.xl_course.specs.Accounts.{Account, account, text_of}
use Rattle.xl_serving.specs.Plain.{plain, end_text}

-- The account of a course from rows in their opening states, each row as a line.
abbrev pub lines_account : Course Item → List Row → Flags → Account
lines_account c rows flags =
    account plain flags.answers (end_text false flags.images) false c (opening_scene rows)

-- Where no fault ends the input, the text of a run is the report.
abbrev pub TheTextIsTheReport : Type 0
TheTextIsTheReport =
    (c : Course Item) (rows : List Row) (flags : Flags) → c.fault ≡ None
    → text_of (lines_account c rows flags) ≡ report flags rows c.items

-- Where a fault ends the input, the text of a run is what was written before it.
abbrev pub AFaultEndsTheText : Type 0
AFaultEndsTheText =
    (c : Course Item) (fault : InputFault) (rows : List Row) (flags : Flags) → c.fault ≡ Some fault
    → text_of (lines_account c rows flags) ≡ printed_by flags.answers c.items (opening_scene rows)
