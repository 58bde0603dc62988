-- The program's exit codes.
use Rattle.std.specs.Prelude.{ℕ}
use Rattle.xl_course.specs.declared.status.Status.{Status}
use Rattle.xl_course.specs.declared.status.Status.TheVariants.{Ok, Usage, BadConfig, BadScript, BadTrace, ReadFault, WriteFault, NoMemory, NoFile}
use Rattle.xlate.specs.declared.NoWords.{NoWords}
use Rattle.xlate.specs.declared.NoWords.TheVariants as without

-- the exit code of a status: each one's own number
abbrev pub code_of : Status → ℕ
code_of Ok = 0
code_of Usage = 1
code_of BadConfig = 2
code_of BadScript = 3
code_of BadTrace = 4
code_of ReadFault = 5
code_of WriteFault = 6
code_of NoMemory = 7
code_of NoFile = 8

-- the exit code where the system gives no words: for want of memory, or since they are not texts
abbrev pub code_without : NoWords → ℕ
code_without without.Memory = 7
code_without without.Texts = 9
