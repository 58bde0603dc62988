-- What the program's end says of the folder and of both streams.
use Rattle.std.specs.Prelude.{ℕ, ◌≡◌, List, IfSome, length, option_map}
use Rattle.xl_outside.specs.Folders.{FolderMeaning}
use Rattle.xl_outside.specs.Sinks.{Proceeds, SinkMeaning}
use Rattle.xl_words.specs.Words.{asked}
use Rattle.xl_course.specs.declared.status.Status.{Status}
use Rattle.xl_course.specs.Accounts.{Answers, Completes, message_of, Says, SaysOfWords, text_of}
use Rattle.xl_course.specs.Stops.{FolderLeft, is_status_put}
use Rattle.xl_bench.specs.Accounts.{account_of}
use Rattle.xlate.specs.Codes.{code_of}

-- What the folder, the output and the stream of messages mean.
pub record Meanings (D K E : Type 0) : Type 1 where
  pub folder : FolderMeaning D
  pub out : SinkMeaning K
  pub err : SinkMeaning E

-- The three at one time.
pub record States (D K E : Type 0) : Type 0 where
  pub folder : D
  pub out : K
  pub err : E

-- What a run of these words that ends with this status says of the three before it and after it, as `run` does.
pub record RunEnds {D K E : Type 0} (m : Meanings D K E) (words : List (List ℕ)) (s : Status) (old new : States D K E) : Type 0 where
  pub known : IfSome (m.folder.files old.folder) (λ fs. Answers s (account_of words fs) (m.out.outside old.out).written (m.out.outside new.out).written)
  pub usage : SaysOfWords s (asked words)
  pub leaves : FolderLeft m.folder old.folder new.folder s
  pub proceeds : Proceeds (is_status_put s) (m.out.outside old.out) (m.out.outside new.out)
  pub said : IfSome (message_of s (option_map (account_of words) (m.folder.files old.folder))) (λ text. Says m.err text old.err new.err)
  pub complete : m.folder.steady old.folder → IfSome (m.folder.files old.folder) (λ fs. m.out.roomy old.out (length (text_of (account_of words fs))) → Completes s (account_of words fs))

-- The exit code is that of a status with which a run ends so.
pub record EndsWithCode {D K E : Type 0} (m : Meanings D K E) (words : List (List ℕ)) (code : ℕ) (old new : States D K E) : Type 0 where
  pub status : Status
  pub is : code ≡ code_of status
  pub ends : RunEnds m words status old new
