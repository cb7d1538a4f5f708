-- What `desk check` answers.
use Rattle.std.specs.Prelude.{◌≡◌, ◌≤◌, ℕ, Bool, List, [], ◌++◌, codes, length, map, Option}
use Rattle.serde_json.specs.Written.{compact_text}
use Rattle.desk_streams.specs.declared.fault.InputFault.{InputFault}
use Rattle.desk_book.specs.declared.limits.TheConstants.{LONGEST_SCRIPT}
use Rattle.desk_report.specs.declared.format.Format.{Format}
use Rattle.desk_report.specs.declared.format.Format.TheVariants.{Json, Text}
use Rattle.desk_rules.specs.Books.{Books}
use Rattle.desk.specs.Finding.{Refused, findings_in, report_text}
use Rattle.desk.specs.FindingData.{report_data}
use Rattle.desk.specs.Input.{Came, MayGiveNone, failure_of}
use Rattle.desk.specs.PlayAnswer.{IsPlayed}
use Rattle.desk.specs.Status.{IsFailureTold}
use Rattle.desk.specs.Told.{told_in}
use Rattle.desk.specs.declared.status.Failure.TheVariants.{Memory}
use Rattle.desk.specs.declared.status.Status.{Status}
use Rattle.desk.specs.declared.status.Status.TheVariants as exit

-- refused, where anything was found
abbrev pub status_of_findings : List Refused → Status
status_of_findings [] = exit.Done
status_of_findings findings = exit.Refused

-- what is told of them: lines for people, or an object on a line
abbrev pub text_of_findings : Format → ℕ → List Refused → List ℕ
text_of_findings Text requests findings = report_text requests findings
text_of_findings Json requests findings = compact_text (report_data requests findings) ++ codes "\n"

-- what is found among so many requests was told; or want of memory
pub data IsFoundTold (format : Format) (requests : ℕ) (findings : List Refused) (status : Status) (IsPrinted : List ℕ → Type 0) : Type 0 where
  told_all : status ≡ status_of_findings findings → IsPrinted (text_of_findings format requests findings) → IsFoundTold format requests findings status IsPrinted
  told_none : IsFailureTold Memory status IsPrinted → IsFoundTold format requests findings status IsPrinted

-- the script is answered so when it is played from these books, it has so many requests, and this is found by the answers
pub record AreFound (books : Books) (script : List ℕ) (requests : ℕ) (findings : List Refused) : Type 0 where
  pub answers : List ℕ
  pub played : IsPlayed books script answers
  pub count : requests ≡ length (told_in answers)
  pub found : map (λ refused. refused.found) findings ≡ findings_in script (told_in answers)

-- What was told of a script: what is found in it by its answers; or want of memory for these, of a script that is not too long.
pub data IsFindingsAnswer (books : Books) (format : Format) (script : List ℕ) (status : Status) (IsPrinted : List ℕ → Type 0) : Type 0 where
  told_findings : (requests : ℕ) (findings : List Refused) → AreFound books script requests findings → status ≡ status_of_findings findings → IsPrinted (text_of_findings format requests findings)
      → IsFindingsAnswer books format script status IsPrinted
  told_memory : length script ≤ LONGEST_SCRIPT → IsFailureTold Memory status IsPrinted → IsFindingsAnswer books format script status IsPrinted

-- The answer of the script that came, from these books; or why none could be read is told alone, as a fault.
pub data IsCheckAnswer (books : Books) (format : Format) (given : Option (List ℕ)) (IsUnread : Type 0) (may_fail : Bool) (status : Status) (IsPrinted : List ℕ → Type 0) : Type 0 where
  told_script : (script : List ℕ) → Came given script → IsFindingsAnswer books format script status IsPrinted → IsCheckAnswer books format given IsUnread may_fail status IsPrinted
  told_no_script : (fault : InputFault) → MayGiveNone LONGEST_SCRIPT given IsUnread may_fail fault → IsFailureTold (failure_of fault) status IsPrinted
      → IsCheckAnswer books format given IsUnread may_fail status IsPrinted
