-- What is answered to what is asked for, and to words of any kind.
use Rattle.std.specs.Prelude.{◌≡◌, ℕ, Bool, List, [], Option, Some, None}
use Rattle.clap.specs.declared.error.kind.ErrorKind.{ErrorKind}
use Rattle.desk_engine.specs.Applied.{no_books}
use Rattle.desk.specs.CheckAnswer.{IsCheckAnswer}
use Rattle.desk.specs.DropAnswer.{IsDropAnswer}
use Rattle.desk.specs.ExplainAnswer.{IsExplainAnswer}
use Rattle.desk.specs.IsinAnswer.{IsIsinAnswer}
use Rattle.desk.specs.MigrateAnswer.{IsMigrateAnswer}
use Rattle.desk.specs.OverviewAnswer.{IsFileOverviewAnswer, IsOverviewAnswer}
use Rattle.desk.specs.PlayAnswer.{IsFilePlayAnswer, IsPlayAnswer}
use Rattle.desk.specs.ReadAnswer.{IsReadAnswer}
use Rattle.desk.specs.ReportAnswer.{IsReportAnswer, asked_for}
use Rattle.desk.specs.ServeAnswer.{IsFileServeAnswer, IsServeAnswer}
use Rattle.desk.specs.TrialAnswer.{IsFileTrialAnswer}
use Rattle.desk.specs.Status.{IsFailureTold, status_of_error}
use Rattle.desk_words.specs.Words.{CallValue, isin, read, play, trial, check, explain, serve, holdings, sums, folder, report, journal, migrate, IsErrorIn, IsSaidBy}
use Rattle.desk.specs.declared.answers.report.Shown.TheVariants.{Journal, Report}
use Rattle.desk.specs.declared.answers.trial.Trial.TheVariants as tries
use Rattle.desk.specs.declared.status.Failure.TheVariants.{Memory}
use Rattle.desk.specs.declared.status.Status.{Status}

-- What was told, by a reader that gives these bytes, if that is known, may be unread, and may fail.
abbrev pub IsCallAnswer : CallValue → Option (List ℕ) → Type 0 → Bool → Status → (List ℕ → Type 0) → Type 0
IsCallAnswer (isin code) given IsUnread may_fail status IsPrinted = IsUnread × IsIsinAnswer code status IsPrinted
IsCallAnswer (read mt) given IsUnread may_fail status IsPrinted = IsReadAnswer mt given IsUnread may_fail status IsPrinted
IsCallAnswer (play None) given IsUnread may_fail status IsPrinted = IsPlayAnswer no_books given IsUnread may_fail status IsPrinted
IsCallAnswer (play (Some db)) given IsUnread may_fail status IsPrinted = IsFilePlayAnswer given IsUnread may_fail status IsPrinted
IsCallAnswer (trial db) given IsUnread may_fail status IsPrinted = IsFileTrialAnswer tries.Play given IsUnread may_fail status IsPrinted
IsCallAnswer (check None format) given IsUnread may_fail status IsPrinted = IsCheckAnswer no_books format given IsUnread may_fail status IsPrinted
IsCallAnswer (check (Some db) format) given IsUnread may_fail status IsPrinted = IsFileTrialAnswer (tries.Check format) given IsUnread may_fail status IsPrinted
IsCallAnswer (explain words) given IsUnread may_fail status IsPrinted = IsUnread × IsExplainAnswer words status IsPrinted
IsCallAnswer (serve None port count) given IsUnread may_fail status IsPrinted = IsUnread × IsServeAnswer port status IsPrinted
IsCallAnswer (serve (Some db) port count) given IsUnread may_fail status IsPrinted = IsUnread × IsFileServeAnswer port status IsPrinted
IsCallAnswer (holdings db bic account) given IsUnread may_fail status IsPrinted = IsUnread × IsReportAnswer (asked_for (Some bic) account) status IsPrinted
IsCallAnswer (sums db) given IsUnread may_fail status IsPrinted = IsUnread × IsReportAnswer (asked_for None []) status IsPrinted
IsCallAnswer (folder db from to) given IsUnread may_fail status IsPrinted = IsUnread × IsDropAnswer status IsPrinted
IsCallAnswer (migrate old fresh) given IsUnread may_fail status IsPrinted = IsUnread × IsMigrateAnswer status IsPrinted
IsCallAnswer (report None parts format) given IsUnread may_fail status IsPrinted = IsOverviewAnswer (Report parts) format given IsUnread may_fail status IsPrinted
IsCallAnswer (report (Some db) parts format) given IsUnread may_fail status IsPrinted = IsUnread × IsFileOverviewAnswer (Report parts) format status IsPrinted
IsCallAnswer (journal None from format) given IsUnread may_fail status IsPrinted = IsOverviewAnswer (Journal from) format given IsUnread may_fail status IsPrinted
IsCallAnswer (journal (Some db) from format) given IsUnread may_fail status IsPrinted = IsUnread × IsFileOverviewAnswer (Journal from) format status IsPrinted

-- want of memory was told alone, as a fault, and nothing was read
abbrev pub IsMemoryTold : Type 0 → Status → (List ℕ → Type 0) → Type 0
IsMemoryTold IsUnread status IsPrinted = IsUnread × IsFailureTold Memory status IsPrinted

-- What words are answered: what is told to the call that they say; the status of help that they ask for, or of what is
-- wrong with them, of whose text nothing is said; or want of memory. Where they say no call, nothing is read.
pub data IsAnswer (words : List (List ℕ)) (given : Option (List ℕ)) (IsUnread : Type 0) (may_fail : Bool) (status : Status) (IsPrinted : List ℕ → Type 0) : Type 0 where
  told_call : (asked : CallValue) → IsSaidBy asked words → IsCallAnswer asked given IsUnread may_fail status IsPrinted → IsAnswer words given IsUnread may_fail status IsPrinted
  told_error : (kind : ErrorKind) → IsErrorIn kind words → IsUnread → status ≡ status_of_error kind → IsAnswer words given IsUnread may_fail status IsPrinted
  told_memory : IsMemoryTold IsUnread status IsPrinted → IsAnswer words given IsUnread may_fail status IsPrinted
