-- What is done over the desk of a file: what is told of it, and what it leaves.
use Rattle.std.specs.Prelude.{ℕ, Bool, false, is_ok, List, Option, Result, IfOk, OnErr}
use Rattle.sqlite_disk.specs.declared.Disk.{Ghosts}
use Rattle.sqlite_disk.specs.declared.Files.{Files}
use Rattle.sqlite_wal.specs.Recovery.{Image}
use Rattle.desk_rules.specs.Books.{Books}
use Rattle.desk_rules.specs.declared.limits.TheConstants.{MOST_ENTRIES}
use Rattle.desk_report.specs.declared.format.Format.{Format}
use Rattle.desk.specs.DropAnswer.{IsDropAnswer, IsFolderEnd, IsOpenDropAnswer}
use Rattle.desk.specs.Left.{AreLeft, FilesSay, HeldBooks, IsCleanBehind, LeavesSome}
use Rattle.desk.specs.OverviewAnswer.{IsFileOverviewAnswer, IsOpenOverviewAnswer, IsOverviewFrom}
use Rattle.desk.specs.PlayAnswer.{AreKept, IsFilePlayAnswer, IsOpenPlayAnswer, IsPlayedAnyhow, PlaysFrom}
use Rattle.desk.specs.ReportAnswer.{IsOpenReportAnswer, IsReportAnswer, LeavesBooks, ReportsFrom, asked_for}
use Rattle.desk.specs.ServeAnswer.{IsFileServeAnswer, IsOpenServeAnswer, IsServeAnswer}
use Rattle.desk.specs.TrialAnswer.{IsFileTrialAnswer, IsOpenTrialAnswer, TriesFrom}
use Rattle.desk.specs.declared.answers.report.Shown.{Shown}
use Rattle.desk.specs.declared.over_file.Ask.{Ask}
use Rattle.desk.specs.declared.over_file.Ask.TheVariants.{Play, Serve, Take, Tell}
use Rattle.desk.specs.declared.over_file.Job.{Job}
use Rattle.desk.specs.declared.over_file.Job.TheVariants as job
use Rattle.desk.specs.declared.status.Status.{Status}
use Rattle.desk.specs.declared.store.Behind.{Behind}

-- This was told, and whichever of these books the desk held, some requests, or none, were asked of it one after another.
pub record AsksSome {E : Type 0} (limit : ℕ) (AreBooks : Books → Type 0) (IsLeftSo : Bool → Books → Type 0) (IsTold : Status → Type 0) (result : Result Status E) : Type 0 where
  pub told : IfOk result IsTold
  pub left : (books : Books) → AreBooks books → LeavesSome limit books IsLeftSo

-- what a desk that held one of these books is answered, and what is left of it; only what plays a script reads anything
abbrev pub IsAsked : {E : Type 0} → Ask → ℕ → (Books → Type 0) → (Bool → Books → Type 0) → Option (List ℕ) → Type 0 → Bool → Result Status E → (List ℕ → Type 0) → Type 0
IsAsked Play limit AreBooks IsLeftSo given IsUnread may_fail result IsPrinted = PlaysFrom limit AreBooks IsLeftSo given IsUnread may_fail result IsPrinted
IsAsked (Serve port count) limit AreBooks IsLeftSo given IsUnread may_fail result IsPrinted = IsUnread × AsksSome limit AreBooks IsLeftSo (λ status. IsServeAnswer port status IsPrinted) result
IsAsked (Take folders) limit AreBooks IsLeftSo given IsUnread may_fail result IsPrinted = IsUnread × AsksSome limit AreBooks IsLeftSo (λ status. IsFolderEnd status IsPrinted) result
IsAsked (Tell owner account) limit AreBooks IsLeftSo given IsUnread may_fail result IsPrinted = IsUnread × ReportsFrom limit AreBooks IsLeftSo (asked_for owner account.now) result IsPrinted

-- this was told of these books, and they are left as they were
pub record ShowsFrom {E : Type 0} (AreBooks : Books → Type 0) (IsLeftSo : Bool → Books → Type 0) (shown : Shown) (format : Format) (result : Result Status E) (IsPrinted : List ℕ → Type 0) : Type 0 where
  pub told : (books : Books) → AreBooks books → IfOk result (λ status. IsOverviewFrom format shown books status IsPrinted)
  pub left : (books : Books) → AreBooks books → IsLeftSo false books

-- the same of a job, where there is room for as many entries as a desk may have
abbrev pub IsDone : {E : Type 0} → Job → (Books → Type 0) → (Bool → Books → Type 0) → Option (List ℕ) → Type 0 → Bool → Result Status E → (List ℕ → Type 0) → Type 0
IsDone (job.Ask ask) AreBooks IsLeftSo given IsUnread may_fail result IsPrinted = IsAsked ask MOST_ENTRIES AreBooks IsLeftSo given IsUnread may_fail result IsPrinted
IsDone (job.Show shown format) AreBooks IsLeftSo given IsUnread may_fail result IsPrinted = IsUnread × ShowsFrom AreBooks IsLeftSo shown format result IsPrinted
IsDone (job.Try trial) AreBooks IsLeftSo given IsUnread may_fail result IsPrinted = TriesFrom AreBooks IsLeftSo trial given IsUnread may_fail result IsPrinted

-- what is told over a file that was opened, which was closed then, or could not be
abbrev pub IsOpenAnswer : Job → Bool → (Bool → Books → Type 0) → Books → Option (List ℕ) → Type 0 → Bool → Status → (List ℕ → Type 0) → Type 0
IsOpenAnswer (job.Ask Play) has_closed IsLeftSo books given IsUnread may_fail status IsPrinted = IsOpenPlayAnswer has_closed IsLeftSo books given IsUnread may_fail status IsPrinted
IsOpenAnswer (job.Ask (Serve port count)) has_closed IsLeftSo books given IsUnread may_fail status IsPrinted = IsUnread × IsOpenServeAnswer has_closed port status IsPrinted
IsOpenAnswer (job.Ask (Take folders)) has_closed IsLeftSo books given IsUnread may_fail status IsPrinted = IsUnread × IsOpenDropAnswer has_closed status IsPrinted
IsOpenAnswer (job.Ask (Tell owner account)) has_closed IsLeftSo books given IsUnread may_fail status IsPrinted = IsUnread × IsOpenReportAnswer has_closed books (asked_for owner account.now) status IsPrinted
IsOpenAnswer (job.Show shown format) has_closed IsLeftSo books given IsUnread may_fail status IsPrinted = IsUnread × IsOpenOverviewAnswer has_closed shown format books status IsPrinted
IsOpenAnswer (job.Try trial) has_closed IsLeftSo books given IsUnread may_fail status IsPrinted = IsOpenTrialAnswer has_closed trial books given IsUnread may_fail status IsPrinted

-- what is left in its files, where they could be closed
abbrev pub LeavesFiles : {C D F E : Type 0} → Ghosts D → Job → Result Status E → Option C → Result (Files D) F → Books → Option (List ℕ) → Type 0
LeavesFiles g (job.Ask Play) told mark closed books given = OnErr told (IsPlayedAnyhow (AreLeft g mark closed) books given)
LeavesFiles g (job.Ask (Serve port count)) told mark closed books given = LeavesSome MOST_ENTRIES books (AreLeft g mark closed)
LeavesFiles g (job.Ask (Take folders)) told mark closed books given = LeavesSome MOST_ENTRIES books (AreLeft g mark closed)
LeavesFiles g (job.Ask (Tell owner account)) told mark closed books given = LeavesBooks told (AreLeft g mark closed) books
LeavesFiles g (job.Show shown format) told mark closed books given = IfOk closed (λ files. FilesSay g files books)
LeavesFiles g (job.Try trial) told mark closed books given = IfOk closed (λ files. FilesSay g files books)

-- A job was done over files that held this image, and this is behind it. There are the books of an accepted history that they held, where
-- no wrong answer of the device was taken as true; by these was told what was told, and of these is what was left.
pub record IsDoneOver {D E : Type 0} {g : Ghosts D} (image : Image) (it : Job) (behind : Behind D g) (result : Result Status E) (given : Option (List ℕ)) (IsUnread : Type 0) (may_fail : Bool) (IsPrinted : List ℕ → Type 0) : Type 0 where
  pub books : Books
  pub kept : AreKept books
  pub held : IsCleanBehind behind.files → HeldBooks image books
  pub told : IfOk result (λ status. IsOpenAnswer it (is_ok behind.files) (AreLeft g behind.was_closed behind.files) books given IsUnread may_fail status IsPrinted)
  pub left : LeavesFiles g it result behind.was_closed behind.files books given

-- what is told, whether the file was opened or not
abbrev pub IsFileAnswer : Job → Option (List ℕ) → Type 0 → Bool → Status → (List ℕ → Type 0) → Type 0
IsFileAnswer (job.Ask Play) given IsUnread may_fail status IsPrinted = IsFilePlayAnswer given IsUnread may_fail status IsPrinted
IsFileAnswer (job.Ask (Serve port count)) given IsUnread may_fail status IsPrinted = IsUnread × IsFileServeAnswer port status IsPrinted
IsFileAnswer (job.Ask (Take folders)) given IsUnread may_fail status IsPrinted = IsUnread × IsDropAnswer status IsPrinted
IsFileAnswer (job.Ask (Tell owner account)) given IsUnread may_fail status IsPrinted = IsUnread × IsReportAnswer (asked_for owner account.now) status IsPrinted
IsFileAnswer (job.Show shown format) given IsUnread may_fail status IsPrinted = IsUnread × IsFileOverviewAnswer shown format status IsPrinted
IsFileAnswer (job.Try trial) given IsUnread may_fail status IsPrinted = IsFileTrialAnswer trial given IsUnread may_fail status IsPrinted
