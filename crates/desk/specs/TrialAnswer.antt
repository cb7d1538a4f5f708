-- What is tried over the desk of a file, in memory, and what is told of it. The file stays as it is.
use Rattle.std.specs.Prelude.{◌≡◌, ◌≢◌, ℕ, Bool, true, false, List, ◌++◌, Option, Result, IfOk, codes}
use Rattle.desk_rules.specs.Books.{Books}
use Rattle.desk.specs.CheckAnswer.{IsCheckAnswer}
use Rattle.desk.specs.PlayAnswer.{AreKept, IsPlayAnswer}
use Rattle.desk.specs.Status.{IsUnopened, failure_line}
use Rattle.desk.specs.declared.answers.trial.Trial.{Trial}
use Rattle.desk.specs.declared.answers.trial.Trial.TheVariants.{Check, Play}
use Rattle.desk.specs.declared.status.Failure.TheVariants.{Storage}
use Rattle.desk.specs.declared.status.Status.{Status}
use Rattle.desk.specs.declared.status.Status.TheVariants.{Fault}

-- what is told of a script that is played in memory from these books
abbrev pub IsTrialFrom : Trial → Books → Option (List ℕ) → Type 0 → Bool → Status → (List ℕ → Type 0) → Type 0
IsTrialFrom Play books given IsUnread may_fail status IsPrinted = IsPlayAnswer books given IsUnread may_fail status IsPrinted
IsTrialFrom (Check format) books given IsUnread may_fail status IsPrinted = IsCheckAnswer books format given IsUnread may_fail status IsPrinted

-- this was told of these books, and they are left as they were
pub record TriesFrom {E : Type 0} (AreBooks : Books → Type 0) (IsLeftSo : Bool → Books → Type 0) (trial : Trial) (given : Option (List ℕ)) (IsUnread : Type 0) (may_fail : Bool) (result : Result Status E) (IsPrinted : List ℕ → Type 0) : Type 0 where
  pub told : (books : Books) → AreBooks books → IfOk result (λ status. IsTrialFrom trial books given IsUnread may_fail status IsPrinted)
  pub left : (books : Books) → AreBooks books → IsLeftSo false books

-- What is told by these books of a file that was opened, which was closed then, or could not be: what was tried; or that, and that the
-- file could not be closed is told behind.
pub data IsOpenTrialAnswer (has_closed : Bool) (trial : Trial) (books : Books) (given : Option (List ℕ)) (IsUnread : Type 0) (may_fail : Bool) (status : Status) (IsPrinted : List ℕ → Type 0) : Type 0 where
  told_from : IsTrialFrom trial books given IsUnread may_fail status IsPrinted → (status ≢ Fault → has_closed ≡ true) → IsOpenTrialAnswer has_closed trial books given IsUnread may_fail status IsPrinted
  told_unclosed : (said : Status) (text : List ℕ) → IsTrialFrom trial books given IsUnread may_fail said (λ told. told ≡ text) → said ≢ Fault → has_closed ≡ false → status ≡ Fault → IsPrinted (text ++ (failure_line Storage ++ codes "\n"))
      → IsOpenTrialAnswer has_closed trial books given IsUnread may_fail status IsPrinted

-- The file was not opened, which is told alone, and nothing was read; or it was tried from the books of some accepted history. (Which
-- that is, and what the file holds then, is said of what tries it over the register that was opened.)
pub data IsFileTrialAnswer (trial : Trial) (given : Option (List ℕ)) (IsUnread : Type 0) (may_fail : Bool) (status : Status) (IsPrinted : List ℕ → Type 0) : Type 0 where
  told_unopened : IsUnread → IsUnopened status IsPrinted → IsFileTrialAnswer trial given IsUnread may_fail status IsPrinted
  told_opened : (books : Books) → AreKept books → (has_closed : Bool) → IsOpenTrialAnswer has_closed trial books given IsUnread may_fail status IsPrinted → IsFileTrialAnswer trial given IsUnread may_fail status IsPrinted
