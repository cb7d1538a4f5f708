-- How a run ends.
use Rattle.std.specs.Prelude.{◌≡◌, ◌≢◌, ◌⊎◌, ℕ, Bool, true, false, List, ◌++◌, Option, Result, IfOk, IsOkAnd, codes}
use Rattle.std.specs.Io.KnownBytes.{Appends}
use Rattle.std.specs.declared.io.ErrorKind.{ErrorKind as IoKind}
use Rattle.std.specs.declared.io.ErrorKind.TheVariants as io_kind
use Rattle.clap.specs.declared.error.kind.ErrorKind.{ErrorKind}
use Rattle.clap.specs.declared.error.kind.ErrorKind.TheVariants as kind
use Rattle.desk_file.specs.declared.fault.OpenFault.{OpenFault}
use Rattle.desk_file.specs.declared.fault.OpenFault.TheVariants as opening
use Rattle.desk.specs.declared.status.Status.{Status}
use Rattle.desk.specs.declared.status.Status.TheVariants.{Done, Refused, Usage, Fault}
use Rattle.desk.specs.declared.status.Failure.{Failure}
use Rattle.desk.specs.declared.status.Failure.TheVariants.{NotOurFile, OtherVersion, Memory, Storage, Closed, Input}
use Rattle.desk_words.specs.declared.helps.TheConstants.{NO_TEXT}

-- the number with which the process ends
abbrev pub status_number : Status → ℕ
status_number Done = 0
status_number Refused = 1
status_number Usage = 2
status_number Fault = 3

-- the line that tells a failure
abbrev pub failure_line : Failure → List ℕ
failure_line NotOurFile = codes "fault 50"
failure_line OtherVersion = codes "fault 51"
failure_line Memory = codes "fault 60"
failure_line Storage = codes "fault 61"
failure_line Closed = codes "fault 62"
failure_line Input = codes "fault io"

-- what is told where a file is not opened
abbrev pub failure_of_opening : OpenFault → Failure
failure_of_opening (opening.NotOurFile difference) = NotOurFile
failure_of_opening opening.OtherVersion = OtherVersion
failure_of_opening opening.Memory = Memory
failure_of_opening opening.Storage = Storage

abbrev pub IsOpeningFailure : Failure → Type 0
IsOpeningFailure failure = (fault : OpenFault) × (failure ≡ failure_of_opening fault)

-- it is want of memory, or this other one
abbrev pub IsMemoryOr : Failure → Failure → Type 0
IsMemoryOr other failure = (failure ≡ Memory) ⊎ (failure ≡ other)

-- a failure was told alone, as a fault
abbrev pub IsFailureTold : Failure → Status → (List ℕ → Type 0) → Type 0
IsFailureTold failure status IsPrinted = (status ≡ Fault) × IsPrinted (failure_line failure ++ codes "\n")

-- the file of a desk was not opened, and why is told alone
pub record IsUnopened (status : Status) (IsPrinted : List ℕ → Type 0) : Type 0 where
  pub failure : Failure
  pub is : IsOpeningFailure failure
  pub told : IsFailureTold failure status IsPrinted

-- How a run over a file ended, once this status was told and its file was closed, or could not be: so; or, where it was no fault and
-- the file could not be closed, that is told behind.
abbrev pub EndsBy : Bool → Status → Status → Type 0 → (List ℕ → Type 0) → Type 0
EndsBy has_closed said status IsUnwritten IsPrinted =
    ((status ≡ said) × IsUnwritten × (said ≢ Fault → has_closed ≡ true)) ⊎ ((said ≢ Fault) × (has_closed ≡ false) × IsFailureTold Storage status IsPrinted)

-- how one ended that told this, by a writer that held the first then and holds the second in the end
pub record Ends {E : Type 0} (has_closed : Bool) (told result : Result Status E) (mid after : Option (List ℕ)) : Type 0 where
  pub by : IfOk result (λ status. IsOkAnd told (λ said. EndsBy has_closed said status (after ≡ mid) (Appends mid after)))

-- the exit status of help and of what is wrong with the words
abbrev pub status_of_error : ErrorKind → Status
status_of_error kind.OutOfMemory = Fault
status_of_error kind.DisplayHelp = Done
status_of_error kind.DisplayVersion = Done
status_of_error other = Usage

-- what is told where the words could not be had: memory was wanting for them, or they are no text
abbrev pub IsNoWordsTold : IoKind → Status → (List ℕ → Type 0) → Type 0
IsNoWordsTold io_kind.OutOfMemory status IsPrinted = IsFailureTold Memory status IsPrinted
IsNoWordsTold _ status IsPrinted = (status ≡ Usage) × IsPrinted NO_TEXT.now
