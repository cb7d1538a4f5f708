-- What `desk isin` answers.
use Rattle.std.specs.Prelude.{◌≡◌, ℕ, ◌+◌, List, [], ◌∷◌, ◌++◌, codes, Result, Ok, Err}
use Rattle.std.specs.Str.{byte}
use Rattle.desk_codes.specs.Isin.{ReadsIsin}
use Rattle.desk_codes.specs.declared.fault.CodeFault.{CodeFault}
use Rattle.desk_codes.specs.declared.fault.CodeFault.TheVariants.{Length, Prefix, Body, Check, Shape}
use Rattle.desk.specs.declared.status.Status.{Status}
use Rattle.desk.specs.declared.status.Status.TheVariants as exit

-- the line for what reading a code gives
abbrev pub line_of : Result (List ℕ) CodeFault → List ℕ
line_of (Ok isin) = codes "valid"
line_of (Err Length) = codes "length"
line_of (Err Prefix) = codes "prefix"
line_of (Err Body) = codes "body"
line_of (Err (Check digit)) = codes "check " ++ (byte "0" + digit) ∷ []
line_of (Err Shape) = codes "shape"

-- the exit status of what reading a code gives
abbrev pub status_of : Result (List ℕ) CodeFault → Status
status_of (Ok isin) = exit.Done
status_of (Err fault) = exit.Refused

-- the status is that of what reading the code gives, and its line was printed, ended by a line feed
pub record IsIsinAnswer (code : List ℕ) (status : Status) (IsPrinted : List ℕ → Type 0) : Type 0 where
  pub verdict : Result (List ℕ) CodeFault
  pub reads : ReadsIsin code verdict
  pub status_is : status ≡ status_of verdict
  pub printed : IsPrinted (line_of verdict ++ codes "\n")
