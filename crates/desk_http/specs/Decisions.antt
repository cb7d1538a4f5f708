-- What the bytes read so far say of the stream that they begin. Only private contracts speak of it.
use Rattle.std.specs.Prelude.{◌≡◌, ◌<◌, ◌≤◌, ◌+◌, ℕ, List, ◌++◌, length, take, drop, Result, Ok, Err}
use Rattle.httparse.specs.Grammar.{RequestHead, print_request}
use Rattle.desk_book.specs.Asked.{Asked, asked_by, asked_with}
use Rattle.desk_book.specs.declared.requests.question.Request.{Request}
use Rattle.desk_http.specs.declared.call.Call.{Call}
use Rattle.desk_http.specs.declared.decision.Decision.{Decision}
use Rattle.desk_http.specs.declared.decision.Decision.TheVariants.{Asks, Refuses, Wants}
use Rattle.desk_http.specs.declared.limits.TheConstants.{LONGEST_REQUEST}
use Rattle.desk_http.specs.declared.refusal.Refusal.{Refusal}
use Rattle.desk_http.specs.declared.refusal.Refusal.TheVariants.{BadRequest}
use Rattle.desk_http.specs.Connection.{Calls, Connection, HasHead}

-- what a call asks whose body begins here
abbrev pub asked_at : List ℕ → Call → ℕ → Asked
asked_at bytes call start = asked_with call.question (take call.length (drop start bytes))

-- whatever follows the bytes, they ask this
abbrev pub Decides : List ℕ → Result Asked Refusal → Type 0
Decides bytes asked = (more : List ℕ) → Connection (bytes ++ more) asked

-- The bytes decide what is asked, or more are wanted: up to so many, below which a stream that ends is refused.
abbrev pub IsDecision : List ℕ → Decision → Type 0
IsDecision bytes (Asks call start) = (start + call.length ≤ length bytes) × Decides bytes (Ok (asked_at bytes call start))
IsDecision bytes (Refuses refusal) = Decides bytes (Err refusal)
IsDecision bytes (Wants count) =
    (length bytes < count) × (count ≤ LONGEST_REQUEST) × ((more : List ℕ) → length (bytes ++ more) < count → Connection (bytes ++ more) (Err BadRequest))

-- what a request of the code asks
abbrev pub asked_in : Result Request Refusal → Result Asked Refusal
asked_in (Ok request) = Ok (asked_by request)
asked_in (Err refusal) = Err refusal

-- the bytes begin with a head that calls for this, and the body begins at this place
pub record HasCall (bytes : List ℕ) (call : Call) (start : ℕ) : Type 0 where
  pub head : RequestHead
  pub rest : List ℕ
  pub has : HasHead bytes head rest
  pub calls : Calls head (Ok call)
  pub place : start ≡ length (print_request head)

-- what a call asks that was found in these bytes
abbrev pub asked_by_found : List ℕ → Result (Call × ℕ) Refusal → Result Asked Refusal
asked_by_found bytes (Ok found) = Ok (asked_at bytes found.0 found.1)
asked_by_found bytes (Err refusal) = Err refusal
