-- What a connection's stream of bytes asks, whatever pieces it comes in.
use Rattle.std.specs.Prelude.{◌≡◌, ◌≢◌, ◌<◌, ◌≤◌, ◌⊎◌, ℕ, true, false, List, length, map, take, Result, Ok, Err}
use Rattle.httparse.specs.Grammar.{RequestHead, ReadsRequest, HasNoRequest, NeverHasRequest, MayBecomeRequest, EndsInTarget, print_request}
use Rattle.httparse.specs.Spans.{RequestOverflows, RequestExceeds, name_and_value}
use Rattle.desk_book.specs.declared.requests.question.Question.{Question}
use Rattle.desk_book.specs.Asked.{Asked, asked_with, has_text}
use Rattle.desk_http.specs.declared.limits.TheConstants.{LONGEST_HEAD, MOST_FIELDS}
use Rattle.desk_http.specs.declared.refusal.Refusal.{Refusal}
use Rattle.desk_http.specs.declared.refusal.Refusal.TheVariants.{BadRequest, NotFound, MethodNotAllowed, HeaderFieldsTooLarge}
use Rattle.desk_http.specs.declared.call.Call.{Call}
use Rattle.desk_http.specs.Paths.{IsPath, Names, Path, method_of}
use Rattle.desk_http.specs.Length.{BodyLength}

-- The head.

-- the bytes in which a head has to be whole
abbrev pub front : List ℕ → List ℕ
front stream = take LONGEST_HEAD stream

-- The stream begins with this head (RFC 9112, section 2.1), which keeps the limits, and these bytes stand behind it.
pub record HasHead (stream : List ℕ) (head : RequestHead) (rest : List ℕ) : Type 0 where
  pub reads : ReadsRequest stream head rest
  pub whole : length (print_request head) ≤ LONGEST_HEAD
  pub few : length head.fields ≤ MOST_FIELDS

-- no bytes behind the front make a head of it, or the stream ends before a head is whole
abbrev pub IsBad : List ℕ → Type 0
IsBad stream = NeverHasRequest (front stream) ⊎ (HasNoRequest stream × (length stream < LONGEST_HEAD))

-- the front has more fields than a head may have, or is full and is only the beginning of a head
abbrev pub IsTooLarge : List ℕ → Type 0
IsTooLarge stream =
    (RequestExceeds MOST_FIELDS (front stream) × RequestOverflows MOST_FIELDS (front stream))
    ⊎ (HasNoRequest (front stream) × MayBecomeRequest (front stream) × (LONGEST_HEAD ≤ length stream))

-- a stream without a head is refused with this
abbrev pub RefusesHead : List ℕ → Refusal → Type 0
RefusesHead stream BadRequest = IsBad stream
RefusesHead stream HeaderFieldsTooLarge = IsTooLarge stream
RefusesHead stream refusal = ⊥

-- Two kinds of streams without a head may be refused as bad or as too large: one of more fields than a head may have and
-- a further fault or an early end, and one whose front ends inside the target.
abbrev pub IsLeftOpen : List ℕ → Type 0
IsLeftOpen stream =
    (RequestExceeds MOST_FIELDS (front stream) × HasNoRequest (front stream)) ⊎ (EndsInTarget (front stream) × (LONGEST_HEAD ≤ length stream))

-- The request.

-- What a head calls for: a question and the length of its body, or a refusal. It is refused by the first of: a target
-- that is no path, another method, a part of the path that names nothing, the length of the body.
pub data Calls (head : RequestHead) : Result Call Refusal → Type 0 where
  nowhere : ((path : Path) → ¬ IsPath path head.target) → Calls head (Err NotFound)
  other_method : (path : Path) → IsPath path head.target → head.method ≢ method_of path → Calls head (Err MethodNotAllowed)
  nothing : (path : Path) → IsPath path head.target → head.method ≡ method_of path → ((question : Question) → ¬ Names path question) → Calls head (Err NotFound)
  bodiless : {call : Call} (path : Path) → IsPath path head.target → head.method ≡ method_of path → Names path call.question → has_text call.question ≡ false → call.length ≡ 0 → Calls head (Ok call)
  posted : {call : Call} (path : Path) → IsPath path head.target → head.method ≡ method_of path → Names path call.question → has_text call.question ≡ true
      → BodyLength (map name_and_value head.fields) (Ok call.length) → Calls head (Ok call)
  no_length : {refusal : Refusal} (path : Path) (question : Question) → IsPath path head.target → head.method ≡ method_of path → Names path question → has_text question ≡ true
      → BodyLength (map name_and_value head.fields) (Err refusal) → Calls head (Err refusal)

-- What a stream asks, or how it is refused: by its head, or since it ends before the body is whole.
pub data Connection (stream : List ℕ) : Result Asked Refusal → Type 0 where
  no_head : {refusal : Refusal} → RefusesHead stream refusal → Connection stream (Err refusal)
  refused : {refusal : Refusal} (head : RequestHead) (rest : List ℕ) → HasHead stream head rest → Calls head (Err refusal) → Connection stream (Err refusal)
  whole : (call : Call) (head : RequestHead) (rest : List ℕ) → HasHead stream head rest → Calls head (Ok call) → call.length ≤ length rest
      → Connection stream (Ok (asked_with call.question (take call.length rest)))
  cut : (call : Call) (head : RequestHead) (rest : List ℕ) → HasHead stream head rest → Calls head (Ok call) → length rest < call.length → Connection stream (Err BadRequest)
