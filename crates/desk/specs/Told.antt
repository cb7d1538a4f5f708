-- What written answers tell in place of what was asked for.
use Rattle.std.specs.Prelude.{ℕ, ◌+◌, ◌-◌, ◌*◌, ◌==◌, ◌&&◌, Bool, if◌then◌else◌, nat_lt, List, [], ◌∷◌, ◌++◌, length, take, drop, codes}
use Rattle.std.specs.Str.{bytes_eq}
use Rattle.desk_book.specs.Lines.{is_stop, said_by, script_lines}
use Rattle.desk.specs.declared.findings.told.Place.{Place}
use Rattle.desk.specs.declared.findings.told.Place.TheVariants.{Before, Accepted, Other}
use Rattle.desk.specs.declared.findings.told.Telling.{Telling}

-- what an answer tells: the number of a refusal or a fault, 0 where it tells none, and what stands behind it in its line
pub record Told : Type 0 where
  pub number : ℕ
  pub rest : List ℕ

abbrev pub told_by : Telling → Told
told_by telling = record { number = telling.number; rest = telling.rest.now }

abbrev pub nothing : Told
nothing = record { number = 0; rest = [] }

-- the text begins so
abbrev pub has_front : List ℕ → List ℕ → Bool
has_front front text = bytes_eq (take (length front) text) front

abbrev pub is_digit : ℕ → Bool
is_digit c = nat_lt 47 c && nat_lt c 58

-- the number that the first two digits write, or the first one; 0 where there is none in front
abbrev pub front_number : List ℕ → ℕ
front_number [] = 0
front_number (ones ∷ []) = if is_digit ones then ones - 48 else 0
front_number (tens ∷ ones ∷ rest) = if is_digit tens && is_digit ones then 10 * (tens - 48) + (ones - 48) else (if is_digit tens then tens - 48 else 0)

-- what stands behind these digits
abbrev pub behind_number : List ℕ → List ℕ
behind_number [] = []
behind_number (ones ∷ []) = if is_digit ones then [] else ones ∷ []
behind_number (tens ∷ ones ∷ rest) = if is_digit tens && is_digit ones then rest else (if is_digit tens then ones ∷ rest else tens ∷ ones ∷ rest)

-- what stands behind the words with which a line tells a refusal or a fault, or the narrative of an advice tells one
abbrev pub behind_words : List ℕ → List ℕ
behind_words said =
    if has_front (codes "refused ") said then drop 8 said
    else (if has_front (codes "fault ") said then drop 6 said
    else (if has_front (codes ":70D::REAS//DESK ") said then drop 17 said else []))

abbrev pub told_in_text : List ℕ → Told
told_in_text text = record { number = front_number text; rest = behind_number text }

-- what a line tells
abbrev pub told_in_line : List ℕ → Told
told_in_line line = told_in_text (behind_words (said_by line))

-- Where a reader of answers stands: in front of one, in one of status 200, or in another, which told this so far.
pub data Stand : Type 0 where
  before : Stand
  accepted : Stand
  other : Told → Stand

abbrev pub stand_of : Place → Stand
stand_of Before = before
stand_of Accepted = accepted
stand_of (Other telling) = other (told_by telling)

-- and where behind a line
abbrev pub next_stand : Stand → List ℕ → Stand
next_stand before line = if has_front (codes "200") line then accepted else other nothing
next_stand accepted line = if is_stop line then before else accepted
next_stand (other told) line = if is_stop line then before else other (if told.number == 0 then told_in_line line else told)

-- what the answer tells that a line ends
abbrev pub ended : Stand → List ℕ → List Told
ended before line = []
ended accepted line = if is_stop line then nothing ∷ [] else []
ended (other told) line = if is_stop line then told ∷ [] else []

abbrev pub told_from : Stand → List (List ℕ) → List Told
told_from stand [] = []
told_from stand (line ∷ lines) = ended stand line ++ told_from (next_stand stand line) lines

-- what each answer tells, in their order: nothing where its status is 200, and where it tells no number
abbrev pub told_in : List ℕ → List Told
told_in answers = told_from before (script_lines answers)
