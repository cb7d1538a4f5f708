-- What is found in a script by what its answers tell.
use Rattle.std.specs.Prelude.{ℕ, ◌+◌, ◌==◌, ◌&&◌, Bool, false, not, if◌then◌else◌, List, [], ◌∷◌, ◌++◌, length, map, take, drop, count_by, Option, Some, None, codes, decimal}
use Rattle.std.specs.List.{flat_map}
use Rattle.std.specs.Str.{byte}
use Rattle.desk_book.specs.Lines.{has_body, is_skipped, is_stop, said_by, script_lines}
use Rattle.desk_text.specs.BlockGrammar.{is_printable}
use Rattle.desk_words.specs.Causes.{CauseValue, catalogue, cause_with, heading_of, value_of_cause}
use Rattle.desk.specs.declared.findings.finding.Explained.{Explained}
use Rattle.desk.specs.declared.findings.finding.Finding.{Finding}
use Rattle.desk.specs.declared.findings.finding.TheConstants.{TOLD}
use Rattle.desk.specs.declared.findings.reason.Reason.{Reason}
use Rattle.desk.specs.Told.{Told}

-- the number of a line, counted from 1, what it says, the cause that its answer tells, and what it tells behind the number
pub record Found : Type 0 where
  pub line : ℕ
  pub said : List ℕ
  pub cause : CauseValue
  pub rest : List ℕ

abbrev pub found_by : Finding → Found
found_by finding = record { line = finding.line; said = finding.said.now; cause = value_of_cause finding.cause; rest = finding.rest.now }

-- a line that stands in no body, and is neither empty nor a comment, asks something
abbrev pub asks : Bool → List ℕ → Bool
asks in_body line = not in_body && not (is_skipped (said_by line))

-- whether what follows a line stands in a body
abbrev pub in_body_behind : Bool → List ℕ → Bool
in_body_behind in_body line = if in_body then not (is_stop line) else has_body (said_by line)

abbrev pub with_cause : ℕ → List ℕ → List ℕ → Option CauseValue → List Found
with_cause n line rest None = []
with_cause n line rest (Some cause) = record { line = n; said = said_by line; cause = cause; rest = rest } ∷ []

-- what is found at a line that asks something, the next that is told being told by its answer
abbrev pub found_at : ℕ → List ℕ → List Told → List Found
found_at n line [] = []
found_at n line (told ∷ later) = with_cause n line told.rest (cause_with told.number)

-- what is found at a line
abbrev pub found_here : Bool → ℕ → List ℕ → List Told → List Found
found_here in_body n line told = if asks in_body line then found_at n line told else []

-- what is left behind a line of what is told
abbrev pub told_behind : Bool → List ℕ → List Told → List Told
told_behind in_body line told = if asks in_body line then drop 1 told else told

-- what is found from the line n on
abbrev pub findings_from : ℕ → Bool → List (List ℕ) → List Told → List Found
findings_from n in_body [] told = []
findings_from n in_body (line ∷ lines) told = found_here in_body n line told ++ findings_from (n + 1) (in_body_behind in_body line) lines (told_behind in_body line told)

-- what is found in a script, whose answers tell this, one each
abbrev pub findings_in : List ℕ → List Told → List Found
findings_in script told = findings_from 1 false (script_lines script) told

-- how a byte is shown: as itself where it is printable, else as a question mark
abbrev pub shown : ℕ → ℕ
shown c = if is_printable c then c else byte "?"

-- so much of a text as is told
abbrev pub front_text : List ℕ → List ℕ
front_text text = map shown (take TOLD text)

-- what is told of a finding besides: at which line of the script the fault stands, the reference that the request gives itself,
-- and why it cannot be read, in words; nothing where there are none
pub record Why : Type 0 where
  pub line : ℕ
  pub reference : List ℕ
  pub words : List ℕ

abbrev pub why_by : Reason → Why
why_by reason = record { line = reason.line; reference = reason.reference.items; words = reason.words.items }

-- a finding, and what is told of it besides
pub record Refused : Type 0 where
  pub found : Found
  pub why : Why

abbrev pub found_of : Explained → Found
found_of explained = found_by explained.finding

abbrev pub refused_with : Found → Why → Refused
refused_with found why = record { found = found; why = why }

abbrev pub refused_by : Explained → Refused
refused_by explained = refused_with (found_by explained.finding) (why_by explained.reason)

-- the line that tells of one
abbrev pub place_text : ℕ → List ℕ → List ℕ
place_text line said = (codes "line " ++ decimal line ++ codes ": ") ++ front_text said

-- these words, or the others where there are none
abbrev pub words_told : List ℕ → List ℕ → List ℕ
words_told [] others = others
words_told (c ∷ words) others = c ∷ words

abbrev pub told_text : CauseValue → List ℕ → List ℕ → List ℕ
told_text cause rest words = codes ": " ++ heading_of cause.number ++ front_text rest ++ codes ": " ++ words_told words cause.meaning

abbrev pub reference_text : List ℕ → List ℕ
reference_text reference = if length reference == 0 then [] else codes ", reference " ++ front_text reference

-- and its end: at which other line the fault stands, with the reference
abbrev pub within_text : ℕ → Why → List ℕ
within_text line why = if why.line == line then codes "\n" else (codes " (line " ++ decimal why.line) ++ reference_text why.reference ++ codes ")\n"

abbrev pub refused_text : Refused → List ℕ
refused_text refused = place_text refused.found.line refused.found.said ++ told_text refused.found.cause refused.found.rest refused.why.words ++ within_text refused.found.line refused.why

-- how many tell the cause of this number
abbrev pub count_of : ℕ → List Refused → ℕ
count_of number findings = count_by (λ refused. refused.found.cause.number == number) findings

-- the line that tells how many
abbrev pub count_text : List Refused → ℕ → List ℕ
count_text findings number = if count_of number findings == 0 then [] else heading_of number ++ codes ": " ++ decimal (count_of number findings) ++ codes "\n"

-- each of them, and then how many tell each cause
abbrev pub findings_text : List Refused → List ℕ
findings_text findings = flat_map refused_text findings ++ flat_map (λ cause. count_text findings cause.number) catalogue

-- the line that tells how many requests there were, and how many are found
abbrev pub sums_text : ℕ → ℕ → List ℕ
sums_text requests refused = decimal requests ++ codes " requests, " ++ decimal refused ++ codes " refused\n"

-- what is told of all
abbrev pub report_text : ℕ → List Refused → List ℕ
report_text requests findings = findings_text findings ++ sums_text requests (length findings)

-- the line of one that the code has
unfoldable pub line_of : Explained → List ℕ
line_of explained = refused_text (refused_by explained)
