-- How the desk's answers are written.
use Rattle.std.specs.Prelude.{ℕ, List, ◌∷◌, ◌++◌, codes, Option, Some, None}
use Rattle.std.specs.Str.{byte}
use Rattle.std.specs.Fmt.{decimal}
use Rattle.desk_book.specs.declared.fault.Fault.{Fault}
use Rattle.desk_book.specs.declared.fault.Fault.TheVariants.{Memory, Storage, Closed}

-- the status, and where the text is a message its type
abbrev pub head_line : ℕ → Option ℕ → List ℕ
head_line status None = decimal status ++ codes "\n"
head_line status (Some mt) = decimal status ++ byte " " ∷ (decimal mt ++ codes "\n")

-- an answer: the status line, the text, and a line `.`
abbrev pub written_answer : ℕ → Option ℕ → List ℕ → List ℕ
written_answer status mt text = head_line status mt ++ (text ++ codes "\n.\n")

-- what stands in place of an answer that could not be had
abbrev pub status_of_fault : Fault → ℕ
status_of_fault Memory = 503
status_of_fault Storage = 500
status_of_fault Closed = 500

abbrev pub text_of_fault : Fault → List ℕ
text_of_fault Memory = codes "fault 60"
text_of_fault Storage = codes "fault 61"
text_of_fault Closed = codes "fault 62"

abbrev pub written_fault : Fault → List ℕ
written_fault fault = written_answer (status_of_fault fault) None (text_of_fault fault)

-- the answer to what is no request
abbrev pub bad_line_text : List ℕ
bad_line_text = codes "refused 41"

abbrev pub written_bad_line : List ℕ
written_bad_line = written_answer 400 None bad_line_text
