-- What is found in a script, as JSON. The members of an object stand in the order of their names. Texts are as they are shown.
use Rattle.std.specs.Prelude.{ℕ, ◌==◌, ◌||◌, if◌then◌else◌, List, [], ◌∷◌, ◌++◌, length, map, codes}
use Rattle.std.specs.List.{flat_map}
use Rattle.serde_json.specs.Data.{Data, null, string, array, object, no_members, member}
use Rattle.serde_json.specs.View.{items_of}
use Rattle.desk_book.specs.Command.{text_member, number_member}
use Rattle.desk_report.specs.RowData.{number_data}
use Rattle.desk_words.specs.Causes.{CauseValue, catalogue, heading_of}
use Rattle.desk.specs.Finding.{Refused, Why, count_of, front_text, shown, words_told}

-- what the answer tells: its number, and what stands behind it
abbrev pub answer_text : ℕ → List ℕ → List ℕ
answer_text number rest = heading_of number ++ front_text rest

-- the line at which the fault stands; null where it is this line
abbrev pub within_data : ℕ → Why → Data
within_data line why = if why.line == line then null else number_data why.line

-- the reference that the request gives itself; null where it has none, and where the fault stands at this line
abbrev pub reference_data : ℕ → Why → Data
reference_data line why = if why.line == line || length why.reference == 0 then null else string (front_text why.reference)

-- why it is refused, in words
abbrev pub words_text : CauseValue → Why → List ℕ
words_text cause why = map shown (words_told why.words cause.meaning)

-- one that is refused
abbrev pub refused_data : Refused → Data
refused_data refused =
    object (text_member (codes "answer") (answer_text refused.found.cause.number refused.found.rest) (number_member (codes "line") refused.found.line
    (member (codes "reference") (reference_data refused.found.line refused.why) (text_member (codes "said") (front_text refused.found.said)
    (text_member (codes "why") (words_text refused.found.cause refused.why) (member (codes "within") (within_data refused.found.line refused.why) no_members))))))

-- how many tell the cause of this number
abbrev pub count_data : ℕ → ℕ → Data
count_data number count = object (text_member (codes "answer") (heading_of number) (number_member (codes "count") count no_members))

-- where any tell it
abbrev pub count_rows : List Refused → ℕ → List Data
count_rows findings number = if count_of number findings == 0 then [] else count_data number (count_of number findings) ∷ []

-- how many tell each cause, in the order of the numbers
abbrev pub counts_data : List Refused → Data
counts_data findings = array (items_of (flat_map (λ cause. count_rows findings cause.number) catalogue))

-- what is told of all: the counts, each that is refused, and how many requests there were
abbrev pub report_data : ℕ → List Refused → Data
report_data requests findings =
    object (member (codes "counts") (counts_data findings) (member (codes "refused") (array (items_of (map refused_data findings)))
    (number_member (codes "requests") requests no_members)))
