-- The statement of holdings (ISO 15022, MT535) as the parts that it is written in.
use Rattle.std.specs.Prelude.{ℕ, ◌<◌, ◌^◌, List, [], ◌∷◌, ◌++◌, codes}
use Rattle.std.specs.Str.{byte}
use Rattle.std.specs.List.{flat_map}
use Rattle.desk_codes.specs.CheckDigit.{IsIsin}
use Rattle.desk_codes.specs.Number.{written_number}
use Rattle.desk_text.specs.Written.{Part, field_part, block_text}
use Rattle.desk_msg.specs.declared.writing.status.Own.TheVariants.{Answer}
use Rattle.desk_msg.specs.declared.writing.statement_row.StatementRow.{StatementRow}
use Rattle.desk_msg.specs.Profile.{code_of_kind}
use Rattle.desk_msg.specs.OwnText.{own_reference, generic_part, sequence_parts}

-- the activity flag: whether the statement has a row
abbrev pub activity_of : List StatementRow → List ℕ
activity_of [] = codes "N"
activity_of (row ∷ rows) = codes "Y"

-- What is said of the statement itself: after so many entries, of that day, for that account, with that activity flag. It is one page: a complete custody statement, given on demand, of settled positions, and not consolidated.
abbrev pub general_parts : ℕ → List ℕ → List ℕ → List ℕ → List Part
general_parts entries day account activity =
    sequence_parts (codes "GENL") (
    field_part (codes "28E") (codes "1/ONLY")
    ∷ generic_part (codes "20C") (codes "SEME") (own_reference (Answer entries))
    ∷ field_part (codes "23G") (codes "NEWM")
    ∷ generic_part (codes "98A") (codes "STAT") day
    ∷ generic_part (codes "22F") (codes "SFRE") (codes "ADHO")
    ∷ generic_part (codes "22F") (codes "CODE") (codes "COMP")
    ∷ generic_part (codes "22F") (codes "STTY") (codes "CUST")
    ∷ generic_part (codes "22F") (codes "STBA") (codes "SETT")
    ∷ generic_part (codes "97A") (codes "SAFE") account
    ∷ generic_part (codes "17B") (codes "ACTI") activity
    ∷ generic_part (codes "17B") (codes "CONS") (codes "N")
    ∷ [])

-- a row: the security, and its aggregate balance
abbrev pub row_parts : StatementRow → List Part
row_parts row =
    sequence_parts (codes "FIN") (
    field_part (codes "35B") (codes "ISIN " ++ row.isin)
    ∷ generic_part (codes "93B") (codes "AGGR") (code_of_kind row.kind ++ byte "/" ∷ written_number row.quantity 0)
    ∷ [])

-- the rows in one sequence, in their order; none at all without a row
abbrev pub rows_parts : List StatementRow → List Part
rows_parts [] = []
rows_parts (row ∷ rows) = sequence_parts (codes "SUBSAFE") (flat_map row_parts (row ∷ rows))

-- the statement of an account on a day, after so many entries
unfoldable pub holdings_parts : ℕ → List ℕ → List ℕ → List StatementRow → List Part
holdings_parts entries day account rows = general_parts entries day account (activity_of rows) ++ rows_parts rows

-- its text
unfoldable pub holdings : ℕ → List ℕ → List ℕ → List StatementRow → List ℕ
holdings entries day account rows = block_text (holdings_parts entries day account rows)

-- a row of the desk: its security has an ISIN, and its quantity is a number of 64 bits
abbrev pub IsStatementRow : StatementRow → Type 0
IsStatementRow row = IsIsin row.isin × (row.quantity < 2 ^ 64)
