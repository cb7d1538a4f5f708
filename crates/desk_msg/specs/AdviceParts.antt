-- The parts of an advice by their values: what StatusText.antt defines, in the words of the writer. Only proofs and private
-- contracts speak of it.
use Rattle.std.specs.Prelude.{ℕ, List, [], ◌∷◌, ◌++◌, codes}
use Rattle.desk_text.specs.Written.{Part, open_part, field_part, close_part}
use Rattle.desk_msg.specs.declared.writing.status.Case.{Case}
use Rattle.desk_msg.specs.declared.writing.status.Case.TheVariants.{NewRefused, CancelRefused}
use Rattle.desk_msg.specs.StatusText.{function_of_advice, statuses_of}

abbrev pub header_of : List ℕ → List ℕ → List ℕ → List ℕ → List Part
header_of own function link related =
    field_part (codes "20C") own
    ∷ field_part (codes "23G") function
    ∷ open_part (codes "LINK")
    ∷ field_part (codes "13A") link
    ∷ field_part (codes "20C") related
    ∷ close_part (codes "LINK")
    ∷ []

-- a status, and the parts of its reason
abbrev pub status_with : List ℕ → List Part → List Part
status_with status reason = open_part (codes "STAT") ∷ field_part (codes "25D") status ∷ (reason ++ close_part (codes "STAT") ∷ [])

-- a reason, and the parts of its narrative
abbrev pub reason_with : List ℕ → List Part → List Part
reason_with reason narrative = open_part (codes "REAS") ∷ field_part (codes "24B") reason ∷ (narrative ++ close_part (codes "REAS") ∷ [])

-- the parts of an advice with these values
abbrev pub parts_of : List ℕ → List ℕ → List ℕ → Case → List Part
parts_of own link related about =
    open_part (codes "GENL") ∷ (header_of own (function_of_advice about) link related ++ statuses_of about ++ close_part (codes "GENL") ∷ [])

-- the number of a refusal; 0 in another case
abbrev pub refused_number : Case → ℕ
refused_number (NewRefused number) = number
refused_number (CancelRefused number) = number
refused_number about = 0
