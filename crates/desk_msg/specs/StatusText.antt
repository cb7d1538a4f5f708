-- The status advice (ISO 15022, MT548) as the parts that it is written in.
use Rattle.std.specs.Prelude.{ℕ, ◌<◌, ◌≤◌, ◌^◌, List, [], ◌∷◌, ◌++◌, codes}
use Rattle.desk_text.specs.Written.{Part, field_part, block_text}
use Rattle.desk_msg.specs.declared.mt.Mt.{Mt}
use Rattle.desk_msg.specs.declared.writing.status.Own.{Own}
use Rattle.desk_msg.specs.declared.writing.status.Own.TheVariants.{Answer, Sent}
use Rattle.desk_msg.specs.declared.writing.status.Reason.{Reason}
use Rattle.desk_msg.specs.declared.writing.status.Reason.TheVariants.{Future, Lack, Money}
use Rattle.desk_msg.specs.declared.writing.status.Case.{Case}
use Rattle.desk_msg.specs.declared.writing.status.Case.TheVariants.{Unmatched, Matched, Cancelled, CancelDone, CancelWaits, NewRefused, CancelRefused}
use Rattle.desk_msg.specs.MessageType.{digits_of_type}
use Rattle.desk_msg.specs.OwnText.{last_digits, own_reference, generic_part, sequence_parts}

-- INST where the advice is about an instruction, CAST where it is about a cancellation
abbrev pub function_of_advice : Case → List ℕ
function_of_advice CancelDone = codes "CAST"
function_of_advice CancelWaits = codes "CAST"
function_of_advice (CancelRefused number) = codes "CAST"
function_of_advice about = codes "INST"

abbrev pub code_of_reason : Reason → List ℕ
code_of_reason Future = codes "FUTU"
code_of_reason Lack = codes "LACK"
code_of_reason Money = codes "MONY"

-- A status, by its kind and its code; and its reason, if there is one.
abbrev pub status_parts : List ℕ → List ℕ → List Part → List Part
status_parts kind status reason = sequence_parts (codes "STAT") (generic_part (codes "25D") kind status ∷ reason)

-- a reason, of that status
abbrev pub reason_parts : List ℕ → List ℕ → List Part → List Part
reason_parts status reason text = sequence_parts (codes "REAS") (generic_part (codes "24B") status reason ∷ text)

-- a refusal, of a process of that kind: its number has two digits
abbrev pub refusal_parts : List ℕ → ℕ → List Part
refusal_parts kind number =
    status_parts kind (codes "REJT") (reason_parts (codes "REJT") (codes "NARR") (generic_part (codes "70D") (codes "REAS") (codes "DESK " ++ last_digits 2 number) ∷ []))

-- the statuses of each case
abbrev pub statuses_of : Case → List Part
statuses_of Unmatched =
    status_parts (codes "IPRC") (codes "PACK") []
    ++ status_parts (codes "MTCH") (codes "NMAT") (reason_parts (codes "NMAT") (codes "CMIS") [])
statuses_of (Matched reason) =
    status_parts (codes "IPRC") (codes "PACK") []
    ++ status_parts (codes "MTCH") (codes "MACH") []
    ++ status_parts (codes "SETT") (codes "PEND") (reason_parts (codes "PEND") (code_of_reason reason) [])
statuses_of Cancelled = status_parts (codes "IPRC") (codes "CAND") []
statuses_of CancelDone = status_parts (codes "CPRC") (codes "CAND") []
statuses_of CancelWaits = status_parts (codes "CPRC") (codes "PACK") []
statuses_of (NewRefused number) = refusal_parts (codes "IPRC") number
statuses_of (CancelRefused number) = refusal_parts (codes "CPRC") number

-- the type and the reference of the message that the advice is about
abbrev pub link_parts : Mt → List ℕ → List Part
link_parts mt reference =
    sequence_parts (codes "LINK") (generic_part (codes "13A") (codes "LINK") (digits_of_type mt) ∷ generic_part (codes "20C") (codes "RELA") reference ∷ [])

-- what stands before the statuses
abbrev pub header_parts : Own → Mt → List ℕ → List ℕ → List Part
header_parts own mt reference function =
    generic_part (codes "20C") (codes "SEME") (own_reference own) ∷ field_part (codes "23G") function ∷ link_parts mt reference

-- a status advice about the message of that type and reference
unfoldable pub advice_parts : Own → Mt → List ℕ → Case → List Part
advice_parts own mt reference about =
    sequence_parts (codes "GENL") (header_parts own mt reference (function_of_advice about) ++ statuses_of about)

-- its text
unfoldable pub advice : Own → Mt → List ℕ → Case → List ℕ
advice own mt reference about = block_text (advice_parts own mt reference about)

-- a number of at most 15 digits
abbrev pub IsOwn : Own → Type 0
IsOwn (Answer entries) = entries < 10 ^ 15
IsOwn (Sent n) = n < 10 ^ 15

-- a refusal's number has at most two digits
abbrev pub IsCase : Case → Type 0
IsCase (NewRefused number) = number ≤ 99
IsCase (CancelRefused number) = number ≤ 99
IsCase about = Unit {0}
