-- The confirmation of a settlement (ISO 15022, MT544 to MT547) as the parts that it is written in.
use Rattle.std.specs.Prelude.{ℕ, List, [], ◌∷◌, ◌++◌, codes, if◌then◌else◌, Option, Some, None}
use Rattle.std.specs.Str.{byte}
use Rattle.desk_codes.specs.Number.{written_number}
use Rattle.desk_codes.specs.Currency.{letters_of, decimals_of}
use Rattle.desk_text.specs.Written.{Part, field_part, block_text}
use Rattle.desk_msg.specs.declared.mt.Mt.{Mt}
use Rattle.desk_msg.specs.declared.mt.Mt.TheVariants.{Mt540, Mt541, Mt542, Mt543, Mt544, Mt545, Mt546, Mt547}
use Rattle.desk_msg.specs.declared.writing.status.Own.TheVariants.{Sent}
use Rattle.desk_msg.specs.declared.instruction.Cash.{Cash}
use Rattle.desk_msg.specs.declared.instruction.Instruction.{Instruction}
use Rattle.desk_msg.specs.MessageType.{is_delivery}
use Rattle.desk_msg.specs.Profile.{code_of_kind}
use Rattle.desk_msg.specs.OwnText.{own_reference, generic_part, sequence_parts}
use Rattle.desk_msg.specs.Depository.{desk_bic}

-- the type that confirms a type of instruction; a confirmation's own type is given back
abbrev pub confirming_type : Mt → Mt
confirming_type Mt540 = Mt544
confirming_type Mt541 = Mt545
confirming_type Mt542 = Mt546
confirming_type Mt543 = Mt547
confirming_type mt = mt

-- a party
abbrev pub party_parts : List ℕ → List ℕ → List Part
party_parts qualifier party = sequence_parts (codes "SETPRTY") (generic_part (codes "95P") qualifier party ∷ [])

-- an amount: its currency, and the number
abbrev pub amount_text : Cash → List ℕ
amount_text cash = letters_of cash.ccy ++ written_number cash.amount (decimals_of cash.ccy)

-- the amount that was paid, against payment
abbrev pub paid_parts : Option Cash → List Part
paid_parts None = []
paid_parts (Some cash) = sequence_parts (codes "AMT") (generic_part (codes "19A") (codes "ESTT") (amount_text cash) ∷ [])

-- the n-th sent message, which confirms that an instruction was settled on that day
unfoldable pub confirmation_parts : ℕ → Instruction → List ℕ → List Part
confirmation_parts n i day =
    sequence_parts (codes "GENL") (
    generic_part (codes "20C") (codes "SEME") (own_reference (Sent n))
    ∷ field_part (codes "23G") (codes "NEWM")
    ∷ sequence_parts (codes "LINK") (generic_part (codes "20C") (codes "RELA") i.reference ∷ []))
    ++ sequence_parts (codes "TRADDET") (
    generic_part (codes "98A") (codes "ESET") day
    ∷ field_part (codes "35B") (codes "ISIN " ++ i.isin)
    ∷ [])
    ++ sequence_parts (codes "FIAC") (
    generic_part (codes "36B") (codes "ESTT") (code_of_kind i.kind ++ byte "/" ∷ written_number i.quantity 0)
    ∷ generic_part (codes "97A") (codes "SAFE") i.account
    ∷ [])
    ++ sequence_parts (codes "SETDET") (
    generic_part (codes "22F") (codes "SETR") i.settlement
    ∷ (party_parts (if is_delivery i.mt then codes "REAG" else codes "DEAG") i.counterparty
    ++ party_parts (codes "PSET") desk_bic
    ++ paid_parts i.cash))

-- its text
unfoldable pub confirmation : ℕ → Instruction → List ℕ → List ℕ
confirmation n i day = block_text (confirmation_parts n i day)
