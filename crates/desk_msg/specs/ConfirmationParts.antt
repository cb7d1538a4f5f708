-- The parts of a confirmation by their values: what ConfirmationText.antt defines, in the words of the writer. Only proofs
-- speak of it.
use Rattle.std.specs.Prelude.{ℕ, List, [], ◌∷◌, ◌++◌, codes}
use Rattle.desk_text.specs.Written.{Part, open_part, field_part, close_part}
use Rattle.desk_msg.specs.Depository.{desk_bic}

-- The parts of a confirmation with these values, in the order of its fields: own and related reference, day, security, quantity,
-- account, settlement and counterparty; and with the parts of the amount.
abbrev pub parts_listed : (own related day security quantity account settlement counterparty : List ℕ) → List Part → List Part
parts_listed own related day security quantity account settlement counterparty paid =
    open_part (codes "GENL")
    ∷ field_part (codes "20C") own
    ∷ field_part (codes "23G") (codes "NEWM")
    ∷ open_part (codes "LINK")
    ∷ field_part (codes "20C") related
    ∷ close_part (codes "LINK")
    ∷ close_part (codes "GENL")
    ∷ open_part (codes "TRADDET")
    ∷ field_part (codes "98A") day
    ∷ field_part (codes "35B") security
    ∷ close_part (codes "TRADDET")
    ∷ open_part (codes "FIAC")
    ∷ field_part (codes "36B") quantity
    ∷ field_part (codes "97A") account
    ∷ close_part (codes "FIAC")
    ∷ open_part (codes "SETDET")
    ∷ field_part (codes "22F") settlement
    ∷ open_part (codes "SETPRTY")
    ∷ field_part (codes "95P") counterparty
    ∷ close_part (codes "SETPRTY")
    ∷ open_part (codes "SETPRTY")
    ∷ field_part (codes "95P") (codes ":PSET//" ++ desk_bic)
    ∷ close_part (codes "SETPRTY")
    ∷ (paid ++ close_part (codes "SETDET") ∷ [])
