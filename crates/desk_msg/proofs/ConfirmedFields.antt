-- What the fields of a confirmation say.
use Rattle.std.proofs.Common.{◌≡◌, ℕ, ◌+◌, if◌then◌else◌, List, [], ◌∷◌, ◌++◌, length, codes, refl, inl, inr, lit≤, Option, Some, None, Ok}
use Rattle.std.proofs.lemmas.List.Elements.{All-cons, All-nil}
use Rattle.desk_codes.specs.Characters.{IsCodeChar}
use Rattle.desk_codes.specs.Number.{written_number, ReadsNumber}
use Rattle.desk_codes.specs.Currency.{letters_of, decimals_of}
use Rattle.desk_codes.specs.Reference.{IsReference}
use Rattle.desk_codes.specs.Account.{IsAccount}
use Rattle.desk_codes.specs.Day.{IsDay}
use Rattle.desk_codes.specs.CheckDigit.{IsIsin}
use Rattle.desk_text.specs.Fields.{Found}
use Rattle.desk_text.specs.Lines.{value_lines}
use Rattle.desk_text.specs.Written.{fields_written}
use Rattle.desk_msg.specs.declared.writing.status.Own.TheVariants.{Sent}
use Rattle.desk_msg.specs.declared.instruction.Cash.{Cash}
use Rattle.desk_msg.specs.declared.instruction.Instruction.{Instruction}
use Rattle.desk_msg.specs.MessageType.{is_delivery}
use Rattle.desk_msg.specs.Profile.{IsCode, code_of_kind, function_row, security_row, safe_row, text_said, quantity_said, amount_said}
use Rattle.desk_msg.specs.Reads.{Gives}
use Rattle.desk_msg.specs.OwnText.{own_reference}
use Rattle.desk_msg.specs.ConfirmationText.{confirmation_parts}
use Rattle.desk_msg.specs.Confirms.{rela_row, eset_row, settled_row, paid_row}

abbrev pub at : List (List ℕ) → List ℕ → List (List ℕ) → ℕ → Found
at path tag values line = record { path = path; tag = tag; values = values; line = line }

abbrev pub general : List (List ℕ)
general = codes "GENL" ∷ []

abbrev pub linked : List (List ℕ)
linked = codes "GENL" ∷ codes "LINK" ∷ []

abbrev pub traded : List (List ℕ)
traded = codes "TRADDET" ∷ []

abbrev pub booked : List (List ℕ)
booked = codes "FIAC" ∷ []

abbrev pub details : List (List ℕ)
details = codes "SETDET" ∷ []

abbrev pub parties : List (List ℕ)
parties = codes "SETDET" ∷ codes "SETPRTY" ∷ []

abbrev pub amounts : List (List ℕ)
amounts = codes "SETDET" ∷ codes "AMT" ∷ []

-- the fields of a confirmation with these lines, where each field has one: own and related reference, day, security,
-- quantity, account, settlement, counterparty, and what follows
pub fields_with : (own related day security quantity account settlement party : List (List ℕ)) (paid : ℕ → List Found) → List Found
fields_with own related day security quantity account settlement party paid =
    let third = 3 + length own in
    let sixth = third + 1 + 1 + length related + 1 + 1 in
    at general (codes "20C") own 3
    ∷ at general (codes "23G") (codes "NEWM" ∷ []) third
    ∷ at linked (codes "20C") related (third + 1 + 1)
    ∷ at traded (codes "98A") day (sixth + 1)
    ∷ at traded (codes "35B") security (sixth + 1 + length day)
    ∷ at booked (codes "36B") quantity (sixth + 1 + length day + length security + 1 + 1)
    ∷ at booked (codes "97A") account (sixth + 1 + length day + length security + 1 + 1 + length quantity)
    ∷ at details (codes "22F") settlement (sixth + 1 + length day + length security + 1 + 1 + length quantity + length account + 1 + 1)
    ∷ at parties (codes "95P") party (sixth + 1 + length day + length security + 1 + 1 + length quantity + length account + 1 + 1 + length settlement + 1)
    ∷ at parties (codes "95P") (codes ":PSET//DESKDEFF" ∷ []) (sixth + 1 + length day + length security + 1 + 1 + length quantity + length account + 1 + 1 + length settlement + 1 + length party + 1 + 1)
    ∷ paid (sixth + 1 + length day + length security + 1 + 1 + length quantity + length account + 1 + 1 + length settlement + 1 + length party + 1 + 1 + 1 + 1)

abbrev pub none_paid : ℕ → List Found
none_paid line = []

abbrev pub one_paid : List (List ℕ) → ℕ → List Found
one_paid amount line = at amounts (codes "19A") amount (line + 1) ∷ []

-- the amount's text
abbrev pub amount_text : Cash → List ℕ
amount_text cash = codes ":ESTT//" ++ letters_of cash.ccy ++ written_number cash.amount (decimals_of cash.ccy)

abbrev pub paid_in : (Cash → List (List ℕ)) → Option Cash → ℕ → List Found
paid_in lines None = none_paid
paid_in lines (Some cash) = one_paid (lines cash)

abbrev pub party_value : Instruction → List ℕ
party_value i = 58 ∷ ((if is_delivery i.mt then codes "REAG" else codes "DEAG") ++ 47 ∷ 47 ∷ i.counterparty)

-- the fields with the lines of their values
abbrev pub written_fields : ℕ → Instruction → List ℕ → Option Cash → List Found
written_fields n i day cash = fields_with
    (value_lines (codes ":SEME//" ++ own_reference (Sent n))) (value_lines (codes ":RELA//" ++ i.reference)) (value_lines (codes ":ESET//" ++ day))
    (value_lines (codes "ISIN " ++ i.isin)) (value_lines (codes ":ESTT//" ++ code_of_kind i.kind ++ 47 ∷ written_number i.quantity 0)) (value_lines (codes ":SAFE//" ++ i.account))
    (value_lines (codes ":SETR//" ++ i.settlement)) (value_lines (party_value i)) (paid_in (λ c. value_lines (amount_text c)) cash)

-- the fields, each value with its one line
abbrev pub said_fields : ℕ → Instruction → List ℕ → Option Cash → List Found
said_fields n i day cash = fields_with
    ((codes ":SEME//" ++ own_reference (Sent n)) ∷ []) ((codes ":RELA//" ++ i.reference) ∷ []) ((codes ":ESET//" ++ day) ∷ [])
    ((codes "ISIN " ++ i.isin) ∷ []) ((codes ":ESTT//" ++ code_of_kind i.kind ++ 47 ∷ written_number i.quantity 0) ∷ []) ((codes ":SAFE//" ++ i.account) ∷ [])
    ((codes ":SETR//" ++ i.settlement) ∷ []) (party_value i ∷ []) (paid_in (λ c. amount_text c ∷ []) cash)

pub written_are : (n : ℕ) (i : Instruction) (day : List ℕ) (cash : Option Cash) → i.cash ≡ cash → fields_written (confirmation_parts n i day) ≡ written_fields n i day cash
unfolding confirmation_parts fields_with
written_are n i day None e = rw e refl
written_are n i day (Some cash) e = rw e refl

pub same_with : (a b c d e f g h o p q r s t u v : List (List ℕ)) (paid also : ℕ → List Found) → a ≡ o → b ≡ p → c ≡ q → d ≡ r → e ≡ s → f ≡ t → g ≡ u → h ≡ v → paid ≡ also → fields_with a b c d e f g h paid ≡ fields_with o p q r s t u v also
same_with a b c d e f g h o p q r s t u v paid also i j k l m n w x y = cc

newm_code : IsCode 4 (codes "NEWM")
newm_code = (refl, All-cons IsCodeChar 78 (codes "EWM") (inr (lit≤ tt, lit≤ tt)) (All-cons IsCodeChar 69 (codes "WM") (inr (lit≤ tt, lit≤ tt)) (All-cons IsCodeChar 87 (codes "M") (inr (lit≤ tt, lit≤ tt)) (All-cons IsCodeChar 77 [] (inr (lit≤ tt, lit≤ tt)) (All-nil IsCodeChar)))))

pub function_given : (n : ℕ) (i : Instruction) (day : List ℕ) (cash : Option Cash) → Gives (said_fields n i day cash) function_row (text_said (codes "NEWM"))
unfolding fields_with
function_given n i day None = record { field = at general (codes "23G") (codes "NEWM" ∷ []) 4; only = refl; says = (codes "NEWM", refl, (newm_code, inl refl)) }
function_given n i day (Some cash) = record { field = at general (codes "23G") (codes "NEWM" ∷ []) 4; only = refl; says = (codes "NEWM", refl, (newm_code, inl refl)) }

pub rela_given : (n : ℕ) (i : Instruction) (day : List ℕ) (cash : Option Cash) → IsReference i.reference → Gives (said_fields n i day cash) rela_row (text_said i.reference)
unfolding fields_with
rela_given n i day None is = record { field = at linked (codes "20C") ((codes ":RELA//" ++ i.reference) ∷ []) 6; only = refl; says = (i.reference, refl, (is, refl)) }
rela_given n i day (Some cash) is = record { field = at linked (codes "20C") ((codes ":RELA//" ++ i.reference) ∷ []) 6; only = refl; says = (i.reference, refl, (is, refl)) }

pub eset_given : (n : ℕ) (i : Instruction) (day : List ℕ) (cash : Option Cash) → IsDay day → Gives (said_fields n i day cash) eset_row (text_said day)
unfolding fields_with
eset_given n i day None is = record { field = at traded (codes "98A") ((codes ":ESET//" ++ day) ∷ []) 10; only = refl; says = (day, refl, (is, inl (refl, refl))) }
eset_given n i day (Some cash) is = record { field = at traded (codes "98A") ((codes ":ESET//" ++ day) ∷ []) 10; only = refl; says = (day, refl, (is, inl (refl, refl))) }

pub security_given : (n : ℕ) (i : Instruction) (day : List ℕ) (cash : Option Cash) → IsIsin i.isin → Gives (said_fields n i day cash) security_row (text_said i.isin)
unfolding fields_with
security_given n i day None is = record { field = at traded (codes "35B") ((codes "ISIN " ++ i.isin) ∷ []) 11; only = refl; says = (codes "ISIN " ++ i.isin, [], refl, (is, refl)) }
security_given n i day (Some cash) is = record { field = at traded (codes "35B") ((codes "ISIN " ++ i.isin) ∷ []) 11; only = refl; says = (codes "ISIN " ++ i.isin, [], refl, (is, refl)) }

pub settled_given : (n : ℕ) (i : Instruction) (day : List ℕ) (cash : Option Cash) → ReadsNumber (written_number i.quantity 0) 0 (Ok i.quantity) → Gives (said_fields n i day cash) settled_row (quantity_said i.kind i.quantity)
unfolding fields_with
settled_given n i day None is = record { field = at booked (codes "36B") ((codes ":ESTT//" ++ code_of_kind i.kind ++ 47 ∷ written_number i.quantity 0) ∷ []) 14; only = refl; says = (refl, (code_of_kind i.kind ++ 47 ∷ written_number i.quantity 0, refl, (written_number i.quantity 0, refl, is))) }
settled_given n i day (Some cash) is = record { field = at booked (codes "36B") ((codes ":ESTT//" ++ code_of_kind i.kind ++ 47 ∷ written_number i.quantity 0) ∷ []) 14; only = refl; says = (refl, (code_of_kind i.kind ++ 47 ∷ written_number i.quantity 0, refl, (written_number i.quantity 0, refl, is))) }

pub safe_given : (n : ℕ) (i : Instruction) (day : List ℕ) (cash : Option Cash) → IsAccount i.account → Gives (said_fields n i day cash) safe_row (text_said i.account)
unfolding fields_with
safe_given n i day None is = record { field = at booked (codes "97A") ((codes ":SAFE//" ++ i.account) ∷ []) 15; only = refl; says = (i.account, refl, (is, refl)) }
safe_given n i day (Some cash) is = record { field = at booked (codes "97A") ((codes ":SAFE//" ++ i.account) ∷ []) 15; only = refl; says = (i.account, refl, (is, refl)) }

pub paid_given : (n : ℕ) (i : Instruction) (day : List ℕ) (cash : Cash) → ReadsNumber (written_number cash.amount (decimals_of cash.ccy)) (decimals_of cash.ccy) (Ok cash.amount) → Gives (said_fields n i day (Some cash)) paid_row (amount_said cash.ccy cash.amount)
unfolding fields_with
paid_given n i day cash is = record {
  field = at amounts (codes "19A") (amount_text cash ∷ []) 26;
  only = refl;
  says = (refl, (letters_of cash.ccy ++ written_number cash.amount (decimals_of cash.ccy), refl, (written_number cash.amount (decimals_of cash.ccy), refl, is)));
}
