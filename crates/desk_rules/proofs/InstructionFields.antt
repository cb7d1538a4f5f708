-- The fields of a message that instructs.
use Rattle.std.proofs.Common.{◌≡◌, Bool, true, false, if◌then◌else◌, List, [], ◌∷◌, ◌++◌, codes, refl, sym, subst, inl, lit≤, Option, Some, None, Ok, is_some}
use Rattle.std.proofs.lemmas.List.Elements.{All-nil}
use Rattle.desk_codes.specs.Characters.{IsCodeChar}
use Rattle.desk_codes.specs.Number.{written_number, ReadsNumber}
use Rattle.desk_codes.specs.Currency.{letters_of, decimals_of}
use Rattle.desk_codes.specs.Reference.{IsReference}
use Rattle.desk_codes.specs.Account.{IsAccount}
use Rattle.desk_codes.specs.Bic.{IsBic}
use Rattle.desk_codes.specs.Day.{IsDay}
use Rattle.desk_codes.specs.CheckDigit.{IsIsin}
use Rattle.desk_text.specs.Fields.{Found}
use Rattle.desk_msg.specs.declared.fault.Word.{Word}
use Rattle.desk_msg.specs.declared.fault.Word.TheVariants.{Field19A}
use Rattle.desk_msg.specs.declared.instruction.Cash.{Cash}
use Rattle.desk_msg.specs.declared.instruction.Instruction.{Instruction}
use Rattle.desk_msg.specs.Profile.{Said, IsCode, code_of_kind, function_row, seme_row, date_row, security_row, quantity_row, safe_row, setr_row, pset_row, deag_row, reag_row, amount_row, text_said, quantity_said, amount_said}
use Rattle.desk_msg.specs.Reads.{belonging, Gives, GiveAll, cash_said, instruction_said}
use Rattle.desk_msg.proofs.ConfirmationLaws.{IsReadCash}
use Rattle.desk_msg.proofs.ConfirmedFields.{at, general, traded, booked, details, parties, amounts}
use Rattle.desk_rules.proofs.PartLemmas.{newm_code, bic_itself}

-- each field
abbrev seme : Instruction → Found
seme i = at general (codes "20C") ((codes ":SEME//" ++ i.reference) ∷ []) 3

abbrev function : Found
function = at general (codes "23G") (codes "NEWM" ∷ []) 4

abbrev date : Instruction → Found
date i = at traded (codes "98A") ((codes ":SETT//" ++ i.day) ∷ []) 7

abbrev security : Instruction → Found
security i = at traded (codes "35B") ((codes "ISIN " ++ i.isin) ∷ []) 8

abbrev quantity : Instruction → Found
quantity i = at booked (codes "36B") ((codes ":SETT//" ++ code_of_kind i.kind ++ 47 ∷ written_number i.quantity 0) ∷ []) 11

abbrev account : Instruction → Found
account i = at booked (codes "97A") ((codes ":SAFE//" ++ i.account) ∷ []) 12

abbrev settlement : Instruction → Found
settlement i = at details (codes "22F") ((codes ":SETR//" ++ i.settlement) ∷ []) 15

-- the other side: the receiving agent of a delivery, the delivering agent of a receipt
abbrev counterparty : Bool → Instruction → Found
counterparty delivers i = at parties (codes "95P") ((if delivers then codes ":REAG//" ++ i.counterparty else codes ":DEAG//" ++ i.counterparty) ∷ []) 17

abbrev place : Instruction → Found
place i = at parties (codes "95P") ((codes ":PSET//" ++ i.place) ∷ []) 20

abbrev amount : Cash → Found
amount cash = at amounts (codes "19A") ((codes ":SETT//" ++ letters_of cash.ccy ++ written_number cash.amount (decimals_of cash.ccy)) ∷ []) 23

abbrev paid : Option Cash → List Found
paid None = []
paid (Some cash) = amount cash ∷ []

-- all of them, in the order of a message
pub instructing_fields : Bool → Instruction → Option Cash → List Found
instructing_fields delivers i cash =
    seme i ∷ function ∷ date i ∷ security i ∷ quantity i ∷ account i ∷ settlement i ∷ counterparty delivers i ∷ place i ∷ paid cash

module _ (delivers : Bool) (i : Instruction) where
  pub function_given : (cash : Option Cash) → Gives (instructing_fields delivers i cash) function_row (text_said (codes "NEWM"))
  unfolding instructing_fields
  function_given None = record { field = function; only = refl; says = (codes "NEWM", refl, (newm_code, inl refl)) }
  function_given (Some cash) = record { field = function; only = refl; says = (codes "NEWM", refl, (newm_code, inl refl)) }

  pub seme_given : (cash : Option Cash) → IsReference i.reference → Gives (instructing_fields delivers i cash) seme_row (text_said i.reference)
  unfolding instructing_fields
  seme_given None is = record { field = seme i; only = refl; says = (i.reference, refl, (is, refl)) }
  seme_given (Some cash) is = record { field = seme i; only = refl; says = (i.reference, refl, (is, refl)) }

  pub date_given : (cash : Option Cash) → IsDay i.day → Gives (instructing_fields delivers i cash) date_row (text_said i.day)
  unfolding instructing_fields
  date_given None is = record { field = date i; only = refl; says = (i.day, refl, (is, inl (refl, refl))) }
  date_given (Some cash) is = record { field = date i; only = refl; says = (i.day, refl, (is, inl (refl, refl))) }

  pub security_given : (cash : Option Cash) → IsIsin i.isin → Gives (instructing_fields delivers i cash) security_row (text_said i.isin)
  unfolding instructing_fields
  security_given None is = record { field = security i; only = refl; says = (codes "ISIN " ++ i.isin, [], refl, (is, refl)) }
  security_given (Some cash) is = record { field = security i; only = refl; says = (codes "ISIN " ++ i.isin, [], refl, (is, refl)) }

  pub quantity_given : (cash : Option Cash) → ReadsNumber (written_number i.quantity 0) 0 (Ok i.quantity) → Gives (instructing_fields delivers i cash) quantity_row (quantity_said i.kind i.quantity)
  unfolding instructing_fields
  quantity_given None is = record { field = quantity i; only = refl; says = (refl, (code_of_kind i.kind ++ 47 ∷ written_number i.quantity 0, refl, (written_number i.quantity 0, refl, is))) }
  quantity_given (Some cash) is = record { field = quantity i; only = refl; says = (refl, (code_of_kind i.kind ++ 47 ∷ written_number i.quantity 0, refl, (written_number i.quantity 0, refl, is))) }

  pub safe_given : (cash : Option Cash) → IsAccount i.account → Gives (instructing_fields delivers i cash) safe_row (text_said i.account)
  unfolding instructing_fields
  safe_given None is = record { field = account i; only = refl; says = (i.account, refl, (is, refl)) }
  safe_given (Some cash) is = record { field = account i; only = refl; says = (i.account, refl, (is, refl)) }

  pub setr_given : (cash : Option Cash) → IsCode 4 i.settlement → Gives (instructing_fields delivers i cash) setr_row (text_said i.settlement)
  unfolding instructing_fields
  setr_given None is = record { field = settlement i; only = refl; says = (47 ∷ i.settlement, refl, (is, ([], lit≤ tt, All-nil IsCodeChar, refl))) }
  setr_given (Some cash) is = record { field = settlement i; only = refl; says = (47 ∷ i.settlement, refl, (is, ([], lit≤ tt, All-nil IsCodeChar, refl))) }

place_alone : (delivers : Bool) (i : Instruction) (cash : Option Cash) → belonging pset_row (instructing_fields delivers i cash) ≡ place i ∷ []
unfolding instructing_fields
place_alone true i None = refl
place_alone true i (Some cash) = refl
place_alone false i None = refl
place_alone false i (Some cash) = refl

pub pset_given : (delivers : Bool) (i : Instruction) (cash : Option Cash) → IsBic i.place → Gives (instructing_fields delivers i cash) pset_row (text_said i.place)
pset_given delivers i cash is = record { field = place i; only = place_alone delivers i cash; says = (i.place, refl, bic_itself i.place is) }

-- the other side stands under the row of the type
pub party_given : (delivers : Bool) (i : Instruction) (cash : Option Cash) → IsBic i.counterparty
    → Gives (instructing_fields delivers i cash) (if delivers then reag_row else deag_row) (instruction_said i (if delivers then reag_row else deag_row).word)
unfolding instructing_fields
party_given true i None is = record { field = counterparty true i; only = refl; says = (i.counterparty, refl, bic_itself i.counterparty is) }
party_given true i (Some cash) is = record { field = counterparty true i; only = refl; says = (i.counterparty, refl, bic_itself i.counterparty is) }
party_given false i None is = record { field = counterparty false i; only = refl; says = (i.counterparty, refl, bic_itself i.counterparty is) }
party_given false i (Some cash) is = record { field = counterparty false i; only = refl; says = (i.counterparty, refl, bic_itself i.counterparty is) }

amount_given : (delivers : Bool) (i : Instruction) (cash : Cash) → IsReadCash (Some cash) → Gives (instructing_fields delivers i (Some cash)) amount_row (amount_said cash.ccy cash.amount)
unfolding instructing_fields
amount_given delivers i cash is = record {
  field = amount cash;
  only = refl;
  says = (refl, (letters_of cash.ccy ++ written_number cash.amount (decimals_of cash.ccy), refl, (written_number cash.amount (decimals_of cash.ccy), refl, is)));
}

-- and the amount, against payment
pub payment_given : (delivers against : Bool) (i : Instruction) (cash : Option Cash) (part : Word → Said) → is_some cash ≡ against → part Field19A ≡ cash_said cash → IsReadCash cash
    → GiveAll (instructing_fields delivers i cash) (if against then amount_row ∷ [] else []) part
payment_given delivers false i cash part e is read = tt
payment_given delivers true i None part e is read = absurd (let h = e in cc)
payment_given delivers true i (Some cash) part e is read = (subst (Gives (instructing_fields delivers i (Some cash)) amount_row) (sym is) (amount_given delivers i cash read), tt)
