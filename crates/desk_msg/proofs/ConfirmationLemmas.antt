-- The parts of a confirmation are right, and its fields say what was settled.
use Rattle.std.proofs.Common.{◌≡◌, ℕ, Bool, true, false, if◌then◌else◌, List, [], ◌∷◌, ◌++◌, codes, refl, lit<, Option, Some, None}
use Rattle.std.specs.List.{list_all}
use Rattle.desk_codes.specs.Number.{written_number}
use Rattle.desk_codes.specs.Currency.{letters_of, decimals_of}
use Rattle.desk_text.specs.BlockGrammar.{is_printable}
use Rattle.desk_text.specs.Written.{close_part, AreParts}
use Rattle.desk_text.proofs.LawLemmas.{value-right}
use Rattle.desk_msg.specs.declared.writing.status.Own.TheVariants.{Sent}
use Rattle.desk_msg.specs.declared.instruction.Cash.{Cash}
use Rattle.desk_msg.specs.declared.instruction.Kind.{Kind}
use Rattle.desk_msg.specs.declared.instruction.Kind.TheVariants.{Unit as Units, FaceAmount}
use Rattle.desk_msg.specs.declared.instruction.Instruction.{Instruction}
use Rattle.desk_msg.specs.MessageType.{is_delivery}
use Rattle.desk_msg.specs.Profile.{code_of_kind}
use Rattle.desk_msg.specs.ConfirmationText.{confirmation_parts, paid_parts}
use Rattle.desk_msg.proofs.AdviceLemmas.{own_right}

-- the texts of a confirmation are printable
pub record ArePrintable (i : Instruction) (day : List ℕ) : Type 0 where
  pub reference : list_all is_printable i.reference ≡ true
  pub day_text : list_all is_printable day ≡ true
  pub isin : list_all is_printable i.isin ≡ true
  pub quantity : list_all is_printable (written_number i.quantity 0) ≡ true
  pub account : list_all is_printable i.account ≡ true
  pub settlement : list_all is_printable i.settlement ≡ true
  pub counterparty : list_all is_printable i.counterparty ≡ true

-- the amount's text
abbrev pub amount_text : Cash → List ℕ
amount_text cash = letters_of cash.ccy ++ written_number cash.amount (decimals_of cash.ccy)

abbrev pub IsPrintedCash : Option Cash → Type 0
IsPrintedCash None = Unit {0}
IsPrintedCash (Some cash) = list_all is_printable (amount_text cash) ≡ true

-- the code of how a security is counted, in front of a number
pub quantity_first : (kind : Kind) (number : List ℕ) → list_all is_printable number ≡ true → list_all is_printable (codes ":ESTT//" ++ code_of_kind kind ++ 47 ∷ number) ≡ true
quantity_first Units number p = p
quantity_first FaceAmount number p = p

-- the other side of a delivery, and of a receipt
pub party_first : (delivers : Bool) (party : List ℕ) → list_all is_printable party ≡ true → list_all is_printable (58 ∷ ((if delivers then codes "REAG" else codes "DEAG") ++ 47 ∷ 47 ∷ party)) ≡ true
party_first true party p = p
party_first false party p = p

paid_right : (cash : Option Cash) → IsPrintedCash cash → AreParts (codes "SETDET" ∷ []) (paid_parts cash ++ close_part (codes "SETDET") ∷ [])
paid_right None p = (refl, refl)
paid_right (Some cash) p = (refl, lit< tt, (refl, value-right (codes ":ESTT//" ++ amount_text cash) p, (refl, (refl, refl))))

pub confirmation_right : (n : ℕ) (i : Instruction) (day : List ℕ) → ArePrintable i day → IsPrintedCash i.cash → AreParts [] (confirmation_parts n i day)
unfolding confirmation_parts
confirmation_right n i day p paid = (
  refl,
  lit< tt,
  (
    refl,
    own_right (Sent n),
    (
      refl,
      refl,
      (
        refl,
        lit< tt,
        (
          refl,
          value-right (codes ":RELA//" ++ i.reference) p.reference,
          (
            refl,
            (
              refl,
              (
                refl,
                lit< tt,
                (
                  refl,
                  value-right (codes ":ESET//" ++ day) p.day_text,
                  (
                    refl,
                    value-right (codes "ISIN " ++ i.isin) p.isin,
                    (
                      refl,
                      (
                        refl,
                        lit< tt,
                        (
                          refl,
                          value-right (codes ":ESTT//" ++ code_of_kind i.kind ++ 47 ∷ written_number i.quantity 0) (quantity_first i.kind (written_number i.quantity 0) p.quantity),
                          (
                            refl,
                            value-right (codes ":SAFE//" ++ i.account) p.account,
                            (
                              refl,
                              (
                                refl,
                                lit< tt,
                                (
                                  refl,
                                  value-right (codes ":SETR//" ++ i.settlement) p.settlement,
                                  (
                                    refl,
                                    lit< tt,
                                    (
                                      refl,
                                      value-right (58 ∷ ((if is_delivery i.mt then codes "REAG" else codes "DEAG") ++ 47 ∷ 47 ∷ i.counterparty)) (party_first (is_delivery i.mt) i.counterparty p.counterparty),
                                      (
                                        refl,
                                        (refl, lit< tt, (refl, refl, (refl, paid_right i.cash paid))),
                                      ),
                                    ),
                                  ),
                                ),
                              ),
                            ),
                          ),
                        ),
                      ),
                    ),
                  ),
                ),
              ),
            ),
          ),
        ),
      ),
    ),
  ),
)
