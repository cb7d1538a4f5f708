-- A confirmation is written piece by piece.
use Rattle.std.proofs.Common.{◌≡◌, ℕ, Bool, true, false, if◌then◌else◌, List, [], ◌∷◌, ◌++◌, codes, refl, sym, ◌∙◌, ap, append_assoc, append-nil, Some}
use Rattle.std.specs.List.{list_all}
use Rattle.desk_codes.specs.Number.{written_number}
use Rattle.desk_codes.specs.Currency.{letters_of, decimals_of}
use Rattle.desk_text.specs.Lines.{value_lines}
use Rattle.desk_text.specs.BlockGrammar.{is_printable}
use Rattle.desk_text.specs.Written.{Part, open_part, field_part, close_part, block_text}
use Rattle.desk_text.proofs.LawLemmas.{value-line}
use Rattle.desk_msg.specs.declared.writing.status.Own.TheVariants.{Sent}
use Rattle.desk_msg.specs.declared.instruction.Cash.{Cash}
use Rattle.desk_msg.specs.declared.instruction.Kind.{Kind}
use Rattle.desk_msg.specs.declared.instruction.Kind.TheVariants.{Unit as Units, FaceAmount}
use Rattle.desk_msg.specs.declared.instruction.Instruction.{Instruction}
use Rattle.desk_msg.specs.MessageType.{is_delivery}
use Rattle.desk_msg.specs.OwnText.{own_reference}
use Rattle.desk_msg.specs.Profile.{code_of_kind}
use Rattle.desk_msg.specs.Depository.{desk_bic}
use Rattle.desk_msg.specs.ConfirmationText.{confirmation, confirmation_parts, paid_parts}
use Rattle.desk_msg.specs.ConfirmationParts.{parts_listed}
use Rattle.desk_msg.specs.ConfirmationPieces.{settled_with, traded_with}
use Rattle.desk_msg.specs.HoldingsPieces.{text_of}
use Rattle.desk_msg.proofs.PrintableLemmas.{digits-printable}
use Rattle.desk_msg.proofs.ConfirmationLemmas.{ArePrintable, amount_text, quantity_first, party_first}
use Rattle.desk_msg.proofs.HoldingsLemmas.{text_of-append}
use Rattle.desk_msg.proofs.StatusLemmas.{line_before}

-- pieces of the lines of the amount, and a text behind them
pub four_then : (a b c d rest : List ℕ) → a ++ (b ++ (c ++ (d ++ rest))) ≡ (a ++ (b ++ (c ++ d))) ++ rest
four_then a b c d rest =
    sym (append_assoc a (b ++ (c ++ d)) rest ∙ ap (λ w. a ++ w) (append_assoc b (c ++ d) rest ∙ ap (λ w. b ++ w) (append_assoc c d rest)))

-- the lines behind the account, where each value has one line
settled_written : (settlement counterparty : List ℕ) (paid : List Part) → value_lines settlement ≡ settlement ∷ [] → value_lines counterparty ≡ counterparty ∷ []
    → text_of (close_part (codes "FIAC") ∷ open_part (codes "SETDET") ∷ field_part (codes "22F") settlement ∷ open_part (codes "SETPRTY") ∷ field_part (codes "95P") counterparty ∷ close_part (codes "SETPRTY")
    ∷ open_part (codes "SETPRTY") ∷ field_part (codes "95P") (codes ":PSET//" ++ desk_bic) ∷ close_part (codes "SETPRTY") ∷ (paid ++ close_part (codes "SETDET") ∷ [])) ++ codes "-}"
    ≡ codes ":16S:FIAC\r\n:16R:SETDET\r\n:22F:" ++ (settlement ++ (codes "\r\n:16R:SETPRTY\r\n:95P:" ++ (counterparty
    ++ (codes "\r\n:16S:SETPRTY\r\n:16R:SETPRTY\r\n:95P::PSET//DESKDEFF\r\n:16S:SETPRTY\r\n" ++ (text_of paid ++ codes ":16S:SETDET\r\n-}")))))
settled_written settlement counterparty paid s c =
    let last : List Part = paid ++ close_part (codes "SETDET") ∷ [] in
    let place : List Part = close_part (codes "SETPRTY") ∷ open_part (codes "SETPRTY") ∷ field_part (codes "95P") (codes ":PSET//" ++ desk_bic) ∷ close_part (codes "SETPRTY") ∷ last in
    let ending : text_of last ++ codes "-}" ≡ text_of paid ++ codes ":16S:SETDET\r\n-}" =
    ap (λ w. w ++ codes "-}") (text_of-append paid (close_part (codes "SETDET") ∷ [])) ∙ append_assoc (text_of paid) (codes ":16S:SETDET\r\n") (codes "-}") in
    ap (λ w. codes ":16S:FIAC\r\n:16R:SETDET\r\n" ++ w) (line_before (codes "22F") settlement (open_part (codes "SETPRTY") ∷ field_part (codes "95P") counterparty ∷ place) (codes "-}") s)
    ∙ ap (λ w. codes ":16S:FIAC\r\n:16R:SETDET\r\n:22F:" ++ (settlement ++ (codes "\r\n:16R:SETPRTY\r\n" ++ w))) (line_before (codes "95P") counterparty place (codes "-}") c)
    ∙ ap (λ w. codes ":16S:FIAC\r\n:16R:SETDET\r\n:22F:" ++ (settlement ++ (codes "\r\n:16R:SETPRTY\r\n:95P:" ++ (counterparty
    ++ (codes "\r\n:16S:SETPRTY\r\n:16R:SETPRTY\r\n:95P::PSET//DESKDEFF\r\n:16S:SETPRTY\r\n" ++ w))))) ending

-- the text of a confirmation with these values, where each has one line
pub listed_written : (own related day security quantity account settlement counterparty : List ℕ) (paid : List Part) → value_lines own ≡ own ∷ [] → value_lines related ≡ related ∷ [] → value_lines day ≡ day ∷ [] → value_lines security ≡ security ∷ []
    → value_lines quantity ≡ quantity ∷ [] → value_lines account ≡ account ∷ [] → value_lines settlement ≡ settlement ∷ [] → value_lines counterparty ≡ counterparty ∷ []
    → block_text (parts_listed own related day security quantity account settlement counterparty paid)
    ≡ codes "{4:\r\n:16R:GENL\r\n:20C:" ++ (own ++ (codes "\r\n:23G:NEWM\r\n:16R:LINK\r\n:20C:" ++ (related ++ (codes "\r\n:16S:LINK\r\n:16S:GENL\r\n:16R:TRADDET\r\n:98A:" ++ (day
    ++ (codes "\r\n:35B:" ++ (security ++ (codes "\r\n:16S:TRADDET\r\n:16R:FIAC\r\n:36B:" ++ (quantity ++ (codes "\r\n:97A:" ++ (account
    ++ (codes "\r\n:16S:FIAC\r\n:16R:SETDET\r\n:22F:" ++ (settlement ++ (codes "\r\n:16R:SETPRTY\r\n:95P:" ++ (counterparty
    ++ (codes "\r\n:16S:SETPRTY\r\n:16R:SETPRTY\r\n:95P::PSET//DESKDEFF\r\n:16S:SETPRTY\r\n" ++ (text_of paid ++ codes ":16S:SETDET\r\n-}")))))))))))))))))
listed_written own related day security quantity account settlement counterparty paid o r d s q a t c =
    let end : List ℕ = codes "-}" in
    let five : List Part = close_part (codes "FIAC") ∷ open_part (codes "SETDET") ∷ field_part (codes "22F") settlement ∷ open_part (codes "SETPRTY") ∷ field_part (codes "95P") counterparty ∷ close_part (codes "SETPRTY")
    ∷ open_part (codes "SETPRTY") ∷ field_part (codes "95P") (codes ":PSET//" ++ desk_bic) ∷ close_part (codes "SETPRTY") ∷ (paid ++ close_part (codes "SETDET") ∷ []) in
    let four : List Part = field_part (codes "97A") account ∷ five in
    let three : List Part = close_part (codes "TRADDET") ∷ open_part (codes "FIAC") ∷ field_part (codes "36B") quantity ∷ four in
    let two : List Part = field_part (codes "35B") security ∷ three in
    let one : List Part = close_part (codes "LINK") ∷ close_part (codes "GENL") ∷ open_part (codes "TRADDET") ∷ field_part (codes "98A") day ∷ two in
    let settled = settled_written settlement counterparty paid t c in
    ap (λ w. codes "{4:\r\n:16R:GENL\r\n" ++ w) (
    line_before (codes "20C") own (field_part (codes "23G") (codes "NEWM") ∷ open_part (codes "LINK") ∷ field_part (codes "20C") related ∷ one) end o
    ∙ ap (λ w. codes ":20C:" ++ (own ++ (codes "\r\n:23G:NEWM\r\n:16R:LINK\r\n" ++ w))) (
    line_before (codes "20C") related one end r
    ∙ ap (λ w. codes ":20C:" ++ (related ++ (codes "\r\n:16S:LINK\r\n:16S:GENL\r\n:16R:TRADDET\r\n" ++ w))) (
    line_before (codes "98A") day two end d
    ∙ ap (λ w. codes ":98A:" ++ (day ++ (codes "\r\n" ++ w))) (
    line_before (codes "35B") security three end s
    ∙ ap (λ w. codes ":35B:" ++ (security ++ (codes "\r\n:16S:TRADDET\r\n:16R:FIAC\r\n" ++ w))) (
    line_before (codes "36B") quantity four end q
    ∙ ap (λ w. codes ":36B:" ++ (quantity ++ (codes "\r\n" ++ w))) (
    line_before (codes "97A") account five end a
    ∙ ap (λ w. codes ":97A:" ++ (account ++ (codes "\r\n" ++ w))) settled))))))

-- the lines of an amount
pub paid_written : (cash : Cash) → list_all is_printable (amount_text cash) ≡ true
    → codes ":16R:AMT\r\n:19A::ESTT//" ++ (letters_of cash.ccy ++ (written_number cash.amount (decimals_of cash.ccy) ++ codes "\r\n:16S:AMT\r\n")) ≡ text_of (paid_parts (Some cash))
paid_written cash p =
    let closing : List Part = close_part (codes "AMT") ∷ [] in
    ap (λ w. codes ":16R:AMT\r\n:19A::ESTT//" ++ w) (sym (append_assoc (letters_of cash.ccy) (written_number cash.amount (decimals_of cash.ccy)) (codes "\r\n:16S:AMT\r\n")))
    ∙ ap (λ w. codes ":16R:AMT\r\n" ++ w) (sym (line_before (codes "19A") (codes ":ESTT//" ++ amount_text cash) closing [] (value-line (codes ":ESTT//" ++ amount_text cash) p)) ∙ append-nil (text_of (field_part (codes "19A") (codes ":ESTT//" ++ amount_text cash) ∷ closing)))

-- what the pieces of a confirmation are
pub record ArePieces (n : ℕ) (i : Instruction) (today own related day security quantity_begins quantity account settlement counterparty_begins counterparty paid : List ℕ) : Type 0 where
  pub own_is : own ≡ codes ":SEME//" ++ own_reference (Sent n)
  pub related_is : related ≡ i.reference
  pub day_is : day ≡ today
  pub security_is : security ≡ i.isin
  pub kind_is : quantity_begins ≡ codes ":ESTT//" ++ (code_of_kind i.kind ++ codes "/")
  pub quantity_is : quantity ≡ written_number i.quantity 0
  pub account_is : account ≡ i.account
  pub settlement_is : settlement ≡ i.settlement
  pub side_is : counterparty_begins ≡ codes ":" ++ ((if is_delivery i.mt then codes "REAG" else codes "DEAG") ++ codes "//")
  pub counterparty_is : counterparty ≡ i.counterparty
  pub paid_is : paid ≡ text_of (paid_parts i.cash)

-- the text of pieces, as a function that keeps shut
text_from : (own related day security quantity_begins quantity account settlement counterparty_begins counterparty paid : List ℕ) → List ℕ
text_from own related day security quantity_begins quantity account settlement counterparty_begins counterparty paid =
    codes "{4:\r\n:16R:GENL\r\n:20C:" ++ (own ++ traded_with related day security quantity_begins quantity account (settled_with settlement counterparty_begins counterparty (paid ++ codes ":16S:SETDET\r\n-}")))

same_from : (a b c d e f g h i j k l m o p q r s t u v w : List ℕ) → a ≡ l → b ≡ m → c ≡ o → d ≡ p → e ≡ q → f ≡ r → g ≡ s → h ≡ t → i ≡ u → j ≡ v → k ≡ w → text_from a b c d e f g h i j k ≡ text_from l m o p q r s t u v w
same_from a b c d e f g h i j k l m o p q r s t u v w ea eb ec ed ee ef eg eh ei ej ek = cc

kind_behind : (kind : Kind) (number rest : List ℕ) → (codes ":ESTT//" ++ (code_of_kind kind ++ codes "/")) ++ (number ++ rest) ≡ (codes ":ESTT//" ++ code_of_kind kind ++ 47 ∷ number) ++ rest
kind_behind Units number rest = refl
kind_behind FaceAmount number rest = refl

party_behind : (delivers : Bool) (party rest : List ℕ) → (codes ":" ++ ((if delivers then codes "REAG" else codes "DEAG") ++ codes "//")) ++ (party ++ rest) ≡ (58 ∷ ((if delivers then codes "REAG" else codes "DEAG") ++ 47 ∷ 47 ∷ party)) ++ rest
party_behind true party rest = refl
party_behind false party rest = refl

-- the text of a confirmation, with the beginnings of its quantity and its counterparty in pieces of their own
pieces_written : (n : ℕ) (i : Instruction) (day : List ℕ) → ArePrintable i day
    → text_from (codes ":SEME//" ++ own_reference (Sent n)) i.reference day i.isin (codes ":ESTT//" ++ (code_of_kind i.kind ++ codes "/")) (written_number i.quantity 0) i.account i.settlement (codes ":" ++ ((if is_delivery i.mt then codes "REAG" else codes "DEAG") ++ codes "//")) i.counterparty (text_of (paid_parts i.cash))
    ≡ confirmation n i day
unfolding text_from confirmation confirmation_parts
pieces_written n i day p =
    let own : List ℕ = codes ":SEME//" ++ own_reference (Sent n) in
    let quantity : List ℕ = codes ":ESTT//" ++ code_of_kind i.kind ++ 47 ∷ written_number i.quantity 0 in
    let counterparty : List ℕ = 58 ∷ ((if is_delivery i.mt then codes "REAG" else codes "DEAG") ++ 47 ∷ 47 ∷ i.counterparty) in
    let number : List ℕ = written_number i.quantity 0 in
    let begins : List ℕ = codes ":" ++ ((if is_delivery i.mt then codes "REAG" else codes "DEAG") ++ codes "//") in
    let rest : List ℕ = codes "\r\n:16S:SETPRTY\r\n:16R:SETPRTY\r\n:95P::PSET//DESKDEFF\r\n:16S:SETPRTY\r\n" ++ (text_of (paid_parts i.cash) ++ codes ":16S:SETDET\r\n-}") in
    let settled : List ℕ = settled_with i.settlement begins i.counterparty (text_of (paid_parts i.cash) ++ codes ":16S:SETDET\r\n-}") in
    let front : List ℕ → List ℕ = λ w. codes "{4:\r\n:16R:GENL\r\n:20C:" ++ (own ++ (codes "\r\n:23G:NEWM\r\n:16R:LINK\r\n:20C::RELA//" ++ (i.reference ++ (codes "\r\n:16S:LINK\r\n:16S:GENL\r\n:16R:TRADDET\r\n:98A::ESET//" ++ (day
    ++ (codes "\r\n:35B:ISIN " ++ (i.isin ++ (codes "\r\n:16S:TRADDET\r\n:16R:FIAC\r\n:36B:" ++ w)))))))) in
    ap front (kind_behind i.kind number (codes "\r\n:97A::SAFE//" ++ (i.account ++ settled)))
    ∙ ap (λ w. front (quantity ++ (codes "\r\n:97A::SAFE//" ++ (i.account ++ (codes "\r\n:16S:FIAC\r\n:16R:SETDET\r\n:22F::SETR//" ++ (i.settlement ++ (codes "\r\n:16R:SETPRTY\r\n:95P:" ++ w))))))) (party_behind (is_delivery i.mt) i.counterparty rest)
    ∙ sym (listed_written own (codes ":RELA//" ++ i.reference) (codes ":ESET//" ++ day) (codes "ISIN " ++ i.isin) quantity (codes ":SAFE//" ++ i.account) (codes ":SETR//" ++ i.settlement) counterparty (paid_parts i.cash)
    (value-line own (digits-printable 15 n)) (value-line (codes ":RELA//" ++ i.reference) p.reference) (value-line (codes ":ESET//" ++ day) p.day_text) (value-line (codes "ISIN " ++ i.isin) p.isin)
    (value-line quantity (quantity_first i.kind number p.quantity)) (value-line (codes ":SAFE//" ++ i.account) p.account) (value-line (codes ":SETR//" ++ i.settlement) p.settlement)
    (value-line counterparty (party_first (is_delivery i.mt) i.counterparty p.counterparty)))

-- pieces that are right are the text of the confirmation
pub pieces_are : (n : ℕ) (i : Instruction) (today own related day security quantity_begins quantity account settlement counterparty_begins counterparty paid : List ℕ) → ArePrintable i today
    → ArePieces n i today own related day security quantity_begins quantity account settlement counterparty_begins counterparty paid
    → codes "{4:\r\n:16R:GENL\r\n:20C:" ++ (own ++ traded_with related day security quantity_begins quantity account (settled_with settlement counterparty_begins counterparty (paid ++ codes ":16S:SETDET\r\n-}"))) ≡ confirmation n i today
unfolding text_from
pieces_are n i today own related day security quantity_begins quantity account settlement counterparty_begins counterparty paid printed v =
    same_from own related day security quantity_begins quantity account settlement counterparty_begins counterparty paid _ _ _ _ _ _ _ _ _ _ _
    v.own_is v.related_is v.day_is v.security_is v.kind_is v.quantity_is v.account_is v.settlement_is v.side_is v.counterparty_is v.paid_is
    ∙ pieces_written n i today printed
