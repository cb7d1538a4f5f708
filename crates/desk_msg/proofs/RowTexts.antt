-- A statement of holdings is written piece by piece.
use Rattle.std.proofs.Common.{◌≡◌, ℕ, ◌<◌, ◌^◌, List, [], ◌∷◌, ◌++◌, codes, refl, lit≤, sym, ◌∙◌, ap, append_assoc, append-nil}
use Rattle.desk_codes.specs.Account.{IsAccount}
use Rattle.desk_codes.specs.CheckDigit.{IsIsin}
use Rattle.desk_codes.specs.Day.{IsDay}
use Rattle.desk_codes.specs.Number.{written_number}
use Rattle.desk_codes.proofs.WrittenSpells.{written_spells}
use Rattle.desk_text.specs.Lines.{value_lines}
use Rattle.desk_text.specs.Written.{Part, field_part, close_part, first_line}
use Rattle.desk_text.proofs.LawLemmas.{value-line}
use Rattle.desk_msg.specs.declared.instruction.Kind.{Kind}
use Rattle.desk_msg.specs.declared.instruction.Kind.TheVariants.{Unit as Units, FaceAmount}
use Rattle.desk_msg.specs.declared.writing.status.Own.TheVariants.{Answer}
use Rattle.desk_msg.specs.declared.writing.statement_row.StatementRow.{StatementRow}
use Rattle.desk_msg.specs.declared.writing.holdings.Heading.{Heading}
use Rattle.desk_msg.specs.Profile.{code_of_kind}
use Rattle.desk_msg.specs.OwnText.{own_reference}
use Rattle.desk_msg.specs.HoldingsText.{holdings, holdings_parts}
use Rattle.desk_msg.specs.HoldingsPieces.{text_of, general_with, general_text, front_text, row_text}
use Rattle.desk_msg.specs.RowPieces.{row_behind, general_before}
use Rattle.desk_msg.proofs.PrintableLemmas.{digits-printable, printable_text}
use Rattle.desk_msg.proofs.ConfirmedTexts.{day_text, isin_text, spelled_text}
use Rattle.desk_msg.proofs.StatementLaws.{balance_text}
use Rattle.desk_msg.proofs.StatusLemmas.{line_before}

-- what is said of a statement, where each value has one line, and a text behind it
general_lines : (own day account flag tail : List ℕ) → value_lines own ≡ own ∷ [] → value_lines (codes ":STAT//" ++ day) ≡ (codes ":STAT//" ++ day) ∷ [] → value_lines (codes ":SAFE//" ++ account) ≡ (codes ":SAFE//" ++ account) ∷ [] → value_lines flag ≡ flag ∷ []
    → first_line ++ (text_of (general_with own (codes ":STAT//" ++ day) (codes ":SAFE//" ++ account) flag) ++ tail) ≡ general_before own day account (codes "\r\n:17B:" ++ (flag ++ (codes "\r\n:17B::CONS//N\r\n:16S:GENL\r\n" ++ tail)))
general_lines own day account flag tail o d a f =
    let four : List Part = field_part (codes "17B") (codes ":CONS//N") ∷ close_part (codes "GENL") ∷ [] in
    let three : List Part = field_part (codes "17B") flag ∷ four in
    let two : List Part = field_part (codes "22F") (codes ":SFRE//ADHO") ∷ field_part (codes "22F") (codes ":CODE//COMP") ∷ field_part (codes "22F") (codes ":STTY//CUST") ∷ field_part (codes "22F") (codes ":STBA//SETT")
    ∷ field_part (codes "97A") (codes ":SAFE//" ++ account) ∷ three in
    let one : List Part = field_part (codes "23G") (codes "NEWM") ∷ field_part (codes "98A") (codes ":STAT//" ++ day) ∷ two in
    ap (λ w. codes "{4:\r\n:16R:GENL\r\n:28E:1/ONLY\r\n" ++ w)
    (line_before (codes "20C") own one tail o
    ∙ ap (λ w. codes ":20C:" ++ (own ++ (codes "\r\n:23G:NEWM\r\n" ++ w)))
    (line_before (codes "98A") (codes ":STAT//" ++ day) two tail d
    ∙ ap (λ w. codes ":98A::STAT//" ++ (day ++ (codes "\r\n:22F::SFRE//ADHO\r\n:22F::CODE//COMP\r\n:22F::STTY//CUST\r\n:22F::STBA//SETT\r\n" ++ w)))
    (line_before (codes "97A") (codes ":SAFE//" ++ account) three tail a ∙ ap (λ w. codes ":97A::SAFE//" ++ (account ++ (codes "\r\n" ++ w))) (line_before (codes "17B") flag four tail f))))

balance_behind : (kind : Kind) (number rest : List ℕ) → codes "\r\n:93B:" ++ ((codes ":AGGR//" ++ code_of_kind kind ++ 47 ∷ number) ++ rest) ≡ (codes "\r\n:93B::AGGR//" ++ (code_of_kind kind ++ codes "/")) ++ (number ++ rest)
balance_behind Units number rest = refl
balance_behind FaceAmount number rest = refl

-- the lines of a row
pub row_lines : (row : StatementRow) → IsIsin row.isin → row.quantity < 2 ^ 64 → row_behind (codes ":16R:FIN\r\n:35B:ISIN ") row.isin row.kind (written_number row.quantity 0) ≡ row_text row
unfolding row_text
row_lines row isin small =
    let number : List ℕ = written_number row.quantity 0 in
    let balance : List ℕ = codes ":AGGR//" ++ code_of_kind row.kind ++ 47 ∷ number in
    let closing : List Part = close_part (codes "FIN") ∷ [] in
    let security = line_before (codes "35B") (codes "ISIN " ++ row.isin) (field_part (codes "93B") balance ∷ closing) [] (value-line (codes "ISIN " ++ row.isin) (isin_text row.isin isin)) in
    let held = line_before (codes "93B") balance closing [] (value-line balance (balance_text row.kind number (spelled_text row.quantity 0 (written_spells row.quantity 0 small (lit≤ tt))))) in
    sym
    (sym (append-nil (row_text row))
    ∙ ap (λ w. codes ":16R:FIN\r\n" ++ w) security
    ∙ ap (λ w. codes ":16R:FIN\r\n:35B:ISIN " ++ (row.isin ++ (codes "\r\n" ++ w))) held
    ∙ ap (λ w. codes ":16R:FIN\r\n:35B:ISIN " ++ (row.isin ++ w)) (balance_behind row.kind number (codes "\r\n:16S:FIN\r\n")))

-- what stands before the rows, and the first of these
pub first_lines : (h : Heading) (row : StatementRow) → IsDay h.day → IsAccount h.account → IsIsin row.isin → row.quantity < 2 ^ 64
    → general_before (codes ":SEME//" ++ own_reference (Answer h.entries)) h.day h.account (row_behind (codes "\r\n:17B::ACTI//Y\r\n:17B::CONS//N\r\n:16S:GENL\r\n:16R:SUBSAFE\r\n:16R:FIN\r\n:35B:ISIN ") row.isin row.kind (written_number row.quantity 0))
    ≡ front_text h ++ row_text row
unfolding front_text general_text
first_lines h row day account isin small =
    let own : List ℕ = codes ":SEME//" ++ own_reference (Answer h.entries) in
    let opened : List ℕ = codes ":16R:SUBSAFE\r\n" in
    let general : List ℕ = text_of (general_with own (codes ":STAT//" ++ h.day) (codes ":SAFE//" ++ h.account) (codes ":ACTI//Y")) in
    ap (λ w. general_before own h.day h.account (codes "\r\n:17B::ACTI//Y\r\n:17B::CONS//N\r\n:16S:GENL\r\n:16R:SUBSAFE\r\n" ++ w)) (row_lines row isin small)
    ∙ sym (general_lines own h.day h.account (codes ":ACTI//Y") (opened ++ row_text row) (value-line own (digits-printable 15 h.entries)) (value-line (codes ":STAT//" ++ h.day) (day_text h.day day)) (value-line (codes ":SAFE//" ++ h.account) (printable_text h.account account.printable)) refl)
    ∙ ap (λ w. first_line ++ w) (sym (append_assoc general opened (row_text row)))

-- a statement without a row
pub empty_lines : (h : Heading) → IsDay h.day → IsAccount h.account
    → general_before (codes ":SEME//" ++ own_reference (Answer h.entries)) h.day h.account (codes "\r\n:17B::ACTI//N\r\n:17B::CONS//N\r\n:16S:GENL\r\n-}") ≡ holdings h.entries h.day h.account []
unfolding holdings holdings_parts
empty_lines h day account =
    let own : List ℕ = codes ":SEME//" ++ own_reference (Answer h.entries) in
    sym (general_lines own h.day h.account (codes ":ACTI//N") (codes "-}") (value-line own (digits-printable 15 h.entries)) (value-line (codes ":STAT//" ++ h.day) (day_text h.day day)) (value-line (codes ":SAFE//" ++ h.account) (printable_text h.account account.printable)) refl)
