-- A statement of holdings is a block.
use Rattle.std.proofs.Common.{◌≡◌, ℕ, true, List, [], ◌∷◌, ◌++◌, codes, refl, lit<, lit≤, All, IsTrue}
use Rattle.std.specs.List.{list_all, flat_map}
use Rattle.std.proofs.lemmas.List.Elements.{All-head, All-tail}
use Rattle.desk_codes.specs.Number.{written_number}
use Rattle.desk_codes.specs.Account.{IsAccount}
use Rattle.desk_codes.specs.Day.{IsDay}
use Rattle.desk_codes.proofs.WrittenSpells.{written_spells}
use Rattle.desk_text.specs.BlockGrammar.{is_printable}
use Rattle.desk_text.specs.Fields.{IsBlock}
use Rattle.desk_text.specs.Written.{close_part, is_value, AreParts, fields_written}
use Rattle.desk_text.proofs.LawLemmas.{value-right}
use Rattle.desk_text.proofs.PartLemmas.{parts_block}
use Rattle.desk_msg.specs.declared.writing.status.Own.TheVariants.{Answer}
use Rattle.desk_msg.specs.declared.instruction.Kind.{Kind}
use Rattle.desk_msg.specs.declared.instruction.Kind.TheVariants.{Unit as Units, FaceAmount}
use Rattle.desk_msg.specs.declared.writing.statement_row.StatementRow.{StatementRow}
use Rattle.desk_msg.specs.Profile.{code_of_kind}
use Rattle.desk_msg.specs.HoldingsText.{activity_of, row_parts, rows_parts, holdings, holdings_parts, IsStatementRow}
use Rattle.desk_msg.proofs.AdviceLemmas.{own_right}
use Rattle.desk_msg.proofs.PrintableLemmas.{printable_text}
use Rattle.desk_msg.proofs.ConfirmedTexts.{day_text, isin_text, spelled_text}

activity_right : (rows : List StatementRow) → IsTrue (is_value (codes ":ACTI//" ++ activity_of rows))
activity_right [] = refl
activity_right (row ∷ rows) = refl

-- the code of how a security is counted, in front of a number
pub balance_text : (kind : Kind) (number : List ℕ) → list_all is_printable number ≡ true → list_all is_printable (codes ":AGGR//" ++ code_of_kind kind ++ 47 ∷ number) ≡ true
balance_text Units number p = p
balance_text FaceAmount number p = p

abbrev inner : List (List ℕ)
inner = codes "SUBSAFE" ∷ []

all_rows_right : (rows : List StatementRow) → All IsStatementRow rows → AreParts inner (flat_map row_parts rows ++ close_part (codes "SUBSAFE") ∷ [])
all_rows_right [] all = (refl, refl)
all_rows_right (row ∷ rows) all =
    let is = All-head IsStatementRow row rows all in
    let number : List ℕ = written_number row.quantity 0 in (
      refl,
      lit< tt,
      (
        refl,
        value-right (codes "ISIN " ++ row.isin) (isin_text row.isin is.0),
        (
          refl,
          value-right (codes ":AGGR//" ++ code_of_kind row.kind ++ 47 ∷ number) (balance_text row.kind number (spelled_text row.quantity 0 (written_spells row.quantity 0 is.1 (lit≤ tt)))),
          (refl, all_rows_right rows (All-tail IsStatementRow row rows all)),
        ),
      ),
    )

rows_right : (rows : List StatementRow) → All IsStatementRow rows → AreParts [] (rows_parts rows)
rows_right [] all = refl
rows_right (row ∷ rows) all = (refl, lit< tt, all_rows_right (row ∷ rows) all)

statement_right : (entries : ℕ) (day account : List ℕ) (rows : List StatementRow) → IsDay day → IsAccount account → All IsStatementRow rows → AreParts [] (holdings_parts entries day account rows)
unfolding holdings_parts
statement_right entries day account rows d a all = (
  refl,
  lit< tt,
  (
    refl,
    refl,
    (
      refl,
      own_right (Answer entries),
      (
        refl,
        refl,
        (
          refl,
          value-right (codes ":STAT//" ++ day) (day_text day d),
          (
            refl,
            refl,
            (
              refl,
              refl,
              (
                refl,
                refl,
                (
                  refl,
                  refl,
                  (
                    refl,
                    value-right (codes ":SAFE//" ++ account) (printable_text account a.printable),
                    (refl, activity_right rows, (refl, refl, (refl, rows_right rows all))),
                  ),
                ),
              ),
            ),
          ),
        ),
      ),
    ),
  ),
)

pub statement_block : (entries : ℕ) (day account : List ℕ) (rows : List StatementRow) → IsDay day → IsAccount account → All IsStatementRow rows → IsBlock (holdings entries day account rows) (fields_written (holdings_parts entries day account rows))
unfolding holdings
statement_block entries day account rows d a all = parts_block (holdings_parts entries day account rows) (statement_right entries day account rows d a all)
