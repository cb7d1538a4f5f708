-- What an account holds, row by row.
use Rattle.std.proofs.Common.{◌≡◌, ℕ, Bool, true, false, List, [], ◌∷◌, ◌++◌, Option, ap, sym, ◌∙◌, subst, append_assoc}
use Rattle.std.specs.Prelude.{Result, Ok, Err}
use Rattle.std.specs.Result.{IsErrAnd}
use Rattle.serde_json.specs.Data.{Data}
use Rattle.desk_msg.specs.declared.writing.statement_row.StatementRow.{StatementRow}
use Rattle.desk_msg.specs.TookRows.{TookAll}
use Rattle.desk_register.specs.View.{View}
use Rattle.desk_register.specs.declared.register.Fault.{Fault}
use Rattle.desk_register.specs.declared.fault.WalkFault.{WalkFault}
use Rattle.desk_register.specs.Ends.{broken_off}
use Rattle.desk_holdings.specs.Holdings.{AreHoldings}
use Rattle.desk_holdings.specs.Taking.{TookFirst, TookHoldings, TookUpTo}
use Rattle.desk_holdings.proofs.OneStatement.{one_list}
use Rattle.desk_book.specs.RowByRow.{WritesSome, WritesText}
use Rattle.desk_report.specs.RowData.{account_data}
use Rattle.desk_report.specs.RowWritten.{WritesRow}
use Rattle.desk_report.specs.Accounts.{holding_row}
use Rattle.desk_report.specs.RowsWriting.{IsRows, WritesHoldings, later_behind}
use Rattle.desk_report.proofs.RowsLemmas.{RowsWritten, broke_in, front_of, handed_on, none_written, one_written, register_failed, row_text, still_later, whole_of, written_then}

-- what stands at a moment: whether rows stand before what comes, whether one of them is of the account, and what is written
pub record Told : Type 0 where
  pub later : Bool
  pub some : Bool
  pub held : Option (List ℕ)

module _ (owner account : List ℕ) (IsJson : Type 0) where
  abbrev pub holding_data : StatementRow → Data
  holding_data row = account_data (holding_row owner account row)

  -- a row was written
  pub record TakesRow (before : Told) (row : StatementRow) (after : Told) : Type 0 where
    pub later : after.later ≡ true
    pub some : after.some ≡ true
    pub written : IsJson → WritesRow {X = Unit {0}} (holding_data row) before.later (Ok tt) before.held after.held

  taken_some : (before : Told) (rows : List StatementRow) (after : Told) → TookAll TakesRow before rows after → after.some ≡ later_behind rows before.some
  taken_some before [] after all = ap (λ (t : Told). t.some) all
  taken_some before (row ∷ rows) after all =
      let rest = taken_some all.0 rows after all.2 in
      rest ∙ (ap (λ (b : Bool). later_behind rows b) all.1.some ∙ still_later holding_data rows)

  taken_written : IsJson → (before : Told) (rows : List StatementRow) (after : Told) → TookAll TakesRow before rows after → RowsWritten holding_data rows before.later after.later before.held after.held
  taken_written json before [] after all =
      let P : Told → Type 0 = λ t. RowsWritten holding_data [] before.later t.later before.held t.held in
      subst P (sym all) (none_written holding_data before.later before.held)
  taken_written json before (row ∷ rows) after all =
      let between = all.0 in
      let one = one_written holding_data row before.later before.held between.held (all.1.written json) in
      let first : RowsWritten holding_data (row ∷ []) before.later between.later before.held between.held =
      subst (λ b. RowsWritten holding_data (row ∷ []) before.later b before.held between.held) (sym all.1.later) one in
      written_then holding_data (row ∷ []) before.later between.later before.held between.held first rows after.later after.held (taken_written json between rows after all.2)

  module _ (v0 v1 : View) (before now : Told) (json : IsJson) (honest : v1.is_honest) (sure : v0.is_sure) (held : List StatementRow) (are : AreHoldings v0.content account held) where
    -- all of the holdings were written
    pub holdings_written : before.some ≡ false → TookHoldings TakesRow account v0 v1 before now → WritesHoldings owner account held before.later (Ok now.some) before.held now.held
    holdings_written none took =
        let same : took.rows ≡ held = one_list v0.content account took.rows held (took.are honest sure) are in
        let P : List StatementRow → Type 0 = λ rows. WritesHoldings owner account rows before.later (Ok now.some) before.held now.held in
        subst P same (record {
          text = whole_of holding_data took.rows before.later now.later before.held now.held (taken_written json before took.rows now took.taken);
          some = taken_some before took.rows now took.taken ∙ ap (λ (b : Bool). later_behind took.rows b) none;
        })

    -- some are the first of them
    pub first_written : TookFirst TakesRow account v0 v1 before now → WritesSome (IsRows holding_data held before.later) before.held now.held
    first_written took =
        let first = took.are honest sure in
        let same : took.rows ++ first.rest ≡ held = one_list v0.content account (took.rows ++ first.rest) held first.whole are in
        let P : List StatementRow → Type 0 = λ rows. WritesSome (IsRows holding_data rows before.later) before.held now.held in
        subst P same (front_of holding_data took.rows before.later now.later before.held now.held (taken_written json before took.rows now took.taken) first.rest)

    -- and the next one was not written whole
    pub row_broke_off : (took : TookUpTo TakesRow account v0 v1 before now) (fault : WalkFault) (after : Option (List ℕ)) → WritesRow {X = Unit {0}} (holding_data took.next) now.later (Err fault) now.held after
        → WritesText {X = Unit {0}} (IsRows holding_data held before.later) (Err fault) before.held after
    row_broke_off took fault after w =
        let first = took.are honest sure in
        let all = took.rows ++ (took.next ∷ [] ++ first.rest) in
        let same : all ≡ held = sym (append_assoc took.rows (took.next ∷ []) first.rest) ∙ one_list v0.content account ((took.rows ++ took.next ∷ []) ++ first.rest) held first.whole are in
        let P : List StatementRow → Type 0 = λ rows. WritesText {X = Unit {0}} (IsRows holding_data rows before.later) (Err fault) before.held after in
        subst P same
        (broke_in holding_data took.rows before.later now.later before.held now.held (taken_written json before took.rows now took.taken) (took.next ∷ []) first.rest fault after
        (row_text holding_data took.next now.later (Err fault) now.held after w))

-- how it broke off, by why
module _ (owner account : List ℕ) (held : List StatementRow) (is_later : Bool) (before : Option (List ℕ)) where
  pub holdings_failed : (fault : Fault) (r : Result Bool WalkFault) (now : Option (List ℕ)) → IsErrAnd r (λ broken. broken ≡ broken_off fault)
      → WritesSome (IsRows (λ row. account_data (holding_row owner account row)) held is_later) before now → WritesHoldings owner account held is_later r before now
  holdings_failed fault (Ok b) now broke front = absurd broke
  holdings_failed fault (Err broken) now broke front = record {
    text = register_failed {X = Bool} (IsRows (λ row. account_data (holding_row owner account row)) held is_later) fault (Err broken) before now broke front;
    some = tt;
  }

  pub holdings_broke : (fault : WalkFault) (r : Result Bool WalkFault) (now : Option (List ℕ)) → IsErrAnd r (λ broken. broken ≡ fault)
      → WritesText {X = Unit {0}} (IsRows (λ row. account_data (holding_row owner account row)) held is_later) (Err fault) before now → WritesHoldings owner account held is_later r before now
  holdings_broke fault (Ok b) now broke text = absurd broke
  holdings_broke fault (Err broken) now broke text = record {
    text = handed_on {X = Bool} (IsRows (λ row. account_data (holding_row owner account row)) held is_later) fault (Err broken) before now broke text;
    some = tt;
  }
