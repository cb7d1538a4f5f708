-- What accounts hold, account by account.
use Rattle.std.proofs.Common.{◌≡◌, ℕ, Bool, true, false, List, [], ◌∷◌, ◌++◌, map, Option, refl, ap, sym, ◌∙◌, subst}
use Rattle.std.specs.Prelude.{Result, Ok, Err, flat_map}
use Rattle.std.specs.Io.KnownBytes.{Appends}
use Rattle.std.specs.Result.{IsErrAnd}
use Rattle.serde_json.specs.Data.{Data}
use Rattle.desk_msg.specs.declared.writing.statement_row.StatementRow.{StatementRow}
use Rattle.desk_rules.specs.declared.history.entry.Entry.{Entry}
use Rattle.desk_rules.specs.declared.history.entry.Entry.TheVariants.{Participant, Account, Security, Issue, Redeem, PayIn, PayOut, Instruct, Cancel, Run}
use Rattle.desk_rules.specs.Content.{Content, history_of}
use Rattle.desk_rules.specs.Books.{Books}
use Rattle.desk_msg.specs.declared.writing.statement_row.SinkFault.TheVariants as sinks
use Rattle.desk_register.specs.declared.fault.WalkFault.{WalkFault}
use Rattle.desk_register.specs.declared.fault.WalkFault.TheVariants as walks
use Rattle.desk_holdings.proofs.GatheringLemmas.{holdings_exist}
use Rattle.desk_holdings.proofs.OneStatement.{one_list}
use Rattle.desk_holdings.proofs.RegisteredLemmas.{holds_registered}
use Rattle.desk_engine.specs.Ready.{KeepsFormed}
use Rattle.desk_book.specs.RowByRow.{WritesSome, WritesText, WritesWhole}
use Rattle.desk_book.specs.Sums.{rows_text}
use Rattle.desk_report.specs.declared.rows.balances.AccountRow.{AccountRow}
use Rattle.desk_report.specs.RowData.{account_data}
use Rattle.desk_report.specs.Accounts.{AreAccounts, AreHeld, HoldRegistered, IsAccountsText, account_rows, empty_row, holding_row, rows_of}
use Rattle.desk_report.specs.RowWritten.{WritesRow}
use Rattle.desk_report.specs.RowsWriting.{IsRows, WritesHoldings, later_behind}
use Rattle.desk_report.proofs.RowsLemmas.{RowsWritten, broke_in, broken_text, handed_on, one_written, row_text, whole_of, writes_as, written_then}

-- The list of all rows.

pub held_exist : (content : Content) → HoldRegistered content → (held : List ℕ → List StatementRow) × AreHeld content held
held_exist content known = (
  λ account. (holdings_exist content account (known.each account)).0,
  record { each = λ account. (holdings_exist content account (known.each account)).1 },
)

accounts_of : (content : Content) (held : List ℕ → List StatementRow) → AreHeld content held → AreAccounts content (flat_map (account_rows held) (history_of content))
accounts_of content held are = record { held = held; are_held = are; in_order = refl }

pub accounts_exist : (content : Content) → HoldRegistered content → (rows : List AccountRow) × AreAccounts content rows
accounts_exist content known = let all = held_exist content known in (flat_map (account_rows all.0) (history_of content), accounts_of content all.0 all.1)

-- whatever is said of what an account holds, an entry has the same rows
same_entry : (content : Content) (h k : List ℕ → List StatementRow) → AreHeld content h → AreHeld content k → (entry : Entry) → account_rows h entry ≡ account_rows k entry
same_entry content h k p q (Account reference owner account) = ap (λ (held : List StatementRow). rows_of owner account held) (one_list content account (h account) (k account) (p.each account) (q.each account))
same_entry content h k p q (Participant reference bic) = refl
same_entry content h k p q (Security reference isin kind) = refl
same_entry content h k p q (Issue movement) = refl
same_entry content h k p q (Redeem movement) = refl
same_entry content h k p q (PayIn payment) = refl
same_entry content h k p q (PayOut payment) = refl
same_entry content h k p q (Instruct sender instruction) = refl
same_entry content h k p q (Cancel sender order) = refl
same_entry content h k p q (Run reference day rule) = refl

same_rows : (f g : Entry → List AccountRow) → ((entry : Entry) → f entry ≡ g entry) → (history : List Entry) → flat_map f history ≡ flat_map g history
same_rows f g same [] = refl
same_rows f g same (entry ∷ history) =
    ap (λ (l : List AccountRow). l ++ flat_map f history) (same entry) ∙ ap (λ (l : List AccountRow). g entry ++ l) (same_rows f g same history)

pub one_account_list : (content : Content) (a b : List AccountRow) → AreAccounts content a → AreAccounts content b → a ≡ b
one_account_list content a b p q =
    p.in_order ∙ same_rows (account_rows p.held) (account_rows q.held) (same_entry content p.held q.held p.are_held q.are_held) (history_of content) ∙ sym q.in_order

-- The text of all rows.

-- the tables of accepted entries let each account hold none but registered securities
pub hold_registered : (limit : ℕ) (books : Books) (content : Content) → KeepsFormed limit books content → HoldRegistered content
hold_registered limit books content kept = record { each = λ account. holds_registered limit books content account kept.tables.tables kept.tables.accepted }

-- the loop: what each account holds is given
abbrev pub rows_by_entry : Content → (List ℕ → List StatementRow) → Entry → List AccountRow
rows_by_entry content held entry = account_rows held entry

pub accounts_text : {X : Type 0} (content : Content) (held : List ℕ → List StatementRow) (r : Result X WalkFault) (before now : Option (List ℕ)) → AreHeld content held
    → WritesText (IsRows account_data (flat_map (account_rows held) (history_of content)) false) r before now → WritesText (IsAccountsText content) r before now
accounts_text content held r before now are w =
    let rows = flat_map (account_rows held) (history_of content) in
    writes_as (IsRows account_data rows false) (IsAccountsText content) r before now (λ text is. record { rows = rows; are = accounts_of content held are; is = is }) w

-- what is no account has no rows
pub no_account : (held : List ℕ → List StatementRow) (entry : Entry) → ((reference owner account : List ℕ) → entry ≡ Account reference owner account → ⊥) → account_rows held entry ≡ []
no_account held (Account reference owner account) other = absurd (other reference owner account refl)
no_account held (Participant reference bic) other = refl
no_account held (Security reference isin kind) other = refl
no_account held (Issue movement) other = refl
no_account held (Redeem movement) other = refl
no_account held (PayIn payment) other = refl
no_account held (PayOut payment) other = refl
no_account held (Instruct sender instruction) other = refl
no_account held (Cancel sender order) other = refl
no_account held (Run reference day rule) other = refl

-- The rows of an account.

empty_front : (a b : List ℕ) → a ++ b ≡ [] → a ≡ []
empty_front [] b e = refl
empty_front (x ∷ a) b e = absurd (cc)

module _ (owner account : List ℕ) (is_later : Bool) where
  abbrev holding_data : StatementRow → Data
  holding_data row = account_data (holding_row owner account row)

  abbrev empty : AccountRow
  empty = empty_row owner account

  same_data : (held : List StatementRow) → map holding_data held ≡ map account_data (map (holding_row owner account) held)
  same_data [] = refl
  same_data (row ∷ held) = ap (λ (l : List Data). holding_data row ∷ l) (same_data held)

  -- of what was written of holdings is that of the account, where there are some
  of_account : {X : Type 0} (row : StatementRow) (held : List StatementRow) (r : Result X WalkFault) (before now : Option (List ℕ)) → WritesText (IsRows holding_data (row ∷ held) is_later) r before now
      → WritesText (IsRows account_data (rows_of owner account (row ∷ held)) is_later) r before now
  of_account row held r before now w =
      writes_as (IsRows holding_data (row ∷ held) is_later) (IsRows account_data (rows_of owner account (row ∷ held)) is_later) r before now
      (λ text is. is ∙ ap (λ (l : List Data). rows_text is_later l) (same_data (row ∷ held))) w

  pub account_written : (held : List StatementRow) (holds_some : Bool) (before now : Option (List ℕ)) → WritesHoldings owner account held is_later (Ok holds_some) before now → holds_some ≡ true
      → WritesWhole (IsRows account_data (rows_of owner account held) is_later) before now
  account_written [] holds_some before now w some = (let none = w.some in absurd (cc))
  account_written (row ∷ held) holds_some before now w some = of_account {X = Bool} row held (Ok holds_some) before now w.text

  -- where there are none, nothing was written yet
  none_yet : (before between : Option (List ℕ)) → WritesWhole (IsRows holding_data [] is_later) before between → RowsWritten account_data [] is_later is_later before between
  none_yet before between w = record { written = subst (λ t. Appends before between t) w.is_text w.written; later = refl }

  empty_written : (r : Result (Unit {0}) WalkFault) (before between now : Option (List ℕ)) → WritesWhole (IsRows holding_data [] is_later) before between → WritesRow (account_data empty) is_later r between now
      → WritesText (IsRows account_data (empty ∷ []) is_later) r before now
  empty_written (Ok x) before between now w one =
      whole_of account_data (empty ∷ []) is_later true before now
      (written_then account_data [] is_later is_later before between (none_yet before between w) (empty ∷ []) true now (one_written account_data empty is_later between now one))
  empty_written (Err fault) before between now w one =
      broke_in account_data [] is_later is_later before between (none_yet before between w) (empty ∷ []) [] fault now (row_text account_data empty is_later (Err fault) between now one)

  pub account_ended : (held : List StatementRow) (holds_some : Bool) (r : Result (Unit {0}) WalkFault) (before between now : Option (List ℕ)) → WritesHoldings owner account held is_later (Ok holds_some) before between → holds_some ≡ false
      → WritesRow (account_data empty) is_later r between now → WritesText (IsRows account_data (rows_of owner account held) is_later) r before now
  account_ended [] holds_some r before between now w none one = empty_written r before between now w.text one
  account_ended (row ∷ held) holds_some r before between now w none one = (let some = w.some in absurd (cc))

  nothing_yet : (before now : Option (List ℕ)) → WritesSome (IsRows holding_data [] is_later) before now → WritesSome (IsRows account_data (empty ∷ []) is_later) before now
  nothing_yet before now w =
      let all = rows_text is_later (map account_data (empty ∷ [])) in
      record { text = w.text; written = w.written; rest = all; is_text = ap (λ (t : List ℕ). t ++ all) (empty_front w.text w.rest w.is_text) }

  -- where it broke off in them, a front was written
  none_broke : (fault : WalkFault) (before now : Option (List ℕ)) → WritesText {X = Bool} (IsRows holding_data [] is_later) (Err fault) before now → WritesText {X = Unit {0}} (IsRows account_data (empty ∷ []) is_later) (Err fault) before now
  none_broke (walks.Sink sinks.Write) before now w = tt
  none_broke (walks.Sink sinks.Memory) before now w = nothing_yet before now w
  none_broke walks.Memory before now w = nothing_yet before now w
  none_broke walks.Storage before now w = nothing_yet before now w

  pub account_broke : (held : List StatementRow) (fault : WalkFault) (r : Result (Unit {0}) WalkFault) (before now : Option (List ℕ)) → IsErrAnd r (λ broken. broken ≡ fault) → WritesHoldings owner account held is_later (Err fault) before now
      → WritesText (IsRows account_data (rows_of owner account held) is_later) r before now
  account_broke [] fault r before now broke w = handed_on (IsRows account_data (empty ∷ []) is_later) fault r before now broke (none_broke fault before now w.text)
  account_broke (row ∷ held) fault r before now broke w =
      handed_on (IsRows account_data (rows_of owner account (row ∷ held)) is_later) fault r before now broke
      (broken_text Bool (Unit {0}) (IsRows account_data (rows_of owner account (row ∷ held)) is_later) fault before now (of_account {X = Bool} row held (Err fault) before now w.text))

  -- there is a row of it
  pub has_row : (held : List StatementRow) → true ≡ later_behind (rows_of owner account held) is_later
  has_row [] = refl
  has_row (row ∷ held) = refl
