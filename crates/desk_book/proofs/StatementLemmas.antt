-- The statement of an account, by the books whose tables a register keeps.
use Rattle.std.proofs.Common.{◌≡◌, ℕ, ◌<◌, List, length, ap, sym, subst, arith}
use Rattle.std.specs.Prelude.{Option, Some, Result, Ok, Err}
use Rattle.std.specs.Result.{IsErrAnd}
use Rattle.desk_msg.specs.declared.writing.statement_row.SinkFault.TheVariants as sinks
use Rattle.desk_msg.specs.declared.writing.statement_row.StatementRow.{StatementRow}
use Rattle.desk_msg.specs.HoldingsText.{holdings}
use Rattle.desk_rules.specs.declared.history.entry.Entry.{Entry}
use Rattle.desk_rules.specs.Books.{Books}
use Rattle.desk_rules.specs.Content.{Content}
use Rattle.desk_rules.specs.Facts.{kind_of, last_run}
use Rattle.desk_register.specs.View.{View}
use Rattle.desk_engine.specs.Applied.{Keeps}
use Rattle.desk_engine.proofs.AcceptingLemmas.{entries_within}
use Rattle.desk_engine.proofs.TablesLemmas.{length_is}
use Rattle.desk_holdings.proofs.RegisteredLemmas.{holds_registered}
use Rattle.desk_register.specs.declared.fault.WalkFault.{WalkFault}
use Rattle.desk_register.specs.declared.fault.WalkFault.TheVariants as walks
use Rattle.desk_holdings.specs.Holdings.{AreHoldings, HoldsRegistered, IsRow}
use Rattle.desk_holdings.specs.Statement.{IsStatementDay, IsTold, Writes as WritesStatementOf, WritesFront as WritesFrontOf, WritesStatement}
use Rattle.desk_book.specs.RowByRow.{told_of_walk}
use Rattle.desk_book.specs.Statement.{AreHoldingsOf, HoldsSome, IsHolding, IsStatement}
use Rattle.desk_book.specs.WrittenTo.{Writes, WritesAnswer, WritesFront}
use Rattle.desk_book.specs.declared.answers.head.Head.{Head}

pub registered : (v : View) (books : Books) (account : List ℕ) → Keeps v.room books v.content → HoldsRegistered v.content account
registered v books account keeps = holds_registered v.room books v.content account keeps.tables keeps.accepted

holding : (limit : ℕ) (books : Books) (content : Content) (account : List ℕ) (row : StatementRow) → Keeps limit books content → IsRow content account row → IsHolding books account row
holding limit books content account row keeps is =
    let balance = keeps.tables.positions account row.isin in
    let quantity = is.quantity in
    let P : List Entry → Type 0 = λ h. kind_of h row.isin ≡ Some row.kind in
    record { some = is.some; quantity = omega arith; kind = subst P keeps.tables.history is.kind }

held_some : (limit : ℕ) (books : Books) (content : Content) (account isin : List ℕ) → Keeps limit books content → HoldsSome books account isin → 0 < content.position account isin
held_some limit books content account isin keeps some = let balance = keeps.tables.positions account isin in omega arith

holdings_told : (limit : ℕ) (books : Books) (content : Content) (account : List ℕ) (rows : List StatementRow) → Keeps limit books content → AreHoldings content account rows → AreHoldingsOf books account rows
holdings_told limit books content account rows keeps are = record {
  each = λ row c. holding limit books content account row keeps (are.each row c);
  all = λ isin some. are.all isin (held_some limit books content account isin keeps some);
  in_order = are.in_order;
}

-- the statement of what is told of an account
statement_told : (v : View) (books : Books) (account : List ℕ) (entries : ℕ) (day : List ℕ) (rows : List StatementRow) → Keeps v.room books v.content → IsTold v account entries day rows
    → IsStatement books account (record { status = 200; mt = Some 535; text = holdings entries day account rows })
statement_told v books account entries day rows keeps told =
    let within = entries_within v.room books.history keeps.accepted in
    let size = length_is v.content books.history keeps.tables.history in
    let count = told.counted (omega arith) in
    let same : entries ≡ length books.history = omega arith in
    let P : List Entry → Type 0 = λ h. IsStatementDay (last_run h) day in
    record {
      rows = rows;
      are = holdings_told v.room books v.content account rows keeps told.held;
      day = day;
      is_day = subst P keeps.tables.history told.dated;
      replied = ap (λ n. record { status = 200; mt = Some 535; text = holdings n day account rows }) same;
    }

module _ (v0 v1 : View) (books : Books) (account : List ℕ) (keeps : Keeps v0.room books v0.content) (honest : v1.is_honest) (sure : v0.is_sure) (before after : Option (List ℕ)) where
  pub statement_written : WritesStatement account v0 v1 before after → WritesAnswer (IsStatement books account) (record { status = 200; mt = Some 535 }) before after
  statement_written w = record {
    text = holdings w.entries w.day account w.rows;
    written = w.written;
    is_answer = statement_told v0 books account w.entries w.day w.rows keeps (w.told honest sure);
  }

  front_written : WritesFrontOf account v0 v1 before after → WritesFront (IsStatement books account) before after
  front_written w = record {
    text = w.text;
    written = w.written;
    front = λ some.
        let f = w.front honest sure some in
        let P : List ℕ → Type 0 = λ text. IsStatement books account (record { status = 200; mt = Some 535; text = text }) in
        (record { status = 200; mt = Some 535 }, f.rest, subst P (sym f.whole) (statement_told v0 books account f.entries f.day f.rows keeps f.told));
  }

  statement_broke : (fault : WalkFault) → WritesStatementOf {X = Unit {0}} account (Err fault) v0 v1 before after → Writes (IsStatement books account) (told_of_walk (Err fault)) before after
  statement_broke (walks.Sink sinks.Write) w = tt
  statement_broke (walks.Sink sinks.Memory) w = front_written w
  statement_broke walks.Memory w = front_written w
  statement_broke walks.Storage w = front_written w

  -- where it broke off
  pub statement_broke_off : (fault : WalkFault) (r : Result Head WalkFault) → IsErrAnd r (λ broken. broken ≡ fault) → WritesStatementOf {X = Unit {0}} account (Err fault) v0 v1 before after
      → Writes (IsStatement books account) (told_of_walk r) before after
  statement_broke_off fault (Ok head) is w = absurd is
  statement_broke_off fault (Err broken) is w = subst (λ z. Writes (IsStatement books account) (told_of_walk (Err z)) before after) (sym is) (statement_broke fault w)
