-- The statement of what an account holds, by the desk's books, and to whom it is given (ISO 15022, MT535).
use Rattle.std.specs.Prelude.{◌≡◌, ℕ, ◌+◌, ◌<◌, MatchBool, List, length, Option, Some, None}
use Rattle.desk_msg.specs.declared.writing.statement_row.StatementRow.{StatementRow}
use Rattle.desk_msg.specs.HoldingsText.{holdings}
use Rattle.desk_rules.specs.declared.answers.reply.Reply.{Reply}
use Rattle.desk_rules.specs.declared.answers.verdict.Refusal.TheVariants.{AccountNotSenders, SenderUnknown}
use Rattle.desk_rules.specs.Balances.{credits, debits}
use Rattle.desk_rules.specs.Books.{Books}
use Rattle.desk_rules.specs.Facts.{is_owner, is_participant, kind_of, last_run, owner_of}
use Rattle.desk_rules.specs.Questions.{refused_question}
use Rattle.desk_rules.specs.Refusals.{number_of_refusal}
use Rattle.desk_holdings.specs.Statement.{IsStatementDay}
use Rattle.desk_book.specs.Totals.{AreRows}

-- the account holds some of this security: more was credited to it than debited
abbrev pub HoldsSome : Books → List ℕ → List ℕ → Type 0
HoldsSome books account isin = debits books.history books.settled account isin < credits books.history books.settled account isin

-- how much of a security the account holds, its credits less its debits, and how the security is counted
pub record IsHolding (books : Books) (account : List ℕ) (row : StatementRow) : Type 0 where
  pub some : 0 < row.quantity
  pub quantity : row.quantity + debits books.history books.settled account row.isin ≡ credits books.history books.settled account row.isin
  pub kind : kind_of books.history row.isin ≡ Some row.kind

-- all that the account holds, in the order of the ISINs
abbrev pub AreHoldingsOf : Books → List ℕ → List StatementRow → Type 0
AreHoldingsOf books account rows = AreRows (λ row. row.isin) (HoldsSome books account) (IsHolding books account) rows

-- the statement of the account, of the day of the last run, after so many entries as there are
pub record IsStatement (books : Books) (account : List ℕ) (reply : Reply) : Type 0 where
  pub rows : List StatementRow
  pub are : AreHoldingsOf books account rows
  pub day : List ℕ
  pub is_day : IsStatementDay (last_run books.history) day
  pub replied : reply ≡ record { status = 200; mt = Some 535; text = holdings (length books.history) day account rows }

-- an account of the participant, or none of it
abbrev pub TellsOwner : Books → List ℕ → Option (List ℕ) → Reply → Type 0
TellsOwner books owner (Some account) reply =
    MatchBool (is_owner owner (owner_of books.history account)) (IsStatement books account reply) (reply ≡ refused_question (number_of_refusal AccountNotSenders))
TellsOwner books owner None reply = reply ≡ refused_question (number_of_refusal AccountNotSenders)

-- what a participant that asks for an account is told: what its own holds
abbrev pub TellsHoldings : Books → List ℕ → Option (List ℕ) → Reply → Type 0
TellsHoldings books owner account reply =
    MatchBool (is_participant books.history owner) (TellsOwner books owner account reply) (reply ≡ refused_question (number_of_refusal SenderUnknown))
