-- When a content is that of these books, part by part.
use Rattle.std.specs.Prelude.{◌≡◌, ℕ, ◌+◌, List, slice_get, Some}
use Rattle.desk_codes.specs.declared.currency.Ccy.{Ccy}
use Rattle.desk_rules.specs.declared.history.entry.Entry.{Entry}
use Rattle.desk_rules.specs.declared.history.pair.Settled.{Settled}
use Rattle.desk_rules.specs.declared.answers.reply.Kept.{Kept}
use Rattle.desk_rules.specs.Balances.{credits, debits, cash_credits, cash_debits}
use Rattle.desk_rules.specs.Books.{Books, AreBooks}
use Rattle.desk_rules.specs.Reply.{IsFirstReply}
use Rattle.desk_rules.specs.Standing.{standing_of}
use Rattle.desk_rules.specs.Sent.{sent_of}
use Rattle.desk_rules.specs.Content.{CashBalances, Content, Positions, history_of}

-- with each entry the first reply that it got
pub record HasReplies (books : Books) (content : Content) : Type 0 where
  pub each : (n : ℕ) (kept : Kept) → slice_get content.register n ≡ Some kept → IsFirstReply books.history (n + 1) kept.reply

pub record HasStandings (books : Books) (content : Content) : Type 0 where
  pub each : (n : ℕ) → content.standing n ≡ standing_of books n

-- The balances of a history of which this is settled. A balance and its debits make up its credits: it is their
-- difference, and none is below 0.
abbrev pub ArePositions : List Entry → List Settled → Positions → Type 0
ArePositions history settled position = (account isin : List ℕ) → position account isin + debits history settled account isin ≡ credits history settled account isin

abbrev pub AreCashBalances : List Entry → List Settled → CashBalances → Type 0
AreCashBalances history settled cash = (bic : List ℕ) (ccy : Ccy) → cash bic ccy + cash_debits history settled bic ccy ≡ cash_credits history settled bic ccy

abbrev pub HasSent : Books → Content → Type 0
HasSent books content = content.sent ≡ sent_of books

-- The content is that of these books.
pub record AreTables (books : Books) (content : Content) : Type 0 where
  pub history : history_of content ≡ books.history
  pub are : AreBooks books
  pub replies : HasReplies books content
  pub standings : HasStandings books content
  pub positions : ArePositions books.history books.settled content.position
  pub cash : AreCashBalances books.history books.settled content.cash
  pub sent : HasSent books content
