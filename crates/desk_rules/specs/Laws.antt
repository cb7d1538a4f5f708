-- What the laws speak of.
use Rattle.std.specs.Prelude.{◌≡◌, ℕ, ◌+◌, ◌≤◌, List, map, slice_get, Option, Some, None}
use Rattle.desk_codes.specs.declared.currency.Ccy.{Ccy}
use Rattle.desk_rules.specs.declared.history.entry.Entry.{Entry}
use Rattle.desk_rules.specs.declared.history.entry.Entry.TheVariants.{Cancel}
use Rattle.desk_rules.specs.declared.history.pair.Pair.{Pair}
use Rattle.desk_rules.specs.declared.history.pair.Settled.{Settled}
use Rattle.desk_rules.specs.declared.answers.reply.Sent.{Sent}
use Rattle.desk_rules.specs.History.{Instructed, before, instruction_at}
use Rattle.desk_rules.specs.Books.{Books}
use Rattle.desk_rules.specs.Sent.{Notice, notices_of, told}
use Rattle.desk_rules.specs.Pairing.{pairs_below, pair_of}
use Rattle.desk_rules.specs.Balances.{credits, debits, cash_credits, cash_debits}
use Rattle.desk_rules.specs.Standing.{is_called_off}

-- no position is below 0, and no participant's cash
pub record AreNonNegative (history : List Entry) (settled : List Settled) : Type 0 where
  pub positions : (account isin : List ℕ) → debits history settled account isin ≤ credits history settled account isin
  pub cash : (bic : List ℕ) (ccy : Ccy) → cash_debits history settled bic ccy ≤ cash_credits history settled bic ccy

-- A message tells the notice of this place, counted from 0, under the number that is one more: so it says that a pair
-- was made of the instruction, or that a run settled it.
pub record TellsNotice (books : Books) (place : ℕ) (message : Sent) : Type 0 where
  pub notice : Notice
  pub is_notice : slice_get (notices_of books) place ≡ Some notice
  pub instructed : Instructed
  pub instructs : instruction_at books.history notice.about ≡ Some instructed
  pub is : message ≡ told books.history (place + 1) notice.about notice.run instructed

-- an entry, unless it is a cancellation
abbrev pub but_cancellation : Entry → Option Entry
but_cancellation (Cancel sender order) = None
but_cancellation entry = Some entry

-- Two histories are the same but for their cancellations: at each number both have the same entry, or each a cancellation.
abbrev pub AreSameButCancellations : List Entry → List Entry → Type 0
AreSameButCancellations g h = map but_cancellation g ≡ map but_cancellation h

-- before each entry n, and by the pairs made until then, two histories have the same instructions called off
pub record CallOffTheSame (pairs : List Pair) (g h : List Entry) : Type 0 where
  pub each : (n k : ℕ) → is_called_off (before n g) k (pair_of (pairs_below n pairs) k) ≡ is_called_off (before n h) k (pair_of (pairs_below n pairs) k)
