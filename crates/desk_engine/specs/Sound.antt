-- What a settlement officer may rely on of a register that keeps the tables of a history in which each entry was
-- accepted in its turn and is well formed.
use Rattle.std.specs.Prelude.{◌≡◌, ℕ, ◌+◌, true, false, List, [], ◌∷◌, ◌++◌, length, sum_by, Contains, Result, Ok, Err}
use Rattle.desk_codes.specs.declared.currency.Ccy.{Ccy}
use Rattle.desk_rules.specs.declared.history.entry.Entry.{Entry}
use Rattle.desk_rules.specs.declared.history.entry.Entry.TheVariants.{Run}
use Rattle.desk_rules.specs.declared.history.entry.RunRule.TheVariants.{Passes}
use Rattle.desk_rules.specs.declared.history.pair.Pair.{Pair}
use Rattle.desk_rules.specs.declared.history.pair.Settled.{Settled}
use Rattle.desk_rules.specs.History.{before}
use Rattle.desk_rules.specs.Balances.{issued, issued_by, movement_on, paid_in, paid_in_by, paid_out, paid_out_by, payment_of, redeemed, redeemed_by}
use Rattle.desk_rules.specs.Books.{Books}
use Rattle.desk_rules.specs.BothLegs.{ComeInTwos, Moves, NeighboursAreOfOne, StandTogether}
use Rattle.desk_rules.specs.Confirmations.{Confirmation, SayConfirmations, brought, cash_brought, cash_taken, taken}
use Rattle.desk_rules.specs.Content.{Content}
use Rattle.desk_rules.specs.Covered.{is_covered}
use Rattle.desk_rules.specs.Laws.{AreNonNegative}
use Rattle.desk_rules.specs.Settlement.{IsUnsettled, is_due, settled_before}
use Rattle.desk_register.specs.Looked.{held_cash_of, held_of}
use Rattle.desk_engine.specs.declared.accepting.Failure.{Failure}
use Rattle.desk_engine.specs.declared.accepting.Failure.TheVariants.{Undone, Lost}
use Rattle.desk_engine.specs.declared.applied.Accepted.{Accepted}

-- what the sent messages confirm is what became of each account and of each participant's cash, beside what the operator
-- books
pub record AreConfirmed (books : Books) (content : Content) (confirmations : List Confirmation) : Type 0 where
  pub said : SayConfirmations content.sent confirmations
  pub positions : (account isin : List ℕ)
      → content.position account isin + (sum_by (redeemed_by (movement_on account isin)) books.history + taken confirmations account isin)
      ≡ sum_by (issued_by (movement_on account isin)) books.history + brought confirmations account isin
  pub cash : (bic : List ℕ) (ccy : Ccy)
      → content.cash bic ccy + (sum_by (paid_out_by (payment_of bic ccy)) books.history + cash_taken confirmations bic ccy)
      ≡ sum_by (paid_in_by (payment_of bic ccy)) books.history + cash_brought confirmations bic ccy

-- No leg moves alone: the confirmations come in twos, those of a settlement stand next to each other, two that do are those
-- of one settlement, and it moves its quantity and, exactly against payment, its amount.
pub record HasBothLegs (books : Books) (content : Content) : Type 0 where
  pub in_twos : ComeInTwos content.sent
  pub together : (s : Settled) → Contains books.settled s → StandTogether books.history s content.sent
  pub neighbours : NeighboursAreOfOne books content.sent
  pub moves : (s : Settled) (settled : List Settled) → Contains books.settled s → Moves books.history settled s

pub record IsSound (books : Books) (content : Content) : Type 0 where
  -- of each security the accounts hold what was issued and not redeemed
  pub securities_add_up : (isin : List ℕ) → redeemed books.history isin + held_of content isin ≡ issued books.history isin
  -- of each currency the participants have what was paid in and not paid out
  pub cash_adds_up : (ccy : Ccy) → paid_out books.history ccy + held_cash_of content ccy ≡ paid_in books.history ccy
  -- no balance is below 0: not now, and not within a run, after any of the pairs that it settled
  pub none_negative : AreNonNegative books.history books.settled
  pub none_negative_between : (s : Settled) → Contains books.settled s → AreNonNegative (before s.run books.history) (settled_before books.history s books.settled ++ s ∷ [])
  -- each change is confirmed
  pub confirmations : List Confirmation
  pub confirmed : AreConfirmed books content confirmations
  -- both legs or neither
  pub legs : HasBothLegs books content
  -- after a run in passes no pair that is due in it, and not settled by then, is covered
  pub nothing_left : (front : List Entry) (reference day : List ℕ) (p : Pair) → books.history ≡ front ++ Run reference day Passes ∷ [] → Contains books.pairs p
      → is_due books.history (length books.history) p ≡ true → IsUnsettled books.settled p → is_covered books.history books.settled p ≡ false

-- What a step leaves is sound: after an accepted entry of the longer history, and of the history as it was after a failure
-- of which nothing is left. Of a register that is lost nothing is said.
abbrev pub LeavesSound : Books → Entry → Result Accepted Failure → Content → Type 0
LeavesSound books entry (Ok accepted) content = (after : Books) × (after.history ≡ books.history ++ entry ∷ []) × IsSound after content
LeavesSound books entry (Err (Undone fault)) content = IsSound books content
LeavesSound books entry (Err Lost) content = Unit {0}
