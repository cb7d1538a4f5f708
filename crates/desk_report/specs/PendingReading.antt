-- How the rows of pairs are read and written. Only private contracts and proofs speak of it.
use Rattle.std.specs.Prelude.{◌≡◌, ℕ, ◌≤◌, Bool, true, false, List, ◌++◌, codes, Option, Some, None, Result, Ok, Err}
use Rattle.std.specs.Io.KnownBytes.{Appends}
use Rattle.serde_json.specs.Written.{comma_if, compact_text}
use Rattle.desk_codes.specs.Number.{number_of}
use Rattle.desk_msg.specs.declared.writing.statement_row.SinkFault.TheVariants.{Write}
use Rattle.desk_msg.specs.MessageType.{is_delivery}
use Rattle.desk_rules.specs.declared.history.entry.Instructed.{Instructed}
use Rattle.desk_rules.specs.declared.history.pair.Place.{Place}
use Rattle.desk_rules.specs.Balances.{delivering, receiving}
use Rattle.desk_rules.specs.Content.{Content, history_of}
use Rattle.desk_rules.specs.History.{instruction_at}
use Rattle.desk_rules.specs.Opposite.{AreOpposite}
use Rattle.desk_rules.specs.Settlement.{is_before, is_past}
use Rattle.desk_register.specs.Looked.{IsMatchedPair}
use Rattle.desk_register.specs.declared.fault.WalkFault.{WalkFault}
use Rattle.desk_register.specs.declared.fault.WalkFault.TheVariants.{Sink}
use Rattle.desk_report.specs.declared.rows.pending.PendingPair.{PendingPair}
use Rattle.desk_report.specs.declared.rows.pending.Side.{Side}
use Rattle.desk_report.specs.RowData.{pending_data}
use Rattle.desk_report.specs.declared.pending.pair.Leg.{Leg}
use Rattle.desk_report.specs.declared.pending.pair.WaitingPair.{WaitingPair}
use Rattle.desk_report.specs.Pending.{IsPendingRow}

-- no pair is to settle after the last day
pub record AreDated (content : Content) : Type 0 where
  pub by : (place : Place) → IsMatchedPair content place → place.day ≤ number_of (codes "99991231")

-- the first matched pair past a place, or past none; or there is none
abbrev pub IsPairAfter : Content → Option Place → Option Place → Type 0
IsPairAfter content last None = (place : Place) → IsMatchedPair content place → is_past last place ≡ true → ⊥
IsPairAfter content last (Some next) =
    IsMatchedPair content next × (is_past last next ≡ true) × ((place : Place) → IsMatchedPair content place → is_past last place ≡ true → is_before place next ≡ false)

-- a matched pair, whose instructions are opposite
pub record IsWaitingPair (content : Content) (place : Place) : Type 0 where
  pub pair : IsMatchedPair content place
  pub earlier : Instructed
  pub is_earlier : instruction_at (history_of content) pair.mate ≡ Some earlier
  pub opposite : AreOpposite earlier pair.later

-- the instruction of a number, and where it stands
pub record IsLeg (content : Content) (n : ℕ) (leg : Leg) : Type 0 where
  pub number : leg.number ≡ n
  pub instructed : instruction_at (history_of content) n ≡ Some leg.instructed
  pub standing : leg.standing ≡ content.standing n

-- the matched pair of a place, as it was read
pub record IsPair (content : Content) (place : Place) (pair : WaitingPair) : Type 0 where
  pub waiting : IsWaitingPair content place
  pub earlier : Leg
  pub later : Leg
  pub is_earlier : IsLeg content waiting.pair.mate earlier
  pub is_later : IsLeg content place.number later
  pub reason : pair.reason ≡ waiting.pair.reason
  pub terms : pair.later ≡ later.instructed
  pub deliverer : pair.deliverer ≡ delivering (is_delivery earlier.instructed.instruction.mt) earlier later
  pub receiver : pair.receiver ≡ receiving (is_delivery earlier.instructed.instruction.mt) earlier later

-- the row of what was read
abbrev pub side_with : Leg → Side
side_with leg = record {
  number = leg.number;
  bic = leg.instructed.sender;
  reference = leg.instructed.instruction.reference;
  account = leg.instructed.instruction.account;
  is_cancel_requested = leg.standing.cancel_requested;
}

abbrev pub row_with : WaitingPair → Option ℕ → PendingPair
row_with pair lacking = record {
  day = pair.later.instruction.day;
  reason = pair.reason;
  lacking = lacking;
  isin = pair.later.instruction.isin;
  kind = pair.later.instruction.kind;
  quantity = pair.later.instruction.quantity;
  cash = pair.later.instruction.cash;
  deliverer = side_with pair.deliverer;
  receiver = side_with pair.receiver;
}

-- the row of a pair was written
pub record WritesRowOf (content : Content) (place : Place) (is_later : Bool) (before after : Option (List ℕ)) : Type 0 where
  pub row : PendingPair
  pub is_row : IsPendingRow content place row
  pub written : Appends before after (comma_if is_later ++ compact_text (pending_data row))

-- The row of a pair was written. Where it broke off, nothing was, but by a writer that failed.
abbrev pub WritesPair : {X : Type 0} → Content → Place → Bool → Result X WalkFault → Option (List ℕ) → Option (List ℕ) → Type 0
WritesPair content place is_later (Ok x) before after = WritesRowOf content place is_later before after
WritesPair content place is_later (Err (Sink Write)) before after = Unit {0}
WritesPair content place is_later (Err fault) before after = after ≡ before
