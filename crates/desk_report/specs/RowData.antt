-- The rows of reports as JSON objects. The members of an object stand in the order of their names. Quantities and amounts are
-- whole numbers, in units, by face amount or in minor units, as the commands and the sums have them.
use Rattle.std.specs.Prelude.{ℕ, Bool, if◌then◌else◌, List, [], ◌∷◌, ◌++◌, map, codes, Option, Some, None}
use Rattle.serde_json.specs.Data.{Data, null, boolean, number, string, object, array, unsigned, no_members, member}
use Rattle.serde_json.specs.View.{items_of}
use Rattle.desk_codes.specs.Currency.{letters_of}
use Rattle.desk_msg.specs.MessageType.{number_of_type}
use Rattle.desk_msg.specs.Profile.{code_of_kind}
use Rattle.desk_msg.specs.StatusText.{code_of_reason}
use Rattle.desk_msg.specs.declared.instruction.Cash.{Cash}
use Rattle.desk_msg.specs.declared.writing.statement_row.StatementRow.{StatementRow}
use Rattle.desk_book.specs.Command.{text_member, number_member}
use Rattle.desk_report.specs.declared.rows.balances.AccountRow.{AccountRow}
use Rattle.desk_report.specs.declared.rows.balances.CashRow.{CashRow}
use Rattle.desk_report.specs.declared.rows.pending.PendingPair.{PendingPair}
use Rattle.desk_report.specs.declared.rows.pending.Side.{Side}
use Rattle.desk_report.specs.declared.rows.unmatched.Differences.{Differences}
use Rattle.desk_report.specs.declared.rows.unmatched.Nearest.{Nearest}
use Rattle.desk_report.specs.declared.rows.unmatched.UnmatchedInstruction.{UnmatchedInstruction}

-- what is there, told so, and null where there is nothing
abbrev pub or_null : {X : Type 0} → (X → Data) → Option X → Data
or_null data_of None = null
or_null data_of (Some x) = data_of x

abbrev pub number_data : ℕ → Data
number_data n = number (unsigned n)

-- the amount in minor units and the currency of an instruction's cash; null free of payment
abbrev pub amount_data : Option Cash → Data
amount_data cash = or_null (λ c. number_data c.amount) cash

abbrev pub ccy_data : Option Cash → Data
ccy_data cash = or_null (λ c. string (letters_of c.ccy)) cash

-- a side of a pair
abbrev pub side_data : Side → Data
side_data side =
    object (text_member (codes "account") side.account (text_member (codes "bic") side.bic (member (codes "cancel") (boolean side.is_cancel_requested)
    (number_member (codes "number") side.number (text_member (codes "ref") side.reference no_members)))))

-- a pair that waits
abbrev pub pending_data : PendingPair → Data
pending_data row =
    object (member (codes "amount") (amount_data row.cash) (member (codes "ccy") (ccy_data row.cash) (text_member (codes "day") row.day
    (member (codes "deliverer") (side_data row.deliverer) (text_member (codes "isin") row.isin (text_member (codes "kind") (code_of_kind row.kind)
    (member (codes "lacking") (or_null number_data row.lacking) (number_member (codes "quantity") row.quantity (text_member (codes "reason") (code_of_reason row.reason)
    (member (codes "receiver") (side_data row.receiver) no_members))))))))))

-- a name, where it applies
abbrev pub name_if : Bool → List ℕ → List (List ℕ)
name_if applies name = if applies then name ∷ [] else []

-- the names of what differs
abbrev pub names_of : Differences → List (List ℕ)
names_of d =
    name_if d.kind (codes "kind") ++ (name_if d.quantity (codes "quantity") ++ (name_if d.day (codes "day")
    ++ (name_if d.payment (codes "payment") ++ (name_if d.currency (codes "currency") ++ name_if d.amount (codes "amount")))))

-- the unmatched instruction that comes nearest, and in what it differs
abbrev pub nearest_data : Nearest → Data
nearest_data nearest =
    object (member (codes "differs") (array (items_of (map string (names_of nearest.differs)))) (number_member (codes "number") nearest.number
    (text_member (codes "ref") nearest.reference no_members)))

-- an unmatched instruction
abbrev pub unmatched_data : UnmatchedInstruction → Data
unmatched_data row =
    object (text_member (codes "account") row.instructed.instruction.account (member (codes "amount") (amount_data row.instructed.instruction.cash)
    (text_member (codes "bic") row.instructed.sender (member (codes "ccy") (ccy_data row.instructed.instruction.cash)
    (text_member (codes "counterparty") row.instructed.instruction.counterparty (text_member (codes "day") row.instructed.instruction.day
    (text_member (codes "isin") row.instructed.instruction.isin (text_member (codes "kind") (code_of_kind row.instructed.instruction.kind)
    (number_member (codes "mt") (number_of_type row.instructed.instruction.mt) (member (codes "nearest") (or_null nearest_data row.nearest)
    (number_member (codes "number") row.number (number_member (codes "quantity") row.instructed.instruction.quantity
    (text_member (codes "ref") row.instructed.instruction.reference no_members)))))))))))))

-- what an account holds of a security; null where it holds nothing
abbrev pub account_data : AccountRow → Data
account_data row =
    object (text_member (codes "account") row.account (member (codes "isin") (or_null (λ (held : StatementRow). string held.isin) row.holding)
    (member (codes "kind") (or_null (λ (held : StatementRow). string (code_of_kind held.kind)) row.holding) (text_member (codes "owner") row.owner
    (member (codes "quantity") (or_null (λ (held : StatementRow). number_data held.quantity) row.holding) no_members)))))

-- what a participant has of a currency
abbrev pub cash_data : CashRow → Data
cash_data row = object (number_member (codes "amount") row.amount (text_member (codes "bic") row.bic (text_member (codes "ccy") (letters_of row.ccy) no_members)))
