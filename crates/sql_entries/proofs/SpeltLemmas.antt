-- A row that says an entry whose texts are codes is read.
use Rattle.std.proofs.Common.{◌≡◌, ℕ, pos, List, Ok, Err, Result, IfErr, IsOk, None, Some, Option, is_some, refl, sym, ◌∙◌, codes}
use Rattle.sqlite.specs.declared.error.Error.{Error}
use Rattle.sqlite.specs.declared.error.Error.TheVariants.{SqliteFailure}
use Rattle.sqlite.specs.declared.error.ErrorCode.TheVariants.{OutOfMemory}
use Rattle.sqlite.specs.Order.{Row, column}
use Rattle.sqlite.specs.declared.types.Value.TheVariants.{Int}
use Rattle.desk_msg.specs.declared.instruction.Cash.{Cash}
use Rattle.desk_msg.specs.declared.instruction.CancelOrder.{CancelOrder}
use Rattle.desk_msg.specs.declared.instruction.Instruction.{Instruction}
use Rattle.desk_msg.specs.declared.mt.Mt.{Mt}
use Rattle.desk_msg.specs.MessageType.{number_of_type}
use Rattle.desk_rules.specs.declared.history.entry.Entry.{Entry}
use Rattle.desk_rules.specs.declared.history.entry.Entry.TheVariants.{Participant, Account, Instruct, Cancel}
use Rattle.sql_entries.specs.Columns.{kind_number}
use Rattle.sql_entries.specs.Reading.{Says, SaysCash}
use Rattle.desk_rules.specs.Spelt.{IsSpelt}
use Rattle.sql_entries.specs.declared.places.TheConstants.{MT}
use Rattle.sql_tables.proofs.ColumnLemmas.{count, one_type, some_letters, words}

-- what a column says of cash, it says of no other
pub cash_read : (row : Row) (a b : Option Cash) → SaysCash row a → SaysCash row b → is_some a ≡ is_some b
cash_read row None None p q = refl
cash_read row None (Some b) p q = absurd (some_letters b.ccy (words _ _ (sym q.currency ∙ p)))
cash_read row (Some a) None p q = absurd (some_letters a.ccy (words _ _ (sym p.currency ∙ q)))
cash_read row (Some a) (Some b) p q = refl

pub type_read : (row : Row) (a b : Mt) → column row MT ≡ Int (pos (number_of_type a)) → column row MT ≡ Int (pos (number_of_type b)) → a ≡ b
type_read row a b p q = one_type a b (count _ _ (sym p ∙ q))

-- ---- an entry of a kind has the parts of that kind

module _ (row : Row) where
  pub as_participant : (entry : Entry) → kind_number entry ≡ 1 → Says row entry → IsSpelt entry → (reference : List ℕ) × (bic : List ℕ) × Says row (Participant reference bic) × IsSpelt (Participant reference bic)
  as_participant (Participant reference bic) kind says spelt = (reference, bic, says, spelt)
  as_participant _ kind says spelt = absurd (cc)

  pub as_account : (entry : Entry) → kind_number entry ≡ 2 → Says row entry → IsSpelt entry
      → (reference : List ℕ) × (bic : List ℕ) × (account : List ℕ) × Says row (Account reference bic account) × IsSpelt (Account reference bic account)
  as_account (Account reference bic account) kind says spelt = (reference, bic, account, says, spelt)
  as_account _ kind says spelt = absurd (cc)

  pub as_instruction : (entry : Entry) → kind_number entry ≡ 8 → Says row entry → IsSpelt entry → (sender : List ℕ) × (i : Instruction) × Says row (Instruct sender i) × IsSpelt (Instruct sender i)
  as_instruction (Instruct sender i) kind says spelt = (sender, i, says, spelt)
  as_instruction _ kind says spelt = absurd (cc)

  pub as_cancellation : (entry : Entry) → kind_number entry ≡ 9 → Says row entry → IsSpelt entry → (sender : List ℕ) × (order : CancelOrder) × Says row (Cancel sender order) × IsSpelt (Cancel sender order)
  as_cancellation (Cancel sender order) kind says spelt = (sender, order, says, spelt)
  as_cancellation _ kind says spelt = absurd (cc)

-- what is no error is no other error
pub no_error : {X : Type 0} (r : Result X Error) → IsOk r → IfErr r (λ e. e ≡ SqliteFailure OutOfMemory)
no_error (Ok x) ok = tt
no_error (Err e) ok = absurd (cc)
