-- Which bytes are an operator's command.
use Rattle.std.specs.Prelude.{◌≡◌, ℕ, ◌≤◌, List, length, Some, codes, IsUtf8}
use Rattle.desk_text.specs.declared.limits.TheConstants.{LONGEST_TEXT}
use Rattle.serde_json.specs.Data.{Data, object, Members, no_members, member, string, number, unsigned}
use Rattle.serde_json.specs.Read.{read}
use Rattle.desk_codes.specs.Account.{IsAccount}
use Rattle.desk_codes.specs.CheckDigit.{IsIsin}
use Rattle.desk_codes.specs.Currency.{letters_of}
use Rattle.desk_codes.specs.Day.{IsDay}
use Rattle.desk_codes.specs.Reference.{IsReference}
use Rattle.desk_msg.specs.Profile.{code_of_kind}
use Rattle.desk_rules.specs.declared.history.entry.Entry.{Entry}
use Rattle.desk_rules.specs.declared.history.entry.Entry.TheVariants.{Participant, Account, Security, Issue, Redeem, PayIn, PayOut, Run}
use Rattle.desk_rules.specs.declared.history.entry.RunRule.TheVariants.{Passes}
use Rattle.desk_rules.specs.WellFormed.{IsMovement}
use Rattle.desk_book.specs.Forms.{SpellsBic}

-- a member that is a text, or a whole number
abbrev pub text_member : List ℕ → List ℕ → Members → Members
text_member name text more = member name (string text) more

abbrev pub number_member : List ℕ → ℕ → Members → Members
number_member name value more = member name (number (unsigned value)) more

-- The objects that spell commands. The members of an object stand in the order of their names.

abbrev pub participant_object : List ℕ → List ℕ → Data
participant_object reference bic =
    object (text_member (codes "bic") bic (text_member (codes "op") (codes "participant") (text_member (codes "ref") reference no_members)))

abbrev pub account_object : List ℕ → List ℕ → List ℕ → Data
account_object reference bic account =
    object (text_member (codes "account") account (text_member (codes "bic") bic (text_member (codes "op") (codes "account") (text_member (codes "ref") reference no_members))))

abbrev pub security_object : List ℕ → List ℕ → List ℕ → Data
security_object reference isin kind =
    object (text_member (codes "isin") isin (text_member (codes "kind") kind (text_member (codes "op") (codes "security") (text_member (codes "ref") reference no_members))))

abbrev pub movement_object : List ℕ → List ℕ → List ℕ → List ℕ → ℕ → Data
movement_object op reference account isin quantity =
    object (text_member (codes "account") account (text_member (codes "isin") isin (text_member (codes "op") op
    (number_member (codes "quantity") quantity (text_member (codes "ref") reference no_members)))))

abbrev pub payment_object : List ℕ → List ℕ → List ℕ → List ℕ → ℕ → Data
payment_object op reference bic ccy amount =
    object (number_member (codes "amount") amount (text_member (codes "bic") bic (text_member (codes "ccy") ccy (text_member (codes "op") op
    (text_member (codes "ref") reference no_members)))))

abbrev pub run_object : List ℕ → List ℕ → Data
run_object reference day =
    object (text_member (codes "day") day (text_member (codes "op") (codes "run") (text_member (codes "ref") reference no_members)))

-- The value spells the entry, one equation an operation. A head office's BIC may be written with its branch XXX. A run
-- that is asked for is one in passes.
abbrev pub IsCommand : Data → Entry → Type 0
IsCommand d (Participant reference bic) = (name : List ℕ) × SpellsBic name bic × IsReference reference × (d ≡ participant_object reference name)
IsCommand d (Account reference bic account) = (name : List ℕ) × SpellsBic name bic × IsReference reference × IsAccount account × (d ≡ account_object reference name account)
IsCommand d (Security reference isin kind) = IsReference reference × IsIsin isin × (d ≡ security_object reference isin (code_of_kind kind))
IsCommand d (Issue m) = IsMovement m × (d ≡ movement_object (codes "issue") m.reference m.account m.isin m.quantity)
IsCommand d (Redeem m) = IsMovement m × (d ≡ movement_object (codes "redeem") m.reference m.account m.isin m.quantity)
IsCommand d (PayIn p) = (name : List ℕ) × SpellsBic name p.bic × IsReference p.reference × (d ≡ payment_object (codes "payin") p.reference name (letters_of p.ccy) p.amount)
IsCommand d (PayOut p) = (name : List ℕ) × SpellsBic name p.bic × IsReference p.reference × (d ≡ payment_object (codes "payout") p.reference name (letters_of p.ccy) p.amount)
IsCommand d (Run reference day rule) = IsReference reference × IsDay day × (d ≡ run_object reference day) × (rule ≡ Passes)
IsCommand d entry = ⊥

-- the bytes are a command's: JSON whose value spells it
pub record SpellsCommand (bytes : List ℕ) (entry : Entry) : Type 0 where
  pub short : length bytes ≤ LONGEST_TEXT
  pub utf8 : IsUtf8 bytes
  pub value : Data
  pub reads : read bytes ≡ Some value
  pub command : IsCommand value entry
