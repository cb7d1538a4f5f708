-- Each account and each participant is registered once, and only what is registered instructs.
use Rattle.std.specs.Prelude.{◌≡◌, ℕ, Bool, true, List, bytes_eq, is_some, sum_by, Some}
use Rattle.desk_rules.specs.declared.history.entry.Entry.{Entry}
use Rattle.desk_rules.specs.declared.history.entry.Instructed.{Instructed}
use Rattle.desk_rules.specs.Balances.{quantity_if}
use Rattle.desk_rules.specs.Facts.{accounts_of, is_participant, owner_of, participants_of}
use Rattle.desk_rules.specs.History.{instruction_at}

-- how often a text stands in a list
abbrev pub times_in : List (List ℕ) → List ℕ → ℕ
times_in texts text = sum_by (λ other. quantity_if (bytes_eq text other) 1) texts

-- an account is registered
abbrev pub is_account : List Entry → List ℕ → Bool
is_account history account = is_some (owner_of history account)

-- the account of an instruction is registered, and its sender is a participant
pub record IsOfRegistered (history : List Entry) (i : Instructed) : Type 0 where
  pub account : is_account history i.instruction.account ≡ true
  pub sender : is_participant history i.sender ≡ true

-- each account and each participant is registered once, and instructions are of those
pub record AreRegisteredOnce (history : List Entry) : Type 0 where
  pub accounts : (account : List ℕ) → times_in (accounts_of history) account ≡ quantity_if (is_account history account) 1
  pub participants : (bic : List ℕ) → times_in (participants_of history) bic ≡ quantity_if (is_participant history bic) 1
  pub instructions : (n : ℕ) (i : Instructed) → instruction_at history n ≡ Some i → IsOfRegistered history i
