-- What a history says of participants, accounts, securities and runs.
use Rattle.std.specs.Prelude.{ℕ, nat_lt, Bool, true, false, if◌then◌else◌, List, [], ◌∷◌, filter_map, bytes_eq, Option, Some, None}
use Rattle.std.specs.List.{list_any}
use Rattle.desk_msg.specs.declared.instruction.Kind.{Kind}
use Rattle.desk_msg.specs.declared.instruction.Kind.TheVariants.{Unit as Units, FaceAmount}
use Rattle.desk_rules.specs.declared.history.entry.Entry.{Entry}
use Rattle.desk_rules.specs.declared.history.entry.Entry.TheVariants.{Participant, Account, Security}
use Rattle.desk_rules.specs.History.{run_day}

abbrev pub adds_participant : List ℕ → Entry → Bool
adds_participant bic (Participant reference b) = bytes_eq b bic
adds_participant bic entry = false

abbrev pub is_participant : List Entry → List ℕ → Bool
is_participant history bic = list_any (adds_participant bic) history

-- the owner that an entry gives an account
abbrev pub owner_by : List ℕ → Entry → Option (List ℕ)
owner_by account (Account reference b a) = if bytes_eq a account then Some b else None
owner_by account entry = None

-- the kind that an entry gives a security
abbrev pub kind_by : List ℕ → Entry → Option Kind
kind_by isin (Security reference i kind) = if bytes_eq i isin then Some kind else None
kind_by isin entry = None

abbrev pub or_else : {X : Type 0} → Option X → Option X → Option X
or_else None other = other
or_else (Some x) other = Some x

-- what the first entry that says anything says, and the last
abbrev pub first_said : {X : Type 0} → (Entry → Option X) → List Entry → Option X
first_said says [] = None
first_said says (entry ∷ entries) = or_else (says entry) (first_said says entries)

abbrev pub last_said : {X : Type 0} → (Entry → Option X) → List Entry → Option X
last_said says [] = None
last_said says (entry ∷ entries) = or_else (last_said says entries) (says entry)

-- the owner of an account, and the kind of a security
abbrev pub owner_of : List Entry → List ℕ → Option (List ℕ)
owner_of history account = first_said (owner_by account) history

abbrev pub kind_of : List Entry → List ℕ → Option Kind
kind_of history isin = first_said (kind_by isin) history

-- the day of the last run, as the number YYYYMMDD
abbrev pub last_run : List Entry → Option ℕ
last_run history = last_said run_day history

-- a security is counted so
abbrev pub is_of_kind : Kind → Option Kind → Bool
is_of_kind Units (Some Units) = true
is_of_kind FaceAmount (Some FaceAmount) = true
is_of_kind kind other = false

-- an account is this participant's
abbrev pub is_owner : List ℕ → Option (List ℕ) → Bool
is_owner bic None = false
is_owner bic (Some owner) = bytes_eq owner bic

-- a day is before that of the last run, if there was one
abbrev pub is_after : Option ℕ → ℕ → Bool
is_after None day = false
is_after (Some last) day = nat_lt day last

-- the account, and the participant, that an entry registers
abbrev pub account_by : Entry → Option (List ℕ)
account_by (Account reference bic account) = Some account
account_by entry = None

abbrev pub participant_by : Entry → Option (List ℕ)
participant_by (Participant reference bic) = Some bic
participant_by entry = None

-- all accounts and all participants of a history
abbrev pub accounts_of : List Entry → List (List ℕ)
accounts_of history = filter_map account_by history

abbrev pub participants_of : List Entry → List (List ℕ)
participants_of history = filter_map participant_by history
