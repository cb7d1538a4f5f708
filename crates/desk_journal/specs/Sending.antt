-- What is noted of the messages that entries caused, before all of their instructions are known. Only private contracts and
-- proofs speak of it.
use Rattle.std.specs.Prelude.{◌≡◌, ℕ, ◌-◌, ◌<◌, nat_lt, false, ◌&&◌, if◌then◌else◌, List, [], ◌∷◌, length, map, slice_get, slice_set, Option, Some, None, is_some}
use Rattle.std.specs.List.{flat_map, range_with_len}
use Rattle.desk_msg.specs.declared.mt.Mt.{Mt}
use Rattle.desk_msg.specs.ConfirmationText.{confirming_type}
use Rattle.desk_msg.specs.MessageType.{number_of_type}
use Rattle.desk_rules.specs.declared.answers.reply.Notice.{Notice}
use Rattle.desk_rules.specs.declared.history.entry.Entry.{Entry}
use Rattle.desk_rules.specs.declared.history.entry.Instructed.{Instructed}
use Rattle.desk_rules.specs.declared.history.entry.Entry.TheVariants.{Run}
use Rattle.desk_rules.specs.declared.history.entry.RunRule.{RunRule}
use Rattle.desk_rules.specs.declared.limits.TheConstants.{MOST_SENT}
use Rattle.desk_rules.specs.Books.{Books, is_settled}
use Rattle.desk_rules.specs.Content.{Content, history_of}
use Rattle.desk_rules.specs.History.{entry_at, instruction_at}
use Rattle.desk_rules.specs.Sent.{notices_of, sent_of, told_by}
use Rattle.desk_rules.specs.Tables.{AreTables}
use Rattle.desk_journal.specs.Messages.{keys_of, sent_upto}
use Rattle.desk_journal.specs.Runs.{settled_in}
use Rattle.desk_journal.specs.declared.sending.Sending.{Sending}

-- a notice of a settlement, before its instruction is known; a notice of a pair is whole at once
abbrev pub blank : Notice → Notice
blank notice = record { about = if is_some notice.run then 0 else notice.about; run = notice.run }

-- a notice, where the instructions up to a number are known
abbrev pub known_upto : ℕ → Notice → Notice
known_upto n notice = if is_some notice.run && nat_lt n notice.about then blank notice else notice

-- what the entries up to a number told of
abbrev pub told_upto : Books → ℕ → List Notice
told_upto books n = flat_map (told_by books) (range_with_len 1 n)

-- the tables of some books, which sent no more than may be
pub record HoldsBooks (content : Content) : Type 0 where
  pub books : Books
  pub are : AreTables books content
  pub few : length (sent_of books) < MOST_SENT

-- and an entry of this number
pub record HoldsEntry (content : Content) (n : ℕ) (entry : Entry) : Type 0 where
  pub holds : HoldsBooks content
  pub at : entry_at (history_of content) n ≡ Some entry

-- an instruction of this number
pub record HoldsInstruction (content : Content) (n : ℕ) : Type 0 where
  pub instructed : Instructed
  pub at : instruction_at (history_of content) n ≡ Some instructed

-- the instructions that notices are about
abbrev pub HoldNotices : Content → List Notice → Type 0
HoldNotices content notices = (place : ℕ) (notice : Notice) → slice_get notices place ≡ Some notice → HoldsInstruction content notice.about

-- a run of this number
pub record HoldsRun (content : Content) (n : ℕ) : Type 0 where
  pub holds : HoldsBooks content
  pub reference : List ℕ
  pub day : List ℕ
  pub rule : RunRule
  pub is_run : entry_at (history_of content) n ≡ Some (Run reference day rule)

-- The advice that an instruction caused, to the sender of the earlier one that it was matched with; none where it came first, or
-- is in no pair.
abbrev pub advice_if : ℕ → Option ℕ → List Notice
advice_if n None = []
advice_if n (Some mate) = if nat_lt mate n then record { about = mate; run = None } ∷ [] else []

-- the type of the message that tells a notice, by the run that it tells of and the type of the instruction that it is about
abbrev pub type_told : Option ℕ → Mt → ℕ
type_told None mt = 548
type_told (Some run) mt = number_of_type (confirming_type mt)

-- The confirmation of an instruction stands at this place among all that was sent: with it the instruction is known in whose
-- notice alone its number was missing.
pub record IsConfirmedAt (books : Books) (n place : ℕ) : Type 0 where
  pub run : ℕ
  pub is_notice : slice_get (notices_of books) place ≡ Some (record { about = n; run = Some run })
  pub settled : settled_in books n ≡ Some run
  pub known : map (known_upto n) (notices_of books) ≡ slice_set (map (known_upto (n - 1)) (notices_of books)) place (record { about = n; run = Some run })

-- the place of the confirmation of an instruction; there is none where it is not settled
abbrev pub IsPlaceOf : Books → ℕ → Option ℕ → Type 0
IsPlaceOf books n None = is_settled books n ≡ false
IsPlaceOf books n (Some place) = IsConfirmedAt books n place

-- all that was noted of what was sent
pub record IsSending (books : Books) (sending : Sending) : Type 0 where
  pub notices : sending.notices.items ≡ notices_of books
  pub ends : sending.ends.items ≡ map (sent_upto books) (range_with_len 1 (length books.history))
  pub keys : sending.keys.items ≡ keys_of books
