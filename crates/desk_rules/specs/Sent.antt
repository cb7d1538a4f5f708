-- What the desk sends: an advice to the earlier party of each pair, and two confirmations of each settlement.
use Rattle.std.specs.Prelude.{ℕ, ◌+◌, ◌==◌, if◌then◌else◌, List, [], ◌∷◌, ◌++◌, length, flat_map, Option, Some, None}
use Rattle.std.specs.List.{range_with_len}
use Rattle.desk_msg.specs.declared.writing.status.Own.TheVariants as owns
use Rattle.desk_msg.specs.declared.writing.status.Reason.TheVariants.{Future}
use Rattle.desk_msg.specs.declared.writing.status.Case.TheVariants.{Matched}
use Rattle.desk_msg.specs.MessageType.{number_of_type}
use Rattle.desk_msg.specs.StatusText.{advice}
use Rattle.desk_msg.specs.ConfirmationText.{confirming_type, confirmation}
use Rattle.desk_rules.specs.declared.history.entry.Entry.{Entry}
use Rattle.desk_rules.specs.declared.history.entry.Entry.TheVariants.{Run}
use Rattle.desk_rules.specs.declared.history.pair.Pair.{Pair}
use Rattle.desk_rules.specs.declared.history.pair.Settled.{Settled}
pub use Rattle.desk_rules.specs.declared.answers.reply.Notice.{Notice}
use Rattle.desk_rules.specs.declared.answers.reply.Sent.{Sent}
use Rattle.desk_rules.specs.History.{Instructed, entry_at, instruction_at}
use Rattle.desk_rules.specs.Balances.{deliverer_of, receiver_of}
use Rattle.desk_rules.specs.Books.{Books}

-- what the entry n tells by a pair of its number, and by a settlement of its run: the deliverer first
abbrev pub told_of_pair : ℕ → Pair → List Notice
told_of_pair n p = if p.later == n then record { about = p.earlier; run = None } ∷ [] else []

abbrev pub told_of_settled : List Entry → ℕ → Settled → List Notice
told_of_settled history n s =
    if s.run == n
    then record { about = deliverer_of history s.pair; run = Some n } ∷ record { about = receiver_of history s.pair; run = Some n } ∷ []
    else []

abbrev pub told_by : Books → ℕ → List Notice
told_by books n = flat_map (told_of_pair n) books.pairs ++ flat_map (told_of_settled books.history n) books.settled

-- all notices, in the order of the entries that cause them and, in a run, of settlement
abbrev pub notices_of : Books → List Notice
notices_of books = flat_map (told_by books) (range_with_len 1 (length books.history))

-- the eight digits of a run's day
abbrev pub date_by : Entry → List ℕ
date_by (Run reference day rule) = day
date_by entry = []

abbrev pub date_in : Option Entry → List ℕ
date_in None = []
date_in (Some entry) = date_by entry

-- the advice that an instruction was paired, the k-th of all that is sent
abbrev pub advised : ℕ → ℕ → Instructed → Sent
advised k about i =
    record { bic = i.sender; mt = 548; about = about; text = advice (owns.Sent k) i.instruction.mt i.instruction.reference (Matched Future) }

-- the confirmation that it was settled on a day
abbrev pub confirmed : ℕ → ℕ → Instructed → List ℕ → Sent
confirmed k about i day =
    record { bic = i.sender; mt = number_of_type (confirming_type i.instruction.mt); about = about; text = confirmation k i.instruction day }

-- the k-th sent message
abbrev pub told : List Entry → ℕ → ℕ → Option ℕ → Instructed → Sent
told history k about None i = advised k about i
told history k about (Some run) i = confirmed k about i (date_in (entry_at history run))

abbrev pub told_to : List Entry → ℕ → Notice → Option Instructed → List Sent
told_to history k notice None = []
told_to history k notice (Some i) = told history k notice.about notice.run i ∷ []

-- the messages of these notices, numbered from k
abbrev pub sent_from : List Entry → ℕ → List Notice → List Sent
sent_from history k [] = []
sent_from history k (notice ∷ notices) = told_to history k notice (instruction_at history notice.about) ++ sent_from history (k + 1) notices

-- All that was sent. (Each notice of books is about an instruction, so the n-th of these has the number n.)
abbrev pub sent_of : Books → List Sent
sent_of books = sent_from books.history 1 (notices_of books)
