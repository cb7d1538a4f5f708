-- The catalogue of what an entry is refused for, by number: 10 to 22 of messages, 31 to 38 of the operator's commands,
-- and 21 of both, each with what it means. (A question is refused with 42 too, where there is no such message; the
-- numbers of texts that can't be read are those of the crates that read them.)
use Rattle.std.specs.Prelude.{◌≡◌, ℕ}
use Rattle.desk_rules.specs.declared.answers.verdict.Refusal.{Refusal}
use Rattle.desk_rules.specs.declared.answers.verdict.Refusal.TheVariants.{SenderUnknown, ReferenceReused, PlaceNotUs, UnknownSecurity, KindDiffers, AccountNotSenders, CounterpartyUnknown, NoSuchInstruction, AlreadyCancelled, AlreadySettled, Full, CancellationWaits, CommandReused, Exists, ParticipantUnknown, AccountUnknown, SecurityUnknown, OverLimit, NotEnough, DayGoesBack}

abbrev pub number_of_refusal : Refusal → ℕ
-- the sender of a message is no participant
number_of_refusal SenderUnknown = 10
-- the sender used the reference for another message
number_of_refusal ReferenceReused = 11
-- the place of settlement is another than this desk
number_of_refusal PlaceNotUs = 12
-- no such security, in an instruction
number_of_refusal UnknownSecurity = 13
-- the security is counted otherwise
number_of_refusal KindDiffers = 14
-- the account is unknown, or another's
number_of_refusal AccountNotSenders = 15
-- the counterparty is no participant
number_of_refusal CounterpartyUnknown = 16
-- the sender has no accepted instruction of that reference and type; of a question: it used no such reference
number_of_refusal NoSuchInstruction = 17
-- the instruction was cancelled before
number_of_refusal AlreadyCancelled = 18
-- the instruction's pair was settled
number_of_refusal AlreadySettled = 19
-- the desk holds all the entries that it may
number_of_refusal Full = 21
-- a cancellation of the instruction waits for one of its counterparty
number_of_refusal CancellationWaits = 22
-- the operator used the reference for another command
number_of_refusal CommandReused = 31
-- the participant, account or security is there
number_of_refusal Exists = 32
-- no such participant
number_of_refusal ParticipantUnknown = 33
-- no such account
number_of_refusal AccountUnknown = 34
-- no such security, in a command
number_of_refusal SecurityUnknown = 35
-- what is outstanding, or paid in less paid out, would pass its limit
number_of_refusal OverLimit = 36
-- the account holds too little, or the participant has too little cash
number_of_refusal NotEnough = 37
-- the run is for a day before that of the last run
number_of_refusal DayGoesBack = 38

-- A number of the catalogue: some refusal has it.
abbrev pub IsKnownRefusal : ℕ → Type 0
IsKnownRefusal number = (refusal : Refusal) × (number_of_refusal refusal ≡ number)
