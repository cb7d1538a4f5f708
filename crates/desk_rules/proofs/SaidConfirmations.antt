-- The sent messages of a history say the confirmations of its settlements.
use Rattle.std.proofs.Common.{◌≡◌, ℕ, ◌+◌, Bool, true, false, ◌&&◌, List, [], ◌∷◌, ◌++◌, refl, sym, subst, Option, Some, None, Ok}
use Rattle.std.specs.Prelude.{nat_le, MatchBool}
use Rattle.desk_codes.specs.Day.{IsDay}
use Rattle.desk_text.specs.Fields.{Found}
use Rattle.desk_msg.specs.declared.mt.Mt.{Mt}
use Rattle.desk_msg.specs.declared.mt.Mt.TheVariants.{Mt540, Mt541, Mt542, Mt543, Mt544, Mt545, Mt546, Mt547}
use Rattle.desk_msg.specs.declared.instruction.Message.TheVariants.{New}
use Rattle.desk_msg.specs.MessageType.{number_of_type}
use Rattle.desk_msg.specs.ConfirmationText.{confirming_type}
use Rattle.desk_msg.specs.Reads.{ReadsFields}
use Rattle.desk_msg.proofs.ConfirmationLaws.{confirms}
use Rattle.desk_rules.specs.declared.history.entry.Entry.{Entry}
use Rattle.desk_rules.specs.declared.answers.reply.Sent.{Sent}
use Rattle.desk_rules.specs.History.{Instructed, entry_at, instruction_at}
use Rattle.desk_rules.specs.Sent.{Notice, date_in, told, told_to, sent_from}
use Rattle.desk_rules.specs.Confirmations.{Confirmation, SaysConfirmation, SayConfirmations, confirmation_by, is_confirmation}
use Rattle.desk_rules.specs.WellFormed.{AreWellFormed}
use Rattle.desk_rules.proofs.WellFormedLemmas.{readable_at}

-- a message that is no confirmation says no confirmation
skipped : (message : Sent) (messages : List Sent) (confirmations : List Confirmation) → is_confirmation message ≡ false → SayConfirmations messages confirmations → SayConfirmations (message ∷ messages) confirmations
skipped message messages [] e says = (e, says)
skipped message messages (confirmation ∷ confirmations) e says =
    let P : Bool → Type 0 = λ b. MatchBool b (SaysConfirmation message confirmation × SayConfirmations messages confirmations) (SayConfirmations messages (confirmation ∷ confirmations)) in
    subst P (sym e) says

one_said : (message : Sent) (messages : List Sent) (confirmation : Confirmation) (confirmations : List Confirmation) → is_confirmation message ≡ true → SaysConfirmation message confirmation → SayConfirmations messages confirmations → SayConfirmations (message ∷ messages) (confirmation ∷ confirmations)
one_said message messages confirmation confirmations e says rest =
    let P : Bool → Type 0 = λ b. MatchBool b (SaysConfirmation message confirmation × SayConfirmations messages confirmations) (SayConfirmations messages (confirmation ∷ confirmations)) in
    subst P (sym e) (says, rest)

pub confirming : (mt : Mt) → nat_le 544 (number_of_type (confirming_type mt)) && nat_le (number_of_type (confirming_type mt)) 547 ≡ true
confirming Mt540 = refl
confirming Mt541 = refl
confirming Mt542 = refl
confirming Mt543 = refl
confirming Mt544 = refl
confirming Mt545 = refl
confirming Mt546 = refl
confirming Mt547 = refl

module _ (h : List Entry) where
  -- what a notice of an instruction says: a run that settled it, a confirmation
  abbrev pub confirmations_to : Option ℕ → Option Instructed → List Confirmation
  confirmations_to None o = []
  confirmations_to (Some run) None = []
  confirmations_to (Some run) (Some i) = confirmation_by i (date_in (entry_at h run)) ∷ []

  abbrev pub confirmations_of : List Notice → List Confirmation
  confirmations_of [] = []
  confirmations_of (n ∷ ns) = confirmations_to n.run (instruction_at h n.about) ++ confirmations_of ns

  -- the run of a notice is of a day
  abbrev pub HasDay : Option ℕ → Type 0
  HasDay None = Unit {0}
  HasDay (Some run) = IsDay (date_in (entry_at h run))

  abbrev pub HaveDays : List Notice → Type 0
  HaveDays [] = Unit {0}
  HaveDays (n ∷ ns) = HasDay n.run × HaveDays ns

  told_says : (k about : ℕ) (run : Option ℕ) (i : Instructed) (fields : List Found) → ReadsFields i.instruction.mt fields (Ok (New i.instruction)) → HasDay run → (messages : List Sent) (confirmations : List Confirmation) → SayConfirmations messages confirmations
      → SayConfirmations (told h k about run i ∷ messages) (confirmations_to run (Some i) ++ confirmations)
  told_says k about None i fields reads day messages confirmations says = skipped (told h k about None i) messages confirmations refl says
  told_says k about (Some run) i fields reads day messages confirmations says =
      let c = confirms k i.instruction (date_in (entry_at h run)) fields reads day in
      one_said (told h k about (Some run) i) messages (confirmation_by i (date_in (entry_at h run))) confirmations (confirming i.instruction.mt)
      (record { fields = c.0; type = refl; addressee = refl; block = c.1; says = c.2 }) says

  notice_says : (k : ℕ) (n : Notice) (o : Option Instructed) → ((i : Instructed) → o ≡ Some i → (fields : List Found) × ReadsFields i.instruction.mt fields (Ok (New i.instruction))) → HasDay n.run → (messages : List Sent) (confirmations : List Confirmation) → SayConfirmations messages confirmations
      → SayConfirmations (told_to h k n o ++ messages) (confirmations_to n.run o ++ confirmations)
  notice_says k n None read day messages confirmations says = nothing n.run
    where
      nothing : (run : Option ℕ) → SayConfirmations messages (confirmations_to run None ++ confirmations)
      nothing None = says
      nothing (Some run) = says
  notice_says k n (Some i) read day messages confirmations says = let r = read i refl in told_says k n.about n.run i r.0 r.1 day messages confirmations says

  pub say_all : AreWellFormed h → (k : ℕ) (ns : List Notice) → HaveDays ns → SayConfirmations (sent_from h k ns) (confirmations_of ns)
  say_all formed k [] days = tt
  say_all formed k (n ∷ ns) days =
      notice_says k n (instruction_at h n.about) (λ i at. readable_at h n.about i formed at) days.0 (sent_from h (k + 1) ns) (confirmations_of ns) (say_all formed (k + 1) ns days.1)
