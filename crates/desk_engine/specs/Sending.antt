-- What is sent while an entry is taken in. Only private contracts speak of it.
use Rattle.std.specs.Prelude.{ℕ, ◌+◌, List, [], ◌∷◌, ◌++◌, length, Option, Some, None}
use Rattle.desk_rules.specs.declared.history.entry.Instructed.{Instructed}
use Rattle.desk_rules.specs.declared.answers.reply.Sent.{Sent}
use Rattle.desk_rules.specs.Content.{Content, history_of}
use Rattle.desk_rules.specs.History.{instruction_at}
use Rattle.desk_rules.specs.Sent.{confirmed, told_to}
use Rattle.desk_register.specs.Changes.{delivering_number, receiving_number}

-- the content with the sender of an instruction told that it was paired; of what is no instruction nobody is told
abbrev pub with_advised : ℕ → Content → Content
with_advised about content = record content {
  sent = content.sent ++ told_to (history_of content) (length content.sent + 1) (record { about = about; run = None }) (instruction_at (history_of content) about);
}

-- the confirmation that an instruction settled on a day, the k-th of all that is sent; of what is no instruction there is
-- none
abbrev pub confirmed_to : ℕ → ℕ → Option Instructed → List ℕ → List Sent
confirmed_to k about None day = []
confirmed_to k about (Some i) day = confirmed k about i day ∷ []

-- the content with an instruction confirmed to its sender
abbrev pub with_confirmed : ℕ → List ℕ → Content → Content
with_confirmed about day content = record content {
  sent = content.sent ++ confirmed_to (length content.sent + 1) about (instruction_at (history_of content) about) day;
}

-- the content with the settlement of a pair on a day confirmed to both parties, to the deliverer first
abbrev pub with_both_confirmed : ℕ → ℕ → Instructed → List ℕ → Content → Content
with_both_confirmed m n earlier day content = with_confirmed (receiving_number earlier m n) day (with_confirmed (delivering_number earlier m n) day content)
