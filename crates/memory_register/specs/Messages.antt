-- What was sent, kept beside it. Only the invariant of the register, private contracts and proofs speak of it.
use Rattle.std.specs.Prelude.{◌≡◌, ◌≢◌, List, [], ◌++◌}
use Rattle.desk_register.specs.declared.register.Stage.TheVariants.{Idle, Failed}
use Rattle.desk_register.specs.View.{View}
use Rattle.memory_register.specs.declared.sent.heading.Heading.{Heading}
use Rattle.memory_register.specs.declared.sent.messages.Messages.{Messages}
use Rattle.memory_register.specs.Addressed.{AreAddressed}
use Rattle.memory_register.specs.Confirmations.{AreConfirmations}
use Rattle.memory_register.specs.Headings.{headings_of}

-- the numbers are those of messages with these headings
pub record AreMessagesOf (messages : Messages) (headings : List Heading) : Type 0 where
  pub addressed : AreAddressed messages.addressed headings
  pub confirmations : AreConfirmations messages.confirmations headings

-- The messages that are found are those that are held, and `told` are those since `begin`. After a call that failed nothing
-- is said of what is held.
pub record IsTold (view : View) (messages : Messages) (told : List Heading) : Type 0 where
  pub idle : view.stage ≡ Idle → told ≡ []
  pub marked : AreMessagesOf messages (headings_of view.mark ++ told)
  pub grown : view.stage ≢ Failed → headings_of view.content ≡ headings_of view.mark ++ told
