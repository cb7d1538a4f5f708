-- What is asked of the desk.
use Rattle.std.specs.Prelude.{ℕ, Bool, true, false, List}
use Rattle.desk_msg.specs.declared.mt.Mt.{Mt}
use Rattle.desk_msg.specs.declared.mt.Mt.TheVariants as types
use Rattle.desk_book.specs.declared.requests.question.InstructionType.{InstructionType}
use Rattle.desk_book.specs.declared.requests.question.InstructionType.TheVariants.{Mt540, Mt541, Mt542, Mt543}
use Rattle.desk_book.specs.declared.requests.question.Question.{Question}
use Rattle.desk_book.specs.declared.requests.question.Question.TheVariants.{Sent, Sums}
use Rattle.desk_book.specs.declared.requests.question.Request.{Request}

-- the type of settlement messages that it is
abbrev pub mt_of : InstructionType → Mt
mt_of Mt540 = types.Mt540
mt_of Mt541 = types.Mt541
mt_of Mt542 = types.Mt542
mt_of Mt543 = types.Mt543

-- a question is asked with a text
abbrev pub has_text : Question → Bool
has_text (Sent receiver number) = false
has_text Sums = false
has_text question = true

-- A request by its values: a question, and the bytes that it is asked with.
pub record Asked : Type 0 where
  pub question : Question
  pub text : List ℕ

abbrev pub asked_with : Question → List ℕ → Asked
asked_with question text = record { question = question; text = text }

-- the values of a request of the code
abbrev pub asked_by : Request → Asked
asked_by request = asked_with request.question request.text.now
