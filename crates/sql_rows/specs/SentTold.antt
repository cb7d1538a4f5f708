-- The rows of `sent` that messages make.
use Rattle.std.specs.Prelude.{◌≡◌, ℕ, ◌<◌, ◌≤◌, ◌^◌, pos, List, [], ◌∷◌, Some}
use Rattle.std.specs.Int.{w64, cast_signed}
use Rattle.sqlite.specs.declared.types.Value.TheVariants.{Int, Text as Words}
use Rattle.sqlite.specs.Order.{Row}
use Rattle.desk_rules.specs.declared.answers.reply.Sent.{Sent}
use Rattle.desk_rules.specs.Questions.{sent_at}
use Rattle.sql_tables.specs.ByNumber.{HasOne}

-- the values of a message's row behind the number
abbrev pub values_of : Sent → Row
values_of message = Words message.bic ∷ Int (pos message.mt) ∷ Int (cast_signed w64 message.about) ∷ Words message.text ∷ []

-- the one row of a number is that of its message
pub record IsTold (rows : List Row) (messages : List Sent) (number : ℕ) : Type 0 where
  pub message : Sent
  pub is : sent_at messages number ≡ Some message
  pub row : HasOne rows number (values_of message)
  pub fits : message.about < 2 ^ 64

-- so it is of each up to a number
abbrev pub AreTold : List Row → List Sent → ℕ → Type 0
AreTold rows messages count = (number : ℕ) → 0 < number → number ≤ count → IsTold rows messages number
