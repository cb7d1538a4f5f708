-- What `desk explain` answers.
use Rattle.std.specs.Prelude.{◌≡◌, ℕ, List, MatchOption}
use Rattle.desk_words.specs.Topics.{explanation}
use Rattle.desk_words.specs.declared.topics.TheConstants.{NO_ANSWER}
use Rattle.desk.specs.declared.status.Status.{Status}
use Rattle.desk.specs.declared.status.Status.TheVariants as exit

-- What was told of an answer of these words: the text that explains it, with the status done; or, as refused, that the desk gives
-- no such answer.
abbrev pub IsExplainAnswer : List (List ℕ) → Status → (List ℕ → Type 0) → Type 0
IsExplainAnswer words status IsPrinted =
    MatchOption (explanation words) ((status ≡ exit.Refused) × IsPrinted NO_ANSWER.now) (λ text. (status ≡ exit.Done) × IsPrinted text)
