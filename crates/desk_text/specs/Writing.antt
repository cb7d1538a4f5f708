-- What a writer's buffer holds. Only private contracts speak of it.
use Rattle.std.specs.Prelude.{◌≡◌, ℕ, ◌<◌, List, length, take}
use Rattle.desk_text.specs.Written.{first_line}

-- a buffer with the first line in front, where it holds anything
pub record IsStarted (buffer : List ℕ) : Type 0 where
  pub start : 0 < length buffer → take 5 buffer ≡ first_line
