-- What stands behind the words of a reason. Only private contracts speak of it.
use Rattle.std.specs.Prelude.{ℕ, List, [], ◌∷◌, decimal}
use Rattle.desk_reasons.specs.declared.writing.Tail.{Tail}
use Rattle.desk_reasons.specs.declared.writing.Tail.TheVariants.{Nothing, Number, Letter, Byte, Currencies}
use Rattle.desk_reasons.specs.Words.{byte_tail, known_currencies}

abbrev pub tail_said : Tail → List ℕ
tail_said Nothing = []
tail_said (Number number) = decimal number
tail_said (Letter letter) = letter ∷ []
tail_said (Byte column byte) = byte_tail column byte
tail_said Currencies = known_currencies
