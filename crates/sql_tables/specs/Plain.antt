-- The values that the desk's tables are written with.
use Rattle.std.specs.Prelude.{⊤}
use Rattle.sqlite_value.specs.declared.value.Value.{Value}
use Rattle.sqlite_value.specs.declared.value.Value.TheVariants.{Null, Int, Real, Text, Blob}

-- neither a number with a point nor bytes
abbrev pub IsPlain : Value → Type 0
IsPlain Null = ⊤
IsPlain (Int number) = ⊤
IsPlain (Text text) = ⊤
IsPlain (Real number) = ⊥
IsPlain (Blob bytes) = ⊥
