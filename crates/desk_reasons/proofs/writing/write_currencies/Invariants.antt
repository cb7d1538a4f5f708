use Rattle.std.proofs.Common.{take, codes, ◌++◌}
use Rattle.std.specs.List.{flat_map}
use Rattle.std.specs.Io.KnownBytes.{Appends}
use Rattle.desk_codes.specs.Currency.{letters_of}
use Rattle.desk_reasons.proofs.writing.write_currencies.Given as goal

-- so many are written
abbrev pub invariant-loop-ccy : goal.invariant-loop-ccy
invariant-loop-ccy g l = Appends (g.W.Write.contents l.initial.writer) (g.W.Write.contents l.writer) (flat_map (λ ccy. codes " " ++ letters_of ccy) (take l.ccy-index l.currencies))
