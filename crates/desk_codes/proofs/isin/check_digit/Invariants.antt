use Rattle.std.proofs.Common.{◌≤◌, ◌+◌, ◌*◌, drop}
use Rattle.desk_codes.proofs.Summing.{IsSummed}
use Rattle.desk_codes.proofs.isin.check_digit.Given as goal

abbrev pub invariant-loop-i : goal.invariant-loop-i
invariant-loop-i l = record {
  small : l.sum + 18 * l.i ≤ 198;
  summed : IsSummed (drop l.i l.body) l.sum l.is_even;
}
