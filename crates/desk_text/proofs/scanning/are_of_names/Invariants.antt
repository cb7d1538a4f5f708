use Rattle.std.proofs.Common.{◌≡◌, ◌≤◌, ◌-◌, ◌||◌, true, take, length}
use Rattle.std.specs.List.{list_all}
use Rattle.desk_text.specs.BlockGrammar.{is_capital, is_digit}
use Rattle.desk_text.proofs.scanning.are_of_names.Given as goal

abbrev pub invariant-loop-at : goal.invariant-loop-at
invariant-loop-at l = record {
  within : l.at ≤ length l.name;
  front : list_all (λ c. is_capital c || is_digit c) (take l.at l.name) ≡ true;
}

abbrev pub decreases-loop-at : goal.decreases-loop-at
decreases-loop-at l = length l.name - l.at
