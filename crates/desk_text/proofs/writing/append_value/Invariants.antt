use Rattle.std.proofs.Common.{◌≡◌, ◌++◌, take, length, vec_len}
use Rattle.desk_text.specs.Lines.{value_lines, written}
use Rattle.desk_text.proofs.writing.append_value.Given as goal

abbrev pub invariant-loop-line : goal.invariant-loop-line
invariant-loop-line l = record {
  items : l.out.items ++ written (value_lines l.rest) ≡ l.fn.out.items ++ written (value_lines l.value);
  front : take (vec_len l.fn.out) l.out.items ≡ l.fn.out.items;
}

abbrev pub decreases-loop-line : goal.decreases-loop-line
decreases-loop-line l = length l.rest
