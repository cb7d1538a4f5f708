use Rattle.std.proofs.Common.{arith, [], map}
use Rattle.desk_text.specs.Lines.{lines_of}
use Rattle.desk_text.specs.Signs.{sign_of}
use Rattle.desk_text.specs.Steps.{open_names, found_by}
use Rattle.desk_text.proofs.StepLemmas.{read_from-values, read_ended}
use Rattle.desk_text.proofs.reading.read_items.Goals as goal

pub loop-line-init : goal.loop-line-init
loop-line-init c = record {
  small = omega (arith, c.requires);
  same = rw (c.new.ensures.items, c.new-2.ensures.items) (read_from-values (map sign_of (lines_of c.args.text.now)) [] 2);
}

pub returns-then-is_end : goal.returns-then-is_end
returns-then-is_end c =
    read_ended _ (found_by c.loop-line.reader) (found_by c.take.new.self) c.loop-line.rest.now c.in-Some.line.now c.in-Some.after.now _ (open_names c.loop-line.reader) c.loop-line.reader.goes_on c.loop-line.number
    c.loop-line.invariant.same c.in-Some.ensures.found c.read_line.ensures (rw c.if-is_end.true at c.in_ok-is_end.ensures) c.in_ok-only_line_ends.ensures
