use Rattle.std.proofs.Common.{codes, refl, ◌∙◌}
use Rattle.std.specs.Cmp.Lexicographic.{same_text}
use Rattle.desk_text.specs.Seen.{found_of}
use Rattle.desk_msg.specs.Finding.{found_all}
use Rattle.desk_msg.proofs.RowLemmas.{function_gives, function_bad}
use Rattle.desk_msg.proofs.reading.rows.read_function.Goals as goal

pub returns-in_default : goal.returns-in_default
returns-in_default c = (refl, function_bad (found_all c.args.fields.now) (found_of c.in_ok-field.field.now) c.in_ok-field.ensures c.in_default.ensures)

pub returns-then-eq : goal.returns-then-eq
returns-then-eq c =
    function_gives (found_all c.args.fields.now) (found_of c.in_ok-field.field.now) (codes "NEWM") c.in-Some.function.now c.in_ok-field.ensures c.in-Some.ensures
    (same_text c.in-Some.function.now c.as_slice.result.now c.if-eq.ensures ∙ c.as_slice.ensures)

pub returns-then-eq-2 : goal.returns-then-eq-2
returns-then-eq-2 c =
    function_gives (found_all c.args.fields.now) (found_of c.in_ok-field.field.now) (codes "CANC") c.in-Some.function.now c.in_ok-field.ensures c.in-Some.ensures
    (same_text c.in-Some.function.now c.as_slice-2.result.now c.if-eq-2.ensures ∙ c.as_slice-2.ensures)
