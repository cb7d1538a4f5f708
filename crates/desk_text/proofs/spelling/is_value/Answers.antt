use Rattle.std.proofs.Common.{sym, ◌∙◌, ap, ◌&&◌}
use Rattle.std.specs.List.{list_all}
use Rattle.desk_text.specs.Lines.{value_lines}
use Rattle.desk_text.specs.BlockGrammar.{is_further}
use Rattle.desk_text.proofs.LinesLemmas.{value_lines-found, value_lines-last, value_more, value_one}
use Rattle.desk_text.proofs.spelling.is_value.Goals as goal

pub returns-then-is_printable_line : goal.returns-then-is_printable_line
returns-then-is_printable_line c =
    c.are_further_lines.ensures
    ∙ ap (λ b. b && list_all is_further (value_lines c.in-Some.further.now)) (sym c.if-is_printable_line.true ∙ c.is_printable_line.ensures)
    ∙ sym (value_more c.args.value.now c.in-Some.first.now c.in-Some.further.now (value_lines-found c.args.value.now c.in-Some.first.now c.in-Some.further.now c.in-Some.ensures.found))

pub returns-else-is_printable_line : goal.returns-else-is_printable_line
returns-else-is_printable_line c =
    c.if-is_printable_line.false
    ∙ ap (λ b. b && list_all is_further (value_lines c.in-Some.further.now)) (sym c.if-is_printable_line.false ∙ c.is_printable_line.ensures)
    ∙ sym (value_more c.args.value.now c.in-Some.first.now c.in-Some.further.now (value_lines-found c.args.value.now c.in-Some.first.now c.in-Some.further.now c.in-Some.ensures.found))

pub returns-in-None : goal.returns-in-None
returns-in-None c = c.is_printable_line-in-None.ensures ∙ sym (value_one c.args.value.now (value_lines-last c.args.value.now c.in-None.ensures.none))
