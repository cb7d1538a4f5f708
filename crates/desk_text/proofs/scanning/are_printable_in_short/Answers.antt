use Rattle.std.proofs.Common.{sym, ◌∙◌, arith, ◌-◌, length}
use Rattle.desk_text.specs.BlockGrammar.{is_printable}
use Rattle.desk_text.proofs.LaneLemmas.{last_decides}
use Rattle.desk_text.proofs.scanning.are_printable_in_short.Goals as goal

pub returns : goal.returns
returns c =
    c.are_few_printable_at-2.ensures
    ∙ last_decides is_printable c.args.line.now 8 (length c.args.line.now - 8) 8 (omega (arith, c.requires.few)) (omega (arith, c.requires.some))
    (sym c.are_few_printable_at.ensures ∙ c.if-not-are_few_printable_at.false)
