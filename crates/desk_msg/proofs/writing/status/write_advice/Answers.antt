use Rattle.std.proofs.Common.{List, ℕ, codes, ◌++◌}
use Rattle.desk_text.specs.Fields.{IsBlock}
use Rattle.desk_text.specs.Written.{block_text, fields_written}
use Rattle.desk_text.proofs.LawLemmas.{value-right}
use Rattle.desk_text.proofs.PartLemmas.{parts_block}
use Rattle.desk_msg.specs.AdviceParts.{parts_of}
use Rattle.desk_msg.proofs.AdviceLemmas.{parts_right}
use Rattle.desk_msg.proofs.StatusLemmas.{advice_is, ok_then}
use Rattle.desk_msg.proofs.writing.status.write_advice.Goals as goal

pub returns-clause-text : goal.returns-clause-text
returns-clause-text c =
    let is = advice_is c.args.own.now c.function_value.result.now c.args.digits.now c.args.reference.now c.status_lines-lines.result.front.now c.status_lines-lines.result.value.now c.status_lines-lines.result.end.now c.args.about
    c.requires.own c.requires.digits c.requires.reference c.function_value.ensures.value c.status_lines-lines.ensures in
    rw (← is) c.joined.ensures

pub returns-clause-block : goal.returns-clause-block
returns-clause-block c =
    let own = c.args.own.now in
    let link : List ℕ = codes ":LINK//" ++ c.args.digits.now in
    let related : List ℕ = codes ":RELA//" ++ c.args.reference.now in
    let is = advice_is c.args.own.now c.function_value.result.now c.args.digits.now c.args.reference.now c.status_lines-lines.result.front.now c.status_lines-lines.result.value.now c.status_lines-lines.result.end.now c.args.about
    c.requires.own c.requires.digits c.requires.reference c.function_value.ensures.value c.status_lines-lines.ensures in
    let Q : List ℕ → Type 0 = λ text. IsBlock text (fields_written (parts_of own link related c.args.about)) in
    ok_then (λ t. t.items) c.joined.result (block_text (parts_of own link related c.args.about)) Q (rw (← is) c.joined.ensures)
    (parts_block (parts_of own link related c.args.about) (parts_right own link related c.args.about (value-right own c.requires.own) (value-right link c.requires.digits) (value-right related c.requires.reference)))
