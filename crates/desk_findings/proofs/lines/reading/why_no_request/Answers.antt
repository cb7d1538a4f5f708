use Rattle.std.proofs.Common.{subst}
use Rattle.desk_book.proofs.FormLemmas.{even_none}
use Rattle.desk_book.specs.Lines.{script_lines}
use Rattle.desk_book.specs.Script.{BeginsWith, item_of}
use Rattle.desk_book.specs.declared.requests.script.Item.{Item}
use Rattle.desk_book.specs.Asked.{asked_by}
use Rattle.desk_findings.specs.LineFaults.{request}
use Rattle.desk_findings.proofs.LineLemmas.{bad_for, nothing_at_all, skipped_first}
use Rattle.desk_findings.proofs.lines.reading.why_no_request.Goals as goal

pub returns-in_err-line-clause-none : goal.returns-in_err-line-clause-none
returns-in_err-line-clause-none c = even_none c.from_residual.result (nothing_at_all c.args.script.now c.in_err-line.ensures.none)

pub returns-then-is_skipped-clause-none : goal.returns-then-is_skipped-clause-none
returns-then-is_skipped-clause-none c = skipped_first c.args.script.now c.in_ok-line.line.now c.said_by-said.result.now _ c.is_skipped.result c.in_ok-line.ensures.first c.said_by-said.ensures c.is_skipped.ensures c.if-is_skipped.true

pub returns-in-Some-BadLine-default-clause-fault : goal.returns-in-Some-BadLine-default-clause-fault
returns-in-Some-BadLine-default-clause-fault c =
    let P : Item → Type 0 = λ item. BeginsWith (script_lines c.args.script.now) (item_of item) c.in-Some-BadLine-default.field-0-1.now in
    bad_for c.args.script.now c.in_ok-line.line.now c.said_by-said.result.now c.in-Some-BadLine-default.field-0-1.now _ c.line_fault.result c.unwrap_or.result c.in_ok-line.ensures.first c.said_by-said.ensures (subst P c.in-Some-BadLine-default.field-0-0-is c.in-Some-BadLine-default.ensures.first)
    c.line_fault.ensures.fault c.line_fault.ensures.right c.unwrap_or.ensures

pub returns-in-Some-Ask-default-clause-none : goal.returns-in-Some-Ask-default-clause-none
returns-in-Some-Ask-default-clause-none c =
    let P : Item → Type 0 = λ item. BeginsWith (script_lines c.args.script.now) (item_of item) c.in-Some-Ask-default.field-0-1.now in
    request (asked_by c.in-Some-Ask-default.field-0-0-0) c.in-Some-Ask-default.field-0-1.now (subst P c.in-Some-Ask-default.field-0-0-is c.in-Some-Ask-default.ensures.first)
