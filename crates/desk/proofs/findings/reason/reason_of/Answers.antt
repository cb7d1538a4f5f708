use Rattle.std.proofs.Common.{subst}
use Rattle.desk_book.specs.Lines.{script_lines}
use Rattle.desk_book.specs.Script.{BeginsWith, item_of}
use Rattle.desk_book.specs.declared.requests.script.Item.{Item}
use Rattle.desk.proofs.FindingLemmas.{asked_command, asked_message}
use Rattle.desk.proofs.findings.reason.reason_of.Goals as goal

pub returns-in-Operator : goal.returns-in-Operator
returns-in-Operator c =
    let P : Item → Type 0 = λ item. BeginsWith (script_lines c.args.text.now) (item_of item) c.in-Some-Ask-default.field-0-1.now in
    asked_command c.command_reason.result (λ reason. reason.words.items) c.args.text.now c.in-Some-Ask-default.field-0-1.now c.in-Some-Ask-default.request
    (subst P c.in-Some-Ask-default.field-0-0-is c.in-Some-Ask-default.ensures.first) c.in-Operator.is c.command_reason.ensures

pub returns-in-Message : goal.returns-in-Message
returns-in-Message c =
    let P : Item → Type 0 = λ item. BeginsWith (script_lines c.args.text.now) (item_of item) c.in-Some-Ask-default.field-0-1.now in
    asked_message c.message_reason.result (λ reason. reason.words.items) c.args.text.now c.in-Some-Ask-default.field-0-1.now c.in-Some-Ask-default.request _ c.in-Message.kind
    (subst P c.in-Some-Ask-default.field-0-0-is c.in-Some-Ask-default.ensures.first) c.in-Message.is c.message_reason.ensures
