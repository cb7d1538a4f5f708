use Rattle.std.proofs.Common.{sym, ◌∙◌, ap, option_map, Some}
use Rattle.serde_json.specs.Events.{members_len}
use Rattle.serde_json.specs.View.{view}
use Rattle.serde_json.proofs.Views.{members_len-members_view}
use Rattle.desk_book.proofs.ExactLemmas.{ordered_view, ordered_object}
use Rattle.desk_findings.specs.CommandFaults.{members_of}
use Rattle.desk_findings.proofs.CommandLemmas.{of_operation, other_count, same_count, spelled}
use Rattle.desk_findings.proofs.commands.value.value_fault.Goals as goal

pub returns-then-len-needed-clause-fault : goal.returns-then-len-needed-clause-fault
returns-then-len-needed-clause-fault c =
    let d = view c.args.value.now in
    let operation = c.in-Some-operation_of.operation in
    let counted = ap Some (c.len.ensures.len ∙ sym (members_len-members_view c.in-Some.members.now.entries)) ∙ ap (option_map members_len) c.in-Some.ensures in (
      operation,
      c.in-Some-operation_of.ensures.some,
      of_operation d c.members-needed.result.now (members_of operation) c.members-needed.ensures c.in_default-first_wrong.ensures.none,
      other_count d c.members-needed.result.now (members_of operation) c.len.result counted c.members-needed.ensures c.if-len-needed.true,
    )

pub returns-clause-command : goal.returns-clause-command
returns-clause-command c =
    let d = view c.args.value.now in
    let operation = c.in-Some-operation_of.operation in
    let counted = ap Some (c.len.ensures.len ∙ sym (members_len-members_view c.in-Some.members.now.entries)) ∙ ap (option_map members_len) c.in-Some.ensures in
    let ordered = ordered_object _ _ c.in-Some.ensures (ordered_view c.in-Some.members.now.entries c.len.ensures.ordered) in
    spelled d operation ordered (same_count d c.members-needed.result.now (members_of operation) c.len.result counted c.members-needed.ensures c.if-len-needed.false) c.in-Some-operation_of.ensures.some
    (of_operation d c.members-needed.result.now (members_of operation) c.members-needed.ensures c.in_default-first_wrong.ensures.none)
