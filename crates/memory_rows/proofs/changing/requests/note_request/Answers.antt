use Rattle.std.proofs.Common.{true, ap, ◌∙◌}
use Rattle.desk_rules.specs.declared.history.standing.Standing.{Standing}
use Rattle.desk_register.specs.Changes.{standing_at, with_request}
use Rattle.memory_rows.specs.Lists.{standing_in}
use Rattle.memory_rows.proofs.BalanceLemmas.{on_ok}
use Rattle.memory_rows.proofs.changing.requests.note_request.Goals as goal

pub returns-in_default-clause-noted : goal.returns-in_default-clause-noted
returns-in_default-clause-noted c = ap (λ o. with_request o (standing_in c.args.lists.now.standings.items)) c.in_default.ensures.requested

pub returns-clause-noted : goal.returns-clause-noted
returns-clause-noted c =
    let standing = standing_in c.args.lists.now.standings.items in
    on_ok c.stand_number.result
    (λ is. is ∙ ap (λ (s : Standing). standing_at standing c.in-Some.number (record s { cancel_requested = true })) c.standing.ensures ∙ ap (λ o. with_request o standing) c.in-Some.ensures.requested)
    c.stand_number.ensures.stands
