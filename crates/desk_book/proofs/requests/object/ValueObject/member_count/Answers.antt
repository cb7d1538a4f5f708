use Rattle.std.proofs.Common.{sym, ◌∙◌, ap, option_map, Some}
use Rattle.serde_json.specs.Events.{members_len}
use Rattle.serde_json.proofs.Views.{members_len-members_view}
use Rattle.desk_book.proofs.ExactLemmas.{ordered_view, ordered_object}
use Rattle.desk_book.proofs.requests.object.ValueObject.member_count.Goals as goal

pub returns-clause-count : goal.returns-clause-count
returns-clause-count c =
    ap Some (c.len.ensures.len ∙ sym (members_len-members_view c.in_ok-members.members.now.entries)) ∙ ap (option_map members_len) c.in_ok-members.ensures

pub returns-clause-ordered : goal.returns-clause-ordered
returns-clause-ordered c = ordered_object _ _ c.in_ok-members.ensures (ordered_view c.in_ok-members.members.now.entries c.len.ensures.ordered)
