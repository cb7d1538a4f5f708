use Rattle.std.proofs.Common.{◌≡◌, Some, rules}
use Rattle.desk_rules.specs.History.{instruction_at}
use Rattle.desk_rules.specs.Content.{history_of}
use Rattle.memory_rows.specs.Lists.{content_in, listed, standing_in}
use Rattle.desk_rules.specs.declared.history.standing.State.TheVariants.{Unmatched}
use Rattle.memory_rows.proofs.SearchLemmas.{opposite_of}
use Rattle.memory_rows.proofs.looking.opposites.is_opposite_at.Goals as goal

pub returns : goal.returns
returns c =
    let content = content_in (listed c.args.lists.now) in
    let is : instruction_at (history_of content) c.args.number ≡ Some c.in-Some.other = search rules in
    let unmatched : (standing_in (listed c.args.lists.now).standings c.args.number).state ≡ Unmatched = search rules in (
      λ found. record { other = c.in-Some.other; is_other = is; opposite = c.are_opposite.ensures.0 found; unmatched = unmatched },
      λ o. c.are_opposite.ensures.1 (opposite_of content c.args.wanted.now c.in-Some.other c.args.number is o),
    )
