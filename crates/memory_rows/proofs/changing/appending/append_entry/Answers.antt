use Rattle.std.proofs.Common.{◌≡◌, map, ◌∙◌}
use Rattle.desk_register.specs.Changes.{requests_noted}
use Rattle.memory_rows.specs.Lists.{listed, standing_in}
use Rattle.memory_rows.proofs.AppendLemmas.{appended_well, same_balances, totals_well}
use Rattle.memory_rows.proofs.SoundLemmas.{sound_appended}
use Rattle.memory_rows.proofs.changing.appending.append_entry.Goals as goal

pub returns-clause-added : goal.returns-clause-added
returns-clause-added c =
    let moves = c.in_ok-move_balances.ensures in
    let notes = c.in_ok-note_request.ensures in
    let noted = listed c.note_request.new.lists in
    let stands : standing_in noted.standings ≡ requests_noted (map (λ k. k.entry) c.args.lists.now.kept.items) c.args.entry (standing_in c.args.lists.now.standings.items) =
    notes.noted ∙ (λ i. requests_noted (map (λ k. k.entry) (moves.rest.kept i)) c.args.entry (standing_in (moves.rest.standings i))) in
    appended_well c.push_entry.result (listed c.args.lists.now) noted (listed c.push_entry.new.lists) c.args.entry c.args.reply c.note_request.new.lists.standing_each
    (notes.rest.kept ∙ moves.rest.kept) (notes.rest.sent ∙ moves.rest.sent) stands (same_balances (listed c.move_balances.new.lists) noted notes.rest ∙ moves.moved) (rw (c.first_standing-standing.ensures, c.trimmed_reply-reply.ensures) at c.push_entry.ensures.added)

pub move_balances-requires-clause-fits : goal.move_balances-requires-clause-fits
move_balances-requires-clause-fits c = c.requires.fits.1.balances

pub returns-clause-sound : goal.returns-clause-sound
returns-clause-sound c =
    let moves = c.in_ok-move_balances.ensures in
    let notes = c.in_ok-note_request.ensures in
    let noted = listed c.note_request.new.lists in
    sound_appended c.push_entry.result (listed c.args.lists.now) (listed c.push_entry.new.lists) c.requires.fits.0 c.args.entry c.args.reply c.requires.sound c.requires.fits.1 (returns-clause-added c)
    (totals_well c.push_entry.result (listed c.args.lists.now) noted (listed c.push_entry.new.lists) c.args.entry c.args.reply c.requires.sound.totals c.requires.fits.1.balances
    (notes.rest.kept ∙ moves.rest.kept) (same_balances (listed c.move_balances.new.lists) noted notes.rest ∙ moves.moved) (rw (c.first_standing-standing.ensures, c.trimmed_reply-reply.ensures) at c.push_entry.ensures.added))
