use Rattle.std.proofs.Common.{◌∙◌, ap, refl}
use Rattle.desk_codes.specs.Number.{number_of}
use Rattle.desk_rules.specs.Content.{history_of}
use Rattle.memory_rows.specs.RowsView.{view_of_rows}
use Rattle.memory_short.specs.DuePlaces.{place_at}
use Rattle.memory_short.proofs.ResultLemmas.{where_it_went}
use Rattle.memory_short.proofs.WakeLemmas.{day_of_later, put_at, puts_in}
use Rattle.memory_short.proofs.shortages.Shortages.note_made.Goals as goal

pub returns-else-is_err : goal.returns-else-is_err
returns-else-is_err c = λ known later at.
    let day = day_of_later (history_of (view_of_rows c.args.held.now).content) c.args.number c.in-Some.day later c.in-Some.ensures at in
    put_at c.args.self.now _ c.args.number c.yyyymmdd.result (number_of later.instruction.day) (c.yyyymmdd.ensures ∙ ap number_of day)
    (puts_in c.args.self.now _ (place_at c.yyyymmdd.result c.args.number) (λ is. is) refl refl (where_it_went c.begin_count.result c.if-is_err.ensures.value c.begin_count.ensures.there) c.begin_count.ensures.others)
