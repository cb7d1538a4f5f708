use Rattle.desk_text.specs.Seen.{found_of}
use Rattle.desk_msg.specs.Profile.{IsDayText, day_form, slashed}
use Rattle.desk_msg.specs.Finding.{row_seen}
use Rattle.desk_msg.proofs.RowLemmas.{text_behind}
use Rattle.desk_msg.proofs.reading.value.DayValue.read.Goals as goal

pub returns : goal.returns
returns c =
    text_behind (IsDayText c.args.field.now.tag.now) (row_seen day_form c.args.row.now) (slashed c.args.row.now.begins.now) c.in_ok-text.text.now (found_of c.args.field.now) (λ e. cc) (λ e. cc) (λ y h. h) (λ y h. h)
    c.in_ok-text.ensures c.day_under.result c.day_under.ensures
