use Rattle.desk_text.specs.Seen.{found_of}
use Rattle.desk_msg.specs.Finding.{found_all, row_seen}
use Rattle.desk_msg.proofs.RowLemmas.{row_value}
use Rattle.desk_msg.proofs.reading.rows.read_row.Goals as goal

pub returns : goal.returns
returns g c =
    row_value g.T.Value.said (found_all c.args.fields.now) (row_seen g.T.Value.form c.args.row.now) (found_of c.in_ok-field.field.now) c.in_ok-field.ensures
    c.read.result c.ok_or.result c.read.ensures c.ok_or.ensures.value
