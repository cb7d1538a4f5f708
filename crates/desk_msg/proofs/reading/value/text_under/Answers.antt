use Rattle.desk_text.specs.Seen.{found_of}
use Rattle.desk_msg.proofs.ValueLemmas.{text_under}
use Rattle.desk_msg.proofs.reading.value.text_under.Goals as goal

pub returns : goal.returns
returns c = text_under c.args.row.now.begins.now (found_of c.args.field.now) c.in_ok-rest.rest.now c.text_behind.result c.in_ok-rest.ensures c.text_behind.ensures
