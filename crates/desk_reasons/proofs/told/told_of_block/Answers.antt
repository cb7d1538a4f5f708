use Rattle.desk_text.specs.Seen.{found_in}
use Rattle.desk_reasons.proofs.RowLemmas.{read_fails}
use Rattle.desk_reasons.proofs.told.told_of_block.Goals as goal

pub told_of_read-requires : goal.told_of_read-requires
told_of_read-requires c = rw c.fields.ensures (read_fails c.args.mt (found_in c.args.block.now) c.read_message.result c.read_message.ensures)

pub returns : goal.returns
returns c = record { read = c.read_message.result; reads = c.read_message.ensures; tells = rw (← c.fields.ensures) c.told_of_read.ensures }
