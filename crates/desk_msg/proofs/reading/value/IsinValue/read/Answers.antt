use Rattle.std.proofs.Common.{sym, ap}
use Rattle.desk_text.specs.Seen.{found_of, texts}
use Rattle.desk_msg.proofs.RowLemmas.{security_said}
use Rattle.desk_msg.proofs.reading.value.IsinValue.read.Goals as goal

pub returns : goal.returns
returns c =
    security_said c.args._row.now (found_of c.args.field.now) c.as_slice.result.now c.in_ok-line.line.now c.security_of.result (ap texts (sym c.as_slice.ensures)) c.in_ok-line.ensures.value c.security_of.ensures
