use Rattle.desk_msg.proofs.TakenRows.{all_taken, statement_written}
use Rattle.desk_msg.proofs.laws.rows_make_statement.Goals as goal

pub returns : goal.returns
returns g c = record {
  text = λ first last rows end begun steps. statement_written g.W.Write.contents first rows last end (all_taken g.W.Write.contents first rows last begun steps);
  writer = λ first last rows begun steps. (all_taken g.W.Write.contents first rows last begun steps).same_writer;
}
