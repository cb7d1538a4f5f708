use Rattle.std.proofs.Common.{◌≡◌, ◌+◌, sym, subst, ap, ◌∙◌, take, List, ◌++◌, ◌∷◌, [], arith}
use Rattle.std.proofs.lemmas.List.{take_more}
use Rattle.desk_msg.specs.declared.writing.statement_row.StatementRow.{StatementRow}
use Rattle.desk_msg.specs.TookRows.{TookAll}
use Rattle.desk_msg.proofs.TakenRows.{TookAll-push}
use Rattle.desk_msg.proofs.writing.holdings.take_all.Goals as goal

pub loop-row-preserved : goal.loop-row-preserved
loop-row-preserved g c =
    let front : List StatementRow = take c.loop-row.row-index c.args.rows.now in
    let more : take (c.loop-row.row-index + 1) c.args.rows.now ≡ front ++ c.row-item.result ∷ [] =
    take_more c.args.rows.now c.loop-row.row-index c.row-item.result (omega arith) ∙ ap (λ row. front ++ row ∷ []) (sym c.row-item.is) in
    let P : List StatementRow → Type 0 = λ rows. TookAll g.S.RowSink.took c.args.sink.now rows c.take.new.self in
    subst P (sym more)
    (TookAll-push g.S.RowSink.took c.args.sink.now front c.loop-row.sink c.row-item.result c.take.new.self c.loop-row.invariant c.in_ok-take.ensures.took)
