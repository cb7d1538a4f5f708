-- The parts, from the last to the first.
use Rattle.std.proofs.Common.{◌≡◌, [], drop, arith}
use Rattle.std.proofs.lemmas.List.{drop_all}
use Rattle.desk_book.proofs.RowTextLemmas.{cash_parts}
use Rattle.desk_book.proofs.answers.total.cash_row.Goals as goal

pub returns-clause-row : goal.returns-clause-row
returns-clause-row c =
    let nothing : drop 96 c.args.room.now ≡ [] = drop_all 96 c.args.room.now (omega arith) in
    let parts = cash_parts c.args.total.now in
    cc c.as_bytes.ensures
