use Rattle.std.proofs.Common.{rules}
use Rattle.sqlite.specs.Files.{file_state}
use Rattle.sqlite_wal.specs.Files.{image_at}
use Rattle.desk_file.proofs.AloneLemmas.{alone_fault, alone_found, alone_opened}
use Rattle.desk_file.proofs.tables.open_tables.Goals as goal

pub returns-clause-opened : goal.returns-clause-opened
returns-clause-opened g c = alone_opened file_state c.args.limit c.open_file.result c.alone.result c.alone.ensures c.open_file.ensures.opened

pub returns-clause-which : goal.returns-clause-which
returns-clause-which g c =
    alone_found file_state c.args.limit c.open_file.result c.alone.result c.alone.ensures c.open_file.ensures.opened (image_at g.S.Start) c.open_file.ensures.which

pub returns-clause-back : goal.returns-clause-back
returns-clause-back g c = search (rules, alone_fault)

pub returns-clause-refused : goal.returns-clause-refused
returns-clause-refused g c = search (rules, alone_fault)

pub returns-clause-blame : goal.returns-clause-blame
returns-clause-blame g c = search (rules, alone_fault)

pub returns-clause-other : goal.returns-clause-other
returns-clause-other g c = alone_fault _ c.open_file.result c.alone.result c.alone.ensures c.open_file.ensures.other
