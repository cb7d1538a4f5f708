use Rattle.std.proofs.Common.{rules}
use Rattle.desk_file.proofs.AloneLemmas.{alone_fault, alone_finds, alone_opened}
use Rattle.desk_file.proofs.tables.adopt_tables.Goals as goal

pub returns-clause-opened : goal.returns-clause-opened
returns-clause-opened g c = search (rules, alone_opened)

pub returns-clause-which : goal.returns-clause-which
returns-clause-which g c = search (rules, alone_finds)

pub returns-clause-back : goal.returns-clause-back
returns-clause-back g c = search (rules, alone_fault)

pub returns-clause-refused : goal.returns-clause-refused
returns-clause-refused g c = search (rules, alone_fault)

pub returns-clause-other : goal.returns-clause-other
returns-clause-other g c = search (rules, alone_fault)
