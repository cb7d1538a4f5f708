use Rattle.desk_file.proofs.AgainLemmas.{desks_in, desks_in_most, desks_of}
use Rattle.desk_file.proofs.laws.opens_again.Goals as goal

pub returns-clause-database : goal.returns-clause-database
returns-clause-database c = desks_of

pub returns-clause-files : goal.returns-clause-files
returns-clause-files c = desks_in

pub returns-clause-most : goal.returns-clause-most
returns-clause-most c = desks_in_most
