use Rattle.desk_rules.proofs.OneContent as laws
use Rattle.desk_rules.proofs.TablesExist.{tables_exist}
use Rattle.desk_rules.proofs.laws.one_content.Goals as goal

pub returns-clause-exists : goal.returns-clause-exists
returns-clause-exists c = tables_exist

pub returns-clause-one : goal.returns-clause-one
returns-clause-one c = laws.one_content
