use Rattle.desk_report.proofs.AccountLemmas.{accounts_exist, one_account_list}
use Rattle.desk_report.proofs.laws.one_accounts.Goals as goal

pub returns : goal.returns
returns c = record { exists = accounts_exist; unique = one_account_list }
