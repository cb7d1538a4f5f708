use Rattle.desk_report.proofs.OnePending.{list_exists, one_list}
use Rattle.desk_report.proofs.laws.one_pending.Goals as goal

pub returns : goal.returns
returns c = record { exists = list_exists; unique = one_list }
