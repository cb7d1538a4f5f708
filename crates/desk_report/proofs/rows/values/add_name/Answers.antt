use Rattle.desk_report.proofs.NameLemmas.{added}
use Rattle.desk_report.proofs.rows.values.add_name.Goals as goal

pub returns-in_ok-push : goal.returns-in_ok-push
returns-in_ok-push c = λ told same. added c.args.names.now.items c.in_ok-try_from_str.field-0 c.push.new.self.items told c.args.name.now c.args.applies c.if-applies.true c.in_ok-push.ensures.items c.in_ok-try_from_str.ensures same
