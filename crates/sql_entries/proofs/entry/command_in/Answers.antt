use Rattle.std.proofs.Common.{◌∙◌}
use Rattle.sql_entries.proofs.SpeltLemmas.{as_account, as_participant}
use Rattle.sql_entries.proofs.entry.command_in.Goals as goal

pub returns-in-1-clause-all : goal.returns-in-1-clause-all
returns-in-1-clause-all c entry n8 n9 long of spelt = let it = as_participant c.args.row.now entry (of.kind_is ∙ c.in-1.is) of.says spelt in c.participant_in.ensures.all it.0 it.1 long it.2 it.3

pub returns-in-2-clause-all : goal.returns-in-2-clause-all
returns-in-2-clause-all c entry n8 n9 long of spelt = let it = as_account c.args.row.now entry (of.kind_is ∙ c.in-2.is) of.says spelt in c.account_in.ensures.all it.0 it.1 it.2 long it.3 it.4
