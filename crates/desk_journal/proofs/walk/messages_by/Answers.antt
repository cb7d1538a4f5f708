use Rattle.std.proofs.Common.{rules}
use Rattle.desk_journal.proofs.RangeLemmas.{messages_told}
use Rattle.desk_journal.proofs.walk.messages_by.Goals as goal

pub returns : goal.returns
returns c = search (rules, messages_told)
