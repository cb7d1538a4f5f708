use Rattle.std.proofs.Common.{arith}
use Rattle.sql_entries.proofs.entry.cancellation_in.Goals as goal

pub returns-in_err-bic_at-clause-all : goal.returns-in_err-bic_at-clause-all
returns-in_err-bic_at-clause-all c sender order long says spelt = absurd (let e = c.in_err-bic_at.ensures.all sender (omega (arith, long)) says.0 spelt.0 in cc)
