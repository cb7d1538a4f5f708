use Rattle.std.proofs.Common.{arith}
use Rattle.sql_entries.proofs.entry.account_in.Goals as goal

pub returns-in_err-bic_at-clause-all : goal.returns-in_err-bic_at-clause-all
returns-in_err-bic_at-clause-all c reference bic account long says spelt = absurd (let e = c.in_err-bic_at.ensures.all bic (omega (arith, long)) says.1 spelt.1 in cc)
