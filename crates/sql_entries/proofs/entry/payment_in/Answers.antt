use Rattle.std.proofs.Common.{arith}
use Rattle.sql_entries.proofs.entry.payment_in.Goals as goal

pub returns-in_err-bic_at-clause-all : goal.returns-in_err-bic_at-clause-all
returns-in_err-bic_at-clause-all c p long says spelt = absurd (let e = c.in_err-bic_at.ensures.all p.bic (omega (arith, long)) says.bic spelt.bic in cc)
