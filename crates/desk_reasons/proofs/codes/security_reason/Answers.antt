use Rattle.std.proofs.Common.{rules}
use Rattle.desk_reasons.proofs.ValueLemmas.{isin_told}
use Rattle.desk_reasons.proofs.codes.security_reason.Goals as goal

pub returns : goal.returns
returns c = isin_told c.args.line.now c.rest_of.result.now c.isin_reason.result (search rules) c.rest_of.ensures c.isin_reason.ensures
