use Rattle.desk_register.proofs.ReadLemmas.{read_more}
use Rattle.desk_book.proofs.TellingLemmas.{walk_broke}
use Rattle.desk_report.proofs.sums.write_securities.Goals as goal

pub returns-in_err-write_security-clause-read : goal.returns-in_err-write_security-clause-read
returns-in_err-write_security-clause-read g c =
    let view = g.R.Register.view in
    let v0 = view c.args.register.now in
    let v1 = view c.security_after.new.self in
    walk_broke c.in_err-write_security.field-0.0 c.from_residual-in_err-write_security.result v0 v1 (view c.write_security.new.register) c.from_residual-in_err-write_security.ensures.1
    (read_more c.in_ok-isin.field-0 v0 (view c.securities.register) v1 c.securities.invariant c.in_ok-isin.ensures.read) c.in_err-write_security.ensures.read
