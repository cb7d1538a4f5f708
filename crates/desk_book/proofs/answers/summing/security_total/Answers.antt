use Rattle.std.proofs.Common.{◌≡◌, rules}
use Rattle.std.specs.Prelude.{Err}
use Rattle.desk_register.proofs.ReadLemmas.{read_more, read_one}
use Rattle.desk_register.proofs.ReadingLemmas.{broke_off, read_so}
use Rattle.desk_book.proofs.answers.summing.security_total.Goals as goal

pub returns-in_err-outstanding-clause-read : goal.returns-in_err-outstanding-clause-read
returns-in_err-outstanding-clause-read g c =
    let v0 = g.R.Register.view c.args.register.now in
    let v1 = g.R.Register.view c.held.new.self in
    let v2 = g.R.Register.view c.outstanding.new.self in
    let so_far = read_one _ v0 v1 c.in_ok-held.ensures.read in
    let is : c.from_residual-in_err-outstanding.result ≡ Err c.in_err-outstanding.field-0.0 = search rules in
    rw is (broke_off v0 v1 so_far c.in_err-outstanding.field-0.0 v2 c.in_err-outstanding.ensures.read)

pub returns-clause-read : goal.returns-clause-read
returns-clause-read g c =
    let v0 = g.R.Register.view c.args.register.now in
    let v1 = g.R.Register.view c.held.new.self in
    let v2 = g.R.Register.view c.outstanding.new.self in
    read_so v0 v2 (read_more _ v0 v1 v2 (read_one _ v0 v1 c.in_ok-held.ensures.read) c.in_ok-outstanding.ensures.read) _
