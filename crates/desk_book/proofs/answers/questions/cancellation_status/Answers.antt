use Rattle.std.proofs.Common.{◌≡◌, rules}
use Rattle.std.specs.Prelude.{Err}
use Rattle.desk_register.proofs.ReadLemmas.{read_more, read_one, read_then}
use Rattle.desk_register.proofs.ReadingLemmas.{broke_off}
use Rattle.desk_book.proofs.answers.questions.cancellation_status.Goals as goal

pub returns-in_default-clause-read : goal.returns-in_default-clause-read
returns-in_default-clause-read g c =
    let v0 = g.R.Register.view c.args.register.now in
    let v1 = g.R.Register.view c.instruction_named.new.register in
    let v2 = g.R.Register.view c.advice.new.register in
    let so_far = read_one _ v0 v1 c.in_ok-number.ensures.read in
    read_then v0 v1 v2 so_far c.advice.result c.advice.ensures.read

pub returns-in_err-standing-clause-read : goal.returns-in_err-standing-clause-read
returns-in_err-standing-clause-read g c =
    let v0 = g.R.Register.view c.args.register.now in
    let v1 = g.R.Register.view c.instruction_named.new.register in
    let v2 = g.R.Register.view c.standing.new.self in
    let so_far = read_one _ v0 v1 c.in_ok-number.ensures.read in
    let is : c.from_residual-in_err-standing.result ≡ Err c.in_err-standing.field-0.0 = search rules in
    rw is (broke_off v0 v1 so_far c.in_err-standing.field-0.0 v2 c.in_err-standing.ensures.read)

pub returns-clause-read : goal.returns-clause-read
returns-clause-read g c =
    let v0 = g.R.Register.view c.args.register.now in
    let v1 = g.R.Register.view c.instruction_named.new.register in
    let v2 = g.R.Register.view c.standing.new.self in
    let v3 = g.R.Register.view c.advice-2.new.register in
    let so_far = read_one _ v0 v1 c.in_ok-number.ensures.read in
    read_then v0 v2 v3 (read_more _ v0 v1 v2 so_far c.in_ok-standing.ensures.read) c.advice-2.result c.advice-2.ensures.read
