use Rattle.std.proofs.Common.{◌≡◌, rules}
use Rattle.std.specs.Prelude.{Err}
use Rattle.desk_register.proofs.ReadLemmas.{read_more, read_one, read_then}
use Rattle.desk_register.proofs.ReadingLemmas.{broke_off}
use Rattle.desk_book.proofs.ReadEnds.{memory_after}
use Rattle.desk_book.proofs.answers.questions.instruction_status.Goals as goal

pub returns-in-NoInstruction-clause-read : goal.returns-in-NoInstruction-clause-read
returns-in-NoInstruction-clause-read g c =
    let v0 = g.R.Register.view c.args.register.now in
    let v1 = g.R.Register.view c.standing.new.self in
    let so_far = read_one _ v0 v1 c.in_ok-standing.ensures.read in
    memory_after c.refused.result v0 v1 so_far c.requires.stage c.refused.ensures.memory

pub returns-in-Unmatched-clause-read : goal.returns-in-Unmatched-clause-read
returns-in-Unmatched-clause-read g c =
    let v0 = g.R.Register.view c.args.register.now in
    let v1 = g.R.Register.view c.standing.new.self in
    let v2 = g.R.Register.view c.instruction_advice.new.register in
    let so_far = read_one _ v0 v1 c.in_ok-standing.ensures.read in
    read_then v0 v1 v2 so_far c.instruction_advice.result c.instruction_advice.ensures.read

pub returns-in-Matched-clause-read : goal.returns-in-Matched-clause-read
returns-in-Matched-clause-read g c =
    let v0 = g.R.Register.view c.args.register.now in
    let v1 = g.R.Register.view c.standing.new.self in
    let v2 = g.R.Register.view c.instruction_advice-in-Matched.new.register in
    let so_far = read_one _ v0 v1 c.in_ok-standing.ensures.read in
    read_then v0 v1 v2 so_far c.instruction_advice-in-Matched.result c.instruction_advice-in-Matched.ensures.read

pub returns-in-Cancelled-clause-read : goal.returns-in-Cancelled-clause-read
returns-in-Cancelled-clause-read g c =
    let v0 = g.R.Register.view c.args.register.now in
    let v1 = g.R.Register.view c.standing.new.self in
    let v2 = g.R.Register.view c.instruction_advice-in-Cancelled.new.register in
    let so_far = read_one _ v0 v1 c.in_ok-standing.ensures.read in
    read_then v0 v1 v2 so_far c.instruction_advice-in-Cancelled.result c.instruction_advice-in-Cancelled.ensures.read

pub returns-in_err-found-in-Settled-clause-read : goal.returns-in_err-found-in-Settled-clause-read
returns-in_err-found-in-Settled-clause-read g c =
    let v0 = g.R.Register.view c.args.register.now in
    let v1 = g.R.Register.view c.standing.new.self in
    let v2 = g.R.Register.view c.confirmation.new.self in
    let so_far = read_one _ v0 v1 c.in_ok-standing.ensures.read in
    let is : c.from_residual-in_err-found-in-Settled.result ≡ Err c.in_err-found-in-Settled.field-0.0 = search rules in
    rw is (broke_off v0 v1 so_far c.in_err-found-in-Settled.field-0.0 v2 c.in_err-found-in-Settled.ensures.read)

pub returns-in_ok-found-in-Settled-clause-read : goal.returns-in_ok-found-in-Settled-clause-read
returns-in_ok-found-in-Settled-clause-read g c =
    let v0 = g.R.Register.view c.args.register.now in
    let v1 = g.R.Register.view c.standing.new.self in
    let v2 = g.R.Register.view c.confirmation.new.self in
    let so_far = read_one _ v0 v1 c.in_ok-standing.ensures.read in
    memory_after c.sent_text.result v0 v2 (read_more _ v0 v1 v2 so_far c.in_ok-found-in-Settled.ensures.read) c.requires.stage c.sent_text.ensures.memory
