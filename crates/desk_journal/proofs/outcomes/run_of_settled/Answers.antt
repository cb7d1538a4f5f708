-- The run that the notice of the confirmation tells.
use Rattle.std.proofs.Common.{subst}
use Rattle.desk_register.proofs.ReadLemmas.{read_none, read_one}
use Rattle.desk_register.proofs.ReadingLemmas.{read_so}
use Rattle.desk_journal.specs.Sending.{IsPlaceOf}
use Rattle.desk_journal.proofs.SettledRunLemmas.{no_run, run_there, run_told}
use Rattle.desk_journal.proofs.StepLemmas.{read_broke}
use Rattle.desk_journal.proofs.outcomes.run_of_settled.Goals as goal

pub returns-in_err-place-clause-read : goal.returns-in_err-place-clause-read
returns-in_err-place-clause-read g c =
    let v0 = g.R.Register.view c.args.register.now in
    read_broke c.in_err-place.field-0.0 c.from_residual.result v0 v0 (g.R.Register.view c.confirmed_place.new.register) c.from_residual.ensures.1 (read_none v0) c.in_err-place.ensures.read

pub returns-in_default-clause-read : goal.returns-in_default-clause-read
returns-in_default-clause-read g c =
    let v0 = g.R.Register.view c.args.register.now in
    let v1 = g.R.Register.view c.confirmed_place.new.register in
    read_so v0 v1 (read_one c.in_ok-place.field-0 v0 v1 c.in_ok-place.ensures.read) _

pub returns-in-Some-get-clause-read : goal.returns-in-Some-get-clause-read
returns-in-Some-get-clause-read g c =
    let v0 = g.R.Register.view c.args.register.now in
    let v1 = g.R.Register.view c.confirmed_place.new.register in
    read_so v0 v1 (read_one c.in_ok-place.field-0 v0 v1 c.in_ok-place.ensures.read) _

pub returns-in-None-clause-read : goal.returns-in-None-clause-read
returns-in-None-clause-read g c =
    let v0 = g.R.Register.view c.args.register.now in
    let v1 = g.R.Register.view c.confirmed_place.new.register in
    read_so v0 v1 (read_one c.in_ok-place.field-0 v0 v1 c.in_ok-place.ensures.read) _

pub returns-in_default-clause-run : goal.returns-in_default-clause-run
returns-in_default-clause-run g c = λ books honest sure tables same settled.
    no_run books c.args.number (subst (IsPlaceOf books c.args.number) c.in_default.is (c.in_ok-place.ensures.place books honest sure tables))

pub returns-in-Some-get-clause-run : goal.returns-in-Some-get-clause-run
returns-in-Some-get-clause-run g c = λ books honest sure tables same settled.
    run_told books c.args.number c.in-Some.place c.args.notices.now same (subst (IsPlaceOf books c.args.number) c.in-Some.is (c.in_ok-place.ensures.place books honest sure tables)) c.in-Some-get.notice.now c.in-Some-get.ensures.lookup.1

pub returns-in-None-clause-run : goal.returns-in-None-clause-run
returns-in-None-clause-run g c = λ books honest sure tables same settled.
    absurd (run_there books c.args.number c.in-Some.place c.args.notices.now same (subst (IsPlaceOf books c.args.number) c.in-Some.is (c.in_ok-place.ensures.place books honest sure tables)) c.in-None.ensures.lookup.0)
