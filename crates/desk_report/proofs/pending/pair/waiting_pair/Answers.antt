-- The later instruction and then its mate.
use Rattle.desk_register.proofs.ReadLemmas.{read_none, read_one}
use Rattle.desk_register.proofs.ReadingLemmas.{gives_up}
use Rattle.desk_report.proofs.PendingReadLemmas.{mate_known, no_mate, not_matched, pair_read}
use Rattle.desk_report.proofs.StepLemmas.{read_both, read_broke}
use Rattle.desk_report.proofs.pending.pair.waiting_pair.Goals as goal

pub returns-in_err-later-clause-read : goal.returns-in_err-later-clause-read
returns-in_err-later-clause-read g c =
    let v0 = g.R.Register.view c.args.register.now in
    read_broke c.in_err-later.field-0.0 c.from_residual.result v0 v0 (g.R.Register.view c.read_leg.new.register) c.from_residual.ensures.1 (read_none v0) c.in_err-later.ensures.read

pub returns-in_default-clause-read : goal.returns-in_default-clause-read
returns-in_default-clause-read g c =
    let first = c.in_ok-later.ensures in
    let v0 = g.R.Register.view c.args.register.now in
    let v1 = g.R.Register.view c.read_leg.new.register in
    gives_up v0 v1 (read_one c.in_ok-later.later v0 v1 first.read) c.requires.stage (no_mate v0 v1 c.args.place c.in_ok-later.later c.requires.known first.read first.value c.in_default.is)

pub returns-in_default-state-clause-read : goal.returns-in_default-state-clause-read
returns-in_default-state-clause-read g c =
    let first = c.in_ok-later.ensures in
    let v0 = g.R.Register.view c.args.register.now in
    let v1 = g.R.Register.view c.read_leg.new.register in
    gives_up v0 v1 (read_one c.in_ok-later.later v0 v1 first.read) c.requires.stage (not_matched v0 v1 c.args.place c.in_ok-later.later c.requires.known first.read first.value c.in_default-state.not-Matched)

pub read_leg-requires-2-clause-known : goal.read_leg-requires-2-clause-known
read_leg-requires-2-clause-known g c =
    let first = c.in_ok-later.ensures in
    mate_known (g.R.Register.view c.args.register.now) (g.R.Register.view c.read_leg.new.register) c.args.place c.in_ok-later.later c.requires.known first.read first.value c.in-Some.mate c.in-Some.is

pub returns-in_err-earlier-clause-read : goal.returns-in_err-earlier-clause-read
returns-in_err-earlier-clause-read g c =
    let v0 = g.R.Register.view c.args.register.now in
    let v1 = g.R.Register.view c.read_leg.new.register in
    read_broke c.in_err-earlier.field-0.0 c.from_residual-in_err-earlier.result v0 v1 (g.R.Register.view c.read_leg-2.new.register) c.from_residual-in_err-earlier.ensures.1
    (read_one c.in_ok-later.later v0 v1 c.in_ok-later.ensures.read) c.in_err-earlier.ensures.read

pub returns-clause-value : goal.returns-clause-value
returns-clause-value g c =
    let first = c.in_ok-later.ensures in
    let second = c.in_ok-earlier.ensures in
    let pair = c.sided.ensures in
    pair_read (g.R.Register.view c.args.register.now) (g.R.Register.view c.read_leg.new.register) (g.R.Register.view c.read_leg-2.new.register) c.args.place c.in-Some.mate c.in-Matched.reason c.in_ok-later.later c.in_ok-earlier.earlier c.sided.result
    c.requires.known first.read first.value c.in-Some.is c.in-Matched.is second.read second.value pair.reason pair.later pair.deliverer pair.receiver

pub returns-clause-read : goal.returns-clause-read
returns-clause-read g c =
    read_both c.in_ok-later.later c.in_ok-earlier.earlier _ (g.R.Register.view c.args.register.now) (g.R.Register.view c.read_leg.new.register) (g.R.Register.view c.read_leg-2.new.register) c.in_ok-later.ensures.read
    c.in_ok-earlier.ensures.read
