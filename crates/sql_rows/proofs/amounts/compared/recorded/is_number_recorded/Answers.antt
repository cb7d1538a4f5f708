use Rattle.sql_tables.specs.Audits.{of_register}
use Rattle.sql_tables.specs.declared.fault.AuditFault.TheVariants.{Register}
use Rattle.sql_tables.proofs.LookLemmas.{look_none}
use Rattle.desk_register.proofs.ReadLemmas.{read_idle, read_one, read_then}
use Rattle.sql_rows.proofs.StepLemmas.{cause_unasked, look_unasked, none_told, read_fault}
use Rattle.sql_rows.proofs.amounts.compared.recorded.is_number_recorded.Goals as goal

pub returns-in-Some-clause-read : goal.returns-in-Some-clause-read
returns-in-Some-clause-read g c =
    let v0 = g.R.Register.view c.args.register.now in
    let v1 = g.R.Register.view c.entry.new.self in
    let v2 = g.R.Register.view c.is_entry_recorded.new.register in
    read_then v0 v1 v2 (read_one c.in_ok-entry.entry v0 v1 c.in_ok-entry.ensures.read) (of_register c.is_entry_recorded.result) c.is_entry_recorded.ensures.read

pub returns-in_err-entry-clause-says : goal.returns-in_err-entry-clause-says
returns-in_err-entry-clause-says g c = λ clean is_open has honest sure amounts. none_told (Register c.in_err-entry.field-0.0) c.from_residual.result c.from_residual.ensures.1 _

pub returns-in_err-entry-clause-exact : goal.returns-in_err-entry-clause-exact
returns-in_err-entry-clause-exact g c = λ clean is_open has honest sure all few. none_told (Register c.in_err-entry.field-0.0) c.from_residual.result c.from_residual.ensures.1 _

pub returns-in_err-entry-clause-look : goal.returns-in_err-entry-clause-look
returns-in_err-entry-clause-look g c = look_unasked c.in_err-entry.field-0.0 c.from_residual.result c.from_residual.ensures.1 (g.S.Session.state c.args.conn.now) (g.S.Session.state c.args.conn.now) (look_none tt (g.S.Session.state c.args.conn.now))

pub returns-in_err-entry-clause-blame : goal.returns-in_err-entry-clause-blame
returns-in_err-entry-clause-blame g c = λ clean is_open has amounts. cause_unasked c.in_err-entry.field-0.0 c.from_residual.result c.from_residual.ensures.1 (g.S.Session.state c.args.conn.now) (g.S.Session.state c.args.conn.now)

pub returns-in_err-entry-clause-read : goal.returns-in_err-entry-clause-read
returns-in_err-entry-clause-read g c = read_fault c.in_err-entry.field-0.0 c.from_residual.result c.from_residual.ensures.1 (g.R.Register.view c.args.register.now) (g.R.Register.view c.entry.new.self) c.in_err-entry.ensures.read

pub is_entry_recorded-requires : goal.is_entry_recorded-requires
is_entry_recorded-requires g c = record { stage = read_idle (g.R.Register.view c.args.register.now) (g.R.Register.view c.entry.new.self) (read_one c.in_ok-entry.entry (g.R.Register.view c.args.register.now) (g.R.Register.view c.entry.new.self) c.in_ok-entry.ensures.read) c.requires.stage }

pub returns-in-None-clause-look : goal.returns-in-None-clause-look
returns-in-None-clause-look g c = look_none tt (g.S.Session.state c.args.conn.now)

pub returns-in-None-clause-read : goal.returns-in-None-clause-read
returns-in-None-clause-read g c = read_one c.in_ok-entry.entry (g.R.Register.view c.args.register.now) (g.R.Register.view c.entry.new.self) c.in_ok-entry.ensures.read
