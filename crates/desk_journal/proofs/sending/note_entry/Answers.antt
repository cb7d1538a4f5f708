-- By the kind of the entry, if there is one.
use Rattle.std.proofs.Common.{◌≡◌, ◌++◌, List, Some, ap, sym, ◌∙◌, subst, append-nil}
use Rattle.std.specs.Prelude.{OnOk}
use Rattle.desk_rules.specs.declared.answers.reply.Notice.{Notice}
use Rattle.desk_rules.specs.Tables.{AreTables}
use Rattle.desk_register.proofs.ViewLemmas.{idle_goes}
use Rattle.desk_register.proofs.ReadLemmas.{kept_so, read_more, read_none, read_one}
use Rattle.desk_register.proofs.ReadingLemmas.{read_so}
use Rattle.desk_journal.proofs.KnownLemmas.{run_known}
use Rattle.desk_journal.proofs.NotingLemmas.{walk_then}
use Rattle.desk_journal.proofs.StepLemmas.{register_broke, row_then}
use Rattle.desk_journal.proofs.ToldLemmas.{by_instruction, by_none, by_other, by_run}
use Rattle.desk_journal.proofs.sending.note_entry.Goals as goal

pub returns-in_err-entry-clause-read : goal.returns-in_err-entry-clause-read
returns-in_err-entry-clause-read g c =
    let v0 = g.R.Register.view c.args.register.now in
    register_broke c.in_err-entry.field-0.0 c.from_residual.result v0 v0 (g.R.Register.view c.entry.new.self) c.from_residual.ensures.1 (read_none v0) c.in_err-entry.ensures.read

pub returns-in_default-clause-noted : goal.returns-in_default-clause-noted
returns-in_default-clause-noted g c = λ books honest sure are.
    let r = c.in_ok-entry.ensures in
    let was = c.args.notices.now.items in
    let at = sym (r.value honest sure (idle_goes _ c.requires.stage)) ∙ c.in_default.is in
    sym (append-nil was) ∙ ap (λ z. was ++ z) (by_none (g.R.Register.view c.args.register.now).content books are c.args.number at)

pub returns-in_default-clause-read : goal.returns-in_default-clause-read
returns-in_default-clause-read g c =
    let v0 = g.R.Register.view c.args.register.now in
    let v1 = g.R.Register.view c.entry.new.self in
    read_so v0 v1 (read_one c.in_ok-entry.field-0 v0 v1 c.in_ok-entry.ensures.read) tt

pub returns-in-Instruct-clause-noted : goal.returns-in-Instruct-clause-noted
returns-in-Instruct-clause-noted g c = λ books honest sure are.
    let r = c.in_ok-entry.ensures in
    let v0 = g.R.Register.view c.args.register.now in
    let v1 = g.R.Register.view c.entry.new.self in
    let read = read_one c.in_ok-entry.field-0 v0 v1 r.read in
    let honest1 = c.note_pair.ensures.read.later.honest honest in
    let at = sym (r.value honest1 sure (idle_goes _ c.requires.stage)) ∙ c.in-Some.is ∙ ap Some c.in-Instruct.is in
    let P : List Notice → Type 0 = λ z. OnOk c.note_pair.result (c.note_pair.new.notices.items ≡ c.args.notices.now.items ++ z) in
    subst P (by_instruction v0.content books are c.args.number c.in-Instruct.sender c.in-Instruct.instruction at)
    (c.note_pair.ensures.noted books honest (read.ok.sure honest1 sure) (kept_so v0 v1 read (AreTables books) honest1 sure are))

pub returns-in-Instruct-clause-read : goal.returns-in-Instruct-clause-read
returns-in-Instruct-clause-read g c =
    let v0 = g.R.Register.view c.args.register.now in
    let v1 = g.R.Register.view c.entry.new.self in
    walk_then c.note_pair.result v0 v1 (g.R.Register.view c.note_pair.new.register) (read_one c.in_ok-entry.field-0 v0 v1 c.in_ok-entry.ensures.read) c.note_pair.ensures.read

pub counts_of_run-requires-clause-known : goal.counts_of_run-requires-clause-known
counts_of_run-requires-clause-known g c =
    let r = c.in_ok-entry.ensures in
    let v0 = g.R.Register.view c.args.register.now in
    run_known v0 (g.R.Register.view c.entry.new.self) c.args.number c.in_ok-entry.field-0 c.in-Run.reference c.in-Run.day c.in-Run.rule r.read c.requires.known
    (λ honest sure. r.value honest sure (idle_goes _ c.requires.stage)) (c.in-Some.is ∙ ap Some c.in-Run.is)

pub returns-in_err-counts-in-Run-clause-read : goal.returns-in_err-counts-in-Run-clause-read
returns-in_err-counts-in-Run-clause-read g c =
    let v0 = g.R.Register.view c.args.register.now in
    let v1 = g.R.Register.view c.entry.new.self in
    register_broke c.in_err-counts-in-Run.field-0.0 c.from_residual-in_err-counts-in-Run.result v0 v1 (g.R.Register.view c.counts_of_run.new.register) c.from_residual-in_err-counts-in-Run.ensures.1
    (read_one c.in_ok-entry.field-0 v0 v1 c.in_ok-entry.ensures.read) c.in_err-counts-in-Run.ensures.read

pub returns-in_ok-counts-in-Run-clause-read : goal.returns-in_ok-counts-in-Run-clause-read
returns-in_ok-counts-in-Run-clause-read g c =
    let v0 = g.R.Register.view c.args.register.now in
    let v1 = g.R.Register.view c.entry.new.self in
    let v2 = g.R.Register.view c.counts_of_run.new.register in
    row_then c.note_confirmations.result v0 v2 c.note_confirmations.ensures.register
    (read_more c.in_ok-counts-in-Run.counts v0 v1 v2 (read_one c.in_ok-entry.field-0 v0 v1 c.in_ok-entry.ensures.read) c.in_ok-counts-in-Run.ensures.read)

pub returns-in_ok-counts-in-Run-clause-noted : goal.returns-in_ok-counts-in-Run-clause-noted
returns-in_ok-counts-in-Run-clause-noted g c = λ books honest sure are.
    let r = c.in_ok-entry.ensures in
    let told = c.in_ok-counts-in-Run.ensures in
    let v0 = g.R.Register.view c.args.register.now in
    let v1 = g.R.Register.view c.entry.new.self in
    let read = read_one c.in_ok-entry.field-0 v0 v1 r.read in
    let honest1 = told.read.later.honest honest in
    let at = sym (r.value honest1 sure (idle_goes _ c.requires.stage)) ∙ c.in-Some.is ∙ ap Some c.in-Run.is in
    let counts = told.counts books honest (read.ok.sure honest1 sure) (kept_so v0 v1 read (AreTables books) honest1 sure are) in
    let P : List Notice → Type 0 = λ z. OnOk c.note_confirmations.result (c.note_confirmations.new.notices.items ≡ c.args.notices.now.items ++ z) in
    subst P (by_run v0.content books are c.args.number c.in-Run.reference c.in-Run.day c.in-Run.rule at c.in_ok-counts-in-Run.counts.0 counts.0) c.note_confirmations.ensures.noted

pub returns-in_default-entry-clause-noted : goal.returns-in_default-entry-clause-noted
returns-in_default-entry-clause-noted g c = λ books honest sure are.
    let r = c.in_ok-entry.ensures in
    let was = c.args.notices.now.items in
    let at = sym (r.value honest sure (idle_goes _ c.requires.stage)) ∙ c.in-Some.is in
    sym (append-nil was) ∙ ap (λ z. was ++ z) (by_other (g.R.Register.view c.args.register.now).content books are c.args.number c.in-Some.entry at c.in_default-entry.not-Instruct c.in_default-entry.not-Run)

pub returns-in_default-entry-clause-read : goal.returns-in_default-entry-clause-read
returns-in_default-entry-clause-read g c =
    let v0 = g.R.Register.view c.args.register.now in
    let v1 = g.R.Register.view c.entry.new.self in
    read_so v0 v1 (read_one c.in_ok-entry.field-0 v0 v1 c.in_ok-entry.ensures.read) tt
