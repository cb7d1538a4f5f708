use Rattle.std.proofs.Common.{ℕ, sym, ◌∙◌, subst}
use Rattle.desk_rules.specs.Tables.{AreTables}
use Rattle.desk_register.proofs.ReadLemmas.{read_more, read_none, read_one}
use Rattle.desk_journal.specs.declared.sending.Sending.{Sending}
use Rattle.desk_journal.proofs.KnownLemmas.{as_many, entries_known, holds_books, still_held}
use Rattle.desk_journal.proofs.NotingLemmas.{walk_then}
use Rattle.desk_journal.proofs.PieceLemmas.{nothing_told}
use Rattle.desk_journal.proofs.StepLemmas.{walk_broke}
use Rattle.desk_journal.proofs.walk.write_journal.Goals as goal

pub returns-in_err-count-clause-written : goal.returns-in_err-count-clause-written
returns-in_err-count-clause-written g c = λ json books honest sure keeps.
    nothing_told books c.args.from c.in_err-count.field-0.0 c.from_residual.result (g.W.Write.contents c.args.writer.now) c.from_residual.ensures.1

pub returns-in_err-count-clause-read : goal.returns-in_err-count-clause-read
returns-in_err-count-clause-read g c =
    let v0 = g.R.Register.view c.args.register.now in
    walk_broke ℕ c.in_err-count.field-0.0 c.from_residual.result v0 v0 (g.R.Register.view c.known_count.new.register) c.from_residual.ensures.1 (read_none v0) c.in_err-count.ensures.read

pub read_sending-requires-clause-entries : goal.read_sending-requires-clause-entries
read_sending-requires-clause-entries g c =
    let first = c.in_ok-count.ensures in
    entries_known c.in_ok-count.count (g.R.Register.view c.args.register.now) (g.R.Register.view c.known_count.new.register) first.read first.count

pub returns-in_err-sending-clause-written : goal.returns-in_err-sending-clause-written
returns-in_err-sending-clause-written g c = λ json books honest sure keeps.
    nothing_told books c.args.from c.in_err-sending.field-0.0 c.from_residual-in_err-sending.result (g.W.Write.contents c.args.writer.now) c.from_residual-in_err-sending.ensures.1

pub returns-in_err-sending-clause-read : goal.returns-in_err-sending-clause-read
returns-in_err-sending-clause-read g c =
    let v0 = g.R.Register.view c.args.register.now in
    let v1 = g.R.Register.view c.known_count.new.register in
    walk_broke Sending c.in_err-sending.field-0.0 c.from_residual-in_err-sending.result v0 v1 (g.R.Register.view c.read_sending.new.register) c.from_residual-in_err-sending.ensures.1
    (read_one tt v0 v1 c.in_ok-count.ensures.read) c.in_err-sending.ensures.read

pub returns-in-Json-clause-written : goal.returns-in-Json-clause-written
returns-in-Json-clause-written g c = λ json books honest sure keeps.
    let v0 = g.R.Register.view c.args.register.now in
    let first = c.in_ok-count.ensures in
    let second = c.in_ok-sending.ensures in
    let w = c.write_object.ensures in
    let honest2 = w.read.later.honest honest in
    let honest1 = second.read.later.honest honest2 in
    let sure1 = first.read.ok.sure honest1 sure in
    let tables1 = subst (AreTables books) (sym (first.read.same honest1 sure)) keeps.tables in
    let tables2 = subst (AreTables books) (sym (second.read.same honest2 sure1)) tables1 in
    w.written books honest (second.read.ok.sure honest2 sure1) tables2 (second.sending books honest2 sure1 tables1) (first.count honest1 sure ∙ as_many books v0.content keeps.tables)

pub returns-in-Json-clause-read : goal.returns-in-Json-clause-read
returns-in-Json-clause-read g c =
    let v0 = g.R.Register.view c.args.register.now in
    let v1 = g.R.Register.view c.known_count.new.register in
    let v2 = g.R.Register.view c.read_sending.new.register in
    walk_then c.write_object.result v0 v2 (g.R.Register.view c.write_object.new.register) (read_more tt v0 v1 v2 (read_one tt v0 v1 c.in_ok-count.ensures.read) c.in_ok-sending.ensures.read) c.write_object.ensures.read

pub returns-clause-read : goal.returns-clause-read
returns-clause-read g c =
    let v0 = g.R.Register.view c.args.register.now in
    let v1 = g.R.Register.view c.known_count.new.register in
    let v2 = g.R.Register.view c.read_sending.new.register in
    walk_then c.write_rows.result v0 v2 (g.R.Register.view c.write_rows.new.register) (read_more tt v0 v1 v2 (read_one tt v0 v1 c.in_ok-count.ensures.read) c.in_ok-sending.ensures.read) c.write_rows.ensures.read

pub read_sending-requires-clause-known : goal.read_sending-requires-clause-known
read_sending-requires-clause-known g c = λ honest sure.
    let v0 = g.R.Register.view c.args.register.now in
    let v1 = g.R.Register.view c.known_count.new.register in
    let first = c.in_ok-count.ensures in
    still_held tt v0 v1 first.read (λ honest0 sure0. holds_books v0 c.in_ok-count.count c.requires.ready honest0 (first.count honest sure0) first.most) honest sure

pub write_object-requires-clause-known : goal.write_object-requires-clause-known
write_object-requires-clause-known g c = λ honest sure.
    let v0 = g.R.Register.view c.args.register.now in
    let v1 = g.R.Register.view c.known_count.new.register in
    let v2 = g.R.Register.view c.read_sending.new.register in
    let first = c.in_ok-count.ensures in
    let second = c.in_ok-sending.ensures in
    let honest1 = second.read.later.honest honest in
    still_held tt v1 v2 second.read
    (still_held tt v0 v1 first.read (λ honest0 sure0. holds_books v0 c.in_ok-count.count c.requires.ready honest0 (first.count honest1 sure0) first.most)) honest sure

pub write_rows-requires-clause-known : goal.write_rows-requires-clause-known
write_rows-requires-clause-known g c = λ honest sure.
    let v0 = g.R.Register.view c.args.register.now in
    let v1 = g.R.Register.view c.known_count.new.register in
    let v2 = g.R.Register.view c.read_sending.new.register in
    let first = c.in_ok-count.ensures in
    let second = c.in_ok-sending.ensures in
    let honest1 = second.read.later.honest honest in
    still_held tt v1 v2 second.read
    (still_held tt v0 v1 first.read (λ honest0 sure0. holds_books v0 c.in_ok-count.count c.requires.ready honest0 (first.count honest1 sure0) first.most)) honest sure
