-- The currencies between the first part and the middle one, and the securities between that and the last one.
use Rattle.std.proofs.Common.{Err}
use Rattle.desk_register.specs.View.{HasRead}
use Rattle.desk_register.proofs.ReadingLemmas.{read_on, read_so}
use Rattle.desk_book.specs.RowByRow.{IsSecuritiesText, WritesText, WritesWhole}
use Rattle.desk_register.proofs.ReadLemmas.{read_none}
use Rattle.desk_book.proofs.ReadEnds.{sink_after, walk_after}
use Rattle.desk_book.proofs.SummingLemmas.{broke_in_cash, broke_in_securities, sums_whole}
use Rattle.desk_book.proofs.TellingLemmas.{known_of}
use Rattle.desk_book.proofs.answers.summing.write_sums.Goals as goal

pub returns-in_err-write_currencies-clause-written : goal.returns-in_err-write_currencies-clause-written
returns-in_err-write_currencies-clause-written g c = λ books honest sure keeps.
    let v0 = g.R.Register.view c.args.register.now in
    let w = c.in_err-write_currencies.ensures in
    broke_in_cash v0.room books v0.content keeps c.in_err-write_currencies.field-0.0 c.from_residual-in_err-write_currencies.result (g.W.Write.contents c.args.writer.now) (g.W.Write.contents c.write_text.new.writer)
    (g.W.Write.contents c.write_currencies.new.writer) c.from_residual-in_err-write_currencies.ensures.1 c.in_ok-write_text.ensures.written (w.written books honest sure keeps)

pub returns-in_err-write_securities-clause-written : goal.returns-in_err-write_securities-clause-written
returns-in_err-write_securities-clause-written g c = λ books honest sure keeps.
    let v0 = g.R.Register.view c.args.register.now in
    let v1 = g.R.Register.view c.write_currencies.new.register in
    let v2 = g.R.Register.view c.write_securities.new.register in
    let cash = c.in_ok-write_currencies.ensures in
    let w = c.in_err-write_securities.ensures in
    let read : HasRead v0 v1 = read_on v0 v0 (read_none v0) tt v1 cash.read in
    let d = g.W.Write.contents c.write_text-2.new.writer in
    let e = g.W.Write.contents c.write_securities.new.writer in
    broke_in_securities v0.room books v0.content keeps c.in_err-write_securities.field-0.0 c.from_residual-in_err-write_securities.result (g.W.Write.contents c.args.writer.now) (g.W.Write.contents c.write_text.new.writer)
    (g.W.Write.contents c.write_currencies.new.writer) d e c.from_residual-in_err-write_securities.ensures.1 c.in_ok-write_text.ensures.written (cash.written books (w.read.later.honest honest) sure keeps)
    c.in_ok-write_text-2.ensures.written
    (known_of v0 v1 v2 books (λ z. WritesText {X = Unit {0}} (IsSecuritiesText z) (Err c.in_err-write_securities.field-0.0) d e) read w.read.later (w.written books) honest sure keeps)

pub returns-clause-written : goal.returns-clause-written
returns-clause-written g c = λ books honest sure keeps.
    let v0 = g.R.Register.view c.args.register.now in
    let v1 = g.R.Register.view c.write_currencies.new.register in
    let v2 = g.R.Register.view c.write_securities.new.register in
    let cash = c.in_ok-write_currencies.ensures in
    let w = c.in_ok-write_securities.ensures in
    let read : HasRead v0 v1 = read_on v0 v0 (read_none v0) tt v1 cash.read in
    let d = g.W.Write.contents c.write_text-2.new.writer in
    let e = g.W.Write.contents c.write_securities.new.writer in
    sums_whole v0.room books v0.content keeps (g.W.Write.contents c.args.writer.now) (g.W.Write.contents c.write_text.new.writer) (g.W.Write.contents c.write_currencies.new.writer) d e
    (g.W.Write.contents c.write_text-3.new.writer) c.in_ok-write_text.ensures.written (cash.written books (w.read.later.honest honest) sure keeps) c.in_ok-write_text-2.ensures.written
    (known_of v0 v1 v2 books (λ z. WritesWhole (IsSecuritiesText z) d e) read w.read.later (w.written books) honest sure keeps) c.in_ok-write_text-3.ensures.written

pub returns-in_err-write_text-clause-read : goal.returns-in_err-write_text-clause-read
returns-in_err-write_text-clause-read g c =
    let v0 = g.R.Register.view c.args.register.now in
    sink_after c.in_err-write_text.field-0.0 c.from_residual.result v0 v0 c.from_residual.ensures.1 c.in_err-write_text.ensures.fault (read_none v0)

pub returns-in_err-write_currencies-clause-read : goal.returns-in_err-write_currencies-clause-read
returns-in_err-write_currencies-clause-read g c =
    let v0 = g.R.Register.view c.args.register.now in
    let v1 = g.R.Register.view c.write_currencies.new.register in
    walk_after (Unit {0}) c.in_err-write_currencies.field-0.0 c.from_residual-in_err-write_currencies.result v0 v0 v1 c.from_residual-in_err-write_currencies.ensures.1 (read_none v0) c.in_err-write_currencies.ensures.read

pub returns-in_err-write_text-2-clause-read : goal.returns-in_err-write_text-2-clause-read
returns-in_err-write_text-2-clause-read g c =
    let v0 = g.R.Register.view c.args.register.now in
    let v1 = g.R.Register.view c.write_currencies.new.register in
    let cash : HasRead v0 v1 = read_on v0 v0 (read_none v0) tt v1 c.in_ok-write_currencies.ensures.read in
    sink_after c.in_err-write_text-2.field-0.0 c.from_residual-in_err-write_text-2.result v0 v1 c.from_residual-in_err-write_text-2.ensures.1 c.in_err-write_text-2.ensures.fault cash

pub returns-in_err-write_securities-clause-read : goal.returns-in_err-write_securities-clause-read
returns-in_err-write_securities-clause-read g c =
    let v0 = g.R.Register.view c.args.register.now in
    let v1 = g.R.Register.view c.write_currencies.new.register in
    let v2 = g.R.Register.view c.write_securities.new.register in
    let cash : HasRead v0 v1 = read_on v0 v0 (read_none v0) tt v1 c.in_ok-write_currencies.ensures.read in
    walk_after (Unit {0}) c.in_err-write_securities.field-0.0 c.from_residual-in_err-write_securities.result v0 v1 v2 c.from_residual-in_err-write_securities.ensures.1 cash c.in_err-write_securities.ensures.read

pub returns-in_err-write_text-3-clause-read : goal.returns-in_err-write_text-3-clause-read
returns-in_err-write_text-3-clause-read g c =
    let v0 = g.R.Register.view c.args.register.now in
    let v1 = g.R.Register.view c.write_currencies.new.register in
    let v2 = g.R.Register.view c.write_securities.new.register in
    let cash : HasRead v0 v1 = read_on v0 v0 (read_none v0) tt v1 c.in_ok-write_currencies.ensures.read in
    let all : HasRead v0 v2 = read_on v0 v1 cash tt v2 c.in_ok-write_securities.ensures.read in
    sink_after c.in_err-write_text-3.field-0.0 c.from_residual-in_err-write_text-3.result v0 v2 c.from_residual-in_err-write_text-3.ensures.1 c.in_err-write_text-3.ensures.fault all

pub returns-clause-read : goal.returns-clause-read
returns-clause-read g c =
    let v0 = g.R.Register.view c.args.register.now in
    let v1 = g.R.Register.view c.write_currencies.new.register in
    let v2 = g.R.Register.view c.write_securities.new.register in
    let cash : HasRead v0 v1 = read_on v0 v0 (read_none v0) tt v1 c.in_ok-write_currencies.ensures.read in
    let all : HasRead v0 v2 = read_on v0 v1 cash tt v2 c.in_ok-write_securities.ensures.read in
    read_so v0 v2 all _
