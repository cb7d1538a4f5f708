use Rattle.std.proofs.Common.{◌≡◌, true, List, sym, ◌∙◌, refl, subst}
use Rattle.desk_rules.specs.declared.history.entry.Entry.{Entry}
use Rattle.desk_rules.specs.Facts.{is_participant}
use Rattle.desk_register.proofs.ViewLemmas.{idle_goes}
use Rattle.desk_register.specs.View.{HasRead}
use Rattle.desk_register.proofs.ReadLemmas.{read_one}
use Rattle.desk_book.specs.RowByRow.{told_of_walk}
use Rattle.desk_book.specs.Statement.{TellsHoldings, TellsOwner}
use Rattle.desk_book.specs.WrittenTo.{Writes}
use Rattle.desk_book.proofs.TellingLemmas.{known_before, nothing_written, walk_then, writes_as}
use Rattle.desk_book.proofs.answers.statement.write_holdings.Goals as goal

pub returns-in_err-is_participant-clause-written : goal.returns-in_err-is_participant-clause-written
returns-in_err-is_participant-clause-written g c = λ books honest sure keeps.
    nothing_written (TellsHoldings books c.args.owner c.args.account) c.in_err-is_participant.field-0.0 c.from_residual.result (g.W.Write.contents c.args.writer.now) c.from_residual.ensures.1

pub returns-clause-written : goal.returns-clause-written
returns-clause-written g c = λ books honest sure keeps.
    let v0 = g.R.Register.view c.args.register.now in
    let v1 = g.R.Register.view c.participant.new.self in
    let v2 = g.R.Register.view c.write_own_holdings.new.register in
    let first = c.in_ok-is_participant.ensures in
    let w = c.write_own_holdings.ensures in
    let a = g.W.Write.contents c.args.writer.now in
    let b = g.W.Write.contents c.write_own_holdings.new.writer in
    let honest1 = w.read.later.honest honest in
    let P : List Entry → Type 0 = λ h. is_participant h c.args.owner ≡ true in
    let known = subst P keeps.tables.history (sym (first.value honest1 sure (idle_goes _ (c.requires.ready.stage refl))) ∙ c.if-not-is_participant.false) in
    let read : HasRead v0 v1 = read_one c.in_ok-is_participant.is_participant v0 v1 first.read in
    let told = told_of_walk c.write_own_holdings.result in
    writes_as (TellsOwner books c.args.owner c.args.account) (TellsHoldings books c.args.owner c.args.account) told a b (λ reply owned. rw known owned)
    (known_before v0 v1 v2 books (Writes (TellsOwner books c.args.owner c.args.account) told a b) read w.read.later (w.written books) honest sure keeps)

pub returns-clause-read : goal.returns-clause-read
returns-clause-read g c =
    let v0 = g.R.Register.view c.args.register.now in
    let v1 = g.R.Register.view c.participant.new.self in
    let v2 = g.R.Register.view c.write_own_holdings.new.register in
    walk_then c.write_own_holdings.result v0 v1 v2 (read_one c.in_ok-is_participant.is_participant v0 v1 c.in_ok-is_participant.ensures.read) c.write_own_holdings.ensures.read
