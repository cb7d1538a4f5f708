use Rattle.std.proofs.Common.{◌≡◌, true, false, List, Some, sym, ◌∙◌, refl, subst}
use Rattle.desk_rules.specs.declared.history.entry.Entry.{Entry}
use Rattle.desk_rules.specs.Facts.{is_owner, owner_of}
use Rattle.desk_rules.specs.Questions.{refused_question}
use Rattle.desk_rules.specs.Refusals.{number_of_refusal}
use Rattle.desk_rules.specs.declared.answers.verdict.Refusal.TheVariants.{AccountNotSenders}
use Rattle.desk_register.specs.View.{HasRead}
use Rattle.desk_register.proofs.ReadLemmas.{read_one}
use Rattle.desk_book.specs.RowByRow.{told_of_walk}
use Rattle.desk_book.specs.Statement.{IsStatement, TellsOwner}
use Rattle.desk_book.specs.WrittenTo.{Writes}
use Rattle.desk_book.proofs.TellingLemmas.{known_before, nothing_written, walk_then, writes_as}
use Rattle.desk_book.proofs.answers.statement.write_own_holdings.Goals as goal

pub returns-in_err-is_own-clause-written : goal.returns-in_err-is_own-clause-written
returns-in_err-is_own-clause-written g c = λ books honest sure keeps.
    nothing_written (TellsOwner books c.args.owner c.args.account) c.in_err-is_own.field-0.0 c.from_residual.result (g.W.Write.contents c.args.writer.now) c.from_residual.ensures.1

pub returns-then-not-is_own-clause-written : goal.returns-then-not-is_own-clause-written
returns-then-not-is_own-clause-written g c = λ books honest sure keeps.
    let account = c.in-Some.account in
    let P : List Entry → Type 0 = λ h. is_owner c.args.owner (owner_of h account) ≡ false in
    let known = subst P keeps.tables.history (sym (c.in_ok-is_own.ensures.own honest sure) ∙ c.if-not-is_own.true) in
    let number = c.number-then-not-is_own.result in
    let told = told_of_walk c.write_refusal-then-not-is_own.result in
    let b = g.W.Write.contents c.write_refusal-then-not-is_own.new.writer in
    rw c.in-Some.is
    (writes_as (λ reply. reply ≡ refused_question number) (TellsOwner books c.args.owner (Some account)) told (g.W.Write.contents c.args.writer.now) b
    (λ reply is. rw known (let refused : reply ≡ refused_question (number_of_refusal AccountNotSenders) = subst (λ n. reply ≡ refused_question n) c.number-then-not-is_own.ensures.number is in refused)) c.write_refusal-then-not-is_own.ensures.written)

pub returns-clause-written : goal.returns-clause-written
returns-clause-written g c = λ books honest sure keeps.
    let v0 = g.R.Register.view c.args.register.now in
    let v1 = g.R.Register.view c.is_own.new.register in
    let v2 = g.R.Register.view c.write_account.new.register in
    let first = c.in_ok-is_own.ensures in
    let w = c.write_account.ensures in
    let a = g.W.Write.contents c.args.writer.now in
    let b = g.W.Write.contents c.write_account.new.writer in
    let account = c.in-Some.account in
    let honest1 = w.read.later.honest honest in
    let P : List Entry → Type 0 = λ h. is_owner c.args.owner (owner_of h account) ≡ true in
    let known = subst P keeps.tables.history (sym (first.own honest1 sure) ∙ c.if-not-is_own.false) in
    let read : HasRead v0 v1 = read_one c.in_ok-is_own.is_own v0 v1 first.read in
    let told = told_of_walk c.write_account.result in
    rw c.in-Some.is
    (writes_as (IsStatement books account) (TellsOwner books c.args.owner (Some account)) told a b (λ reply is. rw known is)
    (known_before v0 v1 v2 books (Writes (IsStatement books account) told a b) read w.read.later (w.written books) honest sure keeps))

pub returns-clause-read : goal.returns-clause-read
returns-clause-read g c =
    let v0 = g.R.Register.view c.args.register.now in
    let v1 = g.R.Register.view c.is_own.new.register in
    let v2 = g.R.Register.view c.write_account.new.register in
    walk_then c.write_account.result v0 v1 v2 (read_one c.in_ok-is_own.is_own v0 v1 c.in_ok-is_own.ensures.read) c.write_account.ensures.read
